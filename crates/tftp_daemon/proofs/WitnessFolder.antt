-- A store over a folder that gives a file of one byte and stores another, by calls of its disk: `WitnessServers` uses it.
use denote.RawPtr.{null_ptr}
use Rattle.std.proofs.Common.{◌≡◌, refl, ℕ, [], ◌∷◌, ◌++◌, Some, None, Ok, true, false, arith, inl, inr, List, length, ap, sym, zero, suc}
use Rattle.std.proofs.lemmas.Bool.{true≢false}
use Rattle.tftp_file.proofs.PathLemmas.{path_from_name}
use Rattle.std.specs.Prelude.{◌≢◌, ◌<◌, pos, codes, get_or, IsUtf8}
use Rattle.std.specs.Fmt.{decimal}
use Rattle.std.proofs.lemmas.Fmt.{IsAscii-decimal, length-decimal-le}
use Rattle.std.proofs.lemmas.Str.{IsUtf8-append, IsUtf8-from_ascii}
use Rattle.std.specs.declared.alloc.Global.{Global}
use Rattle.std.specs.declared.string.String.{String}
use Rattle.tftp_wire.specs.declared.mode.Mode.TheVariants.{Octet, Netascii}
use Rattle.tftp_disk.specs.DiskTrace.{made_at, modes_asked, state_of, sync_failed}
use Rattle.tftp_disk.specs.DiskWriter.{calls_of}
use Rattle.tftp_disk.specs.DiskTrace.DiskEvent.{Looked, Opened, Examined, Given, Followed, Resolved, Created, Written}
use Rattle.tftp_disk.specs.DiskTrace.DiskEvent.{Synced, Made, Removed, Linked, Folder_opened, Folder_synced}
use Rattle.tftp_disk.specs.declared.found.Found.{Found}
use Rattle.tftp_disk.specs.declared.found.Kind.TheVariants.{Regular, Folder}
use Rattle.tftp_disk.specs.declared.disk_file.DiskFolder.{DiskFolder}
use Rattle.tftp_disk.specs.Folder.{HasNoSlash, IsFolderOf}
use Rattle.tftp_disk.specs.Folder.IsFolderOf.{Before}
use Rattle.tftp_folder.specs.Begin.{draft_name}
use Rattle.tftp_folder.specs.Begin.TriesDraft.{Nothing}
use Rattle.tftp_folder.specs.Commit.{lock_of}
use Rattle.tftp_folder.specs.Effects.{HasAppended, HasBegun, HasCommitted}
use Rattle.tftp_folder.specs.Opened.AreFolders.{Above}
use Rattle.tftp_folder.specs.Modes.{are_permissions}
use Rattle.tftp_folder.specs.Placed.{LeavesOthers}
use Rattle.tftp_folder.specs.Reached.IsReached.{Opens, Walked}
use Rattle.tftp_folder.specs.Opened.{IsRootOf}
use Rattle.tftp_folder.specs.Inside.{StaysInside}
use Rattle.tftp_folder.specs.Source.{OpensSource}
use Rattle.tftp_disk.specs.DiskSource.{GivesPiece}
use Rattle.std.specs.String.{string_bytes}
use Rattle.tftp_arguments.proofs.WitnessTexts.{text, vec}
use Rattle.tftp_daemon.specs.Witness.{Calls, Draft, Source, Store, its_calls, read_name, root, write_name}

-- ---- texts
abbrev pub path : List ℕ
path = root ++ 47 ∷ read_name

abbrev pub target : List ℕ
target = root ++ 47 ∷ write_name

abbrev pub draft_path : List ℕ
draft_path = draft_name root 1024

pub valid_root : IsUtf8 root
unfolding lib.Utf8.encode
valid_root = (root, (refl, refl))

pub valid_target : IsUtf8 target
unfolding lib.Utf8.encode
valid_target = (target, (refl, refl))

pub valid_front : IsUtf8 (root ++ codes "/.tftp-")
unfolding lib.Utf8.encode
valid_front = (root ++ codes "/.tftp-", (refl, refl))

pub valid_draft : IsUtf8 draft_path
valid_draft =
    IsUtf8-append (root ++ codes "/.tftp-") (decimal 1024) valid_front
    (IsUtf8-from_ascii (decimal 1024) (IsAscii-decimal 1024 (omega arith)))

pub short_draft : length draft_path < 1000
short_draft = let most = length-decimal-le 4 1024 (omega arith) (omega arith) (omega arith) in omega (arith, most)

pub no_slash : (byte : ℕ) → byte ≢ 47 → HasNoSlash (byte ∷ [])
no_slash byte other zero within = other
no_slash byte other (suc i) within = absurd (omega (arith, within))

pub folder_of_path : IsFolderOf path root
folder_of_path = Before root read_name refl (no_slash 97 (λ e. absurd (omega (arith, e))))

pub folder_of_target : IsFolderOf target root
folder_of_target = Before root write_name refl (no_slash 98 (λ e. absurd (omega (arith, e))))

-- ---- what is found
abbrev pub folder : Found
folder = record {
  kind = Folder;
  id = record { device = 1; inode = 2 };
  bytes = 4096;
  mode = 16877;
  changed = pos 0;
  changed_nanos = pos 0;
}

abbrev pub file : Found
file = record {
  kind = Regular;
  id = record { device = 1; inode = 3 };
  bytes = 1;
  mode = 33188;
  changed = pos 0;
  changed_nanos = pos 0;
}

-- ---- the store
abbrev pub store_after : Calls → Store
store_after calls = record {
  disk = calls ++ Followed root (Ok folder) ∷ Resolved root (Ok root) ∷ [];
  folder = record {
    root = text root (omega arith) valid_root;
    drafts = text root (omega arith) valid_root;
    reason = record { reason = record { ptr = null_ptr; value = record { value = tt } } };
  };
  is_read_only = false;
  uploads = None;
  port = 1024;
  lengths = record { measured = tt; most = 65536; longest = 10 };
  unsynced = record { value = tt };
  may_sync = record { value = tt };
}

abbrev pub store : Store
store = store_after []

-- ---- the file that is read
abbrev pub source_after : Calls → ℕ → Source
source_after calls size = record {
  text = record {
    file = record { file = tt; trace = record { events = calls ++ Examined (Ok file) ∷ Opened path (Ok tt) ∷ [] } };
    buffer = [];
    ahead = [];
    mode = Octet;
    size = size;
    error = None;
  };
  found = Looked path (Ok file) ∷ Opened path (Ok tt) ∷ Looked path (Ok file) ∷ [];
  stated = record { marker = record {}; value = record { bytes = 1; counted = None } };
  left = None;
  reason = record { reason = record { ptr = null_ptr; value = record { value = tt } } };
}

abbrev pub opened : Source
opened = source_after [] 0

abbrev pub read : Source
read = source_after (Given [] ∷ Given (65 ∷ []) ∷ []) 512

pub its_root : IsRootOf root (string_bytes store.folder.root) [] store.disk
its_root = record { text = root; found = folder; looked = refl; is_folder = refl; whole = inl refl }

pub stays_inside : StaysInside root [] store.disk
stays_inside h = (inl refl, (inr (root, refl, inl refl), tt))

pub opens : OpensSource its_calls root read_name Octet 1 opened
opens = record {
  opened = file;
  opens = record {
    at = path;
    seen = file;
    before = [];
    place = inl refl;
    regular = refl;
    opens = record {
      same = refl;
      still = record {
        folder = root;
        is_folder = folder_of_path;
        looked = Opened path (Ok tt) ∷ Looked path (Ok file) ∷ [];
        folders = Above (omega arith);
        again = file;
        newest = refl;
        same = refl;
      };
    };
    file_at = refl;
    file_is = refl;
  };
  start = refl;
  unread = record { has_mode = refl; sound = refl; empty = refl };
  longest = 10;
  states = record {
    octet = λ m. refl;
    long = λ m. absurd (let f : Octet ≡ Netascii = m in cc);
    netascii = λ m. absurd (let f : Octet ≡ Netascii = m in cc);
  };
  looks = refl;
  inside = (inr (read_name, refl), (inr (read_name, refl), (inr (read_name, refl), tt)));
}

pub gave : GivesPiece opened.text (65 ∷ []) read.text
gave = record {
  mode = refl;
  bytes = 65 ∷ [];
  reads = record { place = refl; found = refl; pass = refl; more = refl };
  text = λ e. (refl, refl);
  none = λ some. absurd (true≢false (sym some));
}

-- ---- the file that is written
abbrev pub draft_text : String Global
draft_text = text draft_path short_draft valid_draft

abbrev pub target_text : String Global
target_text = text target (omega arith) valid_target

abbrev pub draft_of : (calls : Calls) (buffered : List ℕ) → length buffered < 1000 → made_at calls ≡ Some draft_path →
    sync_failed calls ≡ false → modes_asked calls ≡ [] → Draft
draft_of calls buffered short place sound modes = record {
  writer = record { file = record { file = tt; trace = record { events = calls } }; buffer = vec buffered short };
  port = 1024;
  draft = draft_text;
  target = target_text;
  folder = record { device = 1; inode = 2 };
  unsynced = 0;
  failure = None;
  placed = place;
  sound = λ none. sound;
  modes = ap are_permissions modes;
}

abbrev pub made : Calls
made = Made draft_path (Ok tt) ∷ []

abbrev pub begun : Store
begun = store_after made

abbrev pub draft : Draft
draft = draft_of (Created draft_path 2 ∷ []) [] (omega arith) refl refl refl

abbrev pub filled : Draft
filled = draft_of (Created draft_path 2 ∷ []) (66 ∷ []) (omega arith) refl refl refl

abbrev pub whole : Draft
whole = draft_of (Synced (Ok tt) ∷ Written (66 ∷ []) ∷ Created draft_path 2 ∷ []) [] (omega arith) refl refl refl

abbrev pub its_folder : DiskFolder (Unit {0})
its_folder = record { file = tt; trace = record { events = Folder_opened root (Ok tt) ∷ [] } }

abbrev pub named : Calls
named = Linked (state_of (calls_of whole.writer)) draft_path target (Ok tt) ∷ Folder_opened root (Ok tt) ∷ made

abbrev pub synced : Calls
synced = Folder_synced (Some root) (Ok tt) ∷ named

abbrev pub ended : Store
ended = store_after (Removed draft_path (Ok tt) ∷ synced)

-- what was still at another path is there
pub others : LeavesOthers root 1024 store.disk begun.disk
others own when none still = record {
  since = made ++ still.since;
  before = still.before;
  made = ap (λ (log : Calls). made ++ log) still.made;
  when = still.when;
  left = (λ same. none (inl same), still.left);
}

pub apart : draft_path ≢ lock_of target
apart e = let at = ap (λ (bytes : List ℕ). get_or bytes 5 0) e in absurd (omega (arith, at))

pub begins : HasBegun its_calls write_name store begun (Ok draft)
begins = record {
  settings = record { read_only = refl; uploads = refl; root = refl; drafts = refl };
  read_only = λ e. absurd (let f : false ≡ true = e in cc);
  untouched = λ e. absurd (let f : false ≡ true = e in cc);
  is_path = (path_from_name write_name write_name refl).0;
  uploads = tt;
  made = record {
    aim = refl;
    empty = refl;
    made = record { own = inl refl; cleared = []; tries = Nothing; made = refl };
  };
  not_made = tt;
  there = record {
    apart = apart;
    still = record { since = []; before = store.disk; made = refl; when = refl; left = tt };
  };
  others = others;
  reaches = record { newer = begun.disk ∷ []; are = refl; reached = (tt, tt) };
  follows = refl;
  inside = λ own h. (inr (codes ".tftp-" ++ decimal 1024, refl), h);
}

pub appends : HasAppended its_calls begun draft (66 ∷ []) begun filled None
appends = record {
  store = record {
    settings = record { read_only = refl; uploads = refl; root = refl; drafts = refl };
    calls = refl;
  };
  names = record { draft = refl; target = refl; folder = refl; port = refl; making = refl };
  handed = refl;
  kept = tt;
}

pub commits : HasCommitted its_calls begun filled false ended whole None
commits = record {
  settings = record { read_only = refl; uploads = refl; root = refl; drafts = refl };
  names = record { draft = refl; target = refl; folder = refl; port = refl; making = refl };
  whole = record { place = refl; whole = refl; done = record { synced = refl; sound = refl } };
  named = (
    Some its_folder,
    Folder_opened root (Ok tt) ∷ made,
    (root, folder_of_target, refl, refl),
    (named, synced, inl refl, (Ok tt, tt, refl), (Ok tt, refl)),
  );
  not_named = tt;
  over = inl refl;
  there = λ there names. (
    record {
      since = Folder_opened root (Ok tt) ∷ [];
      before = store.disk;
      made = refl;
      when = refl;
      left = (tt, tt);
    },
    names,
  );
  reaches = record {
    newer = ended.disk ∷ (named ++ store.disk) ∷ [];
    are = refl;
    reached = (
      tt,
      (Opens (Ok tt) folder_of_target (Walked {before = begun.disk} folder_of_target (Above (omega arith))), tt),
    );
  };
  follows = refl;
  inside = λ below h. (
    inr below.path,
    (inl refl, ((inr below.path, inr below.target), (inl refl, h))),
  );
}
