-- A get and a put that are complete: the law `some_transfers_are_complete` has them.
use Rattle.tftp_client.proofs.Common.{rules, ◌≡◌, refl, ℕ, [], ◌∷◌, ◌++◌, Some, None, Ok, true, false, arith, inl, inr}
use Rattle.tftp_client.proofs.Common.{List, length, ap, sym, ◌*◌, true≢false, Octet, Ack, Data, Asked, Write, Files}
use Rattle.tftp_client.proofs.Common.{Sink, Source, Endpoint, EndState, Complete, DatagramStep, Done, Turn, after_turn}
use Rattle.tftp_client.proofs.Common.{committed_turn, data_bytes, response_turn, default_terms, Made, Removed, Linked}
use Rattle.tftp_client.proofs.Common.{Folder_synced, calls_of, Refused, Found, Watch, IsStillAt, WasNamed, Written, Job}
use Rattle.tftp_client.proofs.Common.{Converses, IsOpen, State, Begins, Receives, Answers, SocketEvent, begun, printed}
use Rattle.std.specs.Prelude.{◌<◌, ◌^◌, pos, codes, IsUtf8}
use Rattle.tftp_arguments.specs.Read.{IsFlag}
use Rattle.std.proofs.lemmas.Bool.{ltb-true}
use Rattle.std.specs.declared.alloc.Global.{Global}
use Rattle.std.specs.declared.string.String.{String}
use Rattle.clap.proofs.OnLiterals.{clap_on_literals}
use Rattle.tftp_wire.specs.Spelling.{Spells}
use Rattle.tftp_negotiate.specs.declared.known.Kind.TheVariants.{Read}
use Rattle.tftp_ends.specs.declared.backoff.Backoff.TheVariants.{Constant}
use Rattle.tftp_ends.specs.Opening.{MayGet, MayPut, getting, putting}
use Rattle.tftp_ends.specs.Step.{ack_bytes, filled_turn}
use Rattle.tftp_ends.specs.Step.{reported}
use Rattle.tftp_file.specs.declared.length.TheConstants.{MAX_WIRE}
use Rattle.std.specs.List.{AllByRecursion}
use Rattle.tftp_disk.specs.DiskTrace.{modes_asked, state_of, sync_failed}
use Rattle.tftp_disk.specs.DiskTrace.DiskEvent.{Written as Written_bytes, Created, Examined, Given, Opened, Synced}
use Rattle.tftp_disk.specs.DiskTrace.DiskEvent.{Folder_opened}
use Rattle.tftp_disk.specs.Folder.IsFolderOf.{Here}
use Rattle.tftp_disk.specs.Folder.{HasNoSlash}
use Rattle.tftp_disk.specs.declared.found.Kind.TheVariants.{Regular}
use Rattle.tftp_client.specs.Fetched.{ArePermissions}
use Rattle.tftp_client.specs.Written.{paths_for}
use Rattle.tftp_client.specs.declared.local_names.LocalNames.{LocalNames}
use Rattle.tftp_client.specs.declared.transfer.conversation.Progress.TheVariants.{Hidden}
use Rattle.tftp_client.specs.Converses.{received, turned, renewed}
use Rattle.tftp_client.specs.OnDisk.{StoresWords}
use Rattle.tftp_client.specs.Sent.{SendsWords}
use Rattle.tftp_lines.specs.ClientOutcome.{end_text}
use Rattle.tftp_lines.specs.declared.client_outcome.ClientOutcome.TheVariants as ends
use Rattle.tftp_arguments.proofs.WitnessTexts.{text, vec}
use Rattle.tftp_sockets.proofs.WitnessAddress.{its_name, server}
use Rattle.tftp_client.specs.Words.{WordsName}
use Rattle.tftp_client.specs.Witness.{Calls, Local, LocalSource, SomeAreSent, SomeAreStored, get_words}
use Rattle.tftp_client.specs.Witness.{local_sink, local_source, put_words}

abbrev pub name : List ℕ
name = codes "L"

abbrev pub part : List ℕ
part = codes "L.part"

pub valid_name : IsUtf8 name
unfolding lib.Utf8.encode
valid_name = (name, (refl, refl))

pub valid_part : IsUtf8 part
unfolding lib.Utf8.encode
valid_part = (part, (refl, refl))

pub no_slash : HasNoSlash name
no_slash = search rules

abbrev pub answers_from : Endpoint
answers_from = record { ip = 1 ∷ 2 ∷ 3 ∷ 4 ∷ []; port = 1024 }

abbrev pub no_options : Asked
no_options = record { blksize = None; timeout = None; tsize = None }

abbrev pub get_job : Job
get_job = record {
  kind = Read;
  server = server;
  name = record { ref_ptr = (0, 0); now = codes "a" };
  local = record { ref_ptr = (0, 0); now = name };
  existing = Refused;
  mode = Octet;
  asked = no_options;
  retries = 5;
  backoff = Constant;
  falls_back = false;
  progress = Hidden;
  dallies = false;
}

pub unset : IsFlag (Some (codes "false")) false
unset = search rules

pub set : IsFlag (Some (codes "true")) true
set = grind arith

pub left_out : IsFlag None false
left_out = search rules

pub get_named : WordsName get_words get_job
unfolding clap_on_literals
get_named = record {
  kind_is = refl;
  name = refl;
  local = refl;
  server = (codes "1.2.3.4:69", refl, its_name, λ e. absurd (omega (arith, e)));
  existing = (false, unset, refl);
  mode = (false, unset, refl);
  dallies = (true, set, refl);
  asked = record { blksize = refl; timeout = refl; tsize = (false, unset, refl) };
  retries = refl;
  backoff = (false, unset, refl);
  falls_back = unset;
}

abbrev pub put_job : Job
put_job = record get_job { kind = Write; name = record { ref_ptr = (0, 0); now = codes "b" }; dallies = true }

pub put_named : WordsName put_words put_job
unfolding clap_on_literals
put_named = record {
  kind_is = refl;
  name = refl;
  local = refl;
  server = (codes "1.2.3.4:69", refl, its_name, λ e. absurd (omega (arith, e)));
  existing = (false, left_out, refl);
  mode = (false, unset, refl);
  dallies = (false, left_out, refl);
  asked = record { blksize = refl; timeout = refl; tsize = (false, unset, refl) };
  retries = refl;
  backoff = (false, unset, refl);
  falls_back = unset;
}

-- ---- the file
abbrev pub opened : Calls
opened = Folder_opened (codes ".") (Ok tt) ∷ []

abbrev pub local_text : String Global
local_text = text name (omega arith) valid_name

abbrev pub part_text : String Global
part_text = text part (omega arith) valid_part

-- they have other lengths
pub apart : part ≡ name → ⊥
apart same = absurd (omega (arith, ap length same))

abbrev pub the_names : LocalNames
the_names = record { local = local_text; part = part_text; apart = apart }

abbrev pub new_local : Local
new_local = record {
  part = record {
    disk = opened;
    alloc = record { memory = record { seal = tt } };
    names = the_names;
    existing = Refused;
    folder = record { folder = Some (record { file = tt; trace = record { events = opened } }) };
    written = None;
    is_tried = false;
    placed = refl;
    folder_fits = ∣ (codes ".", Here no_slash, refl) ∣₁;
    still = λ e. ∣ tt ∣₁;
  };
  count = 0;
  committed = false;
  error = None;
  counts = refl;
  named = λ e. absurd (true≢false (sym e));
  left = λ e. ∣ tt ∣₁;
}

-- ---- the run
abbrev pub at_first : EndState
at_first = getting server (codes "a") Octet no_options MAX_WIRE 5

abbrev pub done : Done
done = tt

abbrev pub stores : Turn
stores = committed_turn (default_terms answers_from) 1 answers_from at_first (Ok done)

abbrev pub s0 : State
s0 = begun Constant 5000 0 at_first []

abbrev pub at_10 : Watch
at_10 = record { now = 10; reading = 10 }

abbrev pub at_20 : Watch
at_20 = record { now = 20; reading = 20 }

abbrev pub s1 : State
s1 = turned 5000 stores (received 5000 answers_from (data_bytes 1 (65 ∷ [])) at_10 s0)

abbrev pub s2 : State
s2 = renewed true at_10 s1

pub may_get : MayGet (codes "a") Octet no_options
may_get = record { valid = search rules; options = search rules }

pub block_spelled : (byte : ℕ) → Spells (Data 1 (byte ∷ [])) (data_bytes 1 (byte ∷ []))
block_spelled byte =
    record { valid = (λ e. omega (arith, e), omega arith, omega arith); word = []; mode = refl; whole = refl }

abbrev pub appended : Calls
appended = Made part (Ok tt) ∷ opened

abbrev pub written_of : (calls : Calls) (buffered : List ℕ) → length buffered < 1000 → sync_failed calls ≡ false
    → AllByRecursion ArePermissions (modes_asked calls) → Written (Unit {0})
written_of calls buffered short sound plain = record {
  writer = record { file = record { file = tt; trace = record { events = calls } }; buffer = vec buffered short };
  unsynced = 0;
  sync_error = None;
  sound = λ none. sound;
  plain = ∣ plain ∣₁;
}

abbrev pub buffered : Written (Unit {0})
buffered = written_of (Created part 1 ∷ []) (65 ∷ []) (omega arith) refl tt

abbrev pub whole : Written (Unit {0})
whole = written_of (Synced (Ok tt) ∷ Written_bytes (65 ∷ []) ∷ Created part 1 ∷ []) [] (omega arith) refl tt

pub still_appended : IsStillAt part (Some 1) appended
still_appended = record { since = []; before = opened; made = refl; when = refl; left = tt }

abbrev pub local_with_block : Local
local_with_block = record new_local {
  part =
      record new_local.part { disk = appended; written = Some buffered; placed = refl; still = λ e. ∣ still_appended ∣₁ };
  count = 1;
  counts = refl;
  named = λ e. absurd (true≢false (sym e));
  left = λ e. ∣ inl still_appended ∣₁;
}

abbrev pub given : Calls
given =
    Removed part (Ok tt) ∷ Folder_synced (Some (codes ".")) (Ok tt) ∷ Linked (state_of (calls_of whole.writer)) part name (Ok tt)
    ∷ appended

pub got_name : WasNamed (paths_for name Refused) (65 ∷ []) given
got_name = (
  state_of (calls_of whole.writer),
  appended,
  record { place = refl; content = refl; synced = refl; sound = refl; modes = ∣ tt ∣₁ },
  ∣ still_appended ∣₁,
  inl (
    Folder_synced (Some (codes ".")) (Ok tt) ∷ Linked (state_of (calls_of whole.writer)) part name (Ok tt) ∷ appended,
    Ok tt,
    inl (codes ".", Ok tt, Here no_slash, tt, refl),
    refl,
  ),
)

abbrev pub stored_local : Local
stored_local = record new_local {
  part = record new_local.part {
    disk = given;
    written = Some whole;
    is_tried = true;
    placed = refl;
    still = λ e. absurd (true≢false e);
  };
  count = 1;
  committed = true;
  counts = refl;
  named = λ e. (refl, ∣ got_name ∣₁);
  left = λ e. absurd (true≢false e);
}

unfoldable pub stores_so : DatagramStep local_source local_sink answers_from (data_bytes 1 (65 ∷ [])) at_first (Sink new_local) stores
    (Sink stored_local)
stores_so = record {
  decoded = Some (Data 1 (65 ∷ []));
  says = block_spelled 65;
  acts = (
    65 ∷ [],
    block_spelled 65,
    record {
      bytes = 65 ∷ [];
      after = [];
      mid = local_with_block;
      answer = Ok done;
      decoded = (refl, refl);
      appended = (refl, tt, search rules, tt);
      memory = λ e. absurd (cc);
      rest = record {
        answer = Ok done;
        commits = refl;
        refused = tt;
        leaves = search rules;
        effect = tt;
        answers = refl;
      };
    },
  );
  again = tt;
}

pub still_open : IsOpen at_first
still_open = search rules

unfoldable pub get_runs : Converses local_source local_sink 5000 s0 (Sink new_local) s2 (Sink stored_local)
get_runs =
    Receives {watch = at_10} Begins (record { not_closed = still_open; due = λ late. absurd (omega (arith, late)) })
    (record { time = refl; forward = omega arith })
    (record {
      next = s1;
      again = at_10;
      handles = Answers still_open stores_so;
      later = record { time = refl; forward = omega arith };
      is = refl;
    })

abbrev pub get_after : List SocketEvent
get_after = (printed (end_text (ends.Complete 1)) s2).events

unfoldable pub get_stored : StoresWords local_source local_sink get_words 0 [] get_after [] given
unfolding get_runs stores_so
get_stored = (
  inr (
    get_job,
    get_named,
    inl (
      inl refl,
      record {
        port = 5000;
        last = s2;
        files = Sink stored_local;
        count = 1;
        transfers = inl (record {
          length = 0;
          may = may_get;
          runs = record { reading = 0; file = Sink new_local; new = refl; converses = get_runs };
          side = tt;
          counts = (record { bytes = 65 ∷ []; committed = true; refuses = false }, refl, refl);
        });
        complete = refl;
        side = tt;
        whole = (record { bytes = 65 ∷ []; committed = true; refuses = false }, refl, refl, refl, refl);
        stays = record {
          last = printed (end_text (ends.Complete 1)) s2;
          files = Sink stored_local;
          converses = Begins;
          events = refl;
        };
        stayed = refl;
        still = λ moved. refl;
        over = record { stayed = λ e. absurd (true≢false (sym e)); left = λ e. refl };
        within = omega arith;
      },
    ),
  ),
  (∣ got_name ∣₁, search rules),
)

-- ---- a put
abbrev pub file : Found
file = record {
  kind = Regular;
  id = record { device = 1; inode = 3 };
  bytes = 1;
  mode = 33188;
  changed = pos 0;
  changed_nanos = pos 0;
}

abbrev pub source_after : Calls → ℕ → LocalSource
source_after calls size = record {
  file = record { file = tt; trace = record { events = calls ++ Examined (Ok file) ∷ Opened name (Ok tt) ∷ [] } };
  buffer = [];
  ahead = [];
  mode = Octet;
  size = size;
  error = None;
}

abbrev pub unread : LocalSource
unread = source_after [] 0

abbrev pub read : LocalSource
read = source_after (Given [] ∷ Given (66 ∷ []) ∷ []) 512

abbrev pub put_first : EndState
put_first = putting server (codes "b") Octet no_options 1 MAX_WIRE 5

abbrev pub sends : Turn
sends = filled_turn (default_terms answers_from) 1 answers_from (66 ∷ []) put_first (Ok 1)

abbrev pub sending : EndState
sending = after_turn put_first sends

abbrev pub completes : Turn
completes = response_turn Complete answers_from sending

pub may_put : MayPut (codes "b") Octet no_options 1
may_put = record { valid = search rules; options = search rules; fits = ltb-true 1 (65535 * 512) refl }

pub ack_spelled : (number : ℕ) → number < 2 ^ 16 → Spells (Ack number) (ack_bytes number)
ack_spelled number fits = record { valid = fits; word = []; mode = refl; whole = refl }

abbrev pub PutFiles : Type 0
PutFiles = Files LocalSource Local

abbrev pub whole_file : PutFiles
whole_file = Source unread

abbrev pub given_file : PutFiles
given_file = Source read

unfoldable pub sends_so : DatagramStep local_source local_sink answers_from (ack_bytes 0) put_first whole_file sends given_file
sends_so = record {
  decoded = Some (Ack 0);
  says = ack_spelled 0 (omega arith);
  acts = record {
    answer = Ok 1;
    piece = 66 ∷ [];
    reads = record {
      fills = record { piece = 66 ∷ []; given = refl; count = refl; bound = omega arith };
      read = search rules;
      fails = search rules;
      memory = search rules;
    };
    gives = record { mode = refl; bytes = 66 ∷ []; reads = search rules; text = search rules; none = search rules };
    answers = refl;
  };
  again = tt;
}

unfoldable pub completes_so : DatagramStep local_source local_sink answers_from (ack_bytes 1) sending given_file completes given_file
completes_so = record { decoded = Some (Ack 1); says = ack_spelled 1 (omega arith); acts = (refl, refl); again = tt }

abbrev pub p0 : State
p0 = begun Constant 5001 0 put_first []

abbrev pub p1 : State
p1 = turned 5001 sends (received 5001 answers_from (ack_bytes 0) at_10 p0)

abbrev pub p2 : State
p2 = renewed (reported put_first sends).progress at_10 p1

abbrev pub p3 : State
p3 = turned 5001 completes (received 5001 answers_from (ack_bytes 1) at_20 p2)

abbrev pub p4 : State
p4 = renewed (reported sending completes).progress at_20 p3

pub still_sending : IsOpen sending
still_sending = search rules

pub not_yet : IsOpen put_first
not_yet = search rules

unfoldable pub put_runs : Converses local_source local_sink 5001 p0 whole_file p4 given_file
put_runs =
    Receives {watch = at_20}
    (Receives {watch = at_10} Begins (record { not_closed = not_yet; due = λ late. absurd (omega (arith, late)) })
    (record { time = refl; forward = omega arith })
    (record {
      next = p1;
      again = at_10;
      handles = Answers not_yet sends_so;
      later = record { time = refl; forward = omega arith };
      is = refl;
    }))
    (record { not_closed = still_sending; due = λ late. absurd (omega (arith, late)) })
    (record { time = refl; forward = omega arith })
    (record {
      next = p3;
      again = at_20;
      handles = Answers still_sending completes_so;
      later = record { time = refl; forward = omega arith };
      is = refl;
    })

abbrev pub put_after : List SocketEvent
put_after = (printed (end_text (ends.Complete 1)) p4).events

unfoldable pub put_sent : SendsWords local_source local_sink put_words 0 [] put_after
unfolding put_runs sends_so completes_so
put_sent = (
  inr (
    put_job,
    put_named,
    inl (
      inl refl,
      record {
        port = 5001;
        last = p4;
        files = given_file;
        count = 1;
        transfers = inl (record {
          length = 1;
          may = may_put;
          runs = record { reading = 0; file = whole_file; new = tt; converses = put_runs };
          side = tt;
          counts = refl;
        });
        complete = refl;
        side = tt;
        whole = tt;
        stays = record {
          last = printed (end_text (ends.Complete 1)) p4;
          files = given_file;
          converses = Begins;
          events = refl;
        };
        stayed = refl;
        still = λ moved. refl;
        over = record { stayed = λ e. inl refl; left = λ e. refl };
        within = omega arith;
      },
    ),
  ),
  record {
    opened = refl;
    mode = refl;
    gave = record { begins = ([], refl); whole = λ e. refl };
    long = (record { found = file; told = refl; long = refl }, refl);
  },
)

pub some_stored : SomeAreStored
some_stored = (get_after, given, get_stored)

pub some_sent : SomeAreSent
some_sent = (put_after, put_sent)
