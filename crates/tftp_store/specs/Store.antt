-- The model of a store and its drafts, and the effect of the calls.
use Rattle.std.specs.Prelude.{ℕ, ◌≡◌, ◌+◌, min, Bool, true, false, not, ◌&&◌, List, [], length}
use Rattle.std.specs.Prelude.{Option, Some, None, IsSome, is_some, option_map, Result, Ok, Err}
use Rattle.std.specs.Prelude.{IfOk}
use Rattle.std.specs.Prelude.{⊤}
use Rattle.std.specs.Cmp.Lexicographic.{slice_cmp}
use Rattle.std.specs.Ordering.{nat_cmp}
use Rattle.std.specs.declared.cmp.Ordering.{Ordering}
use Rattle.std.specs.BTreeMap.{insert_entry, is_at}
use Rattle.std.specs.Map.{lookup}
use Rattle.tftp_wire.specs.declared.mode.Mode.{Mode}
use Rattle.tftp_file.specs.Netascii.{wire_text}
use Rattle.tftp_file.specs.Source.{SourceMeaning}
use Rattle.tftp_file.specs.Sink.{Holding}
use Rattle.tftp_file.specs.declared.fault.StoreFault.{StoreFault}
use Rattle.tftp_file.specs.declared.fault.StoreFault.TheVariants.{Missing, Exists, Memory}
use Rattle.tftp_file.specs.declared.length.TheConstants.{MAX_WIRE}
use Rattle.tftp_store.specs.declared.store.Opening.{Opening}

-- files by path, in the order of the paths
abbrev pub FileList : Type 0
FileList = List (List ℕ × List ℕ)

-- the content of a store: its files, and whether it is set to refuse its next append or commit
pub record Stored : Type 0 where
  pub files : List (List ℕ × List ℕ)
  pub refuses : Bool

-- the content of a draft: its bytes, and whether they are committed
pub record Drafted : Type 0 where
  pub bytes : List ℕ
  pub committed : Bool

-- the model of the stores of one type, and of their drafts
pub record StoreMeaning (S D : Type 0) : Type 1 where
  -- where its files are: the path of its folder, or nothing of a store without one
  pub root : S → List ℕ
  -- its next draft has the name of the transfer at this port, if it names drafts by ports
  pub is_set_to : S → ℕ → Type 0
  -- the content of the store, or None if it is not known
  pub stored : S → Option Stored
  -- the content of a draft, or None if it is not known
  pub drafted : D → Option Drafted
  -- an opening of the path may return this fault
  pub may_refuse_open : S → List ℕ → StoreFault → Type 0
  -- a draft of the path, to replace a file or not, may be refused with this fault
  pub may_refuse_begin : S → List ℕ → Bool → StoreFault → Type 0
  -- an opening of the path returns this fault
  pub must_refuse_open : S → List ℕ → StoreFault → Type 0
  -- a fill of this many bytes of a source that is opened at the path returns Read
  pub must_fail : S → List ℕ → ℕ → Type 0
  -- the effect of beginning a draft of the path, to replace a file or not: refused with this
  -- fault, or this draft. It states which calls must be refused
  pub begun : List ℕ → Bool → S → S → Result D StoreFault → Type 0
  -- the effect of an append of these bytes to the draft, if refused with this fault or not refused
  pub after_append : S → D → List ℕ → S → D → Option StoreFault → Type 0
  -- the same, of a commit of the draft under the path, to replace a file or not
  pub after_commit : S → List ℕ → D → Bool → S → D → Option StoreFault → Type 0
  -- the effect of writing a draft back, on the store and on the draft
  pub after_write_behind : S → S → Type 0
  pub writes_behind : D → D → Type 0
  -- an append of these bytes may return this fault
  pub may_refuse_append : S → D → List ℕ → StoreFault → Type 0
  -- a commit under the path, to replace a file or not, may return this fault
  pub may_refuse_commit : S → List ℕ → D → Bool → StoreFault → Type 0

-- the model of stores of which nothing is known: each call may be refused, with any fault that the
-- trait allows, and none must
abbrev pub unknown_store : {S D : Type 0} → StoreMeaning S D
unknown_store =
    record {
      root = λ s. [];
      is_set_to = λ s port. ⊤;
      stored = λ s. None;
      drafted = λ d. None;
      may_refuse_open = λ s path fault. ⊤;
      may_refuse_begin = λ s path replace fault. ⊤;
      must_refuse_open = λ s path fault. ⊥;
      must_fail = λ s path want. ⊥;
      begun = λ path replace before after result. ⊤;
      after_append = λ before draft bytes after draft' fault. ⊤;
      after_commit = λ before path draft replace after draft' fault. ⊤;
      after_write_behind = λ before after. ⊤;
      writes_behind = λ draft draft'. ⊤;
      may_refuse_append = λ s d bytes fault. ⊤;
      may_refuse_commit = λ s path d replace fault. ⊤;
    }

-- a call that must return one of these faults returns it
abbrev pub RefusedIf : {A : Type 0} → (StoreFault → Type 0) → Result A StoreFault → Type 0
RefusedIf must_refuse result = (fault : StoreFault) → must_refuse fault → result ≡ Err fault

-- a draft at its beginning
abbrev pub new_draft : Drafted
new_draft = record { bytes = []; committed = false }

-- the order of paths
abbrev pub path_cmp : List ℕ → List ℕ → Ordering
path_cmp = slice_cmp nat_cmp

-- the file at a path
abbrev pub file_at : List ℕ → FileList → Option (List ℕ)
file_at path files = lookup (is_at (path_cmp path)) files

-- the files with one more
abbrev pub with_file : FileList → List ℕ → List ℕ → FileList
with_file files path bytes = insert_entry path_cmp files path bytes

-- there is a file at the path, and it is not to be replaced
abbrev pub is_taken : Bool → List ℕ → FileList → Bool
is_taken replace path files = not replace && is_some (file_at path files)

-- the length of a file on the wire, or MAX_WIRE + 1 if it is longer
abbrev pub measured : Mode → List ℕ → ℕ
measured mode bytes = min (length (wire_text mode bytes)) (MAX_WIRE + 1)

-- a store and one of its drafts, as a sink
abbrev pub holding_of : Option Stored → Option Drafted → Option Holding
holding_of (Some store) (Some draft) =
    Some (record { bytes = draft.bytes; committed = draft.committed; refuses = store.refuses })
holding_of (Some store) None = None
holding_of None draft = None

-- the files, if they are known
abbrev pub files_of : Option Stored → Option FileList
files_of stored = option_map (λ s. s.files) stored

module _ {F : Type 0} (sources : SourceMeaning F) where
  -- a file is opened: its source has all of its wire text left
  pub record IsOpening (mode : Mode) (bytes : List ℕ) (opening : Opening F) : Type 0 where
    pub source : sources.left opening.source ≡ Some (wire_text mode bytes)
    pub length : opening.length ≡ measured mode bytes

  -- the result of an opening, by the content of the store; out of memory is the last refusal
  abbrev pub Opens : Option Stored → List ℕ → Mode → Result (Opening F) StoreFault → Type 0
  Opens None path mode result = ⊤
  Opens (Some stored) path mode (Ok opening) =
      (bytes : List ℕ) × (file_at path stored.files ≡ Some bytes) × IsOpening mode bytes opening
  Opens (Some stored) path mode (Err Missing) = file_at path stored.files ≡ None
  Opens (Some stored) path mode (Err Memory) = IsSome (file_at path stored.files)
  Opens (Some stored) path mode (Err _) = ⊤

  -- a source that is opened fails at each fill of so many bytes
  abbrev pub FailsIf : (ℕ → Type 0) → Result (Opening F) StoreFault → Type 0
  FailsIf must_fail (Ok opening) =
      (want : ℕ) → must_fail want → sources.fails opening.source want
  FailsIf must_fail (Err fault) = ⊤

  -- a source that is opened is one of this root, at this path, in this mode, of the length that is
  -- returned
  abbrev pub OpensAt : List ℕ → List ℕ → Mode → Result (Opening F) StoreFault → Type 0
  OpensAt root path mode result =
      IfOk result (λ opening. sources.opens root path mode opening.length opening.source)

module _ {K : Type 0} (drafted : K → Option Drafted) where
  -- the result of beginning a draft, by the content of the store; out of memory is the last
  -- refusal
  abbrev pub Begins : Option Stored → Option Stored → List ℕ → Bool → Result K StoreFault → Type 0
  Begins None after path replace result = ⊤
  Begins (Some before) after path replace (Ok draft) =
      (after ≡ Some before) × (is_taken replace path before.files ≡ false)
      × (drafted draft ≡ Some new_draft)
  Begins (Some before) after path replace (Err Exists) =
      (after ≡ Some before) × (is_taken replace path before.files ≡ true)
  Begins (Some before) after path replace (Err Memory) =
      (after ≡ Some before) × (is_taken replace path before.files ≡ false)
  Begins (Some before) after path replace (Err _) = after ≡ Some before

-- the effect of a commit on the files: on success the draft's bytes are the file at the path
abbrev pub Puts : {A : Type 0} → Option Stored → Option Stored → Option Drafted → List ℕ → Bool
    → Result A StoreFault → Type 0
Puts (Some before) after (Some draft) path replace (Ok done) =
    (files_of after ≡ Some (with_file before.files path draft.bytes))
    × (is_taken replace path before.files ≡ false)
Puts before after draft path replace (Ok done) = ⊤
Puts (Some before) after draft path replace (Err Exists) =
    (files_of after ≡ Some before.files) × (is_taken replace path before.files ≡ true)
Puts before after draft path replace (Err _) = files_of after ≡ files_of before

-- the content of the store and its draft is unchanged, no more calls may be refused, and no fewer
-- must fail
pub record WritesBehind {S D : Type 0} (stores : StoreMeaning S D) (before after : S)
    (draft draft' : D) : Type 0 where
  pub stored : stores.stored after ≡ stores.stored before
  pub drafted : stores.drafted draft' ≡ stores.drafted draft
  pub behind : stores.after_write_behind before after
  pub drafts_behind : stores.writes_behind draft draft'
  pub must_refuse_open : (path : List ℕ) (fault : StoreFault)
      → stores.must_refuse_open before path fault → stores.must_refuse_open after path fault
  pub must_fail : (path : List ℕ) (want : ℕ)
      → stores.must_fail before path want → stores.must_fail after path want
  pub may_refuse_open : (path : List ℕ) (fault : StoreFault)
      → stores.may_refuse_open after path fault → stores.may_refuse_open before path fault
  pub may_refuse_begin : (path : List ℕ) (replace : Bool) (fault : StoreFault)
      → stores.may_refuse_begin after path replace fault
      → stores.may_refuse_begin before path replace fault
  pub may_refuse_append : (bytes : List ℕ) (fault : StoreFault)
      → stores.may_refuse_append after draft' bytes fault
      → stores.may_refuse_append before draft bytes fault
  pub may_refuse_commit : (path : List ℕ) (replace : Bool) (fault : StoreFault)
      → stores.may_refuse_commit after path draft' replace fault
      → stores.may_refuse_commit before path draft replace fault
