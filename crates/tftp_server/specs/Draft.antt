-- A store with one of its drafts, as the sink of a transfer.
use Rattle.std.specs.Prelude.{ℕ, ◌≡◌, Bool, true, false, List, Option, Some, Ok}
use Rattle.tftp_file.specs.Sink.{Holding, SinkMeaning}
use Rattle.tftp_file.specs.declared.fault.StoreFault.{StoreFault}
use Rattle.tftp_file.specs.declared.fault.StoreFault.TheVariants.{Memory}
use Rattle.tftp_file.specs.declared.files.Files.{Files}
use Rattle.tftp_file.specs.declared.files.Files.TheVariants.{Source, Sink}
use Rattle.tftp_ends.specs.Step.{Done}
use Rattle.tftp_store.specs.Store.{Stored, Drafted, StoreMeaning, holding_of, files_of, Puts}

-- the sink of a transfer: the store, its draft, the path of the commit, and whether the commit may
-- replace an existing file
pub record Drafting (S D : Type 0) : Type 0 where
  pub store : S
  pub draft : D
  pub path : List ℕ
  pub replace : Bool

-- the files of an end: a source, or a draft of this store
abbrev pub files_in : {S F D : Type 0} → S → List ℕ → Bool → Files F D → Files F (Drafting S D)
files_in store path replace (Source source) = Source source
files_in store path replace (Sink draft) =
    Sink (record { store = store; draft = draft; path = path; replace = replace })

-- the effect on a store's files: a commit that succeeds makes the draft's bytes the file at the
-- path, and nothing else changes them
abbrev pub FilesBy : Bool → Option Stored → Option Stored → Option Drafted → List ℕ → Bool → Type 0
FilesBy true before after draft path replace =
    Puts {A = Done} before after draft path replace (Ok tt)
FilesBy false before after draft path replace = files_of after ≡ files_of before

module _ {S D : Type 0} (meaning : StoreMeaning S D) where
  -- what the draft holds, and whether the next append or commit is set to be refused
  abbrev pub drafting_holds : Drafting S D → Option Holding
  drafting_holds d = holding_of (meaning.stored d.store) (meaning.drafted d.draft)

  -- an append, or a commit, may return this fault
  abbrev pub MayRefuseAppend : Drafting S D → List ℕ → StoreFault → Type 0
  MayRefuseAppend d bytes fault = meaning.may_refuse_append d.store d.draft bytes fault

  abbrev pub MayRefuseCommit : Drafting S D → StoreFault → Type 0
  MayRefuseCommit d fault = meaning.may_refuse_commit d.store d.path d.draft d.replace fault

  -- the effect of an append or a commit beside that on the draft: the path is unchanged, and only a
  -- commit changes the store's files
  pub record DraftingBecomes (before after : Drafting S D) (committed : Bool) : Type 0 where
    pub path : after.path ≡ before.path
    pub replace : after.replace ≡ before.replace
    pub files : FilesBy committed (meaning.stored before.store) (meaning.stored after.store)
        (meaning.drafted before.draft) before.path before.replace

  -- what an append of these bytes, or a commit under the path, leaves of the store and the draft;
  -- out of memory, an append changes nothing
  abbrev pub AfterAppend : Drafting S D → List ℕ → Drafting S D → Option StoreFault → Type 0
  AfterAppend before bytes after fault =
      meaning.after_append before.store before.draft bytes after.store after.draft fault
      × (fault ≡ Some Memory → after ≡ before)

  abbrev pub AfterCommit : Drafting S D → Drafting S D → Option StoreFault → Type 0
  AfterCommit before after fault =
      meaning.after_commit before.store before.path before.draft before.replace after.store
      after.draft fault

  -- the model of a store with one of its drafts
  abbrev pub drafting_sink : SinkMeaning (Drafting S D)
  drafting_sink =
      record {
        held = drafting_holds;
        may_refuse_append = MayRefuseAppend;
        may_refuse_commit = MayRefuseCommit;
        becomes = DraftingBecomes;
        after_append = AfterAppend;
        after_commit = AfterCommit;
      }

-- a read transfer does not change the store
abbrev pub KeepsStore : {S F D : Type 0} → Files F D → S → S → Type 0
KeepsStore (Source source) before after = after ≡ before
KeepsStore (Sink draft) before after = Unit {0}

-- a write transfer changes neither the store nor its draft
abbrev pub KeepsDraft : {S F D : Type 0} → Files F D → Files F D → S → S → Type 0
KeepsDraft (Source source) files before after = Unit {0}
KeepsDraft (Sink draft) files before after = (after ≡ before) × (files ≡ Sink draft)
