-- The calls by which a store over a folder begins a draft (ours).
use Rattle.std.specs.Prelude.{ℕ, ◌≡◌, ◌⊎◌, true, List, [], ◌∷◌, ◌++◌, length, Result, Ok, codes}
use Rattle.std.specs.Fmt.{decimal}
use Rattle.std.specs.declared.io.Error.{Error}
use Rattle.tftp_disk.specs.DiskTrace.{DiskEvent, Done}
use Rattle.tftp_disk.specs.DiskTrace.DiskEvent.{Created, Examined, Locked, Looked, Made, Removed}
use Rattle.tftp_disk.specs.declared.found.Found.{Found}
use Rattle.tftp_folder.specs.Looked.{is_found}

-- the path of the draft of the transfer at this port, in this folder
abbrev pub draft_name : List ℕ → ℕ → List ℕ
draft_name folder port = folder ++ (codes "/.tftp-" ++ decimal port)

-- the path that it has by its turn, if the former ones are those of other servers' drafts
abbrev pub later_name : List ℕ → ℕ → ℕ → List ℕ
later_name folder port turn =
    folder ++ (codes "/.tftp-" ++ (decimal port ++ (codes "-" ++ decimal turn)))

-- a path of a draft of the transfer at this port, in this folder
abbrev pub IsDraftOf : List ℕ → ℕ → List ℕ → Type 0
IsDraftOf folder port path =
    (path ≡ draft_name folder port) ⊎ ((turn : ℕ) × (path ≡ later_name folder port turn))

-- the file of these calls was made and locked by the newest change of the log, and was found at its
-- path after that: so whoever else may have removed it before that has not
pub record IsNew (path : List ℕ) (file cleared log : List DiskEvent) : Type 0 where
  pub told : Result Found Error
  pub found : Result Found Error
  pub made : log ≡ Looked path found ∷ Made path (Ok tt) ∷ cleared
  pub opened : file
      ≡ Examined told ∷ Locked path (Ok tt) ∷ Created path (length cleared) ∷ []
  pub is : is_found told found ≡ true

-- changes that try to make a draft of the transfer at this port: files at its paths are locked, and
-- removed only just after that; and one is made, which is not the draft unless it was locked and is
-- still there
pub data TriesDraft (folder : List ℕ) (port : ℕ) (before : List DiskEvent) : List DiskEvent → Type 0
  where
    Nothing : TriesDraft folder port before before
    Locks : {path : List ℕ} {after : List DiskEvent} (answer : Done) → IsDraftOf folder port path
        → TriesDraft folder port before after
        → TriesDraft folder port before (Locked path answer ∷ after)
    Removes : {path : List ℕ} {after : List DiskEvent} (removal : Done) → IsDraftOf folder port path
        → TriesDraft folder port before after
        → TriesDraft folder port before (Removed path removal ∷ Locked path (Ok tt) ∷ after)
    Makes : {path : List ℕ} {after : List DiskEvent} (answer : Done) → IsDraftOf folder port path
        → TriesDraft folder port before after
        → TriesDraft folder port before (Made path answer ∷ after)

-- a draft was made at this path, one of those of the transfer
pub record MakesDraft (folder : List ℕ) (port : ℕ) (path : List ℕ) (before after : List DiskEvent)
    : Type 0 where
  pub own : IsDraftOf folder port path
  pub cleared : List DiskEvent
  pub tries : TriesDraft folder port before cleared
  pub made : after ≡ Made path (Ok tt) ∷ cleared

-- calls that try to make a draft of the transfer at this port, and nothing else: its paths are
-- looked at, and the file at one is removed only just after it was locked, and found there
pub data DraftCalls (folder : List ℕ) (port : ℕ) (before : List DiskEvent) : List DiskEvent → Type 0
  where
    None_yet : DraftCalls folder port before before
    Look : {path : List ℕ} {after : List DiskEvent} (answer : Result Found Error)
        → IsDraftOf folder port path → DraftCalls folder port before after
        → DraftCalls folder port before (Looked path answer ∷ after)
    Lock : {path : List ℕ} {after : List DiskEvent} (answer : Done) → IsDraftOf folder port path
        → DraftCalls folder port before after
        → DraftCalls folder port before (Locked path answer ∷ after)
    Remove : {path : List ℕ} {after : List DiskEvent} (removal : Done) (found : Result Found Error)
        → IsDraftOf folder port path → DraftCalls folder port before after
        → DraftCalls folder port before
        (Removed path removal ∷ Looked path found ∷ Locked path (Ok tt) ∷ after)
    Make : {path : List ℕ} {after : List DiskEvent} (answer : Done) → IsDraftOf folder port path
        → DraftCalls folder port before after
        → DraftCalls folder port before (Made path answer ∷ after)

-- such calls, whatever the folder and the port whose draft has this path
abbrev pub TriesAt : List ℕ → List DiskEvent → List DiskEvent → Type 0
TriesAt path before after =
    (folder : List ℕ) (port : ℕ) → IsDraftOf folder port path → DraftCalls folder port before after

-- a draft was made at this path by these calls, which has these
pub record IsMade (path : List ℕ) (file before after : List DiskEvent) : Type 0 where
  pub cleared : List DiskEvent
  pub tries : TriesAt path before cleared
  pub new : IsNew path file cleared after

-- the same of the transfer at this port, at one of its paths
pub record IsMadeFor (folder : List ℕ) (port : ℕ) (path : List ℕ)
    (file before after : List DiskEvent) : Type 0 where
  pub own : IsDraftOf folder port path
  pub cleared : List DiskEvent
  pub tries : DraftCalls folder port before cleared
  pub new : IsNew path file cleared after
