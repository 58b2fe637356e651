-- A draft of a store over a folder, by the calls on its file (ours).
use Rattle.std.specs.Prelude.{ℕ, ◌≡◌, ◌≢◌, ◌⊎◌, Bool, true, false, List, [], ◌∷◌, Option, Some, None}
use Rattle.std.specs.Prelude.{Err}
use Rattle.std.specs.declared.io.Error.{Error}
use Rattle.std.specs.String.{string_bytes}
use Rattle.tftp_disk.specs.DiskTrace.{DiskEvent, Done, made_at, made_when, is_synced}
use Rattle.tftp_disk.specs.DiskTrace.{sync_failed, state_of, written}
use Rattle.tftp_disk.specs.DiskWriter.{calls_of, handed}
use Rattle.tftp_disk.specs.NamedFolder.{OpensFolder, OpensNoFolder, SyncsFolder, SyncsNoFolder}
use Rattle.tftp_disk.specs.declared.disk_file.DiskFolder.{DiskFolder}
use Rattle.tftp_disk.specs.Changes.{changes}
use Rattle.tftp_disk.specs.Still.{IsStillAt}
use Rattle.tftp_disk.specs.DiskTrace.DiskEvent.{Renamed}
use Rattle.tftp_folder.specs.Begin.{MakesDraft}
use Rattle.tftp_folder.specs.Commit.{Names, RefusesName, RenamesLocked, RefusesLocked}
use Rattle.tftp_folder.specs.Commit.{lock_of, is_linked, ClearsDraft, MayRemove, MayRemoveNew}
use Rattle.tftp_folder.specs.Looked.{LooksFor, RemovesIf}
use Rattle.tftp_folder.specs.Uploads.{IsBelow}
use Rattle.tftp_folder.specs.declared.folder_draft.FolderDraft.{FolderDraft}

module _ {F : Type 0} where
  -- the bytes that a draft was handed
  abbrev pub bytes_of : FolderDraft F → List ℕ
  bytes_of draft = handed draft.writer

  -- the bytes in its file
  abbrev pub file_bytes : FolderDraft F → List ℕ
  file_bytes draft = written (calls_of draft.writer)

  -- a draft has its names, and the file that was made for it
  pub record SameNames (before after : FolderDraft F) : Type 0 where
    pub draft : after.draft ≡ before.draft
    pub target : after.target ≡ before.target
    pub folder : after.folder ≡ before.folder
    pub port : after.port ≡ before.port
    pub making : made_when (calls_of after.writer) ≡ made_when (calls_of before.writer)

  -- the paths of a draft are below the root
  pub record IsDraftBelow (root : List ℕ) (draft : FolderDraft F) : Type 0 where
    pub path : IsBelow root (string_bytes draft.draft)
    pub target : IsBelow root (string_bytes draft.target)

  -- its file is still at its path, which is not that of the lock of its name
  pub record IsThere (draft : FolderDraft F) (log : List DiskEvent) : Type 0 where
    pub apart : string_bytes draft.draft ≢ lock_of (string_bytes draft.target)
    pub still : IsStillAt (string_bytes draft.draft) (made_when (calls_of draft.writer)) log

  -- all that is in its file is synced, and no sync of it failed
  pub record IsDone (draft : FolderDraft F) : Type 0 where
    pub synced : is_synced (calls_of draft.writer) ≡ true
    pub sound : sync_failed (calls_of draft.writer) ≡ false

  -- a draft has its names, and its file is as it was
  pub record StaysDone (before after : FolderDraft F) : Type 0 where
    pub names : SameNames before after
    pub state : state_of (calls_of after.writer) ≡ state_of (calls_of before.writer)

  -- a draft has its names, and its file is as it was, but for its mode
  pub record KeepsFile (before after : FolderDraft F) : Type 0 where
    pub names : SameNames before after
    pub place : made_at (calls_of after.writer) ≡ made_at (calls_of before.writer)
    pub bytes : file_bytes after ≡ file_bytes before
    pub synced : is_synced (calls_of after.writer) ≡ is_synced (calls_of before.writer)
    pub sound : sync_failed (calls_of after.writer) ≡ sync_failed (calls_of before.writer)

  -- a draft that was done is, with the same names, and the same bytes in its file
  pub record KeepsDone (before after : FolderDraft F) : Type 0 where
    pub names : SameNames before after
    pub bytes : file_bytes after ≡ file_bytes before
    pub done : IsDone after

  -- the draft got its name
  abbrev pub NamesDraft : FolderDraft F → List DiskEvent → Bool → List DiskEvent → Type 0
  NamesDraft draft before replaces after =
      Names (state_of (calls_of draft.writer)) (string_bytes draft.draft)
      (string_bytes draft.target) before replaces after

  -- a link or a rename to its name was answered so
  abbrev pub RenamesDraft : FolderDraft F → List DiskEvent → Done → List DiskEvent → Type 0
  RenamesDraft draft before answer after =
      after ≡ Renamed (state_of (calls_of draft.writer)) (string_bytes draft.draft)
      (string_bytes draft.target) answer ∷ before

  -- the rename to its name failed, or was not tried
  abbrev pub RenamesNoDraft : FolderDraft F → List DiskEvent → List DiskEvent → Type 0
  RenamesNoDraft draft before after =
      (after ≡ before) ⊎ ((refusal : Error) × RenamesDraft draft before (Err refusal) after)

  -- it was renamed to its name under the lock of that
  abbrev pub RenamesDraftLocked : FolderDraft F → List DiskEvent → List DiskEvent → Type 0
  RenamesDraftLocked draft before after =
      RenamesLocked (state_of (calls_of draft.writer)) (string_bytes draft.draft)
      (string_bytes draft.target) before after

  -- it was not renamed so
  abbrev pub RefusesDraftLocked : FolderDraft F → List DiskEvent → List DiskEvent → Type 0
  RefusesDraftLocked draft before after =
      RefusesLocked (state_of (calls_of draft.writer)) (string_bytes draft.draft)
      (string_bytes draft.target) before after

  -- the system refused the draft its name
  abbrev pub RefusesDraft : FolderDraft F → List DiskEvent → Bool → List DiskEvent → Type 0
  RefusesDraft draft before replaces after =
      RefusesName (state_of (calls_of draft.writer)) (string_bytes draft.draft)
      (string_bytes draft.target) before replaces after

  -- the draft got its name, then the folder was synced, and then the draft lost its own path
  abbrev pub NamesIn : FolderDraft F → Option (DiskFolder F) → List DiskEvent → Bool
      → List DiskEvent → Type 0
  NamesIn draft folder before replaces after =
      (named : List DiskEvent) × (synced : List DiskEvent) × NamesDraft draft before replaces named
      × SyncsFolder folder named synced
      × ClearsDraft (is_linked named) (string_bytes draft.draft) synced after

  -- the folder of its name was opened, the draft got the name, then the folder was synced, and then
  -- the draft lost its own path
  abbrev pub GivesName : FolderDraft F → List DiskEvent → Bool → List DiskEvent → Type 0
  GivesName draft before replaces after =
      (folder : Option (DiskFolder F)) × (opened : List DiskEvent)
      × OpensFolder (string_bytes draft.target) folder before opened
      × NamesIn draft folder opened replaces after

  -- a look at the name of a draft: whether it found the draft's own file there
  abbrev pub LooksForOwn : FolderDraft F → FolderDraft F → List DiskEvent → List DiskEvent → Bool
      → Type 0
  LooksForOwn draft draft' before after finds =
      LooksFor (string_bytes draft'.target) (calls_of draft.writer) (calls_of draft'.writer) before
      after finds

  -- after calls that change nothing the name of a draft was looked at, and the next call removed
  -- it, if that found the draft's own file there; else it is left
  pub record TakesBack (draft draft' : FolderDraft F) (before after : List DiskEvent)
      : Type 0 where
    pub between : List DiskEvent
    pub looked : List DiskEvent
    pub finds : Bool
    pub looks : changes between ≡ changes before
    pub own : LooksForOwn draft draft' between looked finds
    pub removes : RemovesIf finds (string_bytes draft'.target) looked after

  -- the draft lost the name that it got: by then that was another file's, or in another folder, or
  -- the folder could not be synced. Its own path is left
  abbrev pub LosesName : FolderDraft F → Option (DiskFolder F) → (named : List DiskEvent) → Bool
      → List DiskEvent → Type 0
  LosesName draft folder named replaces after =
      MayRemove (string_bytes draft.target) named after
      ⊎ ((failed : List DiskEvent) × (error : Error) × SyncsNoFolder folder named error failed
      × MayRemoveNew (string_bytes draft.target) failed replaces after)

  -- the draft got no name in this folder, or lost it
  abbrev pub NamesNothingIn : FolderDraft F → Option (DiskFolder F) → List DiskEvent → Bool
      → List DiskEvent → Type 0
  NamesNothingIn draft folder before replaces after =
      RefusesDraft draft before replaces after
      ⊎ ((named : List DiskEvent) × NamesDraft draft before replaces named
      × LosesName draft folder named replaces after)

  -- the draft got no name, or lost it: nothing was changed, or its folder was not opened, or it got
  -- none there
  abbrev pub NamesNothing : FolderDraft F → List DiskEvent → Bool → List DiskEvent → Type 0
  NamesNothing draft before replaces after =
      (after ≡ before) ⊎ OpensNoFolder (string_bytes draft.target) before after
      ⊎ ((folder : Option (DiskFolder F)) × (opened : List DiskEvent)
      × OpensFolder (string_bytes draft.target) folder before opened
      × NamesNothingIn draft folder opened replaces after)

  -- all that it was handed is in its file, unless a write or a sync of that failed
  abbrev pub IsWrittenOut : FolderDraft F → Type 0
  IsWrittenOut draft = draft.failure ≡ None → file_bytes draft ≡ bytes_of draft

  -- its file was made at its path, it has these bytes, all that is in it is synced, and no sync of
  -- it failed
  pub record IsWhole (draft : FolderDraft F) (bytes : List ℕ) : Type 0 where
    pub place : made_at (calls_of draft.writer) ≡ Some (string_bytes draft.draft)
    pub whole : file_bytes draft ≡ bytes
    pub done : IsDone draft

  -- a draft of the transfer at this port was made in this folder, for a file at that path, with
  -- nothing in it
  pub record BeginsAt (folder : List ℕ) (port : ℕ) (target : List ℕ) (draft : FolderDraft F)
      (before after : List DiskEvent) : Type 0 where
    pub aim : string_bytes draft.target ≡ target
    pub empty : bytes_of draft ≡ []
    pub made : MakesDraft folder port (string_bytes draft.draft) before after
