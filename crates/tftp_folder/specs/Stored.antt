-- A file that was put into a folder, by the calls of the system on it (ours).
use Rattle.std.specs.Prelude.{ℕ, ◌≡◌, Bool, true, false, List, ◌∷◌, Some, None, Ok}
use Rattle.tftp_disk.specs.Changes.{changes}
use Rattle.tftp_disk.specs.DiskTrace.{DiskEvent, Done, FileState}
use Rattle.tftp_disk.specs.DiskTrace.DiskEvent.{Folder_opened}
use Rattle.tftp_disk.specs.Folder.{IsFolderOf}
use Rattle.tftp_disk.specs.NamedFolder.{SyncsAfter}
use Rattle.tftp_disk.specs.Still.{IsStillAt}
use Rattle.tftp_store.specs.Drafts.{TakesInTurn}
use Rattle.tftp_store.specs.Store.{StoreMeaning}
use Rattle.tftp_folder.specs.Changing.{limits_of, IsOwn, Limits}
use Rattle.tftp_folder.specs.Commit.{ClearsDraft, LooksThenRenames, Names, is_linked}
use Rattle.tftp_folder.specs.Modes.{are_permissions}
use Rattle.tftp_folder.specs.Placed.{StaysThere}
use Rattle.tftp_folder.specs.Uploads.{path_below}
use Rattle.tftp_folder.specs.declared.folder_draft.FolderDraft.{FolderDraft}
use Rattle.tftp_folder.specs.declared.folder_store.FolderStore.{FolderStore}

-- these changes gave the file of a draft its name: its folder was opened before, and synced after
-- that, unless its file system syncs none or the user may not read it. A draft that got its name by
-- a link lost its own path only then
pub record IsNamedBy (file : FileState) (draft target : List ℕ) (before : List DiskEvent)
    (replaces : Bool) (after : List DiskEvent) : Type 0 where
  pub folder : List ℕ
  pub is_folder : IsFolderOf target folder
  pub answer : Done
  pub named : List DiskEvent
  pub gives : Names file draft target (Folder_opened folder answer ∷ before) replaces named
  pub last : List DiskEvent
  pub synced : SyncsAfter target named last
  pub cleared : ClearsDraft (is_linked named) draft last after

-- a file was made at a path of the drafts, and just these bytes were written to it, in order and
-- each once; a sync succeeded after the last write, and none failed; it was given no other mode
-- than the permissions of a file; then it got the name of this path in the root, by a call that
-- replaces no file, unless it may, and then just after a look at that file. If it was still at the
-- path of the draft before, it was when it got the name. `before` and `after` are the store's calls
pub record IsStoredAt (limits : Limits) (path bytes : List ℕ) (replaces : Bool)
    (before after : List DiskEvent) : Type 0 where
  pub draft : List ℕ
  pub own : IsOwn limits draft (path_below limits.root path)
  pub file : FileState
  pub place : file.made_at ≡ Some draft
  pub content : file.written ≡ bytes
  pub synced : file.is_synced ≡ true
  pub sound : file.sync_failed ≡ false
  pub modes : are_permissions file.modes ≡ true
  pub named : IsNamedBy file draft (path_below limits.root path) (changes before) replaces
      (changes after)
  pub over : LooksThenRenames replaces (path_below limits.root path) before after
  pub there : IsStillAt draft file.made_when before → StaysThere before after

module _ {D G H K F : Type 0} (log : D → List DiskEvent) where
  -- a draft that the store began for a path, that then took these bytes, call by call, and whose
  -- commit succeeded, is stored at that path
  abbrev pub StoresWhatItTook : StoreMeaning (FolderStore D G H K) (FolderDraft F) → Type 0
  StoresWhatItTook stores =
      (path bytes : List ℕ) (replace replaces : Bool)
      (before begun committing after : FolderStore D G H K) (first draft left : FolderDraft F)
      → stores.begun path replace before begun (Ok first)
      → TakesInTurn stores first bytes draft
      → stores.after_commit committing path draft replaces after left None
      → IsStoredAt (limits_of before) path bytes replaces (log committing.disk)
      (log after.disk)
