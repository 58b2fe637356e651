-- What the run of a server changes on the disk, by the words of its command line (own).
use Rattle.std.specs.Prelude.{ℕ, ◌≡◌, ⊤, List, [], Some, Ok, All, codes}
use Rattle.std.specs.String.{string_bytes}
use Rattle.tftp_file.specs.Source.{SourceMeaning}
use Rattle.tftp_disk.specs.DiskTrace.{DiskEvent}
use Rattle.tftp_disk.specs.DiskTrace.DiskEvent.{Made, Linked, Renamed, Removed}
use Rattle.tftp_store.specs.Store.{StoreMeaning}
use Rattle.clap.specs.Simple.{matches_of}
use Rattle.tftp_arguments.specs.Read.{read_in}
use Rattle.tftp_loop.specs.Run.{Run}
use Rattle.tftp_loop.specs.Steps.{LoopStep, LoopState}
use Rattle.tftp_folder.specs.Changing.{IsOwn, IsWithin, Limits, limits_of}
use Rattle.tftp_folder.specs.Effects.{changes_of}
use Rattle.tftp_folder.specs.Uploads.{IsBelow, path_below, path_of_folder}
use Rattle.tftp_folder.specs.declared.folder_draft.FolderDraft.{FolderDraft}
use Rattle.tftp_folder.specs.declared.folder_store.FolderStore.{FolderStore}
use Rattle.tftp_daemon.specs.Configured.{IsServerOf}
use Rattle.tftp_daemon.specs.Leaves.{HasOfServer}
use Rattle.tftp_daemon.specs.Words.{WordsConfigure, tftpd_app}
use Rattle.tftp_daemon.specs.declared.daemon.DaemonConfig.{DaemonConfig}

-- the words have the option `--read-only`
abbrev pub AskForReadOnly : List (List ℕ) → Type 0
AskForReadOnly words =
    (read_in (matches_of tftpd_app words)).text (codes "read-only") ≡ Some (codes "true")

-- the words have the option `--uploads` with this folder
abbrev pub AskForUploads : List (List ℕ) → List ℕ → Type 0
AskForUploads words folder =
    (read_in (matches_of tftpd_app words)).word (codes "uploads") ≡ Some folder

-- each file that the call makes, names or removes is in this folder, or in one below it
abbrev pub IsChangeBelow : List ℕ → DiskEvent → Type 0
IsChangeBelow folder (Made path answer) = IsBelow folder path
IsChangeBelow folder (Removed path answer) = IsBelow folder path
IsChangeBelow folder (Linked file from to answer) = IsBelow folder from × IsBelow folder to
IsChangeBelow folder (Renamed file from to answer) = IsBelow folder from × IsBelow folder to
IsChangeBelow folder event = ⊤

-- a draft is one that a store with these limits begins, for a place that it admits
abbrev pub IsOwnDraft : {F : Type 0} → Limits → FolderDraft F → Type 0
IsOwnDraft limits draft = IsOwn limits (string_bytes draft.draft) (string_bytes draft.target)

module _ {D G H W F E : Type 0} (log : D → List DiskEvent)
    (meaning : StoreMeaning (FolderStore D G H W) (FolderDraft E)) (sources : SourceMeaning F) where
  -- a run of a server that a configuration has, over a disk of which nothing was asked before, from
  -- a state to another
  pub record RunsConfig (config : DaemonConfig)
      (first last : LoopState (FolderStore D G H W) F (FolderDraft E)) : Type 0 where
    pub is_server : IsServerOf log [] config first.server
    pub run : Run (LoopStep meaning sources) first last

  -- whatever the words, the server keeps the limits that it began with, which are those of its
  -- configuration (`IsServerOf`): nothing was made, removed or named but its drafts and the places
  -- that clients can name, no path outside its root was passed to the system, and each of its
  -- drafts is one that it may begin. Just before each call that was to give a file a name, the folders
  -- on the way to that, below the root, were looked at, and each was a folder and no link
  abbrev pub RunStaysWithin : Type 0
  RunStaysWithin =
      (config : DaemonConfig) (first last : LoopState (FolderStore D G H W) F (FolderDraft E))
      → RunsConfig config first last
      → HasOfServer (IsWithin log (limits_of first.server.store))
      (IsOwnDraft (limits_of first.server.store)) last.server

  -- with `--read-only` nothing was changed: no file was made, named or removed, and no folder
  -- synced, whatever the answers
  abbrev pub ReadOnlyRunChangesNothing : Type 0
  ReadOnlyRunChangesNothing =
      (words : List (List ℕ)) (config : DaemonConfig)
      (first last : LoopState (FolderStore D G H W) F (FolderDraft E))
      → WordsConfigure words config → AskForReadOnly words → RunsConfig config first last
      → changes_of log last.server.store ≡ []

  -- with `--uploads FOLDER` each file that was made, named or removed is in that folder of the
  -- root, or below it
  abbrev pub UploadsRunChangesBelow : Type 0
  UploadsRunChangesBelow =
      (words : List (List ℕ)) (config : DaemonConfig) (folder path : List ℕ)
      (first last : LoopState (FolderStore D G H W) F (FolderDraft E))
      → WordsConfigure words config → AskForUploads words folder → path_of_folder folder ≡ Ok path
      → RunsConfig config first last
      → All (IsChangeBelow (path_below (string_bytes first.server.store.folder.root) path))
      (changes_of log last.server.store)
