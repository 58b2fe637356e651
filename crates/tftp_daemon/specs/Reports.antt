-- The file of a server's counts, as its configuration names it (own).
use Rattle.std.specs.Prelude.{ℕ, ◌≡◌, ◌≢◌, ◌==◌, if◌then◌else◌, length, List, [], ◌∷◌, codes}
use Rattle.std.specs.Prelude.{Option, Some, None, Ok, Err, IfSome, option_map}
use Rattle.std.specs.Path.{PathStartsWith, path_parent}
use Rattle.std.specs.String.{string_bytes}
use Rattle.std.specs.declared.io.Error.{Error}
use Rattle.tftp_arguments.specs.declared.arguments.TheConstants.{VERSION}
use Rattle.tftp_ends.specs.declared.endpoint.Endpoint.{Endpoint}
use Rattle.tftp_disk.specs.DiskTrace.{DiskEvent}
use Rattle.tftp_disk.specs.DiskTrace.DiskEvent.{Followed, Resolved}
use Rattle.tftp_disk.specs.declared.found.Found.{Found}
use Rattle.tftp_status.specs.FileName.{IsFileOf}
use Rattle.tftp_status.specs.StatusFile.{KeepsCounts, Status, draft_of}
use Rattle.tftp_status.specs.declared.server_facts.ServerFacts.{ServerFacts}
use Rattle.tftp_daemon.specs.Refused.{name_in}
use Rattle.tftp_daemon.specs.declared.daemon.DaemonConfig.{DaemonConfig}

-- a folder, which is this one if its path is empty
abbrev pub or_here : List ℕ → List ℕ
or_here folder = if (length folder == 0) then codes "." else folder

-- the folder of a path, if it has one
abbrev pub folder_in : Option (List ℕ) → List ℕ
folder_in None = codes "."
folder_in (Some folder) = or_here folder

-- the folder of a file
abbrev pub folder_of : List ℕ → List ℕ
folder_of file = folder_in (path_parent file)

-- the system led the folder neither to the root nor below it, or one of both nowhere
pub data LooksOutside (root folder : List ℕ) (before after : List DiskEvent) : Type 0 where
  No_root : (error : Error) → after ≡ Resolved root (Err error) ∷ before
      → LooksOutside root folder before after
  No_folder : (found : List ℕ) (error : Error)
      → after ≡ Resolved folder (Err error) ∷ Resolved root (Ok found) ∷ before
      → LooksOutside root folder before after
  Apart : (found place : List ℕ)
      → after ≡ Resolved folder (Ok place) ∷ Resolved root (Ok found) ∷ before
      → ¬ (PathStartsWith place found) → LooksOutside root folder before after

-- the file of a server alone is the one that is named, and that of one of several has its number
abbrev pub IsOwnFile : List ℕ → Option ℕ → List ℕ → Type 0
IsOwnFile file None own = own ≡ file
IsOwnFile file (Some server) own = IsFileOf file server own

-- the file of `--drain` has another name than the status file and its temporary file
abbrev pub IsNamedApart : List ℕ → List ℕ → Type 0
IsNamedApart drain own = (name_in drain ≢ name_in own) × (name_in drain ≢ name_in (draft_of own))

-- the system led the folder of the status file and that of the file of `--drain` to two folders, or one
-- of both nowhere, or these files have different names
pub data LooksApartFrom (drain own : List ℕ) (before after : List DiskEvent) : Type 0 where
  No_place : (error : Error) → after ≡ Resolved (folder_of own) (Err error) ∷ before
      → LooksApartFrom drain own before after
  No_drain : (place : List ℕ) (error : Error)
      → after ≡ Resolved (folder_of drain) (Err error)
      ∷ Resolved (folder_of own) (Ok place) ∷ before
      → LooksApartFrom drain own before after
  Two : (place other : List ℕ)
      → after ≡ Resolved (folder_of drain) (Ok other)
      ∷ Resolved (folder_of own) (Ok place) ∷ before
      → (place ≡ other → IsNamedApart drain own) → LooksApartFrom drain own before after

-- so it is of the file that is a server's own
pub record LooksApart (server : Option ℕ) (drain file : List ℕ) (before after : List DiskEvent)
    : Type 0 where
  pub own : List ℕ
  pub is_own : IsOwnFile file server own
  pub looks : LooksApartFrom drain own before after

-- a view of the disk was made, and asked so
abbrev pub HasLooked : {V : Type 0} → (V → List DiskEvent)
    → (List DiskEvent → List DiskEvent → Type 0) → Type 0
HasLooked {V} log Looks = (view : V) × Looks [] (log view)

-- the signal to drain was given by a view whose newest look found the file at this path
abbrev pub IsGivenBy : {V : Type 0} → (V → List DiskEvent) → Option (List ℕ) → Type 0
IsGivenBy {V} log None = ⊥
IsGivenBy {V} log (Some path) =
    (view : V) × (found : Found) × (before : List DiskEvent)
    × (log view ≡ Followed path (Ok found) ∷ before)

-- a server of the configuration reports at this path: the one that it names, and neither that nor its
-- temporary file is the file that has the server drain
pub record ReportsAt (config : DaemonConfig) (own : List ℕ) : Type 0 where
  pub named : List ℕ
  pub is_named : option_map (λ file. file.now) config.status ≡ Some named
  pub is_own : IsOwnFile named config.instance.server own
  pub drains : IfSome config.drain (λ path. (path.now ≢ own) × (path.now ≢ draft_of own))

-- what a status file says of a server of the configuration: its address, which of several it is, the
-- program's version, and how many transfers may be open
pub record AreFactsOf (config : DaemonConfig) (at : Endpoint) (server : ServerFacts) : Type 0 where
  pub labels_are : server.labels ≡ record { address = at; server = config.instance.server }
  pub version_is : string_bytes server.version ≡ VERSION.now
  pub limit_is : server.limit ≡ config.config.cap

-- the status file is that of the configuration: at the path that it names, as a new one is, and it
-- keeps its counts
pub record IsReportOf (config : DaemonConfig) (status : Status) : Type 0 where
  pub named : List ℕ
  pub is_named : option_map (λ file. file.now) config.status ≡ Some named
  pub own : List ℕ
  pub is_own : IsOwnFile named config.instance.server own
  pub is_at : status.file ≡ own
  pub drains : IfSome config.drain (λ path. (path.now ≢ own) × (path.now ≢ draft_of own))
  pub keeps : KeepsCounts status
