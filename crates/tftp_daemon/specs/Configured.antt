-- What the program did for the words of a command line (own).
use Rattle.std.specs.Prelude.{ℕ, ◌≡◌, ◌≢◌, ◌≤◌, ◌⊎◌, List, [], Option, Some, None, Result, Ok, Err}
use Rattle.std.specs.Prelude.{option_map, is_some}
use Rattle.std.specs.String.{string_bytes}
use Rattle.tftp_ends.specs.declared.endpoint.Endpoint.{Endpoint}
use Rattle.tftp_file.specs.Source.{SourceMeaning}
use Rattle.tftp_store.specs.Store.{StoreMeaning}
use Rattle.tftp_server.specs.Config.{IsConfig}
use Rattle.tftp_server.specs.State.{ServerState}
use Rattle.tftp_sockets.specs.Trace.{SocketEvent}
use Rattle.tftp_loop.specs.WholeRun.{RunsServer}
use Rattle.tftp_loop.specs.declared.serving.LoopConfig.{LoopConfig}
use Rattle.tftp_loop.specs.declared.serving.LoopFault.{LoopFault}
use Rattle.tftp_arguments.specs.Fault.{AskForText}
pub use Rattle.tftp_daemon.specs.CommandLine.{IsOfSeveral, servers_of}
use Rattle.tftp_daemon.specs.Words.{WordsConfigure, tftpd_app}
use Rattle.tftp_daemon.specs.declared.daemon.DaemonConfig.{DaemonConfig}
use Rattle.tftp_daemon.specs.declared.listen.Listen.{Listen}
use Rattle.tftp_daemon.specs.declared.listen.Listen.TheVariants.{At, Handed}
use Rattle.tftp_service.specs.declared.line_stamp.LineStamp.{LineStamp}
use Rattle.tftp_folder.specs.Counted.{lengths_in}
use Rattle.tftp_folder.specs.Effects.{changes_of}
use Rattle.tftp_disk.specs.Changes.{changes}
use Rattle.tftp_disk.specs.DiskTrace.{DiskEvent}
use Rattle.tftp_folder.specs.Inside.{StaysInside}
use Rattle.tftp_folder.specs.Opened.{IsRootOf}
use Rattle.tftp_folder.specs.Uploads.{path_below, path_of_folder}
use Rattle.tftp_folder.specs.declared.folder_store.FolderStore.{FolderStore}

-- the status of the program: 0, or 2 for a fault
abbrev pub daemon_status : {A E : Type 0} → Result A E → ℕ
daemon_status (Ok done) = 0
daemon_status (Err fault) = 2

-- the request port is where the words say: at their address and port, or at the socket that was
-- handed over, which has a port
abbrev pub ListensAt : Listen → Endpoint → Type 0
ListensAt (At endpoint) at = at ≡ endpoint
ListensAt Handed at = at.port ≢ 0

-- the configuration of the loop, with the request port there
abbrev pub service_at : DaemonConfig → Endpoint → LoopConfig
service_at config at = record {
  listen = at;
  ports = config.ports;
  ending = config.ending;
  longest = config.longest;
  backoff = config.backoff;
  requests_only = config.requests_only;
  per_client = config.per_client;
  drains = is_some config.drain;
  logs = config.logs;
  has_priority = config.has_priority;
}

-- what stands before the words of a line: which of several servers it is of, and its time
abbrev pub stamp_of : DaemonConfig → LineStamp
stamp_of config = record {
  server = config.instance.server;
  has_time = config.log_times;
}

-- the words ask for several servers
abbrev pub AskForSeveral : List (List ℕ) → Type 0
AskForSeveral words = (config : DaemonConfig) × WordsConfigure words config × IsOfSeveral config

-- the folder that takes all writes is the one that is named, if one is
abbrev pub IsUploads : Option (List ℕ) → Option (List ℕ) → Type 0
IsUploads None uploads = uploads ≡ None
IsUploads (Some folder) uploads =
    (path : List ℕ) × (path_of_folder folder ≡ Ok path) × (uploads ≡ Some path)

-- the folder of drafts: the one that takes all writes, if there is one, else the root
abbrev pub drafts_in : List ℕ → Option (List ℕ) → List ℕ
drafts_in root None = root
drafts_in root (Some folder) = path_below root folder

module _ {B G H W F D : Type 0} (meaning : StoreMeaning (FolderStore B G H W) D)
    (sources : SourceMeaning F) where
  -- a server ran over UDP, from one history to the other, and its result has this status
  pub record RunsService (service : LoopConfig) (server : ServerState (FolderStore B G H W) F D)
      (status : ℕ) (before after : List SocketEvent) : Type 0 where
    pub result : Result (Unit {0}) LoopFault
    pub is_status : status ≡ daemon_status result
    pub serves : RunsServer meaning sources service server result before after

module _ {B G H W F D : Type 0} (log : B → List DiskEvent) (start : List DiskEvent) where
  -- the server of a configuration, which is valid, without transfers: its limits, and a store over
  -- its folder, to which the system led the word ROOT by the first calls that it was asked for
  -- since this history of the disk. The store refuses writes, or takes them below one folder alone,
  -- as it says, has its drafts there, has changed nothing on the disk, and has passed no path
  -- outside its root to the system. It remembers as many lengths as the memory for them has room for
  pub record IsServerOf (config : DaemonConfig) (server : ServerState (FolderStore B G H W) F D)
      : Type 0 where
    pub valid : IsConfig config.config
    pub limits : server.config ≡ config.config
    pub empty : server.held ≡ []
    pub root : IsRootOf config.root.now (string_bytes server.store.folder.root) start
        (log server.store.disk)
    pub read_only : server.store.is_read_only ≡ config.read_only
    pub uploads : IsUploads (option_map (λ folder. folder.now) config.uploads) server.store.uploads
    pub drafts : string_bytes server.store.folder.drafts
        ≡ drafts_in (string_bytes server.store.folder.root) server.store.uploads
    pub unchanged : changes_of log server.store ≡ changes start
    pub inside : StaysInside (string_bytes server.store.folder.root) start (log server.store.disk)
    pub lengths : server.store.lengths.most ≡ lengths_in config.length_memory

  module _ (meaning : StoreMeaning (FolderStore B G H W) D) (sources : SourceMeaning F) where
    -- a server of the configuration ran
    pub record ServesConfig (config : DaemonConfig) (status : ℕ) (before after : List SocketEvent)
        : Type 0 where
      pub alone : config.instance.servers ≤ 1
      pub at_one_address : config.others.items ≡ []
      pub at : Endpoint
      pub listens : ListensAt config.listen at
      pub server : ServerState (FolderStore B G H W) F D
      pub is_server : IsServerOf config server
      pub runs : RunsService meaning sources (service_at config at) server status before after

    -- nothing was done over UDP, as without the folder, with a status of 2, or with another by the
    -- supervisor of several servers; or a server of the configuration ran
    abbrev pub MayServe : DaemonConfig → ℕ → List SocketEvent → List SocketEvent → Type 0
    MayServe config status before after =
        ((after ≡ before) × ((status ≡ 2) ⊎ IsOfSeveral config))
        ⊎ ServesConfig config status before after

    -- nothing was done over UDP, with a status of 0 only if the arguments ask for the help, the
    -- version or several servers; or a server ran with the configuration that they name, whatever
    -- the status
    abbrev pub ServesWords : List (List ℕ) → ℕ → List SocketEvent → List SocketEvent → Type 0
    ServesWords words status before after =
        ((after ≡ before) × (status ≡ 0 → AskForText tftpd_app words ⊎ AskForSeveral words))
        ⊎ ((config : DaemonConfig) × WordsConfigure words config
        × ServesConfig config status before after)
