-- The servers that a command line with several of them starts (own).
use Rattle.std.specs.Prelude.{ℕ, ◌≡◌, ◌+◌, ◌-◌, ◌*◌, ◌/◌, List, [], Option, Some, None, option_map}
use Rattle.tftp_loop.specs.declared.port_order.PortRange.{PortRange}
use Rattle.tftp_daemon.specs.Configured.{servers_of}
use Rattle.tftp_daemon.specs.Words.{WordsConfigure}
use Rattle.tftp_daemon.specs.declared.daemon.DaemonConfig.{DaemonConfig}
use Rattle.tftp_daemon.specs.declared.listen.Listen.TheVariants.{Handed}

-- the first port behind the parts of so many servers: the range is divided evenly
abbrev pub start_of : PortRange → ℕ → ℕ → ℕ
start_of range servers before =
    range.first + ((((range.last - range.first) + 1) * before) / servers)

-- the part of a server, counted from 1: it begins behind that of the one before it, and ends before
-- that of the next
pub record IsPart (range : PortRange) (servers server : ℕ) (part : PortRange) : Type 0 where
  pub first : part.first ≡ start_of range servers (server - 1)
  pub last : part.last + 1 ≡ start_of range servers server

-- the ports of a server: none if the system chooses, else its part
abbrev pub PartOf : Option PortRange → ℕ → ℕ → Option PortRange → Type 0
PartOf None servers server own = own ≡ None
PartOf (Some range) servers server None = ⊥
PartOf (Some range) servers server (Some own) = IsPart range servers server own

-- the configuration of one of the servers of a configuration: it is alone in its process, its
-- requests arrive at standard input alone, it has its part of the ports, and all else is the same
pub record IsServer (config : DaemonConfig) (server : ℕ) (own : DaemonConfig) : Type 0 where
  pub root : own.root.now ≡ config.root.now
  pub listen : own.listen ≡ Handed
  pub others : own.others.items ≡ []
  pub servers : own.instance.servers ≡ 1
  pub number : own.instance.server ≡ Some server
  pub limits : own.config ≡ config.config
  pub requests_only : own.requests_only ≡ config.requests_only
  pub per_client : own.per_client ≡ config.per_client
  pub read_only : own.read_only ≡ config.read_only
  pub uploads : option_map (λ folder. folder.now) own.uploads
      ≡ option_map (λ folder. folder.now) config.uploads
  pub ports : PartOf config.ports (servers_of config) server own.ports
  pub transfers : own.ending.transfers ≡ config.ending.transfers
  pub rounds : own.ending.rounds ≡ config.ending.rounds
  pub longest : own.longest ≡ config.longest
  pub length_memory : own.length_memory ≡ config.length_memory
  pub backoff : own.backoff ≡ config.backoff
  pub drain : option_map (λ path. path.now) own.drain
      ≡ option_map (λ path. path.now) config.drain
  pub status : option_map (λ path. path.now) own.status
      ≡ option_map (λ path. path.now) config.status
  pub logs : own.logs ≡ config.logs
  pub log_times : own.log_times ≡ config.log_times

-- the words name the configuration of a server of this one
pub record NamesServerOf (config : DaemonConfig) (server : ℕ) (words : List (List ℕ)) : Type 0 where
  pub own : DaemonConfig
  pub named : WordsConfigure words own
  pub is_server : IsServer config server own
