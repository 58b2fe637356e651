-- The server that the words of a command line configure, as they were read (own).
use Rattle.std.specs.Prelude.{ℕ, ◌≡◌, ◌≢◌, ◌≤◌, ◌+◌, ◌*◌, ◌/◌, ◌⊎◌, Bool, true, false, max, min}
use Rattle.std.specs.Prelude.{List, [], ◌∷◌, ◌++◌, codes, drop, length, find, if◌then◌else◌}
use Rattle.std.specs.Prelude.{Option, Some, None, option_map}
use Rattle.std.specs.List.{AllByRecursion}
use Rattle.std.specs.Option.{option_map_or}
use Rattle.std.specs.Str.{bytes_eq}
use Rattle.clap.specs.Matches.{matched_of, raw_values}
use Rattle.clap.specs.Walk.{Row, first_of}
use Rattle.clap.specs.declared.parser.matches.Found.{Found}
use Rattle.tftp_ends.specs.declared.backoff.Backoff.{Backoff}
use Rattle.tftp_ends.specs.declared.backoff.Backoff.TheVariants.{Constant, Doubling}
use Rattle.tftp_ends.specs.declared.endpoint.Endpoint.{Endpoint}
use Rattle.tftp_server.specs.declared.config.Config.{Config}
use Rattle.tftp_arguments.specs.Read.{IsNumber, ReadWords, read_in}
use Rattle.tftp_sockets.specs.Address.{Names}
use Rattle.tftp_loop.specs.declared.port_order.PortRange.{PortRange}
use Rattle.tftp_loop.specs.declared.serving.Ending.{Ending}
use Rattle.tftp_daemon.specs.declared.command_line.CommandLine.{CommandLine}
use Rattle.tftp_daemon.specs.declared.command_line.CommandLine.TheVariants.{Run, Exit}
use Rattle.tftp_daemon.specs.declared.daemon.DaemonConfig.{DaemonConfig}
use Rattle.tftp_daemon.specs.declared.daemon.Instance.{Instance}
use Rattle.tftp_daemon.specs.declared.listen.Listen.{Listen}
use Rattle.tftp_daemon.specs.declared.listen.Listen.TheVariants.{At, Handed}

-- a flag is set, by its text: one without a text is not
abbrev pub is_on : Option (List ℕ) → Bool
is_on None = false
is_on (Some text) = bytes_eq text (codes "true")

-- how long a transfer waits after timeouts without progress, as a flag says
abbrev pub backoff_of : Bool → Backoff
backoff_of on = if on then Doubling else Constant

-- the limits of transfers, as they were read
pub record ConfiguresAs (read : ReadWords) (config : Config) : Type 0 where
  pub max_block : IsNumber 16 (read.text (codes "max-block")) (Some config.limits.max_block)
  pub max_file : IsNumber 64 (read.text (codes "max-file")) (Some config.limits.max_file)
  pub retries : IsNumber 8 (read.text (codes "retries")) (Some config.retries)
  pub cap : IsNumber 8 (read.text (codes "cap")) (Some config.cap)
  pub overwrite : config.overwrite ≡ is_on (read.text (codes "overwrite"))

-- when the server ends, as it was read: never, or after so many closed transfers or waits
pub data EndsAs (read : ReadWords) (ending : Ending) : Type 0 where
  Never : is_on (read.text (codes "forever")) ≡ true
      → ending.transfers ≡ 18446744073709551615 → ending.rounds ≡ 18446744073709551615
      → EndsAs read ending
  After : is_on (read.text (codes "forever")) ≡ false
      → IsNumber 32 (read.text (codes "transfers")) (Some ending.transfers)
      → IsNumber 32 (read.text (codes "rounds")) (Some ending.rounds)
      → EndsAs read ending

-- a range of ports that a word names: two numbers with a colon (58) between them
pub record NamesPorts (word : List ℕ) (range : PortRange) : Type 0 where
  pub first : List ℕ
  pub last : List ℕ
  pub is : word ≡ first ++ (58 ∷ last)
  pub from : IsNumber 16 (Some first) (Some range.first)
  pub to : IsNumber 16 (Some last) (Some range.last)
  pub least : 1 ≤ range.first
  pub rising : range.first ≤ range.last

-- the ports of transfers, if a word names them
abbrev pub PortsAs : Option (List ℕ) → Option PortRange → Type 0
PortsAs None ports = ports ≡ None
PortsAs (Some word) None = ⊥
PortsAs (Some word) (Some range) = NamesPorts word range

-- where requests arrive, as a word names it: at standard input, or at an address and a port
abbrev pub NamesListen : List ℕ → Listen → Type 0
NamesListen word (At endpoint) = Names word (Some endpoint)
NamesListen word Handed = word ≡ codes "stdin"

-- all words of an option that may be given again
abbrev pub words_of : Found → List ℕ → List (List ℕ)
words_of found id = option_map_or raw_values (matched_of found id) []

-- the same, in the rows of a parse
abbrev pub words_in : List Row → List ℕ → List (List ℕ)
words_in rows id = option_map_or (λ row. row.values) (find (λ row. bytes_eq row.id id) rows) []

-- the addresses and ports that words name, in their order
abbrev pub NameEndpoints : List (List ℕ) → List Endpoint → Type 0
NameEndpoints [] [] = Unit {0}
NameEndpoints [] (endpoint ∷ endpoints) = ⊥
NameEndpoints (word ∷ words) [] = ⊥
NameEndpoints (word ∷ words) (endpoint ∷ endpoints) =
    Names word (Some endpoint) × NameEndpoints words endpoints

-- the endpoint is none of these
abbrev pub IsApart : Endpoint → List Endpoint → Type 0
IsApart at others = AllByRecursion (λ other. other ≢ at) others

-- no two of these are the same
abbrev pub AllDistinct : List Endpoint → Type 0
AllDistinct [] = Unit {0}
AllDistinct (at ∷ others) = IsApart at others × AllDistinct others

-- no endpoint stands twice, of that where requests arrive and these others
abbrev pub HasApart : Listen → List Endpoint → Type 0
HasApart (At at) others = IsApart at others × AllDistinct others
HasApart Handed others = AllDistinct others

-- the most servers at each of so many addresses, of which there is one at least: 64 in all, but one at
-- each address
abbrev pub most_each : ℕ → ℕ
most_each addresses = max 1 (64 / max 1 addresses)

-- how many servers there are at each of so many addresses, as a word names them where the process has
-- so many processors: by their number, from 1 to 64, or `auto`, for one for each processor, as far as
-- there may be so many
abbrev pub ServersFor : ℕ → ℕ → Option (List ℕ) → ℕ → Type 0
ServersFor processors addresses None servers = ⊥
ServersFor processors addresses (Some word) servers =
    ((word ≡ codes "auto") × (servers ≡ max 1 (min processors (most_each addresses))))
    ⊎ (IsNumber 8 (Some word) (Some servers) × (1 ≤ servers) × (servers ≤ 64))

-- the same, whatever processors the process has: for `auto` there are 1 to 64
abbrev pub ServersAs : Option (List ℕ) → ℕ → Type 0
ServersAs None servers = ⊥
ServersAs (Some word) servers =
    ((word ≡ codes "auto") ⊎ IsNumber 8 (Some word) (Some servers))
    × ((1 ≤ servers) × (servers ≤ 64))

-- how many servers there are, and which this is, as they were read
pub record NamesInstance (read : ReadWords) (instance : Instance) : Type 0 where
  pub servers : ServersAs (read.word (codes "servers")) instance.servers
  pub server : IsNumber 8 (read.text (codes "server")) instance.server

-- how many servers there are: so many at each address
abbrev pub servers_of : DaemonConfig → ℕ
servers_of config = config.instance.servers * (length config.others.items + 1)

-- the configuration is that of several servers, each a process of its own: at one address, or at
-- several
abbrev pub IsOfSeveral : DaemonConfig → Type 0
IsOfSeveral config = (2 ≤ config.instance.servers) ⊎ (config.others.items ≢ [])

-- the configuration has the folder, the address, the ports, the limits, the age, the memory for lengths,
-- the waits, the end, the flags and the number of servers that were read, and which of several it is; and
-- where `--listen` was given again, with these words, the addresses of the words behind the first, none of
-- them twice
pub record NamesServer (read : ReadWords) (listens : List (List ℕ)) (config : DaemonConfig) : Type 0
  where
    pub root : read.word (codes "ROOT") ≡ Some config.root.now
    pub listen : (word : List ℕ) × (read.word (codes "listen") ≡ Some word)
        × NamesListen word config.listen
    pub others : NameEndpoints (drop 1 listens) config.others.items
    pub apart : HasApart config.listen config.others.items
    pub ports : PortsAs (read.word (codes "ports")) config.ports
    pub requests_only : config.requests_only ≡ is_on (read.text (codes "requests-only"))
    pub per_client : IsNumber 8 (read.text (codes "per-client")) config.per_client
    pub limits : ConfiguresAs read config.config
    pub read_only : config.read_only ≡ is_on (read.text (codes "read-only"))
    pub uploads : read.word (codes "uploads") ≡ option_map (λ folder. folder.now) config.uploads
    pub longest : IsNumber 32 (read.text (codes "longest")) config.longest
    pub length_memory : IsNumber 64 (read.text (codes "length-memory")) (Some config.length_memory)
    pub backoff : config.backoff ≡ backoff_of (is_on (read.text (codes "backoff")))
    pub ending : EndsAs read config.ending
    pub drain : read.word (codes "drain") ≡ option_map (λ path. path.now) config.drain
    pub status : read.word (codes "status") ≡ option_map (λ path. path.now) config.status
    pub logs : config.logs ≡ is_on (read.text (codes "log"))
    pub log_times : config.log_times ≡ is_on (read.text (codes "log-time"))
    pub instance : NamesInstance read config.instance

-- so it is by the rows of a parse
abbrev pub NamesInRows : List Row → DaemonConfig → Type 0
NamesInRows rows config = NamesServer (read_in rows) (words_in rows (codes "listen")) config

-- how many servers start at each address is what the rows say, where the process has so many
-- processors
abbrev pub StartsInRows : ℕ → List Row → DaemonConfig → Type 0
StartsInRows processors rows config =
    ServersFor processors (length (words_in rows (codes "listen")))
    (first_of (codes "servers") rows) config.instance.servers

-- what holds of the configuration that a command line has the program serve by
abbrev pub IfRun : CommandLine → (DaemonConfig → Type 0) → Type 0
IfRun (Run config) P = P config
IfRun (Exit status) P = Unit {0}

-- what holds of the status that a command line has the program end with
abbrev pub IfExit : CommandLine → (ℕ → Type 0) → Type 0
IfExit (Run config) P = Unit {0}
IfExit (Exit status) P = P status
