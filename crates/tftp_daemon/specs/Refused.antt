-- What a command line is refused for beside what `clap` refuses: options that exclude or need one
-- another, and a file of `--status` that may not be. A configuration that runs has neither (own).
use Rattle.std.specs.Prelude.{ℕ, ◌≡◌, ◌≢◌, ◌+◌, ◌-◌, ◌*◌, ◌≤◌, ◌==◌, ◌&&◌, ◌⊎◌}
use Rattle.std.specs.Prelude.{Bool, true, false, not, if◌then◌else◌, List, [], ◌∷◌, codes, length}
use Rattle.std.specs.Prelude.{Option, Some, None, IfSome, IsSome, IsSomeAnd}
use Rattle.std.specs.Prelude.{find, option_and_then, option_map, unwrap_or}
use Rattle.std.specs.List.{list_any}
use Rattle.std.specs.Option.{option_map_or}
use Rattle.std.specs.Path.{PathStartsWith, cur_dir, has_no_slash, parent_dir}
use Rattle.std.specs.Str.{bytes_eq}
use Rattle.clap.specs.Matches.{first_value, matched_of, one_text}
use Rattle.clap.specs.Walk.{Row, one_of}
use Rattle.clap.specs.declared.parser.matches.Found.{Found}
use Rattle.clap.specs.declared.parser.matches.ValueSource.{ValueSource}
use Rattle.clap.specs.declared.parser.matches.ValueSource.TheVariants.{DefaultValue, CommandLine}
use Rattle.tftp_ends.specs.declared.endpoint.Endpoint.{Endpoint}
use Rattle.tftp_loop.specs.declared.port_order.PortRange.{PortRange}
use Rattle.tftp_loop.specs.declared.serving.Ending.{Ending}
use Rattle.tftp_status.specs.StatusFile.{draft_of}
use Rattle.tftp_daemon.specs.CommandLine.{IsOfSeveral, NamesInRows, is_on, servers_of, words_of}
use Rattle.tftp_daemon.specs.declared.daemon.DaemonConfig.{DaemonConfig}
use Rattle.tftp_daemon.specs.declared.listen.Listen.TheVariants.{At, Handed}
use Rattle.tftp_daemon.specs.declared.refused.NoStatus.{NoStatus}
use Rattle.tftp_daemon.specs.declared.refused.NoStatus.TheVariants.{Name, Drain, InRoot}

-- ---- the file of `--status`
-- what is behind the last slash of a path, or all of a path without one
abbrev pub name_in : List ℕ → List ℕ
name_in [] = []
name_in (byte ∷ path) = if has_no_slash (byte ∷ path) then byte ∷ path else name_in path

-- a part of a path may be the name of a file: it is neither nothing, `.` nor `..`
abbrev pub is_name : List ℕ → Bool
is_name name =
    not (length name == 0) && (not (bytes_eq name cur_dir) && not (bytes_eq name parent_dir))

-- a path has the name of a file behind its last slash
abbrev pub names_file : List ℕ → Bool
names_file path = is_name (name_in path)

-- this may be the path of the status file, beside the file of `--drain` and the root: it names a
-- file; neither it nor its temporary file is that of `--drain`; and by its words it is neither the
-- root nor below it
pub record IsStatusApart (drain : Option (List ℕ)) (root file : List ℕ) : Type 0 where
  pub named : names_file file ≡ true
  pub drains : IfSome drain (λ path. (path ≢ file) × (path ≢ draft_of file))
  pub outside : ¬ (PathStartsWith file root)

-- the opposite: the fault of a path that may not be that
abbrev pub HasFault : Option (List ℕ) → List ℕ → List ℕ → NoStatus → Type 0
HasFault drain root file Name = names_file file ≡ false
HasFault drain root file Drain = IsSomeAnd drain (λ path. (path ≡ file) ⊎ (path ≡ draft_of file))
HasFault drain root file InRoot = PathStartsWith file root

-- a path is judged so, if one is named: it has this fault, or it may be that of the status file
abbrev pub JudgesStatus : Option (List ℕ) → Option (List ℕ) → List ℕ → Option NoStatus → Type 0
JudgesStatus None drain root None = Unit {0}
JudgesStatus None drain root (Some fault) = ⊥
JudgesStatus (Some file) drain root None = IsStatusApart drain root file
JudgesStatus (Some file) drain root (Some fault) = HasFault drain root file fault

-- the status file of a configuration, if it has one, may be that
abbrev pub StatusApart : DaemonConfig → Type 0
StatusApart config =
    IfSome config.status
    (λ file. IsStatusApart (option_map (λ path. path.now) config.drain) config.root.now file.now)

-- ---- options that stand together
-- a value is from the words of a command line, and no default
abbrev pub is_from_words : ValueSource → Bool
is_from_words DefaultValue = false
is_from_words CommandLine = true

-- so it is of an option, which has its values from there
abbrev pub is_given : Option ValueSource → Bool
is_given source = option_map_or is_from_words source false

-- where an option has its values from
abbrev pub source_of : Found → List ℕ → Option ValueSource
source_of found id = option_and_then (λ matched. matched.source) (matched_of found id)

-- the same, in the rows of a parse
abbrev pub source_in : List Row → List ℕ → Option ValueSource
source_in rows id = option_and_then (λ row. row.source) (find (λ row. bytes_eq row.id id) rows)

-- the word ROOT, which each command line has
abbrev pub root_of : Found → List ℕ
root_of found = unwrap_or (first_value found (codes "ROOT")) []

-- beside `--forever` stands neither `--transfers` nor `--rounds`
pub record EndsTogether (found : Found) : Type 0 where
  pub transfers : is_on (one_text found (codes "forever")) ≡ true
      → is_given (source_of found (codes "transfers")) ≡ false
  pub rounds : is_on (one_text found (codes "forever")) ≡ true
      → is_given (source_of found (codes "rounds")) ≡ false

-- beside `--read-only` stands no `--uploads`
pub record WritesTogether (found : Found) : Type 0 where
  pub uploads : is_on (one_text found (codes "read-only")) ≡ true
      → first_value found (codes "uploads") ≡ None

-- beside `--log-time` stands `--log`
pub record LogsTogether (found : Found) : Type 0 where
  pub log : is_on (one_text found (codes "log-time")) ≡ true
      → is_on (one_text found (codes "log")) ≡ true

-- of several addresses none is `stdin`, there are at most 64 servers, and `--forever` stands beside
-- them
pub record AddressesTogether (found : Found) (each : ℕ) : Type 0 where
  pub bound : 2 ≤ length (words_of found (codes "listen"))
      → list_any (λ word. bytes_eq word (codes "stdin")) (words_of found (codes "listen")) ≡ false
  pub most : 2 ≤ length (words_of found (codes "listen"))
      → each * length (words_of found (codes "listen")) ≤ 64
  pub forever : 2 ≤ length (words_of found (codes "listen"))
      → is_on (one_text found (codes "forever")) ≡ true

-- beside several servers at each address stands no `--server`, but `--forever`
pub record ManyTogether (found : Found) (each : ℕ) : Type 0 where
  pub server : 2 ≤ each → first_value found (codes "server") ≡ None
  pub forever : 2 ≤ each → is_on (one_text found (codes "forever")) ≡ true

-- beside `--server` stands `--listen stdin`
pub record OneTogether (found : Found) : Type 0 where
  pub listen : IsSome (first_value found (codes "server"))
      → first_value found (codes "listen") ≡ Some (codes "stdin")

-- the options for several servers stand together
pub record ServersTogether (found : Found) (each : ℕ) : Type 0 where
  pub addresses : AddressesTogether found each
  pub many : ManyTogether found each
  pub one : OneTogether found

-- all options do, where so many servers start at each address
pub record StandTogether (found : Found) (each : ℕ) : Type 0 where
  pub ends : EndsTogether found
  pub writes : WritesTogether found
  pub logs : LogsTogether found
  pub servers : ServersTogether found each

-- a range of ports, if there is one, has a port for each of so many servers
abbrev pub HasPortsFor : ℕ → Option PortRange → Type 0
HasPortsFor servers ports = IfSome ports (λ range. servers ≤ (range.last - range.first) + 1)

-- the server ends by no count of transfers or waits
pub record IsNever (ending : Ending) : Type 0 where
  pub transfers : ending.transfers ≡ 18446744073709551615
  pub rounds : ending.rounds ≡ 18446744073709551615

-- the options of a configuration stand together, by the rows of its words: `--forever` with no
-- count of transfers or waits, a server that refuses writes with no folder of uploads, and times in
-- the log with a log. There are at most 64 servers, and a port for each, if ports are named.
-- Several end by no count, and have no number; if they are at several addresses, `stdin` is none of
-- these. One with a number has its requests at standard input
pub record AreTogether (rows : List Row) (config : DaemonConfig) : Type 0 where
  pub transfers : is_on (one_of (codes "forever") rows) ≡ true
      → is_given (source_in rows (codes "transfers")) ≡ false
  pub rounds : is_on (one_of (codes "forever") rows) ≡ true
      → is_given (source_in rows (codes "rounds")) ≡ false
  pub uploads : config.read_only ≡ true → config.uploads ≡ None
  pub log : config.log_times ≡ true → config.logs ≡ true
  pub most : servers_of config ≤ 64
  pub ports : HasPortsFor (servers_of config) config.ports
  pub forever : IsOfSeveral config → IsNever config.ending
  pub alone : IsOfSeveral config → config.instance.server ≡ None
  pub bound : config.others.items ≢ [] → (at : Endpoint) × (config.listen ≡ At at)
  pub handed : IsSome config.instance.server → config.listen ≡ Handed

-- the words of these rows name the configuration, and they are not refused
pub record Configures (rows : List Row) (config : DaemonConfig) : Type 0 where
  pub named : NamesInRows rows config
  pub status : StatusApart config
  pub together : AreTogether rows config
