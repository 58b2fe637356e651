-- The configuration that the words of a command line name (own).
use Rattle.std.specs.Prelude.{ℕ, true, List, [], ◌∷◌, codes, Some}
use Rattle.std.specs.Fmt.{decimal}
use Rattle.clap.specs.Simple.{App, matches_of, new_app, new_rule, on_top, with_rule}
use Rattle.clap.specs.Walk.{Rule}
use Rattle.clap.specs.declared.builder.action.ArgAction.TheVariants.{Append}
use Rattle.clap.specs.declared.builder.value_parser.ValueParser.TheVariants as parsers
use Rattle.tftp_server.specs.Config.{default_config}
use Rattle.tftp_arguments.specs.Rules.{by_default, flag_rule, number_rule, within}
use Rattle.tftp_arguments.specs.Rules.{with_rules, word_rule}
use Rattle.tftp_daemon.specs.CommandLine.{StartsInRows}
use Rattle.tftp_daemon.specs.Refused.{Configures}
use Rattle.tftp_daemon.specs.declared.daemon.DaemonConfig.{DaemonConfig}

-- ---- the command line
-- an option with a word
abbrev pub option_rule : List ℕ → Rule
option_rule id = record (new_rule id) { long = Some id; value_names = 1 }

-- any number below 2^64
abbrev pub any_number : List ℕ → Rule
any_number id = number_rule id (parsers.Unsigned 0 18446744073709551615)

-- an option with a word, which may be given again
abbrev pub repeated : Rule → Rule
repeated rule = record rule { action = Some Append }

-- the folder, the address of the request port, what is handled there, and the ports of transfers
abbrev pub folder_and_ports : List Rule
folder_and_ports =
    word_rule (codes "ROOT")
    ∷ repeated (by_default (codes "127.0.0.1:6969") (option_rule (codes "listen")))
    ∷ flag_rule (codes "requests-only")
    ∷ option_rule (codes "ports")
    ∷ []

-- the limits of transfers
-- (RFC 2348, "Blocksize Option Specification", for the block size; the rest is our choice)
abbrev pub limits : List Rule
limits =
    by_default (decimal default_config.limits.max_block) (within (codes "max-block") 8 65464)
    ∷ by_default (decimal default_config.limits.max_file) (any_number (codes "max-file"))
    ∷ by_default (decimal default_config.retries) (within (codes "retries") 0 10)
    ∷ flag_rule (codes "backoff")
    ∷ by_default (decimal default_config.cap) (within (codes "cap") 1 64)
    ∷ within (codes "per-client") 1 64
    ∷ within (codes "longest") 1 4294967295
    ∷ by_default (codes "12582912") (any_number (codes "length-memory"))
    ∷ []

-- the options of writes, and the end of the server
abbrev pub writes_and_ending : List Rule
writes_and_ending =
    flag_rule (codes "overwrite")
    ∷ flag_rule (codes "read-only")
    ∷ option_rule (codes "uploads")
    ∷ by_default (codes "1") (within (codes "transfers") 1 4294967295)
    ∷ by_default (codes "1000000") (within (codes "rounds") 1 4294967295)
    ∷ flag_rule (codes "forever")
    ∷ option_rule (codes "drain")
    ∷ []

-- the number of servers, which of them it is, what is logged, and what is counted
abbrev pub servers_and_log : List Rule
servers_and_log =
    by_default (codes "1") (option_rule (codes "servers"))
    ∷ within (codes "server") 1 64
    ∷ flag_rule (codes "log")
    ∷ flag_rule (codes "log-time")
    ∷ option_rule (codes "status")
    ∷ []

-- `tftpd` without arguments
abbrev pub bare_app : App
bare_app = on_top (λ top. record top { has_version = true }) (new_app (codes "tftpd"))

-- `tftpd`
abbrev pub tftpd_app : App
tftpd_app =
    with_rules
    (with_rules (with_rules (with_rules bare_app folder_and_ports) limits) writes_and_ending)
    servers_and_log

-- ---- the configuration
-- the words name this configuration, and are not refused
abbrev pub WordsConfigure : List (List ℕ) → DaemonConfig → Type 0
WordsConfigure words config = Configures (matches_of tftpd_app words) config

-- how many servers start at each address is what the words ask for, where the process has so many
-- processors
abbrev pub StartsFor : ℕ → List (List ℕ) → DaemonConfig → Type 0
StartsFor processors words config = StartsInRows processors (matches_of tftpd_app words) config
