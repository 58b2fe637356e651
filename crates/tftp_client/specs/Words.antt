-- The job that the words of a command line name (own).
use Rattle.std.specs.Prelude.{ℕ, true, List, [], ◌∷◌, codes, Option, Some, None}
use Rattle.clap.specs.Simple.{App, new_app, subcommand_of, with_rule, with_subcommand}
use Rattle.clap.specs.Walk.{Row, Rule}
use Rattle.tftp_arguments.specs.Read.{read_in}
use Rattle.tftp_arguments.specs.Rules.{by_default, flag_rule, within, with_rules, word_rule}
use Rattle.tftp_client.specs.declared.transfer.Job.{Job}
use Rattle.tftp_client.specs.CommandLine.{NamesJob, kind_named}

-- ---- the command line
-- the options of a transfer; those from `blksize` to `tsize` are requested from the server
-- (RFC 2348, "Blocksize Option Specification"; RFC 2349)
abbrev pub option_rules : List Rule
option_rules =
    flag_rule (codes "netascii")
    ∷ record (within (codes "blksize") 8 65464) { short = Some 98 }
    ∷ within (codes "timeout") 1 255
    ∷ flag_rule (codes "tsize")
    ∷ by_default (codes "5") (within (codes "retries") 0 10)
    ∷ flag_rule (codes "backoff")
    ∷ flag_rule (codes "fallback")
    ∷ flag_rule (codes "progress")
    ∷ record (flag_rule (codes "verbose")) { short = Some 118 }
    ∷ []

-- the words and the flags of `tftp get`
abbrev pub get_words : List Rule
get_words =
    word_rule (codes "ADDR:PORT") ∷ word_rule (codes "NAME") ∷ word_rule (codes "LOCAL") ∷ []

abbrev pub get_flags : List Rule
get_flags = flag_rule (codes "replace") ∷ flag_rule (codes "no-dally") ∷ []

-- `tftp get`
abbrev pub get_app : App
get_app =
    with_rules (with_rules (with_rules (new_app (codes "get")) get_words) option_rules) get_flags

-- the words of `tftp put`
abbrev pub put_words : List Rule
put_words =
    word_rule (codes "ADDR:PORT") ∷ word_rule (codes "LOCAL") ∷ word_rule (codes "NAME") ∷ []

-- `tftp put`
abbrev pub put_app : App
put_app = with_rules (with_rules (new_app (codes "put")) put_words) option_rules

-- `tftp` before its subcommands
abbrev pub bare_app : App
bare_app =
    record (new_app (codes "tftp")) {
      top = record (new_app (codes "tftp")).top {
        has_version = true;
        subcommand_required = true;
        arg_required_else_help = true;
      };
    }

-- `tftp`
abbrev pub tftp_app : App
tftp_app = with_subcommand (with_subcommand bare_app get_app.top) put_app.top

-- ---- the job
-- the job of a subcommand and its rows
abbrev pub NamesBy : Option (List ℕ × List Row) → Job → Type 0
NamesBy None job = ⊥
NamesBy (Some (word, rows)) job = NamesJob (kind_named word) (read_in rows) job

-- the words name this job
abbrev pub WordsName : List (List ℕ) → Job → Type 0
WordsName words job = NamesBy (subcommand_of tftp_app words) job
