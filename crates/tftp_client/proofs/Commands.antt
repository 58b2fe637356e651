-- The command line, subcommand by subcommand, and the job that its matches name.
use Rattle.tftp_client.proofs.Common.{◌≡◌, true, List, Option, Result, IfOk-weaker, Some, refl, subst, App, Kind, IsApp, Job, tftp_app}
use Rattle.std.proofs.Common.{IfOk, option_map, rules}
use Rattle.std.specs.Prelude.{Box}
use Rattle.std.specs.Box.{box_value}
use Rattle.clap.specs.Built.{AddsSubcommand}
use Rattle.clap.specs.Faults.{is_simple_and_free}
use Rattle.clap.specs.Matches.{found_of}
use Rattle.clap.specs.Simple.{is_simple, subcommand_rows, with_subcommand}
use Rattle.clap.specs.Walk.{Row, Text, rows_of}
use Rattle.clap.specs.declared.builder.command.Command.{Command}
use Rattle.clap.specs.declared.parser.matches.ArgMatches.{ArgMatches}
use Rattle.clap.specs.declared.parser.matches.ArgMatches.TheViews.{out-SubCommand}
use Rattle.clap.specs.declared.parser.matches.SubCommand.{SubCommand}
use Rattle.tftp_arguments.specs.Read.{ReadWords, read_in, read_of}
use Rattle.tftp_arguments.proofs.Commands.{matches_are_rows}
use Rattle.tftp_client.specs.CommandLine.{NamesJob, kind_named}
use Rattle.tftp_client.specs.Words.{NamesBy}

-- the command line is one whose matches are known
pub simple : is_simple tftp_app ≡ true
simple = refl

-- no argument has a rule on another
pub free : is_simple_and_free tftp_app ≡ true
free = refl

-- a subcommand was added
pub subcommand_added : {app below : App} {old sub new : Command} → IsApp app old → IsApp below sub
    → AddsSubcommand old sub new → IsApp (with_subcommand app below.top) new
subcommand_added {below = below} {old = old} {sub = sub} is under adds = search rules

-- the same by the last call
pub subcommand_added_last : {E : Type 0} {app below : App} {old sub : Command} (added : Result Command E)
    → IsApp app old → IsApp below sub → IfOk added (AddsSubcommand old sub)
    → IfOk added (IsApp (with_subcommand app below.top))
subcommand_added_last {app = app} {below = below} {old = old} {sub = sub} added is under = IfOk-weaker added
    (AddsSubcommand old sub) (IsApp (with_subcommand app below.top)) (λ new. subcommand_added is under)

-- the job of these matches, by their rows
pub by_rows : {kind : Kind} (m : ArgMatches) {job : Job} → NamesJob kind (read_of m) job
    → NamesJob kind (read_in (rows_of (found_of m))) job
by_rows {kind} m {job} = subst (λ (read : ReadWords). NamesJob kind read job) (matches_are_rows m)

module _ {Z : Type 0} where
  -- the subcommand that was met
  pub subcommand_met : (o : Option (Box SubCommand Z)) (word : Text) (rows : List Row)
      → Some word ≡ option_map (λ b. (out-SubCommand (box_value b)).name.now) o
      → Some rows ≡ option_map (λ p. p.1) (subcommand_rows o) → subcommand_rows o ≡ Some (word, rows)
  subcommand_met o word rows named has = search rules

-- the job of the subcommand
pub names_by : (met : Option (Text × List Row)) {word : Text} {rows : List Row} {kind : Kind} {job : Job}
    → met ≡ Some (word, rows) → NamesJob kind (read_in rows) job → kind ≡ kind_named word → NamesBy met job
names_by met {word} {rows} {kind} {job} is h named = search rules
