-- How a command becomes one with more settings and arguments, and what is read of its matches.
use Rattle.std.specs.Prelude.{◌≡◌}
use Rattle.clap.specs.Built.{AddsArg}
use Rattle.clap.specs.Matches.{found_of}
use Rattle.clap.specs.Simple.{App, app_of, app_of_fields, with_rule}
use Rattle.clap.specs.Walk.{Rule, rows_of}
use Rattle.clap.specs.declared.builder.arg.Arg.{Arg}
use Rattle.clap.specs.declared.builder.command.Command.{Command}
use Rattle.clap.specs.declared.builder.command.Command.TheOpen.{Command-F}
use Rattle.clap.specs.declared.builder.command.Command.TheViews.{out-Command as fields_of}
use Rattle.clap.specs.declared.parser.matches.ArgMatches.{ArgMatches}
use Rattle.tftp_arguments.specs.Read.{read_in, read_of}
use Rattle.tftp_arguments.specs.Rules.{HasRule, IsApp}

pub record CommandsGrow : Type 0 where
  -- by a setting that changes so what a parse reads
  pub changes : {app : App} {old new : Command} (change : App → App) (fields : Command-F Command)
      → IsApp app old → fields_of new ≡ fields → app_of_fields fields ≡ change (app_of old)
      → fields.has_globals ≡ (fields_of old).has_globals → IsApp (change app) new
  -- by a setting that no parse reads
  pub stays : {app : App} {old new : Command} (fields : Command-F Command)
      → IsApp app old → fields_of new ≡ fields → app_of_fields fields ≡ app_of old
      → fields.has_globals ≡ (fields_of old).has_globals → IsApp app new
  -- by an argument with this rule
  pub adds : {app : App} {rule : Rule} {old new : Command} {a : Arg}
      → IsApp app old → HasRule rule a → AddsArg old a new → IsApp (with_rule app rule) new

-- what is read of matches is what is read of their rows
abbrev pub MatchesAreRows : Type 0
MatchesAreRows = (m : ArgMatches) → read_of m ≡ read_in (rows_of (found_of m))
