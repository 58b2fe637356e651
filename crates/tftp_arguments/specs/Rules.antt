-- The arguments of a command line, as `clap` parses them (own).
use Rattle.std.specs.Prelude.{ℕ, ⊤, ◌≡◌, true, false, List, [], ◌∷◌, Some, pos}
use Rattle.clap.specs.Simple.{App, app_of, new_rule, with_rule}
use Rattle.clap.specs.Walk.{Rule, rule_of}
use Rattle.clap.specs.declared.builder.action.ArgAction.TheVariants.{SetTrue}
use Rattle.clap.specs.declared.builder.arg.Arg.{Arg}
use Rattle.clap.specs.declared.builder.command.Command.{Command}
use Rattle.clap.specs.declared.builder.command.Command.TheViews.{out-Command as fields_of}
use Rattle.clap.specs.declared.builder.value_parser.ValueParser.{ValueParser}
use Rattle.clap.specs.declared.builder.value_parser.ValueParser.TheVariants as parsers

-- a required positional word
abbrev pub word_rule : List ℕ → Rule
word_rule id = record (new_rule id) { required = true }

-- an option with a number
abbrev pub number_rule : List ℕ → ValueParser → Rule
number_rule id parser =
    record (new_rule id) { long = Some id; value_names = 1; parser = Some parser }

-- an option with a number from the least to the most
abbrev pub within : List ℕ → ℕ → ℕ → Rule
within id least most = number_rule id (parsers.Signed (pos least) (pos most))

-- an option that has this text where it is not used
abbrev pub by_default : List ℕ → Rule → Rule
by_default text rule = record rule { defaults = text ∷ [] }

-- an option without a value
abbrev pub flag_rule : List ℕ → Rule
flag_rule id = record (new_rule id) { long = Some id; action = Some SetTrue }

-- an argument of one command alone, with this rule
pub record HasRule (rule : Rule) (a : Arg) : Type 0 where
  pub rule_is : rule_of a ≡ rule
  pub is_local : a.global ≡ false

-- a command without global arguments, with these arguments and subcommands
pub record IsApp (app : App) (command : Command) : Type 0 where
  pub app_is : app_of command ≡ app
  pub is_local : (fields_of command).has_globals ≡ false

-- the arguments have these rules, each its own
abbrev pub HaveRules : List Rule → List Arg → Type 0
HaveRules [] [] = ⊤
HaveRules (rule ∷ rules) (arg ∷ args) = HasRule rule arg × HaveRules rules args
HaveRules [] (arg ∷ args) = ⊥
HaveRules (rule ∷ rules) [] = ⊥

-- with arguments of these rules, in turn
abbrev pub with_rules : App → List Rule → App
with_rules app [] = app
with_rules app (rule ∷ rules) = with_rules (with_rule app rule) rules
