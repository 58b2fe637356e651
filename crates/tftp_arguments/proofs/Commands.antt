-- Commands, setting by setting and argument by argument.
use Rattle.std.proofs.Common.{◌≡◌, ◌∙◌, Bool, List, [], ◌∷◌, ℕ, Option, Result, IfOk, ap, subst}
use Rattle.std.proofs.lemmas.Result.{IfOk-weaker}
use Rattle.std.specs.Prelude.{◌||◌}
use Rattle.std.proofs.Math.Path.{fun_ext}
use Rattle.clap.specs.Built.{AddsArg, AddsInTurn}
use Rattle.clap.specs.Matches.{found_of}
use Rattle.clap.specs.Simple.{App, app_of, app_of_fields, with_rule}
use Rattle.clap.specs.Walk.{Rule, first_of, rows_of}
use Rattle.clap.specs.declared.builder.arg.Arg.{Arg}
use Rattle.clap.specs.declared.builder.command.Command.{Command}
use Rattle.clap.specs.declared.builder.command.Command.TheOpen.{Command-F}
use Rattle.clap.specs.declared.builder.command.Command.TheViews.{out-Command as fields_of}
use Rattle.clap.proofs.WalkLemmas.{first_value-rows, one_text-rows}
use Rattle.tftp_arguments.specs.Commands.{CommandsGrow, MatchesAreRows}
use Rattle.tftp_arguments.specs.Read.{ReadWords, value_text}
use Rattle.tftp_arguments.specs.Rules.{HasRule, HaveRules, IsApp, with_rules}

changed : {app : App} {old new : Command} (change : App → App) (fields : Command-F Command)
    → IsApp app old → fields_of new ≡ fields → app_of_fields fields ≡ change (app_of old)
    → fields.has_globals ≡ (fields_of old).has_globals → IsApp (change app) new
changed change fields is now same local =
    record {
      app_is = ap app_of_fields now ∙ (same ∙ ap change is.app_is);
      is_local = ap (λ (f : Command-F Command). f.has_globals) now ∙ (local ∙ is.is_local);
    }

added : {app : App} {rule : Rule} {old new : Command} {a : Arg} → IsApp app old → HasRule rule a
    → AddsArg old a new → IsApp (with_rule app rule) new
added {rule = rule} {old = old} {a = a} is has adds =
    record {
      app_is = adds.shape has.is_local ∙
          (ap (λ (r : Rule). with_rule (app_of old) r) has.rule_is ∙ ap (λ (x : App). with_rule x rule) is.app_is);
      is_local = adds.globals ∙ (ap (λ (b : Bool). b || a.global) is.is_local ∙ has.is_local);
    }

pub commands_grow : CommandsGrow
commands_grow =
    record {
      changes = λ change fields is now same local. changed change fields is now same local;
      stays = λ fields is now same local. changed (λ (x : App). x) fields is now same local;
      adds = λ is has adds. added is has adds;
    }

-- arguments with these rules were added in turn
pub rules_added : {app : App} {old new : Command} (have : List Rule) (args : List Arg) → IsApp app old
    → HaveRules have args → AddsInTurn AddsArg old args new → IsApp (with_rules app have) new
rules_added {app = app} [] [] is has adds = subst (IsApp app) adds is
rules_added [] (arg ∷ args) is has adds = absurd has
rules_added (rule ∷ have) [] is has adds = absurd has
rules_added (rule ∷ have) (arg ∷ args) is has adds =
    rules_added have args (commands_grow.adds is has.0 adds.1) has.1 adds.2

-- the same by the last call
pub rules_added_last : {E : Type 0} {app : App} {old : Command} (added : Result Command E) (have : List Rule)
    (args : List Arg) → IsApp app old → HaveRules have args → IfOk added (AddsInTurn AddsArg old args)
    → IfOk added (IsApp (with_rules app have))
rules_added_last {app = app} {old = old} added have args is has = IfOk-weaker added (AddsInTurn AddsArg old args)
    (IsApp (with_rules app have)) (λ new. rules_added have args is has)

pub matches_are_rows : MatchesAreRows
matches_are_rows m =
    let Reader : Type 0 = List ℕ → Option (List ℕ) in
    let f = found_of m in
    let of_word : Reader → ReadWords = λ w. record { word = w; text = value_text m } in
    let of_text : Reader → ReadWords = λ t. record { word = λ id. first_of id (rows_of f); text = t } in
    ap of_word (fun_ext (first_value-rows f)) ∙ ap of_text (fun_ext (one_text-rows f))
