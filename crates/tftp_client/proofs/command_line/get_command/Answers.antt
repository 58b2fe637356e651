-- The words, the options of a transfer, and the flags of this subcommand.
use Rattle.tftp_client.proofs.Common.{codes, refl, subst, sym, [], ◌∷◌, new_app, IsApp, commands_grow}
use Rattle.tftp_arguments.specs.Rules.{HaveRules}
use Rattle.tftp_client.specs.Words.{get_flags, get_words, option_rules}
use Rattle.tftp_arguments.proofs.Commands.{rules_added, rules_added_last}
use Rattle.tftp_client.proofs.command_line.get_command.Goals as goal

pub returns : goal.returns
returns c =
    let named : IsApp (new_app (codes "get")) c.new.result = search in
    let about = commands_grow.stays _ named c.about.ensures refl refl in
    let bare = commands_grow.stays _ about c.after_help-command.ensures refl refl in
    let have_words : HaveRules get_words (c.server.result ∷ c.name.result ∷ c.word-local.result ∷ []) =
    (c.server.ensures, (c.name.ensures, (c.word-local.ensures, tt))) in
    let words = rules_added get_words c.in_ok-words.words.items bare (subst (HaveRules get_words) (sym c.in_ok-words.ensures.items) have_words)
    c.in_ok-args.ensures in
    let options = rules_added option_rules c.in_ok-options.options.items words c.in_ok-options.ensures c.in_ok-args-2.ensures in
    let have_flags : HaveRules get_flags (c.flag-replace.result ∷ c.flag-no_dally.result ∷ []) =
    (c.flag-replace.ensures, (c.flag-no_dally.ensures, tt)) in
    let flags = subst (HaveRules get_flags) (sym c.in_ok-flags.ensures.items) have_flags in
    rules_added_last c.args-4.result get_flags c.in_ok-flags.flags.items options flags c.args-4.ensures
