-- The words, and the options of a transfer.
use Rattle.tftp_client.proofs.Common.{codes, refl, subst, sym, [], ◌∷◌, new_app, IsApp, commands_grow}
use Rattle.tftp_arguments.specs.Rules.{HaveRules}
use Rattle.tftp_client.specs.Words.{option_rules, put_words}
use Rattle.tftp_arguments.proofs.Commands.{rules_added, rules_added_last}
use Rattle.tftp_client.proofs.command_line.put_command.Goals as goal

pub returns : goal.returns
returns c =
    let named : IsApp (new_app (codes "put")) c.new.result = search in
    let bare = commands_grow.stays _ named c.about-command.ensures refl refl in
    let have_words : HaveRules put_words (c.server.result ∷ c.word-local.result ∷ c.name.result ∷ []) =
    (c.server.ensures, (c.word-local.ensures, (c.name.ensures, tt))) in
    let words = rules_added put_words c.in_ok-words.words.items bare (subst (HaveRules put_words) (sym c.in_ok-words.ensures.items) have_words)
    c.in_ok-args.ensures in
    rules_added_last c.args-3.result option_rules c.in_ok-options.options.items words c.in_ok-options.ensures
    c.args-3.ensures
