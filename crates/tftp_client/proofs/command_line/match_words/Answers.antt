-- The matches are those of the words, and so is what the parse fails by.
use Rattle.tftp_client.proofs.Common.{◌≡◌, List, Option, subst, true, App, tftp_app}
use Rattle.std.proofs.Common.{IfOk, map}
use Rattle.clap.specs.Faults.{fault_of, is_simple_and_free}
use Rattle.clap.specs.Kinds.{HasKind}
use Rattle.clap.specs.Simple.{HasMatchesOf}
use Rattle.clap.specs.Walk.{Row, Text}
use Rattle.tftp_client.specs.CommandLine.{IfRun}
use Rattle.tftp_client.specs.Words.{NamesBy}
use Rattle.tftp_client.proofs.Commands.{free, simple}
use Rattle.tftp_client.proofs.command_line.match_words.Goals as goal

pub returns-in-Ok-clause-names : goal.returns-in-Ok-clause-names
returns-in-Ok-clause-names g c =
    let At : App → Type 0 = λ a. HasMatchesOf a (map g.S.AsStr.text c.args.words.now) c.in-Ok.matches in
    let known = subst At c.requires.app_is c.in-Ok.ensures.ok.2 in
    let Names : Option (Text × List Row) → Type 0 = λ o.
    IfOk c.read_matches.result (λ line. IfRun line (λ job. NamesBy o job)) in
    subst Names (known simple).1 c.read_matches.ensures.names

pub returns-in-Err-clause-text : goal.returns-in-Err-clause-text
returns-in-Err-clause-text g c =
    let At : App → Type 0 = λ a. is_simple_and_free a ≡ true
    → HasKind (fault_of a (map g.S.AsStr.text c.args.words.now)) c.in-Err.error in
    let known = subst At c.requires.app_is c.in-Err.ensures.kinds in
    c.print_usage.ensures.text (fault_of tftp_app (map g.S.AsStr.text c.args.words.now)) (known free)
