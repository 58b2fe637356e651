-- The matches are those of the words, and so is what the parse fails by.
use Rattle.std.proofs.Common.{◌≡◌, IfOk, List, map, subst, true}
use Rattle.clap.specs.Faults.{fault_of, is_simple_and_free}
use Rattle.clap.specs.Kinds.{HasKind}
use Rattle.clap.specs.Simple.{App, HasMatchesOf}
use Rattle.clap.specs.Walk.{Row}
use Rattle.tftp_daemon.specs.CommandLine.{IfRun, StartsInRows}
use Rattle.tftp_daemon.specs.Refused.{Configures}
use Rattle.tftp_daemon.specs.Words.{tftpd_app}
use Rattle.tftp_daemon.proofs.Commands.{free, simple}
use Rattle.tftp_daemon.proofs.command_line.match_words.Goals as goal

pub returns-in-Ok-clause-names : goal.returns-in-Ok-clause-names
returns-in-Ok-clause-names g c =
    let At : App → Type 0 = λ a. HasMatchesOf a (map g.S.AsStr.text c.args.words.now) c.in-Ok.matches in
    let known = subst At c.requires.app_is c.in-Ok.ensures.ok.2 in
    let Names : List Row → Type 0 = λ rows. IfOk c.read_matches.result
    (λ line. IfRun line (Configures rows)) in
    subst Names (known simple).0 c.read_matches.ensures.names

pub returns-in-Ok-clause-servers : goal.returns-in-Ok-clause-servers
returns-in-Ok-clause-servers g c =
    let At : App → Type 0 = λ a. HasMatchesOf a (map g.S.AsStr.text c.args.words.now) c.in-Ok.matches in
    let known = subst At c.requires.app_is c.in-Ok.ensures.ok.2 in
    let Starts : List Row → Type 0 = λ rows. IfOk c.read_matches.result
    (λ line. IfRun line (StartsInRows c.args.surroundings.processors rows)) in
    subst Starts (known simple).0 c.read_matches.ensures.servers

pub returns-in-Err-clause-text : goal.returns-in-Err-clause-text
returns-in-Err-clause-text g c =
    let At : App → Type 0 = λ a. is_simple_and_free a ≡ true
    → HasKind (fault_of a (map g.S.AsStr.text c.args.words.now)) c.in-Err.error in
    let known = subst At c.requires.app_is c.in-Err.ensures.kinds in
    c.print_usage.ensures.text (fault_of tftpd_app (map g.S.AsStr.text c.args.words.now)) (known free)
