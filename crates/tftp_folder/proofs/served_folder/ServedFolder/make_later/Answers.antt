-- Each path is a later one of the port.
use Rattle.std.proofs.Common.{inr, rules}
use Rattle.tftp_folder.specs.Begin.DraftCalls.{None_yet}
use Rattle.tftp_folder.proofs.MakingLemmas.{made_for, then_calls}
use Rattle.tftp_folder.proofs.served_folder.ServedFolder.make_later.Goals as goal

pub loop-turn-init : goal.loop-turn-init
loop-turn-init g c = None_yet

pub returns-in-Ok-Some-clause-ok : goal.returns-in-Ok-Some-clause-ok
returns-in-Ok-Some-clause-ok g c =
    let made = rw c.in-Ok-Some.field-0-is at c.in-Ok-Some.ensures.made in
    made_for _ _ _ _ _ _ _ c.loop-turn.invariant (inr (c.loop-turn.turn, c.in-Ok.ensures)) (rw (←
    c.as_str.ensures.value) made)

pub returns-in-Err-clause-err : goal.returns-in-Err-clause-err
returns-in-Err-clause-err g c = search (rules, then_calls)

pub loop-turn-preserved : goal.loop-turn-preserved
loop-turn-preserved g c = search (rules, then_calls)
