-- Wait by wait.
use Rattle.std.proofs.Common.{rules, arith as std_arith}
use Rattle.std.proofs.lemmas.Grind.{common_steps}
use Rattle.tftp_client.proofs.Common.{arith, inl, refl, is_complete, state_of, deadline_at, Begins}
use Rattle.tftp_client.proofs.Conversing.{none_open, onward_at, state_with}
use Rattle.tftp_client.proofs.Running.{if_err}
use Rattle.tftp_client.proofs.transfer.conversation.Conversation.run.Goals as goal

pub loop-made-init : goal.loop-made-init
loop-made-init g c = record {
  fit = c.requires.files;
  port = refl;
  not_closed = c.requires.not_closed;
  incomplete = c.requires.incomplete;
  ready = c.requires.ready;
  waits = omega arith;
  left = omega arith;
  converses = Begins;
}

pub turn-requires-clause-not_closed : goal.turn-requires-clause-not_closed
turn-requires-clause-not_closed g c = c.loop-made.invariant.not_closed

pub turn-requires-clause-ready : goal.turn-requires-clause-ready
turn-requires-clause-ready g c = c.loop-made.invariant.ready

pub returns-in-Some-clause-converses : goal.returns-in-Some-clause-converses
returns-in-Some-clause-converses g c = search (rules, onward_at)

pub returns-in-Some-clause-failed : goal.returns-in-Some-clause-failed
returns-in-Some-clause-failed g c = if_err c.in-Some.ended _ _ (λ outcome is. inl is) c.in-Some.ensures.closed

pub returns-clause-failed : goal.returns-clause-failed
returns-clause-failed g c = search rules

pub returns-clause-counted : goal.returns-clause-counted
returns-clause-counted g c = omega (arith, c.loop-made.invariant.waits, c.loop-made.invariant.left)

pub returns-in-Some-clause-counted : goal.returns-in-Some-clause-counted
returns-in-Some-clause-counted g c = search rules

pub loop-made-preserved : goal.loop-made-preserved
loop-made-preserved g c =
    grind (std_arith, common_steps, state_of, deadline_at, state_with, none_open, is_complete, onward_at)
