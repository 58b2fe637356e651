-- Wait by wait.
use Rattle.std.proofs.Common.{rules}
use Rattle.tftp_client.proofs.Common.{arith, refl, Begins}
use Rattle.tftp_client.proofs.Conversing.{onward_at}
use Rattle.tftp_client.proofs.transfer.conversation.Conversation.dally.Goals as goal

pub loop-init : goal.loop-init
loop-init g c = record {
  fit = c.requires.files;
  port = refl;
  ready = c.requires.ready;
  waits = omega arith;
  converses = Begins;
}

pub turn-requires-clause-ready : goal.turn-requires-clause-ready
turn-requires-clause-ready g c = c.loop.invariant.ready

pub loop-preserved : goal.loop-preserved
loop-preserved g c = search (rules, onward_at)
