-- A wait, and then the file's work or the timeout that is due.
use Rattle.tftp_client.proofs.Common.{ℕ, ◌∙◌, subst, state_of, MayElapse, State, Rests, Times}
use Rattle.tftp_client.proofs.Conversing.{waits_elapsed}
use Rattle.tftp_client.proofs.transfer.conversation.Conversation.turn.Goals as goal

pub returns-then-step-clause-converses : goal.returns-then-step-clause-converses
returns-then-step-clause-converses g c = Rests c.take_received-step.ensures.converses c.work.ensures.works

pub returns-clause-converses : goal.returns-clause-converses
returns-clause-converses g c =
    let s : State = state_of c.take_received-step.new.self (g.N.Udp.log c.take_received-step.new.net) in
    let next : State = state_of c.take_timeout.new.self (g.N.Udp.log c.take_timeout.new.net) in
    let Of : ℕ → Type 0 = λ p. MayElapse p s next in
    Times {s = s} c.take_received-step.ensures.converses
    (subst Of c.take_received-step.ensures.port c.take_timeout.ensures.elapses)

pub returns-clause-waits : goal.returns-clause-waits
returns-clause-waits g c = waits_elapsed c.take_timeout.ensures.elapses ∙ c.take_received-step.ensures.waits

pub returns-then-step-clause-ready : goal.returns-then-step-clause-ready
returns-then-step-clause-ready g c is_open due = c.take_received-step.ensures.advanced c.if-step.true
