-- A stray arrives like a datagram, and is not added to the list.
use Rattle.tftp_player.proofs.Common.{List, ℕ, subst, Delivery, IfOk-weaker}
use Rattle.tftp_player.proofs.simulation.Simulation.stray.Goals as goal

pub returns-clause-steps : goal.returns-clause-steps
returns-clause-steps c =
    IfOk-weaker c.arrive.result _ _
    (λ report a. (
      c.requires,
      subst (λ (bytes : List ℕ). Delivery c.args.self.now c.args.from c.args.to bytes report c.arrive.new.self)
          c.as_slice.ensures a,
    ))
    c.arrive.ensures.arrives
