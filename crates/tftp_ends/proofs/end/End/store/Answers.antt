-- The result of storing the piece is that of the step.
use Rattle.tftp_ends.proofs.Common.{◌∙◌, ap, rules, EndState, holding}
use Rattle.tftp_ends.proofs.Storing.{stored_more, stored_all, stored_not, not_committed}
use Rattle.tftp_ends.proofs.end.End.store.Goals as goal

pub returns-in-More-clause-stores : goal.returns-in-More-clause-stores
returns-in-More-clause-stores g c =
    let takes = rw (c.in-More.is, c.block_kind-kind.ensures) at c.in_ok-stored.ensures.takes in
    rw (c.acknowledge-outgoing.ensures.sent, ← c.self.view_is) (stored_more _ _ _ _ _ _ _ _ _ takes _ _ (ap (λ e.
    holding c.in_ok-stored.after e) (c.self-in-More.view_is ∙ c.acknowledge-outgoing.ensures.state)) (search rules))

pub returns-in-All-clause-stores : goal.returns-in-All-clause-stores
returns-in-All-clause-stores g c =
    let takes = rw (c.in-All.is, c.block_kind-kind.ensures) at c.in_ok-stored.ensures.takes in
    rw (c.acknowledge-outgoing-in-All.ensures.sent, ← c.self.view_is)
    (stored_all _ _ _ _ _ _ _ _ _ takes _ _
    (ap (λ (e : EndState). holding c.in_ok-stored.after e)
    (c.self-in-All.view_is ∙ c.acknowledge-outgoing-in-All.ensures.state)) (search rules))

pub returns-in-Refused-clause-stores : goal.returns-in-Refused-clause-stores
returns-in-Refused-clause-stores g c =
    let takes = rw (c.in-Refused.is, c.block_kind-kind.ensures) at c.in_ok-stored.ensures.takes in
    rw (← c.self.view_is) (stored_not _ _ _ _ _ _ _ _ _ takes _ _ (search rules) (search rules))

pub returns-in-Uncommitted-clause-stores : goal.returns-in-Uncommitted-clause-stores
returns-in-Uncommitted-clause-stores g c =
    let takes = rw (c.in-Uncommitted.is, c.block_kind-kind.ensures) at c.in_ok-stored.ensures.takes in
    rw (← c.self.view_is) (not_committed _ _ _ _ _ _ _ _ _ _ takes _ _ (ap (λ x. holding c.in_ok-stored.after x)
    (c.self-in-Uncommitted.view_is ∙ c.close_for-step-in-Uncommitted.ensures.state)) (search rules))
