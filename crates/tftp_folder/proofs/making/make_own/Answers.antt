-- The path is cleared, and then the file is made, and its path is looked at.
use Rattle.tftp_folder.proofs.MakingLemmas.{looks_at, makes_at, then_tries}
use Rattle.tftp_folder.proofs.making.make_own.Goals as goal

pub returns-then-is_taken-clause-tries : goal.returns-then-is_taken-clause-tries
returns-then-is_taken-clause-tries g c =
    then_tries _ _ _ _ c.clear.ensures (makes_at _ _ _ _ c.make_locked.ensures.noted)

pub returns-in-Err-clause-tries : goal.returns-in-Err-clause-tries
returns-in-Err-clause-tries g c =
    then_tries _ _ _ _ c.clear.ensures (makes_at _ _ _ _ c.make_locked.ensures.noted)

pub returns-then-is_own-clause-tries : goal.returns-then-is_own-clause-tries
returns-then-is_own-clause-tries g c =
    then_tries _ _ _ _ c.clear.ensures (then_tries _ _ _ _ (makes_at _ _ _ _ c.in-Ok.ensures.noted) (looks_at _ _ _ _
    c.is_own.ensures.looked))

pub returns-else-is_own-clause-tries : goal.returns-else-is_own-clause-tries
returns-else-is_own-clause-tries g c =
    then_tries _ _ _ _ c.clear.ensures (then_tries _ _ _ _ (makes_at _ _ _ _ c.in-Ok.ensures.noted) (looks_at _ _ _ _
    c.is_own.ensures.looked))
