-- The path is looked at first. The file there is locked, and removed only then.
use Rattle.std.proofs.Common.{rules}
use Rattle.tftp_folder.proofs.MakingLemmas.{locks_at, looks_at, removes_at, then_tries}
use Rattle.tftp_folder.proofs.making.clear.Goals as goal

pub returns-then-ne : goal.returns-then-ne
returns-then-ne g c = search (rules, looks_at)

pub returns-in-Ok-lock : goal.returns-in-Ok-lock
returns-in-Ok-lock g c =
    then_tries _ _ _ _ (looks_at _ _ _ _ c.look.ensures) (removes_at _ _ _ _ _ _ c.in-Ok-lock.ensures.noted
    c.remove_own.ensures)

pub returns-in-Err-lock : goal.returns-in-Err-lock
returns-in-Err-lock g c =
    then_tries _ _ _ _ (looks_at _ _ _ _ c.look.ensures) (locks_at _ _ _ _ c.lock.ensures.noted)

pub returns-in-Err : goal.returns-in-Err
returns-in-Err g c = search (rules, looks_at)
