-- What moved is on the disk, or came from it; out of memory nothing was done.
use Rattle.tftp_client.proofs.Common.{inl, inr, refl}
use Rattle.std.proofs.Common.{map}
use Rattle.tftp_client.specs.declared.command_line.CommandLine.TheVariants.{Exit, Run}
use Rattle.tftp_client.proofs.NamedOnDisk.{does_words}
use Rattle.tftp_client.proofs.program.tftp_on.Goals as goal

pub returns-in_default-clause-runs : goal.returns-in_default-clause-runs
returns-in_default-clause-runs g c =
    (inl (refl, inr c.print_no_memory.ensures), refl)

pub returns-in_default-clause-sends : goal.returns-in_default-clause-sends
returns-in_default-clause-sends g c =
    (inl (refl, inr c.print_no_memory.ensures), tt)

pub returns-in-Ok-Run-clause-runs : goal.returns-in-Ok-Run-clause-runs
returns-in-Ok-Run-clause-runs g c =
    let names = rw c.in-Ok-Run.field-0-is at c.in-Ok-Run.ensures.names in
    let does = does_words _ _ (map g.S.AsStr.text c.args.words.now) (Run c.in-Ok-Run.job) names tt tt
    c.run_job.ensures.runs tt tt tt in
    (does.0, does.1)

pub returns-in-Ok-Run-clause-sends : goal.returns-in-Ok-Run-clause-sends
returns-in-Ok-Run-clause-sends g c =
    let names = rw c.in-Ok-Run.field-0-is at c.in-Ok-Run.ensures.names in
    let does = does_words _ _ (map g.S.AsStr.text c.args.words.now) (Run c.in-Ok-Run.job) names tt tt
    c.run_job.ensures.runs tt tt tt in
    (does.0, does.2)

pub returns-in-Ok-Exit-clause-runs : goal.returns-in-Ok-Exit-clause-runs
returns-in-Ok-Exit-clause-runs g c =
    let ends = rw c.in-Ok-Exit.field-0-is at c.in-Ok-Exit.ensures.ends in
    let text = rw c.in-Ok-Exit.field-0-is at c.in-Ok-Exit.ensures.text in
    let does = does_words _ _ (map g.S.AsStr.text c.args.words.now) (Exit c.in-Ok-Exit.status) tt ends text tt refl refl
    refl in
    (does.0, does.1)

pub returns-in-Ok-Exit-clause-sends : goal.returns-in-Ok-Exit-clause-sends
returns-in-Ok-Exit-clause-sends g c =
    let ends = rw c.in-Ok-Exit.field-0-is at c.in-Ok-Exit.ensures.ends in
    let text = rw c.in-Ok-Exit.field-0-is at c.in-Ok-Exit.ensures.text in
    let does = does_words _ _ {calls = g.D.Looks.log c.args.disk} {calls' = g.D.Looks.log c.args.disk} (map g.S.AsStr.text c.args.words.now) (Exit c.in-Ok-Exit.status) tt ends text tt refl refl
    refl in
    (does.0, does.2)

pub returns-clause-runs : goal.returns-clause-runs
returns-clause-runs g c =
    (inl (refl, inr c.print_no_memory-in-Err.ensures), refl)

pub returns-clause-sends : goal.returns-clause-sends
returns-clause-sends g c = (inl (refl, inr c.print_no_memory-in-Err.ensures), tt)
