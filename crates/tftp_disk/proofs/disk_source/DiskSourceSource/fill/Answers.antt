-- What was read ahead is given. Out of memory nothing has changed.
use Rattle.std.proofs.Common.{rules}
use Rattle.tftp_disk.proofs.DiskSourceLemmas.{gives_moved, gives_unmoved}
use Rattle.tftp_disk.proofs.disk_source.DiskSourceSource.fill.Goals as goal

pub returns-in-Err-Memory-clause-gives : goal.returns-in-Err-Memory-clause-gives
returns-in-Err-Memory-clause-gives g c = search (rules, gives_unmoved)

pub returns-in-Ok-clause-gives : goal.returns-in-Ok-clause-gives
returns-in-Ok-clause-gives g c = search (rules, gives_moved)

pub returns-in-Err-clause-gives : goal.returns-in-Err-clause-gives
returns-in-Err-clause-gives g c = search (rules, gives_unmoved)
