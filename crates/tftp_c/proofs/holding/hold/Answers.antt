-- The table has the end, for a request that the port admits.
use Rattle.tftp_c.proofs.FaultLemmas.{hold_fails}
use Rattle.tftp_c.proofs.HoldingLemmas.{opens_at}
use Rattle.tftp_c.proofs.holding.hold.Goals as goal

pub returns-in-Ok-hold-clause-ok : goal.returns-in-Ok-hold-clause-ok
returns-in-Ok-hold-clause-ok c = λ _.
    opens_at c.in-Ok-hold.field-0 c.args.tid c.args.from.now c.endpoint.result c.args.request.now
    c.args.end c.absent_files-files.result c.in-Ok.admission c.args.server.now c.hold.new.self
    c.endpoint.ensures c.in-Ok.ensures.admits c.in-Ok.ensures.bytes c.in-Ok-hold.ensures.in_use
    c.absent_files-files.ensures.stated
    c.in-Ok-hold.ensures.held

-- A fault of the table is returned by its number.
pub returns-in-Err-clause-fault : goal.returns-in-Err-clause-fault
returns-in-Err-clause-fault c = λ _.
    hold_fails c.args.tid c.args.from.now c.endpoint.result c.args.request.now c.in-Ok.admission.ask
    c.args.server.now c.in-Err.fault c.table_fault.result c.table_fault.ensures c.endpoint.ensures
    c.in-Ok.ensures.admits c.in-Err.ensures.in_use c.in-Err.ensures.no_such_tid c.in-Err.ensures.memory
