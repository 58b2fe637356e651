-- The transfer whose record was read is the one that is removed.
use Rattle.tftp_c.proofs.Common.{◌∙◌, sym}
use Rattle.tftp_c.proofs.AbortLemmas.{aborts_at}
use Rattle.tftp_c.proofs.server.tftp_server_abort.Goals as goal

pub returns-in-Ok-clause-ok : goal.returns-in-Ok-clause-ok
returns-in-Ok-clause-ok c = rw (sym c.server-held.ensures.value) (λ _.
    aborts_at c.args.tid c.args.code c.args.text.now c.abort.new.reply c.abort.new.event
    c.server-held.result.now.server c.give_up.new.self c.in-Some.state (sym c.in-Some.is ∙ c.record.ensures)
    c.in-Ok.ensures.ok c.give_up.ensures.held)
