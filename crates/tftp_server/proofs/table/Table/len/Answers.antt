-- Index and table have the same length.
use Rattle.std.proofs.Common.{◌∙◌, ap, sym, length}
use Rattle.tftp_server.proofs.TableLemmas.{joined-length}
use Rattle.tftp_server.proofs.table.Table.len.Goals as goal

pub returns : goal.returns
returns g c = c.len.ensures.len ∙ sym (joined-length _ _ c.self.invariant) ∙ ap length c.self.view_is
