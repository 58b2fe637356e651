-- A job of either kind.
use Rattle.std.proofs.Common.{rules}
use Rattle.tftp_client.proofs.Concluding.{of_kind}
use Rattle.tftp_client.proofs.transfer.transfer_once.Goals as goal

pub returns-in-Read : goal.returns-in-Read
returns-in-Read g c = search (rules, of_kind)

pub returns-in-Write : goal.returns-in-Write
returns-in-Write g c = search (rules, of_kind)
