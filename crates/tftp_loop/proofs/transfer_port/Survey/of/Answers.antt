use Rattle.std.proofs.Common.{rules}
use Rattle.tftp_loop.proofs.Common.{◌-◌, drop, length}
use Rattle.std.proofs.lemmas.List.{drop_more}
use Rattle.tftp_loop.proofs.transfer_port.Survey.of.Goals as goal

pub loop-index-preserved : goal.loop-index-preserved
loop-index-preserved c = search (rules, length, drop, drop_more)
