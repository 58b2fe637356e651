use Rattle.std.proofs.Common.{rules}
use Rattle.tftp_loop.proofs.Common.{◌-◌, drop, length, map, timer_of}
use Rattle.std.proofs.lemmas.List.{drop_more}
use Rattle.tftp_loop.specs.Steps.{open_of}
use Rattle.tftp_loop.proofs.transfer_port.open_of.Goals as goal

pub loop-index-preserved : goal.loop-index-preserved
loop-index-preserved c = search (rules, length, drop, drop_more, map, timer_of)
