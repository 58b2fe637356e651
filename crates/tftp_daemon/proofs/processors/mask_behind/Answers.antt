-- A line begins with the name, or does not.
use Rattle.std.proofs.Common.{codes}
use Rattle.tftp_daemon.proofs.ProcessorCounts.{behind_name}
use Rattle.tftp_daemon.proofs.processors.mask_behind.Goals as goal

pub returns : goal.returns
returns c = behind_name (codes "Cpus_allowed:") c.args.line.now c.strip_prefix.result c.strip_prefix.ensures.cases
