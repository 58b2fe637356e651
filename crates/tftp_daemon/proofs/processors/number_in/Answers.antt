-- The number is the one that is parsed.
use Rattle.std.proofs.Common.{◌∙◌}
use Rattle.tftp_daemon.proofs.ProcessorCounts.{number_read}
use Rattle.tftp_daemon.proofs.processors.number_in.Goals as goal

pub returns : goal.returns
returns c = c.ok.ensures.value ∙ number_read c.args.text.now c.parse.result c.parse.ensures.value.0
