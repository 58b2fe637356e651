-- A flag is read as its text says.
use Rattle.std.proofs.Common.{◌∙◌}
use Rattle.tftp_daemon.proofs.Refusals.{on_as_read}
use Rattle.tftp_daemon.proofs.matched.is_on.Goals as goal

pub returns : goal.returns
returns c =
    c.unwrap_or.ensures ∙ on_as_read _ _ c.get_one.result c.get_one.ensures.none c.get_one.ensures.value
