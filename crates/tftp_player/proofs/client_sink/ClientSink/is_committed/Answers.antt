-- Stated here, since a search over `room`, which is a numeral of twenty digits, takes half a
-- minute.
use Rattle.tftp_player.proofs.Common.{ap, ◌∙◌, Holding}
use Rattle.tftp_player.proofs.client_sink.ClientSink.is_committed.Goals as goal

pub returns : goal.returns
returns c = c.is_committed.ensures ∙ ap (λ (h : Holding). h.committed) c.self.view_is
