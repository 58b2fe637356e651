-- What an event adds to all that was sent. For `an_event_sends_one_datagram_at_most` and ErrorsHeard.
use Rattle.tftp_player.proofs.Common.{◌≡◌, [], sym, ap, ◌∙◌, arith, rules, append-nil, WorldState, Report}
use Rattle.tftp_player.specs.OneAtMost.{AddsOneAtMost, EventsAddOneAtMost}
use Rattle.tftp_player.proofs.Changes.{Changes, IsTurn, Stayed, Answered, Opened, Turned, Armed, changes}

-- nothing was sent
none : (old new : WorldState) → new.sent ≡ old.sent → AddsOneAtMost old new
none old new e = record { said = []; few = omega arith; sent = e ∙ sym (append-nil old.sent) }

adds_one : (old new : WorldState) (report : Report) → Changes (IsTurn old) old report new → AddsOneAtMost old new
adds_one old new report (Stayed s) = none old new (ap (λ (w : WorldState). w.sent) s.is)
adds_one old new report (Answered d from reports is) = search rules
adds_one old new report (Opened x o s) = search rules
adds_one old new report (Turned k x turn held there h t) = search rules
adds_one old new report (Armed k x there reports is) = none old new (ap (λ (w : WorldState). w.sent) is)

-- every event adds one datagram at most
pub events_add_one_at_most : EventsAddOneAtMost
events_add_one_at_most old new event report s = adds_one old new report (changes old new event report s)
