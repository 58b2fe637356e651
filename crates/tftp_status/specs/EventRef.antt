-- The events that a status file notes, as events of a trace (ours).
use Rattle.tftp_status.specs.StatusEvent.{StatusEvent}
use Rattle.tftp_status.specs.StatusEvent.StatusEvent.{Told, Moved, Handed}
use Rattle.tftp_status.specs.declared.event_ref.EventRef.{EventRef}
use Rattle.tftp_status.specs.declared.event_ref.EventRef.TheVariants as refs

-- the event of these values
abbrev pub status_event : EventRef → StatusEvent
status_event (refs.Told entry) = Told entry
status_event (refs.Moved way) = Moved way
status_event (refs.Handed text) = Handed text.now
