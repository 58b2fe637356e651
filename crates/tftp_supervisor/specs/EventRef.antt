-- The events that are noted, as events of a history (ours).
use Rattle.std.specs.Prelude.{map}
use Rattle.std.specs.String.{string_bytes}
use Rattle.tftp_supervisor.specs.ProcessEvent.{ProcessEvent}
use Rattle.tftp_supervisor.specs.ProcessEvent.ProcessEvent.{Started, Gave, Closed, Ended, Printed}
use Rattle.tftp_supervisor.specs.declared.system.event_ref.EventRef.{EventRef}
use Rattle.tftp_supervisor.specs.declared.system.event_ref.EventRef.TheVariants as refs

-- the event of these values
abbrev pub process_event : EventRef → ProcessEvent
process_event (refs.Started line) = Started (map string_bytes line.now)
process_event (refs.Gave server bytes) = Gave server bytes.now
process_event (refs.Closed server) = Closed server
process_event (refs.Ended server answer) = Ended server answer
process_event (refs.Printed text) = Printed text.now
