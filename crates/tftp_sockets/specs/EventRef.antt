-- The events that the sockets note, as events of a trace (ours).
use Rattle.std.specs.Prelude.{[]}
use Rattle.tftp_lines.specs.ClientOutcome.{end_text}
use Rattle.tftp_lines.specs.Printed.{line_text}
use Rattle.tftp_sockets.specs.Trace.{SocketEvent}
use Rattle.tftp_sockets.specs.Trace.SocketEvent.{Received, Sent, Watched, Elapsed, Printed, Quiet}
use Rattle.tftp_sockets.specs.Trace.QuietEvent.{Empty, Failed, New_socket, No_socket, Out_of_memory}
use Rattle.tftp_sockets.specs.Trace.QuietEvent.{Slept, Woke, No_reader, Drain_signalled}
use Rattle.tftp_sockets.specs.declared.event_ref.EventRef.{EventRef}
use Rattle.tftp_sockets.specs.declared.event_ref.EventRef.TheVariants as refs

-- the event of these values: a line is its text
abbrev pub event_of : EventRef → SocketEvent
event_of (refs.Received port from bytes) = Received port from bytes.now
event_of (refs.Sent port to bytes) = Sent port to bytes.now
event_of (refs.Watched watch) = Watched watch
event_of (refs.Elapsed port time) = Elapsed port time
event_of (refs.End end) = Printed (end_text end)
event_of refs.Refused = Printed []
event_of (refs.Line line) = Printed (line_text line)
event_of (refs.Empty port) = Quiet (Empty port)
event_of (refs.Failed port) = Quiet (Failed port)
event_of (refs.Slept millis) = Quiet (Slept millis)
event_of (refs.Woke ports) = Quiet (Woke ports.now)
event_of (refs.NoSocket port) = Quiet (No_socket port)
event_of (refs.NewSocket port) = Quiet (New_socket port)
event_of refs.OutOfMemory = Quiet Out_of_memory
event_of refs.NoReader = Quiet No_reader
event_of refs.DrainSignalled = Quiet Drain_signalled
