-- What a trace states of waits, and of the ports that were read between them (ours).
use Rattle.std.specs.Prelude.{ℕ, ◌+◌, ◌==◌, ◌&&◌, ◌||◌, not, Bool, true, false, List, [], ◌∷◌}
use Rattle.std.specs.List.{list_any}
use Rattle.tftp_sockets.specs.Trace.{SocketEvent, QuietEvent}
use Rattle.tftp_sockets.specs.Trace.SocketEvent.{Received, Sent, Watched, Elapsed, Printed, Quiet}
use Rattle.tftp_sockets.specs.Trace.QuietEvent.{Empty, Failed, New_socket, No_socket, Out_of_memory}
use Rattle.tftp_sockets.specs.Trace.QuietEvent.{Slept, Woke, No_reader, Drain_signalled}

-- whether the port is one of these
abbrev pub is_among : ℕ → List ℕ → Bool
is_among port ports = list_any (λ p. p == port) ports

-- whether a port is drained after this event, if it was, or was not, before
abbrev pub drained_by : ℕ → QuietEvent → Bool → Bool
drained_by port (Empty p) before = (p == port) || before
drained_by port (Failed p) before = not (p == port) && before
drained_by port (Slept millis) before = before
drained_by port (Woke ports) before = not (is_among port ports) && before
drained_by port (No_socket p) before = before
drained_by port (New_socket p) before = before
drained_by port Out_of_memory before = before
drained_by port No_reader before = before
drained_by port Drain_signalled before = before

-- whether the last event of the port is that a receive found nothing there
abbrev pub is_drained : ℕ → List SocketEvent → Bool
is_drained port [] = false
is_drained port (Received p from bytes ∷ events) = not (p == port) && is_drained port events
is_drained port (Sent p to bytes ∷ events) = is_drained port events
is_drained port (Watched watch ∷ events) = is_drained port events
is_drained port (Elapsed p time ∷ events) = is_drained port events
is_drained port (Printed line ∷ events) = is_drained port events
is_drained port (Quiet event ∷ events) = drained_by port event (is_drained port events)

-- whether a receive was tried at a port in this event, or since the newest wait before it
abbrev pub tried_by : ℕ → QuietEvent → Bool → Bool
tried_by port (Empty p) before = (p == port) || before
tried_by port (Failed p) before = (p == port) || before
tried_by port (Slept millis) before = false
tried_by port (Woke ports) before = false
tried_by port (No_socket p) before = before
tried_by port (New_socket p) before = before
tried_by port Out_of_memory before = before
tried_by port No_reader before = before
tried_by port Drain_signalled before = before

-- whether a receive was tried at the port since the newest wait
abbrev pub was_tried : ℕ → List SocketEvent → Bool
was_tried port [] = false
was_tried port (Received p from bytes ∷ events) = (p == port) || was_tried port events
was_tried port (Sent p to bytes ∷ events) = was_tried port events
was_tried port (Watched watch ∷ events) = was_tried port events
was_tried port (Elapsed p time ∷ events) = was_tried port events
was_tried port (Printed line ∷ events) = was_tried port events
was_tried port (Quiet event ∷ events) = tried_by port event (was_tried port events)

-- how many waits this event is
abbrev pub waits_in : QuietEvent → ℕ
waits_in (Empty port) = 0
waits_in (Failed port) = 0
waits_in (Slept millis) = 1
waits_in (Woke ports) = 0
waits_in (No_socket port) = 0
waits_in (New_socket port) = 0
waits_in Out_of_memory = 0
waits_in No_reader = 0
waits_in Drain_signalled = 0

-- how many waits there were
abbrev pub waits : List SocketEvent → ℕ
waits [] = 0
waits (Received p from bytes ∷ events) = waits events
waits (Sent p to bytes ∷ events) = waits events
waits (Watched watch ∷ events) = waits events
waits (Elapsed p time ∷ events) = waits events
waits (Printed line ∷ events) = waits events
waits (Quiet event ∷ events) = waits_in event + waits events

-- whether this event is the end of a wait
abbrev pub ends_wait : QuietEvent → Bool
ends_wait (Empty port) = false
ends_wait (Failed port) = false
ends_wait (Slept millis) = false
ends_wait (Woke ports) = true
ends_wait (No_socket port) = false
ends_wait (New_socket port) = false
ends_wait Out_of_memory = false
ends_wait No_reader = false
ends_wait Drain_signalled = false

-- whether the newest event is the end of a wait
abbrev pub has_woken : List SocketEvent → Bool
has_woken [] = false
has_woken (Received p from bytes ∷ events) = false
has_woken (Sent p to bytes ∷ events) = false
has_woken (Watched watch ∷ events) = false
has_woken (Elapsed p time ∷ events) = false
has_woken (Printed line ∷ events) = false
has_woken (Quiet event ∷ events) = ends_wait event
