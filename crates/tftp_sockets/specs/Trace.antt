-- What a program did over UDP: its datagrams, its time and its lines, the newest first (own).
use Rattle.std.specs.Prelude.{ℕ, Bool, true, false, List, ◌∷◌, Option, Some, None}
use Rattle.tftp_ends.specs.Step.{Reply}
use Rattle.tftp_ends.specs.declared.endpoint.Endpoint.{Endpoint}
use Rattle.tftp_sockets.specs.declared.watch.Watch.{Watch}

-- what a program learns of its sockets without a datagram, and of its memory (ours)
pub data QuietEvent : Type 0 where
  -- a receive at the port found nothing
  Empty : (port : ℕ) → QuietEvent
  -- a receive at the port failed otherwise, or left what it found to another server: a datagram may
  -- be there
  Failed : (port : ℕ) → QuietEvent
  -- a wait began, of at most so many milliseconds
  Slept : (millis : ℕ) → QuietEvent
  -- the wait ended, and reported that datagrams may be at these ports
  Woke : (ports : List ℕ) → QuietEvent
  -- no socket could be bound to the port, or to any port for 0
  No_socket : (port : ℕ) → QuietEvent
  -- a new socket is bound to the port
  New_socket : (port : ℕ) → QuietEvent
  -- memory was refused
  Out_of_memory : QuietEvent
  -- a look found that nobody reads any more what the program prints
  No_reader : QuietEvent
  -- a look found that the signal to drain was given
  Drain_signalled : QuietEvent

pub data SocketEvent : Type 0 where
  -- a datagram was received at the port, from this endpoint, with these bytes (RFC 1350, section 4)
  Received : (port : ℕ) (from : Endpoint) (bytes : List ℕ) → SocketEvent
  -- a datagram was sent from the port; it may be lost like any other (RFC 1350, section 2)
  Sent : (port : ℕ) (to : Endpoint) (bytes : List ℕ) → SocketEvent
  -- the clock was read: the program's watch has this reading and this time then, in milliseconds
  Watched : (watch : Watch) → SocketEvent
  -- a timeout was delivered to the transfer at the port, at this time of the watch
  -- (RFC 1350, section 2)
  Elapsed : (port : ℕ) (time : ℕ) → SocketEvent
  -- a line was printed on standard output, without its end; `tftp` notes an empty one, if the system
  -- refused it
  Printed : (line : List ℕ) → SocketEvent
  -- nothing was received, a socket was bound or none, memory was refused, the program waited, or a
  -- look found what it is for
  Quiet : QuietEvent → SocketEvent

-- the trace after these bytes were sent from the port, if they go somewhere
abbrev pub replied : ℕ → Option Endpoint → List ℕ → List SocketEvent → List SocketEvent
replied port None bytes events = events
replied port (Some to) bytes events = Sent port to bytes ∷ events

-- the trace after the answer of a step was sent from the port, if it has one
abbrev pub answered : ℕ → Option Reply → List SocketEvent → List SocketEvent
answered port None events = events
answered port (Some reply) events = Sent port reply.to reply.bytes ∷ events

-- the trace after a look for what this event is of, which found it or not
abbrev pub looked : Bool → QuietEvent → List SocketEvent → List SocketEvent
looked true event events = Quiet event ∷ events
looked false event events = events

-- the trace after a poll that took no time and reported these ports is noted, if it was not yet
abbrev pub polled : Bool → List ℕ → List SocketEvent → List SocketEvent
polled true ports events = Quiet (Woke ports) ∷ Quiet (Slept 0) ∷ events
polled false ports events = events
