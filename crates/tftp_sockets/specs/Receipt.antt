-- What a receive at a port notes (RFC 1350, section 4).
use Rattle.std.specs.Prelude.{ℕ, ◌≡◌, ◌⊎◌, ◌≤◌, ⊤, List, length, take}
use Rattle.std.specs.declared.io.ErrorKind.{ErrorKind}
use Rattle.std.specs.declared.io.ErrorKind.TheVariants as kinds
use Rattle.tftp_sockets.specs.Trace.{SocketEvent}
use Rattle.tftp_sockets.specs.Trace.SocketEvent.{Received, Quiet}
use Rattle.tftp_sockets.specs.Trace.QuietEvent.{Empty, Failed as Failure}
use Rattle.tftp_sockets.specs.declared.receipt.Receipt.{Receipt}
use Rattle.tftp_sockets.specs.declared.receipt.Receipt.TheVariants.{Datagram, Nothing, Failed}

-- the event of a receive at the port into these bytes
abbrev pub receive_event : ℕ → List ℕ → Receipt → SocketEvent
receive_event port buffer (Datagram from count) = Received port from (take count buffer)
receive_event port buffer Nothing = Quiet (Empty port)
receive_event port buffer Failed = Quiet (Failure port)

-- an error of this kind means that no datagram has arrived: of a socket that does not block, or at
-- the end of a wait
abbrev pub FindsNothing : ErrorKind → Type 0
FindsNothing kind = (kind ≡ kinds.WouldBlock) ⊎ (kind ≡ kinds.TimedOut)

-- the datagram is in the buffer
abbrev pub Fits : List ℕ → Receipt → Type 0
Fits buffer (Datagram from count) = count ≤ length buffer
Fits buffer Nothing = ⊤
Fits buffer Failed = ⊤
