-- What a client notes: its request first, and then only events of its own port, waits, and lines.
use Rattle.std.specs.Prelude.{ℕ, ◌≡◌, List, [], ◌∷◌, ◌++◌}
use Rattle.tftp_promises.specs.Common.{SourceMeaning, Endpoint, SinkMeaning, SocketEvent, Sent}
use Rattle.tftp_promises.specs.Common.{Received, Elapsed, Quiet, Empty, QuietEvent, Failed, Slept}
use Rattle.std.specs.List.{AllByRecursion}
use Rattle.tftp_promises.specs.Programs.{ClientProgram}

-- a receive at this port without a datagram, or the begin of a wait; a client's waits report none,
-- and it notes no bind, no refused memory, and no look at a reader or a signal
abbrev pub IsQuietAt : ℕ → QuietEvent → Type 0
IsQuietAt port (Empty at) = at ≡ port
IsQuietAt port (Failed at) = at ≡ port
IsQuietAt port (Slept millis) = Unit {0}
IsQuietAt port event = ⊥

-- a datagram, a receive or a timeout of this port, a wait, a reading of the clock, or a line
abbrev pub IsOfPort : ℕ → SocketEvent → Type 0
IsOfPort port (Received at from bytes) = at ≡ port
IsOfPort port (Sent at to bytes) = at ≡ port
IsOfPort port (Elapsed at time) = at ≡ port
IsOfPort port (Quiet event) = IsQuietAt port event
IsOfPort port event = Unit {0}

-- a client sends its request to the server, and then notes only events of its port, waits, and
-- lines
pub record AsksFirst {G K : Type 0} {inputs : SourceMeaning G} {outputs : SinkMeaning K}
    {to : Endpoint} (client : ClientProgram inputs outputs to) : Type 0 where
  pub more : List SocketEvent
  pub is : client.noted ≡ more ++ Sent client.port to client.first.position.last_sent ∷ []
  pub own : AllByRecursion (IsOfPort client.port) more
