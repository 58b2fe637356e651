-- What an event reports to C: the datagram to send, and the state of the end.
use Rattle.std.specs.Prelude.{ℕ, ◌≡◌, ◌≤◌, ◌<◌, true, false, List, length, take, Option, Some, None}
use Rattle.tftp_ends.specs.declared.endpoint.Endpoint.{Endpoint}
use Rattle.tftp_ends.specs.declared.outcome.Outcome.{Outcome}
use Rattle.tftp_ends.specs.declared.outcome.Outcome.TheVariants.{PeerError}
use Rattle.tftp_ends.specs.declared.record.Record.{Record}
use Rattle.tftp_ends.specs.End.{EndState, record_of}
use Rattle.tftp_ends.specs.Outcome as outcomes
use Rattle.tftp_ends.specs.Step.{Reply}
use Rattle.tftp_c.specs.declared.event.TftpEndpoint.{TftpEndpoint}
use Rattle.tftp_c.specs.declared.event.TftpEvent.{TftpEvent}

-- an endpoint of C
abbrev pub endpoint_of : TftpEndpoint → Endpoint
endpoint_of at = record { ip = at.ip; port = at.port }

-- the buffer begins with a datagram that fits it
pub record Whole (datagram buffer : List ℕ) (event : TftpEvent) : Type 0 where
  pub len : event.send_len ≡ length datagram
  pub bytes : take (length datagram) buffer ≡ datagram
  pub room : event.no_room ≡ false

-- a datagram that does not fit the buffer is lost: nothing is to be sent
pub record Lost (event : TftpEvent) : Type 0 where
  pub len : event.send_len ≡ 0
  pub room : event.no_room ≡ true

-- the datagram to send is in the buffer, or lost
pub record Writes (to : Endpoint) (datagram buffer : List ℕ) (event : TftpEvent) : Type 0 where
  pub goes : endpoint_of event.to ≡ to
  pub whole : length datagram ≤ length buffer → Whole datagram buffer event
  pub lost : length buffer < length datagram → Lost event

-- the same, if there is a datagram to send
abbrev pub Sends : Option Endpoint → List ℕ → List ℕ → TftpEvent → Type 0
Sends None datagram buffer event = (event.send_len ≡ 0) × (event.no_room ≡ false)
Sends (Some to) datagram buffer event = Writes to datagram buffer event

-- the answer of a step
abbrev pub SendsReply : Option Reply → List ℕ → TftpEvent → Type 0
SendsReply None buffer event = (event.send_len ≡ 0) × (event.no_room ≡ false)
SendsReply (Some reply) buffer event = Sends (Some reply.to) reply.bytes buffer event

-- how an end closed, or 0
abbrev pub outcome_number : Option Outcome → ℕ
outcome_number None = 0
outcome_number (Some outcome) = outcomes.number_of_outcome outcome

-- the code of the ERROR of the peer that closed an end, or 0
abbrev pub error_code : Outcome → ℕ
error_code (PeerError code) = code
error_code _ = 0

abbrev pub peer_code : Option Outcome → ℕ
peer_code None = 0
peer_code (Some outcome) = error_code outcome

-- the state of an end, as an event reports it
pub record ReportsRecord (r : Record) (event : TftpEvent) : Type 0 where
  pub complete : event.complete ≡ r.complete
  pub outcome : event.outcome ≡ outcome_number r.outcome
  pub code : event.peer_code ≡ peer_code r.outcome
  pub number : event.number ≡ r.number
  pub size : event.block_size ≡ r.size

abbrev pub Reports : EndState → TftpEvent → Type 0
Reports e event = ReportsRecord (record_of e) event
