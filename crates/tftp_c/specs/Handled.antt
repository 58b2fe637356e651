-- What a call of an open handle reports to C.
use Rattle.std.specs.Prelude.{ℕ, ◌≡◌, ◌-◌, false, List, length, take, Option, Some, None}
use Rattle.tftp_file.specs.Memory.{MemSinkState, memory_sink, new_mem_sink, memory_source}
use Rattle.tftp_ends.specs.declared.endpoint.Endpoint.{Endpoint}
use Rattle.tftp_ends.specs.declared.outgoing.Outgoing.{Outgoing}
use Rattle.tftp_ends.specs.declared.record.Step.{Step}
use Rattle.tftp_ends.specs.End.{EndState, is_progress}
use Rattle.tftp_ends.specs.OneFile.{ReceiverStep, SenderStep}
use Rattle.tftp_ends.specs.Step.{Turn, Lends, after_turn, reported, timeout_turn}
use Rattle.tftp_c.specs.declared.client.Client.{Client}
use Rattle.tftp_c.specs.declared.event.TftpEndpoint.{TftpEndpoint}
use Rattle.tftp_c.specs.declared.event.TftpEvent.{TftpEvent}
use Rattle.tftp_c.specs.Reports.{endpoint_of, SendsReply, Reports}

-- a receiver made its step over a buffer of the caller, as over an empty sink with the length of
-- the buffer as its capacity: the buffer begins with the bytes that were stored
pub record Stored (from : Endpoint) (datagram : List ℕ) (before e : EndState) (room file : List ℕ)
    (step : Step) (outgoing : Outgoing) (count : ℕ) : Type 0 where
  pub turn : Turn
  pub sink : MemSinkState
  pub makes : ReceiverStep memory_sink from datagram before (new_mem_sink (length room) false) turn
      sink
  pub lends : Lends before turn e step.to outgoing
  pub reports : step ≡ reported before turn
  pub stored : take count file ≡ sink.holding.bytes

-- a sender made its step over the next bytes of its file, and left `rest` of them
pub record Taken (from : Endpoint) (datagram : List ℕ) (before e : EndState) (next : List ℕ)
    (step : Step) (outgoing : Outgoing) (count : ℕ) : Type 0 where
  pub turn : Turn
  pub rest : List ℕ
  pub makes : SenderStep memory_source from datagram before next turn rest
  pub lends : Lends before turn e step.to outgoing
  pub reports : step ≡ reported before turn
  pub taken : count ≡ length next - length rest

-- a step as an event reports it
pub record Steps (before : EndState) (turn : Turn) (e : EndState) (reply : List ℕ)
    (event : TftpEvent) : Type 0 where
  pub state : e ≡ after_turn before turn
  pub sends : SendsReply turn.reply reply event
  pub progress : event.progress ≡ is_progress before.position.phase e.position.phase
  pub reports : Reports e event

-- a receiver has handled a datagram: `file` begins with what the step stored
pub record Received (from : TftpEndpoint) (datagram : List ℕ) (before e : EndState)
    (room file reply : List ℕ) (event : TftpEvent) : Type 0 where
  pub turn : Turn
  pub sink : MemSinkState
  pub makes : ReceiverStep memory_sink (endpoint_of from) datagram before
      (new_mem_sink (length room) false) turn sink
  pub stored : take event.file_len file ≡ sink.holding.bytes
  pub steps : Steps before turn e reply event

-- a sender has handled a datagram: it has taken the first bytes of `next`, and left `rest`
pub record Sent (from : TftpEndpoint) (datagram : List ℕ) (before e : EndState)
    (next reply : List ℕ) (event : TftpEvent) : Type 0 where
  pub turn : Turn
  pub rest : List ℕ
  pub makes : SenderStep memory_source (endpoint_of from) datagram before next turn rest
  pub taken : event.file_len ≡ length next - length rest
  pub steps : Steps before turn e reply event

-- an end has had a timeout
pub record TimedOut (before e : EndState) (reply : List ℕ) (event : TftpEvent) : Type 0 where
  pub file : event.file_len ≡ 0
  pub steps : Steps before (timeout_turn before) e reply event

-- a call handles the end that is held, and holds it still; it holds none if none was held
abbrev pub OnEnd : Option Client → Option Client → (EndState → EndState → Type 0) → Type 0
OnEnd None after does = after ≡ None
OnEnd (Some c) None does = ⊥
OnEnd (Some c) (Some d) does = does c.end d.end

-- the same, of the client with what it knows
abbrev pub OnClient : Option Client → Option Client → (Client → Client → Type 0) → Type 0
OnClient None after does = after ≡ None
OnClient (Some c) None does = ⊥
OnClient (Some c) (Some d) does = does c d

-- a handle holds a client of which this holds
abbrev pub HoldsClient : Option Client → (Client → Type 0) → Type 0
HoldsClient None holds = ⊥
HoldsClient (Some c) holds = holds c
