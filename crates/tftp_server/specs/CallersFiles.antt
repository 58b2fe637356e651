-- A server whose caller has the files: what a step that is lent a source or a sink leaves.
use Rattle.std.specs.Prelude.{ℕ, ◌≡◌, Bool, false, not, ◌&&◌, List, Option, Some, None}
use Rattle.tftp_wire.specs.declared.mode.Mode.{Mode}
use Rattle.tftp_file.specs.Source.{SourceMeaning}
use Rattle.tftp_file.specs.Sink.{SinkMeaning}
use Rattle.tftp_ends.specs.declared.endpoint.Endpoint.{Endpoint}
use Rattle.tftp_ends.specs.declared.error_reply.ErrorReply.{ErrorReply}
use Rattle.tftp_ends.specs.declared.outgoing.Outgoing.{Outgoing}
use Rattle.tftp_ends.specs.declared.record.Step.{Step}
use Rattle.tftp_ends.specs.End.{EndState, is_sender}
use Rattle.tftp_ends.specs.OneFile.{ReceiverStep, SenderStep}
use Rattle.tftp_ends.specs.Step.{Turn, Lends, reported}
use Rattle.tftp_server.specs.Port.{Ask, Ignores, Refuses, Reads, Writes}
use Rattle.tftp_server.specs.State.{TransferState, at, is_closed, with_next}
use Rattle.tftp_server.specs.Steps.{with_end}

-- the ERROR that answers a datagram that is refused
abbrev pub refusal : Ask → Option ErrorReply
refusal Ignores = None
refusal (Refuses reply) = Some reply
refusal (Reads path mode options) = None
refusal (Writes path mode agreed) = None

-- the path of a read that may be served, and of a write
abbrev pub read_path : Ask → Option (List ℕ)
read_path Ignores = None
read_path (Refuses reply) = None
read_path (Reads path mode options) = Some path
read_path (Writes path mode agreed) = None

abbrev pub write_path : Ask → Option (List ℕ)
write_path Ignores = None
write_path (Refuses reply) = None
write_path (Reads path mode options) = None
write_path (Writes path mode agreed) = Some path

-- of either
abbrev pub asked_path : Ask → Option (List ℕ)
asked_path Ignores = None
asked_path (Refuses reply) = None
asked_path (Reads path mode options) = Some path
asked_path (Writes path mode agreed) = Some path

-- the mode of either
abbrev pub asked_mode : Ask → Option Mode
asked_mode Ignores = None
asked_mode (Refuses reply) = None
asked_mode (Reads path mode options) = Some mode
asked_mode (Writes path mode agreed) = Some mode

module _ {F D : Type 0} where
  -- there is a transfer that is open and sends, or that is open and stores
  abbrev pub is_open_sender : Option (TransferState F D) → Bool
  is_open_sender None = false
  is_open_sender (Some held) = not (is_closed held) && is_sender held.end.role.side

  abbrev pub is_open_receiver : Option (TransferState F D) → Bool
  is_open_receiver None = false
  is_open_receiver (Some held) = not (is_closed held) && not (is_sender held.end.role.side)

  -- the step of the transfer at the identifier, whose end makes it as `makes` says; every other
  -- transfer is unchanged
  pub record StepsLent (makes : EndState → Turn → Type 0) (tid : ℕ)
      (old new : List (ℕ × TransferState F D)) (step : Step) (outgoing : Outgoing) : Type 0 where
    pub transfer : TransferState F D
    pub found : at tid old ≡ Some transfer
    pub turn : Turn
    pub end : EndState
    pub steps : makes transfer.end turn
    pub lends : Lends transfer.end turn end step.to outgoing
    pub reports : step ≡ reported transfer.end turn
    pub held : new ≡ with_next tid (with_end end transfer) old

  -- that of a sender, over the source that it is lent
  abbrev pub SendsLent : {R : Type 0} → SourceMeaning R → R → R → Endpoint → List ℕ → ℕ
      → List (ℕ × TransferState F D) → List (ℕ × TransferState F D) → Step → Outgoing → Type 0
  SendsLent sources source source' from bytes tid old new step outgoing =
      StepsLent (λ e turn. SenderStep sources from bytes e source turn source') tid old new step
      outgoing

  -- and that of a receiver, over the sink
  abbrev pub StoresLent : {K : Type 0} → SinkMeaning K → K → K → Endpoint → List ℕ → ℕ
      → List (ℕ × TransferState F D) → List (ℕ × TransferState F D) → Step → Outgoing → Type 0
  StoresLent sinks sink sink' from bytes tid old new step outgoing =
      StepsLent (λ e turn. ReceiverStep sinks from bytes e sink turn sink') tid old new step
      outgoing
