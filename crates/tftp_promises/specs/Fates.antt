-- What becomes of a datagram that a server received at its request port (RFC 1350, section 4): a
-- transfer opens for it, an ERROR answers it, it repeats the request of a transfer that is open, or
-- it is lost for a stated reason.
use Rattle.std.specs.Prelude.{ℕ, ◌≡◌, List, Some, ◌⊎◌, true}
use Rattle.tftp_promises.specs.Common.{SourceMeaning, StoreMeaning, Endpoint, LoopStep, LoopState}
use Rattle.tftp_promises.specs.Common.{Run, Then, Start, TransferState, Error_reply, Nothing}
use Rattle.tftp_promises.specs.Common.{A_transfer}
use Rattle.tftp_wire.specs.Reading.{has_error_opcode}
use Rattle.tftp_ends.specs.declared.error_reply.ErrorReply.{ErrorReply}
use Rattle.tftp_loop.specs.Steps.{AnswersRequest}
use Rattle.tftp_loop.specs.Steps.LoopStep.{Request_received, Request_answered, Request_lost}
use Rattle.tftp_promises.specs.Programs.{ServerProgram}

module _ {S F D : Type 0} {stores : StoreMeaning S D} {sources : SourceMeaning F} where
  -- a step received this at the request port
  abbrev pub ReceivesIt : Endpoint → List ℕ → {old new : LoopState S F D}
      → LoopStep stores sources old new → Type 0
  ReceivesIt from bytes (Request_received d) = (d.from ≡ from) × (d.bytes ≡ bytes)
  ReceivesIt from bytes does = ⊥

  -- a step of the run did
  abbrev pub WasReceived : Endpoint → List ℕ → {first last : LoopState S F D}
      → Run (LoopStep stores sources) first last → Type 0
  WasReceived from bytes Start = ⊥
  WasReceived from bytes (Then run does) = ReceivesIt from bytes does ⊎ WasReceived from bytes run

  -- how the request port answers: by a transfer that opens, whose first datagram is sent at once;
  -- by an ERROR; or by nothing, since the datagram repeats the request of an open transfer, or is
  -- an ERROR
  pub data IsAnswered {old new : LoopState S F D} (d : AnswersRequest stores sources old new)
      : Type 0 where
    Opens : (transfer : TransferState F D) (store : S) → d.steps.came ≡ A_transfer transfer store
        → IsAnswered d
    Is_refused : (reply : ErrorReply) (store : S) → d.steps.came ≡ Error_reply reply store
        → IsAnswered d
    Is_known : d.steps.came ≡ Nothing
        → (has_error_opcode d.bytes ≡ true) ⊎ (d.steps.repeated ≡ true) → IsAnswered d

  -- a step settles this: it answers, or it loses it for the reason that it states
  abbrev pub Settles : Endpoint → List ℕ → {old new : LoopState S F D}
      → LoopStep stores sources old new → Type 0
  Settles from bytes (Request_answered d) = (d.from ≡ from) × (d.bytes ≡ bytes) × IsAnswered d
  Settles from bytes (Request_lost d) = (d.from ≡ from) × (d.bytes ≡ bytes)
  Settles from bytes does = ⊥

  -- a step of the run did
  abbrev pub WasSettled : Endpoint → List ℕ → {first last : LoopState S F D}
      → Run (LoopStep stores sources) first last → Type 0
  WasSettled from bytes Start = ⊥
  WasSettled from bytes (Then run does) = Settles from bytes does ⊎ WasSettled from bytes run

module _ {S F D : Type 0} (stores : StoreMeaning S D) (sources : SourceMeaning F) where
  -- each datagram that a server received there is settled, or is yet to be
  abbrev pub RequestsAreSettled : Type 0
  RequestsAreSettled =
      (to : Endpoint) (server : ServerProgram stores sources to) (from : Endpoint) (bytes : List ℕ)
      → WasReceived from bytes server.run
      → (server.last.pending ≡ Some (from, bytes)) ⊎ WasSettled from bytes server.run
