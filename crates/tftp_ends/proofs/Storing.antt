-- A receiver's step, from the result of storing a block. For `End::store`.
use Rattle.tftp_ends.proofs.Common.{◌≡◌, ℕ, List, length, Some, sym, ap, ◌∙◌, SinkMeaning, StoreFault, Endpoint}
use Rattle.tftp_ends.proofs.Common.{ErrorReply, DiskFull, Outgoing, Fresh, Receiving, Dallying, Terms, Step, EndState}
use Rattle.tftp_ends.proofs.Common.{step_of, refused, Turn, Lends, with_position, holding, ack_bytes, sent_turn}
use Rattle.tftp_ends.proofs.Common.{refused_turn, reported}
use Rattle.std.proofs.Common.{ltb, rules}
use Rattle.tftp_ends.specs.declared.end.storing.BlockStored.{BlockStored}
use Rattle.tftp_ends.specs.declared.end.storing.BlockStored.TheVariants.{More, All, Refused, Uncommitted}
use Rattle.tftp_ends.specs.declared.outcome.Outcome.TheVariants as outcomes
use Rattle.tftp_ends.specs.declared.outgoing.Outgoing.TheVariants.{LastSent, Error}
use Rattle.tftp_ends.specs.Step.{Stores, in_phase, having_sent}
use Rattle.tftp_ends.specs.BlockStored.{StoresPiece}

module _ {K : Type 0} (sinks : SinkMeaning K) (terms : Terms) (number : ℕ) (from : Endpoint) (piece : List ℕ)
    (e : EndState) (held_after : List ℕ) (sink sink' : K) where
  -- the turn of this result
  abbrev pub stored_turn : BlockStored → Turn
  stored_turn More = sent_turn (Receiving terms number) from (ack_bytes number) (holding held_after e)
  stored_turn All = sent_turn (Dallying terms number Fresh) from (ack_bytes number) (holding held_after e)
  stored_turn Refused = refused_turn terms DiskFull outcomes.StoreFault from e
  stored_turn (Uncommitted reply) = refused_turn terms reply outcomes.StoreFault from (holding held_after e)

  -- the result of storing the block
  abbrev pub StoresNext : BlockStored → Type 0
  StoresNext block_stored =
      StoresPiece sinks e.role.mode e.position.held_back piece
      (ltb (length piece) terms.size) sink sink' block_stored held_after

  stores : (block_stored : BlockStored) → StoresNext block_stored
      → Stores sinks terms number from piece e sink (stored_turn block_stored) sink'
  stores block_stored o = search rules

  -- a receiver's step for an action that stores, its report, and the bytes that the call lends
  abbrev pub IsReported : EndState → Step → Outgoing → Type 0
  IsReported e' step outgoing =
      (turn : Turn) × Stores sinks terms number from piece e sink turn sink'
      × Lends e turn e' step.to outgoing × (step ≡ reported e turn)

  report : (e' : EndState) (outgoing : Outgoing) (step : Step) (turn : Turn)
      → Stores sinks terms number from piece e sink turn sink' → Lends e turn e' (Some from) outgoing
      → step ≡ step_of e.position.phase e'.position.phase (Some from) → IsReported e' step outgoing
  report e' outgoing step turn s l is = search rules

  -- the block was stored, and it is not the last one
  pub stored_more : StoresNext More → (e' : EndState) (step : Step)
      → e'
      ≡ with_position
      (having_sent (record { to = from; bytes = ack_bytes number })
      (in_phase (Receiving terms number) (holding held_after e)))
      e
      → step ≡ step_of e.position.phase (Receiving terms number) (Some from)
      → IsReported e' step LastSent
  stored_more o e' step s is =
      report e' LastSent step (stored_turn More) (stores More o) (search (ap (λ (x : EndState). x.position.last_sent)
      s)) (is ∙ sym (ap (λ (x : EndState). step_of e.position.phase x.position.phase (Some from)) s))

  -- the last block was stored, and the file was committed
  pub stored_all : StoresNext All → (e' : EndState) (step : Step)
      → e'
      ≡ with_position
      (having_sent (record { to = from; bytes = ack_bytes number })
      (in_phase (Dallying terms number Fresh) (holding held_after e)))
      e
      → step ≡ step_of e.position.phase (Dallying terms number Fresh) (Some from)
      → IsReported e' step LastSent
  stored_all o e' step s is =
      report e' LastSent step (stored_turn All) (stores All o) (search (ap (λ (x : EndState). x.position.last_sent) s))
      (is ∙ sym (ap (λ (x : EndState). step_of e.position.phase x.position.phase (Some from)) s))

  -- the store has refused the block
  pub stored_not : StoresNext Refused → (e' : EndState) (step : Step)
      → e' ≡ with_position (in_phase (refused (Some terms) outcomes.StoreFault e.position.phase) e) e
      → step ≡ step_of e.position.phase e'.position.phase (Some from)
      → IsReported e' step (Error DiskFull)
  stored_not o e' step s is = search (rules, report, stores)

  -- the store has refused the commit
  pub not_committed : (reply : ErrorReply) → StoresNext (Uncommitted reply) → (e' : EndState) (step : Step)
      → e'
      ≡ with_position
      (in_phase (refused (Some terms) outcomes.StoreFault e.position.phase) (holding held_after e)) e
      → step ≡ step_of e.position.phase e'.position.phase (Some from)
      → IsReported e' step (Error reply)
  not_committed reply o e' step s is = search (rules, report, stores)
