-- A call that appends its answer, over the one that lends it: the capacity that it reserves, and why it fails.
-- For `End::reserve_answer`, `End::on_datagram` and `End::on_timeout`.
use Rattle.tftp_ends.proofs.Common.{◌≡◌, ◌≤◌, ◌<◌, ℕ, List, length, Option, refl, ap, subst, ◌∙◌, Packet, Decodes}
use Rattle.tftp_ends.proofs.Common.{EndState, Action, Respond, Send, Store, Endpoint, Result, Err}
use Rattle.std.proofs.Common.{rules}
use Rattle.std.proofs.lemmas.Result.{err_from_is_err_and}
use Rattle.std.specs.Result.{IsErrAnd}
use Rattle.std.specs.Prelude.{IsErrOf}
use Rattle.tftp_wire.specs.Laws.{OneMeaning, SpelledHasNoFault}
use Rattle.tftp_ends.specs.declared.fault.EndFault.{EndFault}
use Rattle.tftp_ends.specs.Action.{HandledBy, datagram_action}
use Rattle.tftp_ends.specs.Room.{room_of, FitsRoom}
use Rattle.tftp_ends.specs.Step.{IsAnswered, UsesFile}

module _ (e : EndState) (from : Endpoint) (bytes : List ℕ) where
  -- this action handles the datagram
  abbrev pub IsHandledBy : Action → Type 0
  IsHandledBy action = (decoded : Option Packet) × Decodes bytes decoded × (action ≡ datagram_action e from bytes decoded)

  -- what holds of that action
  pub handled_by : (P : Action → Type 0) (action : Action) → IsHandledBy action → P action → HandledBy P from bytes e
  handled_by P action h p = (h.0, h.1, subst P h.2 p)

  -- the capacity for it is enough for what fits the action for the same bytes
  pub room_is_enough : OneMeaning → SpelledHasNoFault → (action : Action) → IsHandledBy action → (datagram : List ℕ) →
      HandledBy (FitsRoom e datagram) from bytes e → length datagram ≤ room_of e action
  room_is_enough one spelled action h datagram k = search rules

-- an action that needs capacity sends a datagram
pub needs_answer : (e : EndState) (action : Action) → 0 < room_of e action → IsAnswered action
needs_answer e action h = search rules

-- ---- why it fails
-- what the exit of a `?` returns
pub returned : {T E : Type 0} (r : Result T E) (fault : E) → IsErrAnd r (λ e. e ≡ fault) → r ≡ Err fault
returned r fault h = let p = err_from_is_err_and r h in p.1 ∙ ap Err p.2

-- a fault is the same, whatever the call returns otherwise
pub passed : {A B : Type 0} (fault kind : EndFault) → IsErrOf {T = A} (Err fault) kind → IsErrOf {T = B} (Err fault) kind
passed fault kind e = let same : fault ≡ kind = cc in rw same refl

-- an action that uses the file sends a datagram
pub file_is_answered : (from : Endpoint) (bytes : List ℕ) (e : EndState) → HandledBy UsesFile from bytes e →
    HandledBy IsAnswered from bytes e
file_is_answered from bytes e h = (h.0, h.1, answered (datagram_action e from bytes h.0) h.2)
  where
    answered : (action : Action) → UsesFile action → IsAnswered action
    answered (Respond response) h = absurd h
    answered (Send terms number) h = tt
    answered (Store terms number) h = tt
