-- What is known of an end that is open, and how an end is.
use Rattle.tftp_lives.proofs.Common.{List, ◌≡◌, true, inl, false, refl, inr, sym, ap, ◌∙◌, Bool, not, true≢false, ◌⊎◌}
use Rattle.tftp_lives.proofs.Common.{is_some, EndState, outcome_of, is_complete, closed, IsOpen, Phase, Act, newest}
use Rattle.tftp_lives.proofs.Common.{IsOver, rules, GaveUp}
use Rattle.tftp_lives.proofs.Stands.{IsCopied, IsIn, Stands, more_of}
use Rattle.tftp_ends.specs.declared.outcome.Outcome.TheVariants as outcomes

-- ---- an open end
-- no open end has closed
open_not : {P : Type 0} (e : EndState) (p : Phase) → IsOpen e → e.position.phase ≡ p → is_some (outcome_of p) ≡ true → P
open_not e p o is closes =
    absurd (true≢false (sym closes ∙ (ap (λ (q : Phase). is_some (outcome_of q)) (sym is) ∙ o)))

-- an open end is in its phase
pub in_phase_of : (e : EndState) (p : Phase) → IsOpen e → IsIn e p → e.position.phase ≡ p
in_phase_of e p o (inl is) = is
in_phase_of e p o (inr is) = open_not e (closed outcomes.TimedOut p) o is.0 refl

-- and no timeout has closed it
pub still_copied : (e : EndState) (p : Phase) → IsOpen e → (is : IsIn e p) → (acts : List Act) →
    IsCopied acts (newest e) e.role.retries e.position.retries_left (more_of e p is) →
    IsCopied acts (newest e) e.role.retries e.position.retries_left 0
still_copied e p o is acts c = search rules

-- ---- how an end is
abbrev pub GoesOn : EndState → Type 0
GoesOn e = IsOpen e × (is_complete e.position.phase ≡ false)

pub how_it_is : (acts : List Act) (e : EndState) → Stands acts e → IsOver e ⊎ (GoesOn e ⊎ GaveUp e)
how_it_is acts e h2 = search rules

pub gave_up_only : (e : EndState) → GaveUp e → IsOver e → ⊥
gave_up_only e gave h2 = search rules

pub flipped : (x y : Bool) → x ≡ not y → y ≡ not x
flipped true true e = e
flipped true false e = refl
flipped false true e = refl
flipped false false e = e
