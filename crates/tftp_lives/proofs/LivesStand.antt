-- Every end stands so by what it has heard and sent.
use Rattle.tftp_lives.proofs.Common.{List, ◌≡◌, ℕ, true, inl, false, ◌∷◌, Option, inr, sym, ap, subst, ◌∙◌, true≢false}
use Rattle.tftp_lives.proofs.Common.{is_some, SinkMeaning, SourceMeaning, Files, datagram_action, EndState, outcome_of}
use Rattle.tftp_lives.proofs.Common.{is_complete, IsOpen, Turn, after_turn, Acts, with_position, Endpoint, Outcome}
use Rattle.tftp_lives.proofs.Common.{Phase, Dallying, Act, Took, with_reply, Life, Opens, Hears, Loses, Times, Begins}
use Rattle.tftp_lives.proofs.Common.{DatagramStep}
use Rattle.tftp_lives.proofs.StandActions.{Handling}
use Rattle.tftp_ends.specs.declared.phase.Phase.TheVariants.{Closed}
use Rattle.tftp_lives.proofs.Stands.{Stands, Goes, Over}
use Rattle.tftp_lives.proofs.StandsMore.{stands_lost}
use Rattle.tftp_lives.proofs.OpenEnds.{in_phase_of, still_copied}
use Rattle.tftp_lives.proofs.StandOpens.{begins_so}
use Rattle.tftp_lives.proofs.StandSteps.{dallies_on, knows_goes}
use Rattle.tftp_lives.proofs.StandTimes.{waits}

-- ---- after a datagram
module _ {S K : Type 0} (sources : SourceMeaning S) (sinks : SinkMeaning K) (from : Endpoint) (bytes : List ℕ)
    (acts : List Act) (e : EndState) where
  abbrev handling : Handling S K
  handling = record { sources = sources; sinks = sinks; e0 = e; from = from; bytes = bytes; acts = acts }

  abbrev at : Phase → EndState
  at p = with_position (record e.position { phase = p }) e

  module _ (turn : Turn) (files files' : Files S K) (d : DatagramStep sources sinks from bytes e files turn files') where
    -- how the end stands after the step, if it was in this phase
    abbrev Going : Phase → Type 0
    Going p =
        Acts sources sinks (datagram_action (at p) from bytes d.decoded) from bytes (at p) files turn files' →
        Stands (with_reply turn.reply (Took from bytes ∷ acts)) (after_turn (at p) turn)

    goes_in : (p : Phase) → e.position.phase ≡ p → Going p →
        Stands (with_reply turn.reply (Took from bytes ∷ acts)) (after_turn e turn)
    goes_in p is goes = subst Going (sym is) goes d.acts

    over_goes : (p : Phase) → is_some (outcome_of p) ≡ false → is_complete p ≡ true → Going p
    over_goes (Dallying t n dally) o complete =
        λ made. dallies_on handling t n dally d.decoded turn files files' made
    over_goes (Closed t n done outcome) o complete = absurd (true≢false o)
    over_goes p o complete = absurd (true≢false (sym complete))

    hears : IsOpen e → Stands acts e →
        Stands (with_reply turn.reply (Took from bytes ∷ acts)) (after_turn e turn)
    hears o (Goes p is k c) =
        goes_in p (in_phase_of e p o is)
        (λ made. knows_goes handling p k (still_copied e p o is acts c) d.decoded d.says turn files
        files' made)
    hears o (Over (inl complete)) = over_goes e.position.phase o complete d.acts
    hears o (Over (inr closes)) =
        absurd (true≢false (sym (ap (λ (z : Option Outcome). is_some z) closes.1) ∙ o))

module _ {S K : Type 0} (sources : SourceMeaning S) (sinks : SinkMeaning K) where
  -- so stands every end
  pub life_stands : {first e : EndState} {acts : List Act} → Begins first → Life sources sinks first acts e →
      Stands acts e
  life_stands {first = first} opening Opens = begins_so first opening
  life_stands opening (Hears {acts} {e} {turn} {files} {files'} life o from bytes d) =
      hears sources sinks from bytes acts e turn files files' d o (life_stands opening life)
  life_stands opening (Loses {acts} {e} life o from bytes) = stands_lost from bytes acts e (life_stands opening life)
  life_stands opening (Times {acts} {e} life o) = waits acts e o (life_stands opening life)
