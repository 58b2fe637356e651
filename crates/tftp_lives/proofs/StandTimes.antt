-- How an open end stands after a timeout.
use Rattle.tftp_lives.proofs.Common.{List, ◌≡◌, true, Some, None, inl, false, ◌∷◌, Option, refl, inr, sym, ap, subst}
use Rattle.tftp_lives.proofs.Common.{arith, ◌∙◌, Bool, suc, true≢false, ◌==◌, if◌then◌else◌, is_some, EndState}
use Rattle.tftp_lives.proofs.Common.{outcome_of, is_complete, closed, IsOpen, Reply, Turn, after_turn, with_position}
use Rattle.tftp_lives.proofs.Common.{response_turn, timeout_turn, Close, Outcome, Phase, Receiving, Sending, Waiting}
use Rattle.tftp_lives.proofs.Common.{Act, newest, with_reply, Timed, rules, cases_eq, is_progress}
use Rattle.std.proofs.lemmas.Bool.{eq-eqb, ne_eqb}
use Rattle.tftp_ends.specs.declared.action.Response.TheVariants.{Retransmit}
use Rattle.tftp_ends.proofs.RunMoves.{not_below_itself}
use Rattle.tftp_lives.proofs.Stands.{IsCopied, Knows, Stands, Goes, Over, copies_on}
use Rattle.tftp_lives.proofs.StandsMore.{knows_on}
use Rattle.tftp_lives.proofs.OpenEnds.{in_phase_of, still_copied}
use Rattle.tftp_ends.specs.declared.outcome.Outcome.TheVariants as outcomes

-- ---- after a timeout
module _ (acts : List Act) (e : EndState) where
  -- an end in a phase
  abbrev in_alone : Phase → EndState
  in_alone p = with_position (record e.position { phase = p }) e

  -- what it has done, with the timeout, and what it then sends again
  abbrev then_done : Option Reply → List Act
  then_done reply = with_reply reply (Timed ∷ acts)

  -- the acts are nothing new to the end
  knows_timed : (p : Phase) → Knows acts e.role e.position.last_sent_to e.position.last_sent p →
      Knows (Timed ∷ acts) e.role e.position.last_sent_to e.position.last_sent p
  knows_timed p k = search (rules, knows_on)

  knows_done : (reply : Option Reply) (p : Phase) → Knows acts e.role e.position.last_sent_to e.position.last_sent p →
      Knows (then_done reply) e.role e.position.last_sent_to e.position.last_sent p
  knows_done reply p k = search (rules, knows_timed, knows_on)

  -- in a phase whose timeouts send again while retries are left, and then close the end
  module _ (p : Phase) (k : Knows acts e.role e.position.last_sent_to e.position.last_sent p)
      (c : IsCopied acts (newest e) e.role.retries e.position.retries_left 0)
      (still : is_progress p (closed outcomes.TimedOut p) ≡ false) where
    abbrev Waits : Turn → Type 0
    Waits turn = Stands (then_done turn.reply) (after_turn (in_alone p) turn)

    waited : IsCopied (Timed ∷ acts) (newest e) e.role.retries e.position.retries_left 1
    waited =
        let m = c.timeouts in
        record {
          count = c.count;
          copies = copies_on c.count (newest e) Timed acts c.copies;
          enough = c.enough;
          later = Timed ∷ c.later;
          earlier = c.earlier;
          is = ap (λ (ys : List Act). Timed ∷ ys) c.is;
          timeouts = omega (arith, m);
        }

    gives_up : e.position.retries_left ≡ 0 →
        Waits (response_turn (Close outcomes.TimedOut) e.position.last_sent_to (in_alone p))
    gives_up none =
        let left = ap (λ (b : Bool). if b then e.role.retries else e.position.retries_left) still in
        Goes p (inr (refl, left ∙ none)) (knows_done None p k) (rw (left) waited)

    sends_again : (e.position.retries_left ≡ 0 → ⊥) →
        Waits (response_turn Retransmit e.position.last_sent_to (in_alone p))
    sends_again some =
        let enough = waited.enough in
        let m = waited.timeouts in
        Goes p (inl refl) (knows_done (Some (search)) p k) (record {
          count = suc waited.count;
          copies = inl (refl, waited.copies);
          enough = omega (arith, enough, some);
          later = newest e ∷ waited.later;
          earlier = waited.earlier;
          is = ap (λ (ys : List Act). newest e ∷ ys) waited.is;
          timeouts = omega (arith, m, some);
        })

    tries : Waits
        (response_turn
        (if e.position.retries_left == 0 then Close outcomes.TimedOut else Retransmit) e.position.last_sent_to
        (in_alone p))
    tries = elim (cases_eq e.position.retries_left 0) [
      | inl none ↦ rw (eq-eqb e.position.retries_left 0 none) (gives_up none)
      | inr some ↦ rw (ne_eqb e.position.retries_left 0 some) (sends_again some)
    ]

  -- an end after a timeout, if it was in this phase
  abbrev After : Phase → Type 0
  After p =
      Stands (then_done (timeout_turn (in_alone p)).reply)
      (after_turn (in_alone p) (timeout_turn (in_alone p)))

  over_waits : (p : Phase) → is_some (outcome_of p) ≡ false → is_complete p ≡ true → After p
  over_waits p o complete = search rules

  knows_waits : (p : Phase) → Knows acts e.role e.position.last_sent_to e.position.last_sent p →
      IsCopied acts (newest e) e.role.retries e.position.retries_left 0 → After p
  knows_waits (Waiting asked limit) k c = tries (Waiting asked limit) k c refl
  knows_waits (Sending t n) k c = tries (Sending t n) k c (rw (not_below_itself n) refl)
  knows_waits (Receiving t n) k c = tries (Receiving t n) k c (rw (not_below_itself n) refl)
  knows_waits p k c = absurd k

  pub waits : IsOpen e → Stands acts e → After e.position.phase
  waits o (Goes p is k c) = subst After (sym (in_phase_of e p o is)) (knows_waits p k (still_copied e p o is acts c))
  waits o (Over (inl complete)) = over_waits e.position.phase o complete
  waits o (Over (inr closes)) =
      absurd (true≢false (sym (ap (λ (z : Option Outcome). is_some z) closes.1) ∙ o))
