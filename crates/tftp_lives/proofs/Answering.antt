-- An end has answered what it handled of its peer. For the law an_end_gives_up_unanswered.
use Rattle.tftp_lives.proofs.Common.{List, ◌≡◌, ℕ, true, Some, None, inl, false, ◌∷◌, inr, sym, ap, subst, arith, ◌∙◌}
use Rattle.tftp_lives.proofs.Common.{◌≤◌, Bool, [], ◌+◌, suc, not, canonical, Packet, Asked, SinkMeaning, SourceMeaning}
use Rattle.tftp_lives.proofs.Common.{EndState, is_sender, outcome_of, terms_of, Endpoint, Phase, Receiving, Sending}
use Rattle.tftp_lives.proofs.Common.{Waiting, Terms, Act, Took, newest, Said, Has, next_of, AreOpposite, HasSaid, rules}
use Rattle.tftp_lives.proofs.Common.{zero, HasCopies, option_map, same_Some, number_of, AnswersWhatItHandled}
use Rattle.tftp_lives.specs.Unanswered.{EndsAnswer, HasTried, AnswersAtOnce}
use Rattle.tftp_lives.proofs.Stands.{AllDue, DueSo, Goes, IsCopied, IsIn, Over, SaidSo, SentBy, Stands, TalksSo, due_at}
use Rattle.tftp_lives.proofs.Stands.{more_of}
use Rattle.tftp_lives.proofs.OneOrder.{has_first, has_last, has_there, last_of, split_at}
use Rattle.tftp_lives.proofs.OpenEnds.{flipped}
use Rattle.tftp_lives.proofs.LivesStand.{life_stands}
use Rattle.tftp_ends.specs.declared.outcome.Outcome.TheVariants as outcomes

-- ---- two ends
copies_fewer : {T : Type 0} (m n : ℕ) (x : T) (ys : List T) → m ≤ n → HasCopies n x ys → HasCopies m x ys
copies_fewer zero n x ys few h = tt
copies_fewer (suc m) zero x ys few h = absurd (omega (arith, few))
copies_fewer (suc m) (suc n) x [] few h = absurd h
copies_fewer (suc m) (suc n) x (y ∷ ys) few (inl h) = inl (h.0, copies_fewer m n x ys (omega (arith, few)) h.1)
copies_fewer (suc m) (suc n) x (y ∷ ys) few (inr h) = inr (copies_fewer (suc m) (suc n) x ys few h)

-- the peer and the number of an end that is in a phase
pub peer_in : (e : EndState) (p : Phase) → IsIn e p →
    option_map (λ (t : Terms). t.peer) (terms_of e.position.phase) ≡ option_map (λ (t : Terms). t.peer) (terms_of p)
peer_in e p h2 = search rules

pub number_in : (e : EndState) (p : Phase) → IsIn e p → number_of e.position.phase ≡ number_of p
number_in e p (inl is) = ap number_of is
number_in e p (inr is) = ap number_of is.0

-- an end with a peer does not wait for its first answer
pub has_asked : {P : Type 0} (e : EndState) (asked : Asked) (limit : ℕ) (a : Endpoint) → IsIn e (Waiting asked limit) →
    option_map (λ (t : Terms). t.peer) (terms_of e.position.phase) ≡ Some a → P
has_asked e asked limit a is peer = search rules

-- what it tried, of an end that timed out
pub has_tried : (x : EndState) (p : Phase) (acts : List Act) (is : IsIn x p) → outcome_of p ≡ None →
    outcome_of x.position.phase ≡ Some outcomes.TimedOut →
    IsCopied acts (newest x) x.role.retries x.position.retries_left (more_of x p is) → HasTried x acts
has_tried x p acts is still out c = search (rules, outcome_of, copies_fewer, newest)

-- ---- what an end waits for, by its peer
-- the number of the next block, or of the ACK of this one
abbrev wanted : Bool → ℕ → ℕ
wanted true n = n + 1
wanted false n = n

module _ (x : EndState) where
  -- what is due for what it said has that number
  wants : (sends : Bool) → is_sender x.role.side ≡ not sends → (packet : Packet) → HasSaid x packet →
      (P : ℕ → Type 0) → DueSo packet sends P → P (wanted sends (number_of x.position.phase))
  wants sends side packet said P due = search rules

-- ---- what was handled is answered at once
module _ (a b : Endpoint) (x : EndState) (y : EndState) (y_acts : List Act) (opposite : AreOpposite a b x y) where
  talks_at_once : (sends : Bool) (t : Terms) (n : ℕ) →
      TalksSo sends y_acts y.role y.position.last_sent_to y.position.last_sent t n → t.peer ≡ a →
      AnswersAtOnce a x y y_acts
  talks_at_once sends t n g peer packet bytes said spelled later earlier split =
      let side : is_sender x.role.side ≡ not sends =
      flipped (is_sender y.role.side) (is_sender x.role.side) opposite.sides ∙ ap not g.side_is in
      let due =
      due_at t sends n None later (Took a bytes) earlier (subst (λ (done : List Act). AllDue t sends n None done) split
      g.due) (sym peer) packet spelled in
      let h =
      (wants x sends side packet said (λ j. (j ≤ n) × SaidSo (SentBy (next_of None later) earlier) t sends j) due).1 in
      search rules

  pub at_once : Stands y_acts y → AnswersAtOnce a x y y_acts
  at_once (Goes (Waiting asked limit) is k c) packet bytes said spelled later earlier split =
      has_asked y asked limit a is opposite.y_peer
  at_once (Goes (Sending t n) is g c) packet bytes said spelled later earlier split =
      talks_at_once true t n g (same_Some t.peer a (sym (peer_in y (Sending t n) is) ∙ opposite.y_peer)) packet bytes said
      spelled later earlier split
  at_once (Goes (Receiving t n) is g c) packet bytes said spelled later earlier split =
      talks_at_once false t n g (same_Some t.peer a (sym (peer_in y (Receiving t n) is) ∙ opposite.y_peer)) packet bytes
      said spelled later earlier split
  at_once (Goes p is k c) packet bytes said spelled later earlier split = absurd k
  at_once (Over over) packet bytes said spelled later earlier split = inl over

  -- and so it is answered
  answered : AnswersAtOnce a x y y_acts → AnswersWhatItHandled a x y y_acts
  answered once packet bytes said spelled h =
      let s = split_at (Took a bytes) y_acts h in
      elim (once packet bytes said spelled s.0 s.1 s.2) [
        | inl over ↦ inl over
        | inr w ↦ inr (record {
          answer = w.0;
          awaited = w.1;
          readable = w.2;
          there =
              subst (Has (Said a (canonical w.0))) (sym s.2) (elim w.3 [
                | inl done ↦ has_last (Said a (canonical w.0)) s.0 (Took a bytes ∷ s.1) (inr done)
                | inr next ↦
                    let l = last_of s.0 (Said a (canonical w.0)) next in
                    has_first (Said a (canonical w.0)) s.0 (Took a bytes ∷ s.1)
                    (has_there l.0 (Said a (canonical w.0)) [] s.0 l.1)
              ]);
        })
      ]

pub ends_answer : {S K : Type 0} (sources : SourceMeaning S) (sinks : SinkMeaning K) → EndsAnswer sources sinks
ends_answer sources sinks a b x y0 y acts begins life opposite =
    search (rules, at_once, life_stands, answered)
