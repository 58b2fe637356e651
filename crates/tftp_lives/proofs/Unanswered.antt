-- An end that timed out was not answered. For the law an_end_gives_up_unanswered.
use Rattle.tftp_lives.proofs.Common.{List, ◌≡◌, ℕ, true, Some, None, false, refl, sym, ◌∙◌, ◌≤◌, Bool, Packet}
use Rattle.tftp_lives.proofs.Common.{SinkMeaning, SourceMeaning, EndState, is_sender, outcome_of, is_complete, terms_of}
use Rattle.tftp_lives.proofs.Common.{Endpoint, Phase, Receiving, Sending, Waiting, Terms, Act, Took, newest, next_of}
use Rattle.tftp_lives.proofs.Common.{AreOpposite, Awaits, rules, IsUnanswered, option_map, same_Some, number_of}
use Rattle.tftp_lives.proofs.Common.{AnswersWhatItHandled}
use Rattle.tftp_ends.specs.End.{record_of}
use Rattle.tftp_lives.specs.Unanswered.{EndsGiveUpUnanswered, EndsGiveUpUnheard, IsUnheard}
use Rattle.tftp_lives.proofs.Stands.{DueSo, Goes, IsCopied, IsIn, NotFrom, Over, SaidSo, SentBy, Stands, TalksSo}
use Rattle.tftp_lives.proofs.Stands.{all_has, due_at, more_of}
use Rattle.tftp_lives.proofs.OneOrder.{split_at}
use Rattle.tftp_lives.proofs.OpenEnds.{gave_up_only}
use Rattle.tftp_lives.proofs.LivesStand.{life_stands}
use Rattle.tftp_lives.proofs.Answering.{ends_answer, has_asked, has_tried, number_in, peer_in}
use Rattle.tftp_ends.specs.declared.outcome.Outcome.TheVariants as outcomes

module _ (x : EndState) where
  -- ---- an end that timed out
  -- what it awaits has a higher number than what was due
  too_high : (sends : Bool) (n : ℕ) → is_sender x.role.side ≡ sends → number_of x.position.phase ≡ n →
      (packet : Packet) → Awaits x packet → (P : ℕ → Type 0) → DueSo packet sends (λ j. (j ≤ n) × P j) → ⊥
  too_high sends n side is packet awaits P due = search rules

module _ (a b : Endpoint) (x : EndState) (x_acts : List Act) (y : EndState) (y_acts : List Act)
    (opposite : AreOpposite a b x y) (out : outcome_of x.position.phase ≡ Some outcomes.TimedOut)
    (answered : AnswersWhatItHandled a x y y_acts) where
  talks_unanswered : (p : Phase) (sends : Bool) (t : Terms) (n : ℕ) →
      option_map (λ (u : Terms). u.peer) (terms_of p) ≡ Some t.peer → number_of p ≡ n → outcome_of p ≡ None →
      (is : IsIn x p) → TalksSo sends x_acts x.role x.position.last_sent_to x.position.last_sent t n →
      IsCopied x_acts (newest x) x.role.retries x.position.retries_left (more_of x p is) →
      IsUnanswered a b x x_acts y y_acts
  talks_unanswered p sends t n peer_is number_is none is g c =
      let peer = same_Some t.peer b (sym peer_is ∙ (sym (peer_in x p is) ∙ opposite.x_peer)) in
      let number = number_in x p is ∙ number_is in
      let last = g.said in
      record {
        tried = has_tried x p x_acts is none out c;
        to_peer = g.to_is ∙ peer;
        said = search rules;
        answered = answered;
        unheard = λ packet bytes awaits spelled h.
            let s = split_at (Took b bytes) x_acts h in
            too_high x sends n g.side_is number packet awaits (SaidSo (SentBy (next_of None s.0) s.1) t sends) (due_at t
            sends n None s.0 (Took b bytes) s.1 (rw (← s.2) g.due) (sym peer) packet spelled);
      }

  unanswered : Stands x_acts x → is_complete x.position.phase ≡ false → IsUnanswered a b x x_acts y y_acts
  unanswered (Goes (Waiting asked limit) is k c) incomplete = has_asked x asked limit b is opposite.x_peer
  unanswered (Goes (Sending t n) is g c) incomplete = talks_unanswered (Sending t n) true t n refl refl refl is g c
  unanswered (Goes (Receiving t n) is g c) incomplete = talks_unanswered (Receiving t n) false t n refl refl refl is g c
  unanswered (Goes p is k c) incomplete = absurd k
  unanswered (Over over) incomplete = absurd (gave_up_only x (out, incomplete) over)

pub give_up_unanswered : {S K T L : Type 0} (sources : SourceMeaning S) (sinks : SinkMeaning K)
    (inputs : SourceMeaning T) (outputs : SinkMeaning L) → EndsGiveUpUnanswered sources sinks inputs outputs
give_up_unanswered sources sinks inputs outputs a b x0 x x_acts y0 y y_acts x_begins x_life y_begins y_life opposite out
    incomplete =
    unanswered a b x x_acts y y_acts opposite out
    (ends_answer inputs outputs a b x y0 y y_acts y_begins y_life opposite).0
    (life_stands sources sinks x_begins x_life) incomplete

-- ---- an end without a peer
has_peer : {P : Type 0} (x : EndState) (p : Phase) (t : Terms) → terms_of p ≡ Some t → IsIn x p →
    option_map (λ (u : Terms). u.peer) (terms_of x.position.phase) ≡ None → P
has_peer x p t has is none = search rules

unheard_by : (x : EndState) (acts : List Act) → (record_of x).peer ≡ None →
    outcome_of x.position.phase ≡ Some outcomes.TimedOut → is_complete x.position.phase ≡ false →
    Stands acts x → IsUnheard x acts
unheard_by x acts none out incomplete (Goes (Waiting asked limit) is k c) = record {
  tried = has_tried x (Waiting asked limit) acts is refl out c;
  unheard = λ from bytes h. all_has (NotFrom x.position.last_sent_to) acts (Took from bytes) k.2 h;
}
unheard_by x acts none out incomplete (Goes (Sending t n) is g c) = has_peer x (Sending t n) t refl is none
unheard_by x acts none out incomplete (Goes (Receiving t n) is g c) = has_peer x (Receiving t n) t refl is none
unheard_by x acts none out incomplete (Goes p is k c) = absurd k
unheard_by x acts none out incomplete (Over over) = absurd (gave_up_only x (out, incomplete) over)

pub give_up_unheard : {S K : Type 0} (sources : SourceMeaning S) (sinks : SinkMeaning K) →
    EndsGiveUpUnheard sources sinks
give_up_unheard sources sinks x0 x acts begins life none out incomplete =
    unheard_by x acts none out incomplete (life_stands sources sinks begins life)
