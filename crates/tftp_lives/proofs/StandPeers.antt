-- How a sender, or a receiver, stands after a datagram of its peer.
use Rattle.tftp_lives.proofs.Common.{List, ◌≡◌, ℕ, true, Some, inl, false, ◌∷◌, Option, refl, inr, sym, arith, ◌≤◌}
use Rattle.tftp_lives.proofs.Common.{Bool, ◌+◌, ◌<◌, true≢false, eqb-true, ◌==◌, ◌&&◌, nat_lt, Spells, Packet, Data}
use Rattle.tftp_lives.proofs.Common.{Ack, Oack, Error, if_either, is_wrong_peer, Decodes, is_client, Phase, Receiving}
use Rattle.tftp_lives.proofs.Common.{Sending, Terms, Act, Took, newest, rules, receiver_action}
use Rattle.std.proofs.Common.{◌/◌}
use Rattle.std.proofs.lemmas.Bool.{ltb-true, lt-ltb}
use Rattle.tftp_ends.specs.declared.action.Response.TheVariants.{Complete}
use Rattle.tftp_ends.specs.Receiver.{data_action}
use Rattle.tftp_ends.specs.Sender.{sender_action, acked_action}
use Rattle.tftp_lives.proofs.Spelled.{both, of_other, only_this}
use Rattle.tftp_lives.proofs.Stands.{IsAnswered, IsCopied, Knows, Stands, Goes, Over, TalksSo, due_more}
use Rattle.tftp_lives.proofs.StandsMore.{copied_on, talks_on}
use Rattle.tftp_lives.proofs.StandActions.{Handling, Going, answers_again, at, gone, ignores, illegal, next_goes}
use Rattle.tftp_lives.proofs.StandActions.{responds, sends}
use Rattle.tftp_ends.specs.declared.outcome.Outcome.TheVariants as outcomes

module _ {S K : Type 0} (v : Handling S K) where
  open v use {e0, from, bytes, acts}

  -- ---- what it heard is answered
  module _ (p : Phase) (t : Terms) (n : ℕ) (sends : Bool)
      (known : (acts : List Act) → TalksSo sends acts e0.role e0.position.last_sent_to e0.position.last_sent t n →
      Knows acts e0.role e0.position.last_sent_to e0.position.last_sent p)
      (g : TalksSo sends acts e0.role e0.position.last_sent_to e0.position.last_sent t n)
      (c : IsCopied acts (newest e0) e0.role.retries e0.position.retries_left 0) where
    stays : (from ≡ t.peer → (q : Packet) → Spells q bytes → IsAnswered e0.role.side t sends n q) →
        Stands (Took from bytes ∷ acts) (at v p)
    stays heard =
        Goes p (inl refl) (known (Took from bytes ∷ acts) (talks_on _ _ _ _ _ _ t n heard g)) (copied_on (Took from
        bytes) _ _ _ _ 0 c)

    -- another's datagram
    pub other_stays : is_wrong_peer (Some t) e0.position.last_sent_to from ≡ true →
        Stands (Took from bytes ∷ acts) (at v p)
    other_stays wrong = stays (λ is. of_other t e0.position.last_sent_to from wrong is)

  -- ---- a sender
  module _ (t : Terms) (n : ℕ) (g : TalksSo true acts e0.role e0.position.last_sent_to e0.position.last_sent t n)
      (c : IsCopied acts (newest e0) e0.role.retries e0.position.retries_left 0) where
    abbrev sending : Phase
    sending = Sending t n

    heard_more : (q : Packet) → Spells q bytes → IsAnswered e0.role.side t true n q →
        Stands (Took from bytes ∷ acts) (at v sending)
    heard_more q spelled answered = stays _ t n _ (λ done h. h) g c (λ _. only_this _ q _ spelled answered)

    acked_goes : (acked : ℕ) → from ≡ t.peer → Spells (Ack acked) bytes →
        Going v sending (acked_action e0.role.length t n acked)
    acked_goes acked own spelled =
        let P = Going v sending in
        if_either P (acked == n) _ _ (λ same. if_either P (nat_lt n (e0.role.length / t.size + 1)) _ _ (λ l.
        let step = lt-ltb n (n + 1) (omega arith) in
        let newest_is = eqb-true acked n same in
        let more = ltb-true n (e0.role.length / t.size + 1) l in
        let f = (g.sender refl).0 in
        let fits = f.fits in
        let positive : 0 < t.size = omega (arith, fits) in
        let few : e0.role.length / t.size < 65535 = search rules in
        sends v sending t (n + 1) (record {
          own = own;
          side = g.side_is;
          progress = rw step refl;
          sender = λ _. (f, λ _. omega arith);
          heard = search rules;
          sent = λ j counts few. g.sent j counts (omega (arith, few));
          due = due_more t _ n _ (omega arith) _ _ (λ act none. none) _ g.due;
        }) (omega arith) (omega (arith, more, few))) (λ _. responds v sending Complete (Over (inl refl))))
        (λ _. if_either P (nat_lt acked n) _ _ (λ old. let few = ltb-true acked n old in
        ignores v _ (heard_more _ spelled (omega (arith, few), inl (omega arith)))) (λ _. illegal v sending t))

    pub sender_goes : from ≡ t.peer → (decoded : Option Packet) → Decodes bytes decoded →
        Going v sending (sender_action (is_client e0.role.side) e0.role.length t n decoded)
    sender_goes own (Some (Ack acked)) d = acked_goes acked own d
    sender_goes own (Some (Error code text)) d = gone v sending (outcomes.PeerError code) tt
    sender_goes own (Some (Oack options)) d =
        if_either (Going v sending) (is_client e0.role.side && t.by_oack) _ _ (λ by. ignores v sending
        (heard_more (Oack options) d ((g.sender refl).1 (both (is_client e0.role.side) t.by_oack by).0, inl (omega arith))))
        (λ _. illegal v sending t)
    sender_goes own decoded d = illegal v sending t

  -- ---- a receiver
  module _ (t : Terms) (n : ℕ) (g : TalksSo false acts e0.role e0.position.last_sent_to e0.position.last_sent t n)
      (c : IsCopied acts (newest e0) e0.role.retries e0.position.retries_left 0) where
    abbrev receiving : Phase
    receiving = Receiving t n

    heard_again : (q : Packet) → Spells q bytes → IsAnswered e0.role.side t false n q →
        Stands (Took from bytes ∷ acts) (at v receiving)
    heard_again q spelled answered = stays _ t n _ (λ done h. h) g c (λ _. only_this _ q _ spelled answered)

    data_goes : (number : ℕ) (piece : List ℕ) → from ≡ t.peer → Spells (Data number piece) bytes →
        Going v receiving (data_action e0.role.mode e0.position.held_back t n number piece)
    data_goes number piece own spelled =
        let P = Going v receiving in
        let some = spelled.valid.0 in
        let low : 1 ≤ number = omega (arith, some) in
        let old : number ≤ n → Stands (Took from bytes ∷ acts) (at v receiving) =
        λ few. heard_again _ spelled (few, inl low) in
        if_either P (number == n) _ _ (λ same. let is = eqb-true number n same in
        answers_again v _ (old (omega (arith, is)))) (λ _. if_either P (nat_lt number n) _ _
        (λ below. let few = ltb-true number n below in ignores v _ (old (omega (arith, few))))
        (λ _. if_either P (number == n + 1) _ _ (λ next. let next_is = eqb-true number (n + 1) next in
        let step = lt-ltb n number (omega (arith, next_is)) in
        next_goes v receiving t number (record {
          own = own;
          side = g.side_is;
          progress = rw step refl;
          sender = λ no. absurd (true≢false (sym no));
          heard = search rules;
          sent = λ j counts few. g.sent j counts (omega (arith, few, next_is));
          due = due_more t _ n _ (omega (arith, next_is)) _ _ (λ act none. none) _ g.due;
        }) spelled.valid.1 e0.role.mode e0.position.held_back piece) (λ _. illegal v receiving t)))

    pub receiver_goes : from ≡ t.peer → (decoded : Option Packet) → Decodes bytes decoded →
        Going v receiving (receiver_action (is_client e0.role.side) e0.role.mode e0.position.held_back t n decoded)
    receiver_goes own (Some (Data number piece)) d = data_goes number piece own d
    receiver_goes own (Some (Error code text)) d = gone v receiving (outcomes.PeerError code) tt
    receiver_goes own (Some (Oack options)) d =
        let P = Going v receiving in
        if_either P (is_client e0.role.side && t.by_oack) _ _
        (λ by. let h = both (is_client e0.role.side) t.by_oack by in
        let still = heard_again (Oack options) d (omega arith, inr (refl, h.0, h.1)) in
        if_either P (n == 0) _ _ (λ _. answers_again v receiving still) (λ _. ignores v receiving still))
        (λ _. illegal v receiving t)
    receiver_goes own decoded d = illegal v receiving t
