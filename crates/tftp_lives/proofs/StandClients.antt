-- How a client stands after the first answer to its request.
use Rattle.tftp_lives.proofs.Common.{List, ◌≡◌, ℕ, true, Some, None, inl, false, ◌∷◌, Option, refl, sym, ap, arith, ◌∙◌}
use Rattle.tftp_lives.proofs.Common.{◌≤◌, Bool, [], ◌<◌, Result, Ok, Err, length, ◌*◌, true≢false, eqb-true}
use Rattle.tftp_lives.proofs.Common.{AllByRecursion, ◌==◌, ◌&&◌, nat_lt, Spells, MAX_BLOCK, Packet, Data, Ack, Oack}
use Rattle.tftp_lives.proofs.Common.{Error, IsAskable, Asked, if_either, is_wrong_peer, same_address, Decodes}
use Rattle.tftp_lives.proofs.Common.{is_sender, is_client, ack_bytes, Phase, Receiving, Waiting, Terms, Act, Took}
use Rattle.tftp_lives.proofs.Common.{newest, Said, rules, receiver_action, Action, Known, size, agreed_terms}
use Rattle.tftp_lives.proofs.Common.{default_terms, packet_action, Accept}
use Rattle.std.specs.Prelude.{nat_le}
use Rattle.tftp_wire.specs.declared.options.RawOption.{RawOption}
use Rattle.tftp_negotiate.specs.declared.limits.TheConstants.{DEFAULT_BLOCK}
use Rattle.tftp_negotiate.specs.declared.refusal.Refusal.{Refusal}
use Rattle.tftp_negotiate.specs.Agreement.{agreement}
use Rattle.tftp_negotiate.proofs.LawsLemmas.{agreements_have_block_sizes, taken_may_be_agreed}
use Rattle.tftp_ends.specs.Waiting.{reader_action, writer_action, accept_action, begin_action, begin_with_action}
use Rattle.tftp_ends.specs.Waiting.{refusal_action, no_answer}
use Rattle.tftp_lives.proofs.Spelled.{both, not_true, only_this, spelled}
use Rattle.tftp_lives.proofs.Stands.{AllDue, Counts, IsAnswered, IsCopied, NotFrom, Stands, Goes}
use Rattle.tftp_lives.proofs.StandsMore.{copied_on}
use Rattle.tftp_lives.proofs.StandActions.{Handling, Going, at, copied_once, gone, next_goes, refuses, responds, sends}
use Rattle.tftp_lives.proofs.StandActions.{talks_now}
use Rattle.tftp_negotiate.specs.declared.known.Kind.TheVariants as kinds
use Rattle.tftp_negotiate.specs.declared.refusal.Refusal.TheVariants as refusals
use Rattle.tftp_ends.specs.declared.error_reply.ErrorReply.TheVariants as replies
use Rattle.tftp_ends.specs.declared.outcome.Outcome.TheVariants as outcomes

module _ {S K : Type 0} (v : Handling S K) where
  open v use {e0, from, bytes, acts}

  -- ---- a client that waits
  module _ (asked : Asked) (limit : ℕ) (client : is_client e0.role.side ≡ true) (askable : IsAskable asked)
      (none : AllByRecursion (NotFrom e0.position.last_sent_to) acts)
      (c : IsCopied acts (newest e0) e0.role.retries e0.position.retries_left 0) where
    abbrev waiting : Phase
    waiting = Waiting asked limit

    abbrev Ends : Action → Type 0
    Ends action = Going v waiting action

    pub asks_other : is_wrong_peer None e0.position.last_sent_to from ≡ true →
        Stands (Took from bytes ∷ acts) (at v waiting)
    asks_other wrong =
        Goes waiting (inl refl) (client, askable, (not_true _ wrong, none)) (copied_on (Took from bytes) _ _ _ _ 0 c)

    no_answer_goes : Ends no_answer
    no_answer_goes = refuses v waiting None replies.IllegalOperation outcomes.Illegal tt

    refusal_goes : (refusal : Refusal) → Ends (refusal_action refusal)
    refusal_goes refusals.TooLarge = refuses v waiting None replies.DiskFull _ tt
    refusal_goes refusal = refuses v waiting None replies.OptionRefused _ tt

    module _ (here : same_address e0.position.last_sent_to from ≡ true) where
      -- nothing was handled of a peer that is there, and nothing is due
      nothing_due : (t : Terms) (gives : Bool) (n : ℕ) → t.peer ≡ from → (next : Option Act) (done : List Act) →
          AllByRecursion (NotFrom e0.position.last_sent_to) done → AllDue t gives n next done
      nothing_due t gives n peer next [] all = tt
      nothing_due t gives n peer next (Took source content ∷ done) all = (
        λ is. absurd
            (true≢false (sym here ∙ (ap (same_address e0.position.last_sent_to) (sym (is ∙ peer)) ∙ all.0))),
        nothing_due t gives n peer (Some (Took source content)) done all.1,
      )
      nothing_due t gives n peer next (act ∷ done) all = (tt, nothing_due t gives n peer (Some act) done all.1)

      -- and nothing was said
      nothing_said : {P : Type 0} (t : Terms) (gives : Bool) (j : ℕ) → (gives ≡ false → t.by_oack ≡ false) →
          Counts e0.role.side t gives j → j < 1 → P
      nothing_said t gives j plain h4 few = search rules

      -- a writer
      begin_goes : (t : Terms) → t.peer ≡ from → t.size ≤ MAX_BLOCK → is_sender e0.role.side ≡ true →
          ((q : Packet) → Spells q bytes → IsAnswered e0.role.side t true 1 q) →
          Ends (begin_action e0.role.length t)
      begin_goes t peer sized side heard =
          if_either Ends (nat_lt e0.role.length (65535 * t.size)) _ _ (λ fits. sends v waiting t 1 (record {
            own = sym peer;
            side = side;
            progress = refl;
            sender = search rules;
            heard = heard;
            sent = λ j counts few. nothing_said t true j (λ no. absurd (true≢false no)) counts few;
            due = nothing_due t true 1 peer None acts none;
          }) (omega arith) (omega arith)) (λ _. refuses v waiting None
          replies.FileTooLarge outcomes.TooLarge tt)

      begin_with_goes : is_sender e0.role.side ≡ true →
          ((t : Terms) (q : Packet) → Spells q bytes → IsAnswered e0.role.side t true 1 q) →
          (answer : Result (List Known) Refusal) → ((agreed : List Known) → answer ≡ Ok agreed → size agreed ≤ MAX_BLOCK) →
          Ends (begin_with_action from e0.role.length answer)
      begin_with_goes side heard (Ok agreed) sized = search (rules, begin_goes)
      begin_with_goes side heard (Err refusal) sized = refusal_goes refusal

      writer_goes : is_sender e0.role.side ≡ true → (decoded : Option Packet) → Decodes bytes decoded →
          Ends (writer_action e0.role.mode asked limit e0.role.length from decoded)
      writer_goes side (Some (Ack number)) d =
          if_either Ends (number == 0) _ _ (λ zero_is. let none_yet = eqb-true number 0 zero_is in
          begin_goes (default_terms from) refl (omega arith) side
          (only_this (IsAnswered e0.role.side (default_terms from) true 1) (Ack number) bytes d
          (omega (arith, none_yet), inl (omega arith))))
          (λ _. no_answer_goes)
      writer_goes side (Some (Error code text)) d = gone v waiting (outcomes.PeerError code) tt
      writer_goes side (Some (Oack options)) d =
          begin_with_goes side
          (λ t. only_this (IsAnswered e0.role.side t true 1) (Oack options) bytes d (omega arith, inl (omega arith)))
          (agreement asked kinds.Write e0.role.mode options limit)
          (λ agreed is. (agreements_have_block_sizes agreed
          (taken_may_be_agreed asked kinds.Write e0.role.mode options limit agreed askable is)).1)
      writer_goes side decoded d = no_answer_goes

      -- a reader
      accept_goes : is_sender e0.role.side ≡ false → (options : List RawOption) → Spells (Oack options) bytes →
          (answer : Result (List Known) Refusal) → Ends (accept_action from answer)
      accept_goes side options d (Ok agreed) =
          let t = agreed_terms from agreed in
          responds v waiting (Accept t) (Goes (Receiving t 0) (inl refl) (talks_now v waiting (Receiving t 0) t 0 false (record {
            own = refl;
            side = side;
            progress = refl;
            sender = λ no. absurd (true≢false (sym no));
            heard = search rules;
            sent = λ j counts few. absurd (omega (arith, few));
            due = nothing_due t false 0 refl None acts none;
          }) (Ack 0) refl (spelled (Ack 0) (omega arith))) (copied_once v waiting
          (Receiving t 0) (Said from (ack_bytes 0)) _ refl refl))
      accept_goes side options d (Err refusal) = refusal_goes refusal

      first_goes : is_sender e0.role.side ≡ false → (piece : List ℕ) → Spells (Data 1 piece) bytes →
          Ends (receiver_action true e0.role.mode [] (default_terms from) 0 (Some (Data 1 piece)))
      first_goes side piece d =
          let t = default_terms from in
          next_goes v waiting t 1 (record {
            own = refl;
            side = side;
            progress = refl;
            sender = λ no. absurd (true≢false (sym no));
            heard = only_this _ _ _ d (omega arith, inl (omega arith));
            sent = λ j counts few. nothing_said t false j (λ _. refl) counts few;
            due = nothing_due t false 1 refl None acts none;
          }) d.valid.1 e0.role.mode [] piece

      data_first : is_sender e0.role.side ≡ false → (number : ℕ) (piece : List ℕ) → number ≡ 1 →
          Spells (Data number piece) bytes →
          Ends (receiver_action true e0.role.mode [] (default_terms from) 0 (Some (Data number piece)))
      data_first side number piece is = rw (is) (first_goes side piece)

      reader_goes : is_sender e0.role.side ≡ false → (decoded : Option Packet) → Decodes bytes decoded →
          Ends (reader_action e0.role.mode asked limit from decoded)
      reader_goes side (Some (Data number piece)) d =
          if_either Ends (number == 1 && nat_le (length piece) DEFAULT_BLOCK) _ _ (λ fits. data_first side number piece
          (eqb-true number 1 (both (number == 1) (nat_le (length piece) DEFAULT_BLOCK) fits).0) d)
          (λ _. no_answer_goes)
      reader_goes side (Some (Error code text)) d = gone v waiting (outcomes.PeerError code) tt
      reader_goes side (Some (Oack options)) d =
          accept_goes side options d (agreement asked kinds.Read e0.role.mode options limit)
      reader_goes side decoded d = no_answer_goes

      pub waiting_goes : (decoded : Option Packet) → Decodes bytes decoded →
          Ends (packet_action (at v waiting) from decoded waiting)
      waiting_goes decoded d =
          if_either Ends (is_sender e0.role.side) _ _ (λ s. writer_goes s decoded d) (λ s. reader_goes s decoded d)
