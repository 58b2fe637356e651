-- How an end stands once it carried out an action on a datagram that it handled.
use Rattle.tftp_lives.proofs.Common.{List, ◌≡◌, ℕ, true, Some, None, inl, false, ◌∷◌, Option, refl, inr, sym, ap, subst}
use Rattle.tftp_lives.proofs.Common.{arith, ◌∙◌, ◌≤◌, Bool, ◌<◌, Result, Ok, Err, length, if◌then◌else◌, Spells}
use Rattle.tftp_lives.proofs.Common.{canonical, IsValid, MAX_BLOCK, Packet, Data, Ack, SinkMeaning, SourceMeaning}
use Rattle.tftp_lives.proofs.Common.{Files, if_either, EndState, is_sender, is_client, Turn, after_turn, Acts}
use Rattle.tftp_lives.proofs.Common.{with_position, response_turn, ack_bytes, Respond, Response, Ignore, WrongPeer}
use Rattle.tftp_lives.proofs.Common.{Close, Endpoint, Outcome, Phase, Receiving, Sending, Terms, Act, Took, Said}
use Rattle.tftp_lives.proofs.Common.{with_reply, Has, rules, cases_eq, Mode, Action, is_progress}
use Rattle.tftp_ends.specs.declared.action.Action.TheVariants.{Send, Store}
use Rattle.tftp_ends.specs.declared.action.Response.TheVariants.{ResendReply, Refuse}
use Rattle.tftp_ends.specs.Step.{data_bytes, Done, GoesOn, Sends, refused_turn, sent_turn, committed_turn, holding}
use Rattle.tftp_ends.specs.Step.{block_length, result_count_is}
use Rattle.tftp_lives.specs.Unanswered.{IsOther}
use Rattle.tftp_file.specs.declared.fault.StoreFault.{StoreFault}
use Rattle.tftp_file.specs.declared.files.Files.TheVariants.{Source, Sink}
use Rattle.tftp_ends.specs.declared.error_reply.ErrorReply.{ErrorReply}
use Rattle.tftp_ends.specs.Receiver.{next_action}
use Rattle.tftp_ends.specs.Sender.{illegal_action}
use Rattle.tftp_lives.proofs.Spelled.{spelled, valid_block}
use Rattle.tftp_lives.proofs.Stands.{AllDue, Among, CanNumber, Counts, IsAnswered, IsCopied, SaidSo, Says, SentBy}
use Rattle.tftp_lives.proofs.Stands.{Stands, Goes, Over, TalksSo, due_more, due_weaker, said_weaker}
use Rattle.tftp_lives.proofs.StandsMore.{copied_first, stands_more}
use Rattle.tftp_ends.specs.declared.error_reply.ErrorReply.TheVariants as replies
use Rattle.tftp_ends.specs.declared.outcome.Outcome.TheVariants as outcomes

-- an end handles a datagram: it works on such files, is this one but for its phase, and has done this before
pub record Handling (S K : Type 0) : Type 1 where
  pub sources : SourceMeaning S
  pub sinks : SinkMeaning K
  pub e0 : EndState
  pub from : Endpoint
  pub bytes : List ℕ
  pub acts : List Act

module _ {S K : Type 0} (v : Handling S K) where
  open v use {sources, sinks, e0, from, bytes, acts}

  -- ---- a datagram of its peer takes an end to its next number
  -- what is known of an end in a phase when it goes on to this number
  pub record Onward (p : Phase) (phase : Phase) (t : Terms) (m : ℕ) (sends : Bool) : Type 0 where
    pub own : from ≡ t.peer
    pub side : is_sender e0.role.side ≡ sends
    pub progress : is_progress p phase ≡ true
    pub sender : sends ≡ true → CanNumber e0.role.length t × (is_client e0.role.side ≡ true → 1 ≤ m)
    pub heard : (q : Packet) → Spells q bytes → IsAnswered e0.role.side t sends m q
    pub sent : (j : ℕ) → Counts e0.role.side t sends j → j < m → SaidSo (Among acts) t sends j
    pub due : AllDue t sends m None acts

  module _ (p phase : Phase) (t : Terms) (m : ℕ) (sends : Bool) (o : Onward p phase t m sends) (q : Packet)
      (says : Says q sends m) (spells : Spells q (canonical q)) where
    -- what comes up to this number was said, or is said now
    said_now : (There : Act → Type 0) → ((act : Act) → Has act acts → There act) → There (Said from (canonical q)) →
        (j : ℕ) → Counts e0.role.side t sends j → j ≤ m → SaidSo There t sends j
    said_now There old new j counts few = elim (cases_eq j m) [
      | inl is ↦ (
        q,
        subst (Says q sends) (sym is) says,
        spells,
        subst (λ (a : Endpoint). There (Said a (canonical q))) o.own new,
      )
      | inr d ↦ said_weaker (Among acts) There t sends j old (o.sent j counts (omega (arith, few, d)))
    ]

    pub talks_now : TalksSo sends (Said from (canonical q) ∷ Took from bytes ∷ acts) e0.role from (canonical q) t m
    talks_now = record {
      side_is = o.side;
      sender = o.sender;
      to_is = o.own;
      said = (q, inl says, spells, refl);
      sent = said_now (Among (Said from (canonical q) ∷ Took from bytes ∷ acts)) (λ act h. inr (inr h)) (inl refl);
      due = (
        tt,
        (
          λ is r s.
              due_weaker r _ _ _ (λ j h. (
                h.0,
                said_now (SentBy (Some (Said from (canonical q))) acts) (λ act done. inl done) (inr refl) j h.1 h.0,
              )) (o.heard r s),
          due_more t sends m m (omega arith) None (Some (Took from bytes)) (λ act none. absurd none) acts o.due,
        ),
      );
    }

  -- ---- an end that handles a datagram, by its phase
  -- the end in a phase
  abbrev pub at : Phase → EndState
  at p = with_position (record e0.position { phase = p }) e0

  abbrev pub now : List Act
  now = Took from bytes ∷ acts

  -- how it stands after a step
  abbrev pub After : EndState → Turn → Type 0
  After e turn = Stands (with_reply turn.reply now) (after_turn e turn)

  -- and after an action
  abbrev pub Going : Phase → Action → Type 0
  Going p action =
      (turn : Turn) (files files' : Files S K) → Acts sources sinks action from bytes (at p) files turn files' →
      After (at p) turn

  pub responds : (p : Phase) (response : Response) → After (at p) (response_turn response from (at p)) →
      Going p (Respond response)
  responds p response h turn files files' acts = subst (After (at p)) (sym acts.0) h

  -- ---- it closes
  pub gone : (p : Phase) (outcome : Outcome) → IsOther outcome → Going p (Respond (Close outcome))
  gone p outcome other = responds p (Close outcome) (Over (inr (outcome, refl, other)))

  pub refuses : (p : Phase) (terms : Option Terms) (reply : ErrorReply) (outcome : Outcome) → IsOther outcome →
      Going p (Respond (Refuse terms reply outcome))
  refuses p terms reply outcome other =
      responds p (Refuse terms reply outcome) (Over (inr (outcome, refl, other)))

  pub illegal : (p : Phase) (terms : Terms) → Going p (illegal_action terms)
  illegal p terms = refuses p (Some terms) replies.IllegalOperation outcomes.Illegal tt

  -- ---- it stays
  module _ (p : Phase) (still : Stands now (at p)) where
    pub ignores : Going p (Respond Ignore)
    ignores = responds p Ignore still

    pub answers_wrong_peer : Going p (Respond WrongPeer)
    answers_wrong_peer =
        responds p WrongPeer (stands_more now (at p) (response_turn WrongPeer from (at p)).reply still)

    pub answers_again : Going p (Respond ResendReply)
    answers_again =
        responds p ResendReply (stands_more now (at p) (response_turn ResendReply from (at p)).reply still)

  -- ---- it goes on, with a new datagram to its peer, which was sent once
  pub copied_once : (p q : Phase) (last : Act) (left : ℕ) → is_progress p q ≡ true →
      left ≡ (if is_progress p q then e0.role.retries else e0.position.retries_left) →
      IsCopied (last ∷ now) last e0.role.retries left 0
  copied_once p q last left progress is =
      copied_first last now _ left (is ∙ ap (λ (b : Bool). if b then e0.role.retries else e0.position.retries_left) progress)

  module _ (p : Phase) (t : Terms) (m : ℕ) where
    module _ (o : Onward p (Sending t m) t m true) (low : 1 ≤ m) (high : m ≤ 65535) where
      filled : (piece : List ℕ) → length piece ≤ MAX_BLOCK → (b : Bool) → After (at p)
          (if b then sent_turn (Sending t m) from (data_bytes m piece) (at p)
          else refused_turn t replies.FileChanged outcomes.SourceFault from (at p))
      filled piece short true =
          Goes (Sending t m) (inl refl)
          (talks_now p (Sending t m) t m true o (Data m piece) refl
          (spelled (Data m piece) (valid_block m piece low high short)))
          (copied_once p (Sending t m) (Said from (data_bytes m piece)) _ o.progress refl)
      filled piece short false = Over (inr (outcomes.SourceFault, refl, tt))

      -- a block is no longer than its size
      short_enough : (source source' : S) (turn : Turn) (h : Sends sources t m from (at p) source turn source') →
          length h.piece ≤ MAX_BLOCK
      short_enough source source' turn h = search rules

      pub sends : Going p (Send t m)
      sends turn (Source source) (Source source') h =
          subst (After (at p)) (sym h.answers)
          (filled h.piece (short_enough source source' turn h) (result_count_is (block_length e0.role.length t.size m) h.answer))
      sends turn (Source source) (Sink sink') h = absurd h
      sends turn (Sink sink) (Source source') h = absurd h
      sends turn (Sink sink) (Sink sink') h = absurd h

    module _ (o : Onward p (Receiving t m) t m false) (numbered : IsValid (Ack m)) where
      stored_so : (held : List ℕ) → After (at p) (sent_turn (Receiving t m) from (ack_bytes m) (holding held (at p)))
      stored_so held =
          Goes (Receiving t m) (inl refl)
          (talks_now p (Receiving t m) t m false o (Ack m) refl (spelled (Ack m) numbered))
          (copied_once p (Receiving t m) (Said from (ack_bytes m)) _ o.progress refl)

      committed : (held : List ℕ) (answer : Result Done StoreFault) →
          After (at p) (committed_turn t m from (holding held (at p)) answer)
      committed held (Ok done) = Over (inl refl)
      committed held (Err fault) = Over (inr (outcomes.StoreFault, refl, tt))

      stored : (last : Bool) (held : List ℕ) (mid sink' : K) (answer : Result Done StoreFault) (turn : Turn) →
          GoesOn sinks t m from (at p) last held mid answer turn sink' → After (at p) turn
      stored last held mid sink' (Err fault) turn h =
          subst (After (at p)) (sym h.0) (Over (inr (outcomes.StoreFault, refl, tt)))
      stored true held mid sink' (Ok done) turn h = subst (After (at p)) (sym h.answers) (committed held h.answer)
      stored false held mid sink' (Ok done) turn h = subst (After (at p)) (sym h.0) (stored_so held)

      stores : Going p (Store t m)
      stores turn (Sink sink) (Sink sink') h = stored _ _ _ _ _ _ h.2.rest
      stores turn h1 h2 h = absurd h.2

      -- of two actions, whichever is carried out
      either : (b : Bool) (r s : Action) → Going p r → Going p s → Going p (if b then r else s)
      either b r s h k = if_either (Going p) b r s (λ _. h) (λ _. k)

      -- the next block, if it is one of this transfer
      pub next_goes : (mode : Mode) (held : List ℕ) (piece : List ℕ) → Going p (next_action mode held t m piece)
      next_goes mode held piece = search (rules, either, illegal, refuses, stores)
