-- A sender whose source gives the next block. For BlamelessTurns, PhaseMoves, WaitingMoves and the crates tftp_player
-- and tftp_promises.
use Rattle.tftp_rules.proofs.Common.{◌≡◌, List, refl, sym, true, [], false, ℕ, rules, ◌∷◌, arith, ◌∙◌, Some, Bool, ap}
use Rattle.tftp_rules.proofs.Common.{subst, length, ◌+◌, ◌<◌, ◌≤◌, inl, inr, ◌*◌, Ok, drop, Result, Err, ◌^◌, min}
use Rattle.tftp_rules.proofs.Common.{std_arith, true≢false, eq-eqb, common_steps, length-take, length-drop, same_Some}
use Rattle.tftp_rules.proofs.Common.{Contains, ◌≢◌, if◌then◌else◌, ◌⊎◌, IsValid, MAX_BLOCK, block, block_count, Fits}
use Rattle.tftp_rules.proofs.Common.{Holding, SinkMeaning, SourceMeaning, Files, Source, Sink, is_sender, EndState}
use Rattle.tftp_rules.proofs.Common.{Turn, SendsFrom, block_length, sent_turn, refused_turn, after_turn}
use Rattle.tftp_rules.proofs.Common.{result_count_is, data_bytes, Complete, Sending, Terms, EndKept, Goes, IsOpenAt}
use Rattle.tftp_rules.proofs.Common.{known_source, known_sink, Endpoint, Network, Message, Says_ack, OpenEnd, open_view}
use Rattle.tftp_rules.proofs.Common.{files_of, in_state, end_after, with_phase, text_of_end, holding_of, Rule, message}
use Rattle.tftp_rules.proofs.Common.{IsAcked, said, EndView, party_of}
use Rattle.std.proofs.Common.{◌-◌, rules as std_rules}
use Rattle.std.proofs.lemmas.List.{drop_min, drop-drop}
use Rattle.tftp_wire.specs.declared.packet.Packet.TheVariants.{Data}
use Rattle.tftp_file.specs.declared.fault.FileFault.{FileFault}
use Rattle.tftp_file.specs.Source.{Fills}
use Rattle.tftp_ends.specs.Step.{Sends, filled_turn}
use Rattle.tftp_rules.proofs.Actions.{sends, completes}
use Rattle.tftp_rules.proofs.EndMoves.{Responding, responded}
use Rattle.tftp_rules.proofs.SaidLemmas.{spells_own}
use Rattle.tftp_file.specs.declared.fault.FileFault.TheVariants as file_faults
use Rattle.tftp_ends.specs.declared.error_reply.ErrorReply.TheVariants as replies
use Rattle.tftp_ends.specs.declared.outcome.Outcome.TheVariants as outcomes

-- a source of known text was asked for block n + 1, after the n blocks that it gave
pub record BlockSent (terms : Terms) (n : ℕ) (from : Endpoint) (e : EndState) (text : List ℕ) (turn : Turn)
    (left : List ℕ) : Type 0 where
  pub turn_is : turn ≡ sent_turn (Sending terms (n + 1)) from (data_bytes (n + 1) (block text terms.size (n + 1))) e
  pub left_is : left ≡ drop ((n + 1) * terms.size) text

back : (n : ℕ) → n + 1 - 1 ≡ n
back n = omega arith

-- the source is asked for as much of a block as it can give
requested_end : (terms : Terms) (n : ℕ) (e : EndState) (text left : List ℕ) → e.role.length ≡ length text →
    left ≡ drop (n * terms.size) text →
    block_length e.role.length terms.size (n + 1) ≡ min terms.size (length left)
requested_end terms n e text left measured remaining_is = search (rules, length-drop, back)

left_next : (text left : List ℕ) (size n : ℕ) → left ≡ drop (n * size) text →
    drop size left ≡ drop ((n + 1) * size) text
left_next text left size n remaining_is = search (rules, drop-drop)

counted : (want : ℕ) (k : ℕ) → k ≡ want → result_count_is want (Ok k) ≡ true
counted want k e = eq-eqb k want e

filled : (terms : Terms) (number : ℕ) (from : Endpoint) (piece : List ℕ) (e : EndState) (answer : Result ℕ FileFault) →
    result_count_is (block_length e.role.length terms.size number) answer ≡ true →
    filled_turn terms number from piece e answer ≡ sent_turn (Sending terms number) from (data_bytes number piece) e
filled terms number from piece e answer h = search rules

-- the source failed, and the sender gave up
pub record FillFailed (sources : SourceMeaning (List ℕ)) (terms : Terms) (from : Endpoint) (e : EndState)
    (left : List ℕ) (turn : Turn) : Type 0 where
  pub want : ℕ
  pub may : sources.may_fail left want
  pub turn_is : turn ≡ refused_turn terms replies.FileChanged outcomes.SourceFault from e

-- a source of known text gives the next block, or fails
pub block_sent : (sources : SourceMeaning (List ℕ)) → ((text : List ℕ) → sources.left text ≡ Some text) →
    (terms : Terms) (n : ℕ) (from : Endpoint) (e : EndState) (text left : List ℕ) (turn : Turn) (left' : List ℕ) →
    e.role.length ≡ length text → left ≡ drop (n * terms.size) text →
    Sends sources terms (n + 1) from e left turn left' → BlockSent terms n from e text turn left'
    ⊎ FillFailed sources terms from e left turn
block_sent sources known terms n from e text left turn left' measured remaining_is h =
    by_answer h.answer (let f : Fills (Some left) (Some left') (block_length e.role.length terms.size (n + 1)) []
    h.piece h.answer = rw (known left, known left') at h.reads.fills in f)
    h.reads.read h.reads.memory h.answers where
      by_answer : (answer : Result ℕ FileFault) →
          Fills (Some left) (Some left') (block_length e.role.length terms.size (n + 1)) [] h.piece answer →
          (answer ≡ Err file_faults.Read → sources.may_fail left (block_length e.role.length terms.size (n + 1))) →
          answer ≢ Err file_faults.Memory → turn ≡ filled_turn terms (n + 1) from h.piece e answer →
          BlockSent terms n from e text turn left' ⊎ FillFailed sources terms from e left turn
      by_answer (Err file_faults.Read) f r m a =
          inr (record { want = block_length e.role.length terms.size (n + 1); may = r refl; turn_is = a })
      by_answer (Err file_faults.Memory) f r m a = absurd (m refl)
      by_answer (Ok k) f r m a =
          let want = requested_end terms n e text left measured remaining_is in
          let count : k ≡ min terms.size (length left) = search std_rules in
          let turns =
          filled terms (n + 1) from h.piece e (Ok k) (counted (block_length e.role.length terms.size (n + 1)) k
          (count ∙ sym want)) in
          let piece : h.piece ≡ block text terms.size (n + 1) = grind (std_arith, common_steps) in
          let rest : left' ≡ drop k left = same_Some left' (drop k left) f.rest in
          inl (search (
            a ∙ (turns ∙ ap (λ (p : List ℕ). sent_turn (Sending terms (n + 1)) from (data_bytes (n + 1) p)
                e) piece),
            rest ∙ (ap (λ (j : ℕ). drop j left) count ∙ (drop_min terms.size left ∙ left_next text left
                terms.size n remaining_is)),
          ))

-- what an action that sends did
pub sends_from : (b : Bool) → b ≡ true →
    (sources : SourceMeaning (List ℕ)) (sinks : SinkMeaning Holding) (terms : Terms) (number : ℕ) (from : Endpoint)
    (e : EndState) (left : List ℕ) (holding : Holding) (turn : Turn) (held : Files (List ℕ) Holding) →
    SendsFrom sources sinks terms number from e (if b then Source left else Sink holding) turn held →
    (left' : List ℕ) × (held ≡ Source left') × Sends sources terms number from e left turn left'
sends_from b t sources sinks terms number from e left holding turn held h = search rules

-- the number of a block fits two bytes
pub number_fits : (text : List ℕ) (size n : ℕ) → 0 < size → Fits text size → n ≤ block_count text size → n < 2 ^ 16
number_fits text size n p f l = search rules

-- the DATA of the next block of a text that fits is a valid packet
pub valid_data : (text : List ℕ) (size n : ℕ) → 0 < size → size ≤ MAX_BLOCK → Fits text size →
    n + 1 ≤ block_count text size → IsValid (Data (n + 1) (block text size (n + 1)))
valid_data text size n p small f l = search (rules, length-take, number_fits)

-- the turn in which block n + 1 is sent
abbrev pub data_turn : OpenEnd → Terms → ℕ → Endpoint → Turn
data_turn x terms n from =
    sent_turn (Sending terms (n + 1)) from (data_bytes (n + 1) (block x.text terms.size (n + 1))) x.state

-- the end after it
abbrev pub data_end : OpenEnd → Terms → ℕ → Endpoint → OpenEnd
data_end x terms n from =
    record (in_state (after_turn x.state (data_turn x terms n from)) x) { left = drop ((n + 1) * terms.size) x.text }

-- a sender's text is shown
pub text_if : (b : Bool) (f r : List ℕ) → b ≡ true → (if b then f else r) ≡ f
text_if true f r e = refl
text_if false f r e = absurd (true≢false (sym e))

-- a sender whose source failed has given up
abbrev pub failed_turn : Terms → Endpoint → OpenEnd → Turn
failed_turn terms from x = refused_turn terms replies.FileChanged outcomes.SourceFault from x.state

module _ {network : Network} where
  module _ {first : List Rule} {views : List EndView} {messages : List Message} {k : ℕ} {x : OpenEnd} (terms : Terms)
      (n : ℕ) (from : Endpoint) where
    -- what its source has left then does not matter
    failed_goes : (left : List ℕ) →
        Goes network first views messages k x (failed_turn terms from x)
        (in_state (after_turn x.state (failed_turn terms from x)) x) →
        Goes network first views messages k x (failed_turn terms from x)
        (end_after x (failed_turn terms from x) (Source left))
    failed_goes left g = search rules

    -- an action that sends has sent the next block, or the source failed
    pub data_goes : is_sender x.state.role.side ≡ true → x.state.role.length ≡ length x.text →
        x.left ≡ drop (n * terms.size) x.text →
        Goes network first views messages k x (data_turn x terms n from) (data_end x terms n from) →
        Goes network first views messages k x (failed_turn terms from x)
        (in_state (after_turn x.state (failed_turn terms from x)) x) →
        (turn : Turn) (held : Files (List ℕ) Holding) →
        SendsFrom known_source known_sink terms (n + 1) from x.state (files_of x) turn held →
        Goes network first views messages k x turn (end_after x turn held)
    data_goes sender measured remaining_is g failed turn held h =
        let f = sends_from (is_sender x.state.role.side) sender known_source known_sink terms (n + 1) from x.state
        x.left (holding_of x) turn held h in
        subst (λ fs. Goes network first views messages k x turn (end_after x turn fs)) (sym f.1) (elim (block_sent
        known_source (λ text. refl) terms n from x.state x.text x.left turn f.0 measured remaining_is f.2) [
          | inl b ↦
              subst (λ t. Goes network first views messages k x t (end_after x t (Source f.0))) (sym b.turn_is)
              (subst (λ l. Goes network first views messages k x (data_turn x terms n from) (end_after x (data_turn x
              terms n from) (Source l))) (sym b.left_is) g)
          | inr b ↦
              subst (λ t. Goes network first views messages k x t (end_after x t (Source f.0))) (sym b.turn_is)
              (failed_goes f.0 failed)
        ])

  -- the sender's state after a block is kept
  pub data_kept : (x : OpenEnd) (terms : Terms) (n : ℕ) (from : Endpoint) → EndKept network x →
      x.state.role.length ≡ length x.text → is_sender x.state.role.side ≡ true → 0 < terms.size →
      terms.size ≤ MAX_BLOCK →
      Fits x.text terms.size → n + 1 ≤ block_count x.text terms.size → from ≡ terms.peer →
      EndKept network (data_end x terms n from)
  data_kept x terms n from kept measured sender positive small fits l peer = search rules

  module _ {first : List Rule} {views : List EndView} {messages : List Message} {k : ℕ} (x0 : OpenEnd) (terms : Terms)
      (n : ℕ) (h : IsOpenAt network first views messages k (with_phase (Sending terms n) x0)) (from : Endpoint)
      (peer : terms.peer ≡ from) (acked : Contains messages (message from x0.address (Says_ack n))) where
    abbrev x : OpenEnd
    x = with_phase (Sending terms n) x0

    -- what it sends is shown
    text_is : text_of_end x ≡ x0.text
    text_is = text_if (is_sender x0.state.role.side) x0.text _ h.kept.phase.sender

    acks : IsAcked messages (party_of (open_view x)) x0.address from
    acks = ((refl, refl, refl), h.kept.phase.sender, ap Some peer, acked)

    -- the next block is sent
    pub sends_next : n < block_count x0.text terms.size →
        Goes network first views messages k x (data_turn x terms n from) (data_end x terms n from)
    sends_next more =
        let u = h.kept.phase in
        let text = x.text in
        let l : n + 1 ≤ block_count text terms.size = omega arith in
        let packet = Data (n + 1) (block text terms.size (n + 1)) in
        let shown_now = sends h.stands from (acks, rw (text_is) more) in
        record {
          said_now = message x.address from (said packet) ∷ [];
          shown = search (rules, text_is);
          replies = (packet, spells_own _ (valid_data _ _ n u.positive u.size u.fits l), refl);
          kept = data_kept x _ n _ h.kept u.measured u.sender u.positive u.size u.fits l (sym peer);
          side = refl;
          last_sent = inr refl;
          stored = λ _. refl;
        }

    -- the last block is acknowledged
    pub ends_whole : n ≡ block_count x0.text terms.size →
        Responding network first views messages k x Complete from
    ends_whole last =
        let kept = h.kept in
        let shown_now = completes h.stands from (acks, rw (text_is) last) in
        let y = responded x Complete from in
        search rules
