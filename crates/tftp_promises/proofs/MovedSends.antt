-- A step of a sender over any source is one over the text that the finished run tells.
use Rattle.std.proofs.lemmas.Grind.{common_steps}
use Rattle.tftp_promises.proofs.Common.{List, ℕ, ◌≡◌, rules, sym, Endpoint, refl, [], ◌∙◌, ap, SourceMeaning, Some}
use Rattle.tftp_promises.proofs.Common.{subst, SinkMeaning, false, true, None, ◌++◌, Bool, EndState, Option, true≢false}
use Rattle.tftp_promises.proofs.Common.{arith, ◌≢◌, length, outcome_of, OpenEnd, if◌then◌else◌, is_sender, Turn, Moved}
use Rattle.tftp_promises.proofs.Common.{Source, WirePacket, ◌≤◌, IsPrefixOf, after_turn, ◌+◌, Ok, is_client}
use Rattle.tftp_promises.proofs.Common.{DatagramStep, Action, Ack, Acts, Respond, end_after, datagram_action, ◌*◌}
use Rattle.tftp_promises.proofs.Common.{Terms, GaveSince, ◌&&◌, Network, EndKept, has_error_opcode, Result, Store}
use Rattle.tftp_promises.proofs.Common.{Phase, known_sink, known_source, Err, Asked, Send, terms_of, step_moves}
use Rattle.tftp_promises.proofs.Common.{block_length, if_acts, writer_action, take, WrongPeer, packet_action, Ignore}
use Rattle.tftp_promises.proofs.Common.{is_wrong_peer, garbled_response, length-append, is_none, drop, acts_move}
use Rattle.tftp_promises.proofs.Common.{GivesInTurn, FileChanged, Gave_more, PhaseKept, with_more, sender_action}
use Rattle.tftp_promises.proofs.Common.{result_count_is, begin_action, refused_turn}
use Rattle.std.proofs.Common.{append-nil, ◌-◌, arith as std_arith, rules as std_rules}
use Rattle.std.proofs.lemmas.List.{length-drop, nil_from_length}
use Rattle.tftp_file.specs.Source.{Fills}
use Rattle.tftp_file.specs.declared.fault.FileFault.{FileFault}
use Rattle.tftp_ends.specs.Step.{Sends}
use Rattle.tftp_rules.specs.EndKept.{IsUnderWay}
use Rattle.tftp_file.specs.declared.fault.FileFault.TheVariants as file_faults
use Rattle.tftp_ends.specs.declared.outcome.Outcome.TheVariants as outcomes
use Rattle.tftp_promises.proofs.Invariant.{GaveSo}
use Rattle.tftp_promises.proofs.Texts.{pad_to, pad_length, begins_padded, begins_after, begins_by_take, then_rest}

-- ---- how much an action reads
-- an action reads no more than is left
abbrev pub ReadsWithin : ℕ → List ℕ → Action → Type 0
ReadsWithin measured left (Send terms number) = block_length measured terms.size number ≤ length left
ReadsWithin measured left action = Unit {0}

next_within : (measured size number n : ℕ) → measured ≡ n → block_length measured size (number + 1) ≤ n - number * size
next_within measured size number n e = search rules

module _ (x : OpenEnd) (sender : is_sender x.state.role.side ≡ true) (from : Endpoint) where
  abbrev Within : Action → Type 0
  Within action = ReadsWithin x.state.role.length x.left action

  -- a client that waits
  module _ (left : x.left ≡ x.text) (measured : x.state.role.length ≡ length x.text) where
    begins : (terms : Terms) → Within (begin_action x.state.role.length terms)
    begins terms = search rules

    writes : (asked : Asked) (limit : ℕ) (decoded : Option WirePacket) →
        Within (writer_action x.state.role.mode asked limit x.state.role.length from decoded)
    writes asked limit decoded = search rules

  -- a sender
  module _ (terms : Terms) (n : ℕ) (u : IsUnderWay x terms n) where
    more : block_length x.state.role.length terms.size (n + 1) ≤ length x.left
    more = search (rules, next_within, length-drop)

    acks : (acked : ℕ) → Within (sender_action (is_client x.state.role.side) x.state.role.length terms n
        (Some (Ack acked)))
    acks acked = search (rules, if_acts, more)

    sends : (decoded : Option WirePacket) →
        Within (sender_action (is_client x.state.role.side) x.state.role.length terms n decoded)
    sends decoded = search (rules, acks, if_acts)

  module _ (network : Network) (decoded : Option WirePacket) where
    by_phase : (phase : Phase) → PhaseKept network x phase → Within (packet_action x.state from decoded phase)
    by_phase phase h1 = search (rules, if_acts, writes, true≢false, sends)

    pub reads_within : (bytes : List ℕ) → EndKept network x → Within (datagram_action x.state from bytes decoded)
    reads_within bytes kept =
        if_acts Within (is_wrong_peer (terms_of x.state.position.phase) x.state.position.last_sent_to from)
        (if has_error_opcode bytes then Respond Ignore else Respond WrongPeer)
        (if has_error_opcode bytes && is_none decoded then Respond (garbled_response x.state.position.phase) else
        packet_action x.state from decoded x.state.position.phase)
        (λ b. if_acts Within (has_error_opcode bytes) (Respond Ignore) (Respond WrongPeer) (λ c. tt) (λ c. tt))
        (λ b. if_acts Within (has_error_opcode bytes && is_none decoded)
        (Respond (garbled_response x.state.position.phase)) (packet_action x.state from decoded x.state.position.phase)
        (λ c. tt) (λ c. by_phase x.state.position.phase kept.phase))

-- ---- what was read
whole_answer : (want : ℕ) (answer : Result ℕ FileFault) → result_count_is want answer ≡ true → answer ≡ Ok want
whole_answer want answer e = search rules

pub piece_length : (before after : Option (List ℕ)) (want : ℕ) (piece : List ℕ) →
    Fills before after want [] piece (Ok want) → length piece ≡ want
piece_length before after want piece f = search rules

no_memory_read : ◌≢◌ {A = Result ℕ FileFault} (Err file_faults.Read) (Err file_faults.Memory)
no_memory_read e = cc

-- What a source has given since it was opened, after a step of its end, or after its own work.

-- a fill of no bytes gives none
at_most : (before after : Option (List ℕ)) (wants : ℕ) (piece : List ℕ) (answer : Result ℕ FileFault) →
    Fills before after wants [] piece answer → length piece ≤ wants
at_most before after wants piece answer f = search rules

module _ {S : Type 0} {sources : SourceMeaning S} where
  -- all that it gave was sent
  pub gave_first : {first last : S} {e : EndState} {bytes : List ℕ} → GivesInTurn sources first bytes last →
      GaveSince sources first e bytes last
  gave_first {first = first} {last = last} {bytes = bytes} h = search rules

  -- a call that gave no bytes
  pub gave_none : {first before after : S} {e : EndState} {bytes : List ℕ} → GaveSince sources first e bytes before →
      sources.gives before [] after → GaveSince sources first e bytes after
  gave_none {first = first} {after = after} {bytes = bytes} h none =
      search (rw (append-nil (bytes ++ h.rest)) at (Gave_more h.given none))

  -- at another position, which is open only if the end was
  pub gave_still : {first last : S} {e e' : EndState} {bytes : List ℕ} → e'.role ≡ e.role →
      (outcome_of e'.position.phase ≡ None → outcome_of e.position.phase ≡ None) →
      GaveSince sources first e bytes last → GaveSince sources first e' bytes last
  gave_still role still h = search rules

-- a step of a sender over the text that is left, and what was given with it, also since the source was first so
pub record SourceMoves {S : Type 0} (sources : SourceMeaning S) (x : OpenEnd) (s s' : S) (turn : Turn)
    (moved now : Moved) (P : List ℕ → Type 0) : Type 0 where
  pub left : List ℕ
  pub steps : P left
  pub gave : GaveSo (end_after x turn (Source left)) now
  pub given : (first : S) → GaveSince sources first x.state moved.bytes s →
      GaveSince sources first (after_turn x.state turn) now.bytes s'

module _ {S K : Type 0} (sources : SourceMeaning S) (sinks : SinkMeaning K) (x : OpenEnd) (from : Endpoint) (s s' : S)
    (turn : Turn) (moved : Moved) (gave : GaveSo x moved)
    (still : outcome_of x.state.position.phase ≡ None) (pad : ℕ) (all : List ℕ)
    (text : x.text ≡ pad_to pad x.state.role.length all) where
  abbrev want : Terms → ℕ → ℕ
  want terms number = block_length x.state.role.length terms.size number

  abbrev Moves : Moved → (List ℕ → Type 0) → Type 0
  Moves now P = SourceMoves sources x s s' turn moved now P

  measured : length x.text ≡ x.state.role.length
  measured = ap (λ (t : List ℕ). length t) text ∙ pad_length pad x.state.role.length all

  -- all was sent before
  before : {first : S} → GaveSince sources first x.state moved.bytes s → GivesInTurn sources first moved.bytes s
  before since = search rules

  -- the whole block was read
  whole : (terms : Terms) (number : ℕ) (h : Sends sources terms number from x.state s turn s') →
      want terms number ≤ length x.left → result_count_is (want terms number) h.answer ≡ true →
      IsPrefixOf (moved.bytes ++ h.piece) all → Moves (with_more h.piece moved.committed moved)
      (Sends known_source terms number from x.state x.left turn)
  whole terms number h within count told =
      let n = want terms number in
      let is = whole_answer n _ count in
      let fills =
      subst (λ (r : Result ℕ FileFault). Fills (sources.left s) (sources.left s') n [] h.piece r) is h.reads.fills in
      let long = piece_length _ _ n _ fills in
      let all_left = gave.left still in
      let long_text = measured in
      let a = length-append moved.bytes h.piece in
      let b = length-append moved.bytes x.left in
      let c = ap (λ (t : List ℕ). length t) all_left in
      let short : length (moved.bytes ++ h.piece) ≤ x.state.role.length =
      omega (arith, a, b, c, long, within, long_text) in
      let begins =
      subst (λ (t : List ℕ). IsPrefixOf (moved.bytes ++ h.piece) t) (sym text) (begins_padded pad _ _ _ told short) in
      let next =
      begins_after _ _ _ (subst (λ (t : List ℕ). IsPrefixOf (moved.bytes ++ h.piece) t) (sym all_left) begins) in
      let given = sym (begins_by_take _ _ next) ∙ ap (λ (k : ℕ). take k x.left) long in
      let rest = ap (λ (k : ℕ). h.piece ++ drop k x.left) (sym long) ∙ then_rest _ _ next in
      record {
        left = drop n x.left;
        steps = search std_rules;
        gave = grind (std_arith, common_steps);
        given = λ first since. gave_first (Gave_more (before since) h.gives);
      }

  -- a block that was not read has no bytes, if all was sent
  no_piece : (terms : Terms) (number : ℕ) (h : Sends sources terms number from x.state s turn s') →
      want terms number ≤ length x.left → length (moved.bytes ++ []) ≡ x.state.role.length → h.piece ≡ []
  no_piece terms number h within all_sent = search (rules, at_most, length-append, nil_from_length, measured)

  -- it was not
  failed : (terms : Terms) (number : ℕ) (h : Sends sources terms number from x.state s turn s') →
      want terms number ≤ length x.left → result_count_is (want terms number) h.answer ≡ false →
      Moves (with_more [] moved.committed moved) (Sends known_source terms number from x.state x.left turn)
  failed terms number h within count =
      let answers : turn ≡ refused_turn terms FileChanged outcomes.SourceFault from x.state = search std_rules steps
      300000 in
      record {
        left = x.left;
        steps = record {
          answer = Err file_faults.Read;
          piece = [];
          reads = record { fills = refl; read = λ q. tt; fails = λ q. absurd q; memory = no_memory_read };
          gives = tt;
          answers = answers;
        };
        gave = search std_rules;
        given = λ first since. record {
          rest = h.piece;
          given = rw (← ap (λ (t : List ℕ). t ++ h.piece) (sym (append-nil moved.bytes))) (Gave_more (before since)
              h.gives);
          going = λ o. absurd (cc);
          whole = λ all_sent. no_piece _ _ h within all_sent;
        };
      }

  either : (terms : Terms) (number : ℕ) (h : Sends sources terms number from x.state s turn s') →
      want terms number ≤ length x.left → (b : Bool) → result_count_is (want terms number) h.answer ≡ b →
      IsPrefixOf (moved.bytes ++ (if b then h.piece else [])) all →
      Moves (with_more (if b then h.piece else []) moved.committed moved)
      (Sends known_source terms number from x.state x.left turn)
  either terms number h within true count told = whole terms number h within count told
  either terms number h within false count told = failed terms number h within count

  source_acts : (action : Action) → ReadsWithin x.state.role.length x.left action →
      (bytes : List ℕ) (acts : Acts sources sinks action from bytes x.state (Source s) turn (Source s')) →
      IsPrefixOf (acts_move sources sinks action from bytes x.state (Source s) turn (Source s') acts moved).bytes all →
      Moves (acts_move sources sinks action from bytes x.state (Source s) turn (Source s') acts moved)
      (λ (left : List ℕ). Acts known_source known_sink action from bytes x.state (Source x.left) turn (Source left))
  source_acts (Respond response) within bytes acts told = search std_rules
  source_acts (Send terms number) within bytes acts told =
      either terms number acts within (result_count_is (want terms number) acts.answer) refl told
  source_acts (Store terms number) within bytes acts told = absurd acts.2

  -- a step
  pub source_moves : (network : Network) → EndKept network x → is_sender x.state.role.side ≡ true →
      (bytes : List ℕ) (step : DatagramStep sources sinks from bytes x.state (Source s) turn (Source s')) →
      IsPrefixOf (step_moves sources sinks from bytes x.state (Source s) turn (Source s') step moved).bytes all →
      Moves (step_moves sources sinks from bytes x.state (Source s) turn (Source s') step moved)
      (λ (left : List ℕ). DatagramStep known_source known_sink from bytes x.state (Source x.left) turn (Source left))
  source_moves network kept sender bytes step told =
      let h = source_acts _ (reads_within x sender from _ step.decoded bytes kept) _ _ told in
      search
