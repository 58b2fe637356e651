-- What a step of an end makes, and what it leaves of its retries and of the timeouts until it closes. For six other files.
use Rattle.std.proofs.Common.{rules}
use Rattle.tftp_loop.proofs.Common.{arith, ◌≡◌, ◌-◌, ◌≤◌, ◌+◌, ◌⊎◌, ℕ, Bool, true, false, List, [], Option, Some, refl}
use Rattle.tftp_loop.proofs.Common.{ap, subst, inl, inr, if◌then◌else◌, is_some, Result, Ok, Err, cases_eq, eq-eqb}
use Rattle.tftp_loop.proofs.Common.{ne_eqb, same_Some, Packet, has_error_opcode, SourceMeaning, SinkMeaning, StoreFault}
use Rattle.tftp_loop.proofs.Common.{Files, Source, Sink, datagram_action, EndState, Position, is_complete, is_progress}
use Rattle.tftp_loop.proofs.Common.{outcome_of, Acts, DatagramStep, Turn, after_turn, response_turn, block_length}
use Rattle.tftp_loop.proofs.Common.{timeout_turn, Action, Respond, Send, Store, Response, Retransmit, Close, Endpoint}
use Rattle.tftp_loop.proofs.Common.{Outcome, Fresh, Phase, Sending, Receiving, Dallying, Closed, Terms, ClosesInSilence}
use Rattle.std.specs.Prelude.{◌==◌, length, nat_lt}
use Rattle.tftp_wire.specs.declared.packet.Packet.TheVariants as packets
use Rattle.tftp_file.specs.Source.{Fills}
use Rattle.tftp_file.specs.declared.fault.FileFault.{FileFault}
use Rattle.tftp_file.specs.declared.fault.FileFault.TheVariants as file_faults
use Rattle.tftp_ends.specs.Action.{garbled_response, is_wrong_peer, packet_action}
use Rattle.tftp_ends.specs.End.{terms_of}
use Rattle.tftp_ends.specs.Phase.{closed, completed, refused, waited}
use Rattle.tftp_ends.specs.Step.{Done, GoesOn, Sends, ack_bytes, after, commit_reply, committed_turn, data_bytes}
use Rattle.tftp_ends.specs.Step.{holding, refused_turn, result_count_is, sent_turn}
use Rattle.tftp_ends.specs.declared.action.Response.TheVariants.{Ignore, WrongPeer, ResendReply, Wait}
use Rattle.tftp_ends.specs.declared.action.Response.TheVariants.{Refuse, Accept, Complete as Completes}
use Rattle.tftp_ends.specs.declared.error_reply.ErrorReply.{ErrorReply}
use Rattle.tftp_ends.specs.declared.error_reply.ErrorReply.TheVariants.{DiskFull, FileChanged}
use Rattle.tftp_ends.specs.declared.outcome.Outcome.TheVariants as outcomes
use Rattle.tftp_ends.specs.declared.phase.Dally.TheVariants.{Waited}

-- ---- how many timeouts in sequence close an end
-- how many timeouts a phase has left until the end closes
abbrev pub timeouts_in : ℕ → Phase → ℕ
timeouts_in left (Dallying terms number Fresh) = 2
timeouts_in left (Dallying terms number Waited) = 1
timeouts_in left (Closed terms number complete outcome) = 0
timeouts_in left phase = left + 1

-- how many timeouts an end has left until it closes
abbrev pub timeouts_left : EndState → ℕ
timeouts_left e = timeouts_in e.position.retries_left e.position.phase

-- an open end has one at least
pub open_left : (p : Phase) (left : ℕ) → is_some (outcome_of p) ≡ false → 1 ≤ timeouts_in left p
open_left p left h = search rules

-- a closed end has none
pub closed_left : (p : Phase) (left : ℕ) → is_some (outcome_of p) ≡ true → timeouts_in left p ≡ 0
closed_left p left h = search rules

-- ---- what a step of an end makes
-- the bytes of a fill are no more than were requested
pub at_most : (before after : Option (List ℕ)) (want : ℕ) (piece : List ℕ) (answer : Result ℕ FileFault)
    → Fills before after want [] piece answer → length piece ≤ want
at_most before after want piece answer f = search rules

module _ {S K : Type 0} (sources : SourceMeaning S) (from : Endpoint) (e : EndState) (turn : Turn) where
  -- the turn of an action is that of its response, or DATA that the source gave, an ACK or an ERROR
  pub data Makes (action : Action) (files files' : Files S K) : Type 0 where
    Responds : (response : Response) → action ≡ Respond response → turn ≡ response_turn response from e
        → Makes action files files'
    Gives : (terms : Terms) (number : ℕ) (source source' : S) (piece : List ℕ) → action ≡ Send terms number
        → files ≡ Source source → files' ≡ Source source' → sources.gives source piece source'
        → length piece ≤ terms.size → turn ≡ sent_turn (Sending terms number) from (data_bytes number piece) e
        → Makes action files files'
    Acknowledges : (terms : Terms) (number : ℕ) (held : List ℕ) (phase : Phase) → action ≡ Store terms number
        → (phase ≡ Receiving terms number) ⊎ (phase ≡ Dallying terms number Fresh)
        → turn ≡ sent_turn phase from (ack_bytes number) (holding held e) → Makes action files files'
    Gives_up : (terms : Terms) (reply : ErrorReply) (outcome : Outcome) (held : List ℕ)
        → turn ≡ refused_turn terms reply outcome from (holding held e) → Makes action files files'

module _ {S K : Type 0} (sources : SourceMeaning S) (sinks : SinkMeaning K) (from : Endpoint) (bytes : List ℕ)
    (e : EndState) (turn : Turn) where
  sends_make : (terms : Terms) (number : ℕ) (source source' : S) → Sends sources terms number from e source turn source'
      → Makes {K = K} sources from e turn (Send terms number) (Source source) (Source source')
  sends_make terms number source source' h =
      let want = block_length e.role.length terms.size number in
      let long = at_most (sources.left source) (sources.left source') want h.piece h.answer h.reads.fills in
      by (omega (arith, long)) (result_count_is want h.answer) h.answers
    where
      by : length h.piece ≤ terms.size → (whole : Bool) → turn ≡ (if whole then sent_turn (Sending terms number) from (data_bytes number h.piece) e
          else refused_turn terms FileChanged outcomes.SourceFault from e)
          → Makes {K = K} sources from e turn (Send terms number) (Source source) (Source source')
      by long true is = Gives terms number source source' h.piece refl refl refl h.gives long is
      by long false is = Gives_up terms FileChanged outcomes.SourceFault e.position.held_back is

  stores_make : (terms : Terms) (number : ℕ) (last : Bool) (held : List ℕ) (sink sink' : K) (files files' : Files S K)
      (answer : Result Done StoreFault) → GoesOn sinks terms number from e last held sink answer turn sink'
      → Makes sources from e turn (Store terms number) files files'
  stores_make terms number last held sink sink' files files' (Err fault) h =
      Gives_up terms DiskFull outcomes.StoreFault e.position.held_back h.0
  stores_make terms number true held sink sink' files files' (Ok done) h = by h.answer h.answers
    where
      by : (answer : Result Done StoreFault) → turn ≡ committed_turn terms number from (holding held e) answer
          → Makes sources from e turn (Store terms number) files files'
      by (Ok done) is = Acknowledges terms number held (Dallying terms number Fresh) refl (inr refl) is
      by (Err fault) is = Gives_up terms (commit_reply fault) outcomes.StoreFault held is
  stores_make terms number false held sink sink' files files' (Ok done) h =
      Acknowledges terms number held (Receiving terms number) refl (inl refl) h.0

  pub acts_make : (action : Action) (files files' : Files S K)
      → Acts sources sinks action from bytes e files turn files' → Makes sources from e turn action files files'
  acts_make (Respond response) files files' h = Responds response refl h.0
  acts_make (Send terms number) (Source source) (Source source') h = sends_make terms number source source' h
  acts_make (Send terms number) files files' h = absurd h
  acts_make (Store terms number) (Sink sink) (Sink sink') h =
      stores_make terms number (nat_lt (length h.0) terms.size) h.2.after h.2.mid sink' (Sink sink) (Sink sink') h.2.answer
      h.2.rest
  acts_make (Store terms number) files files' h = absurd h.2

-- ---- how the position of an end changes in a step
-- the position of an end after a step
pub data Moves (e : EndState) (position : Position) : Type 0 where
  -- the phase stays
  Stays_in : position.phase ≡ e.position.phase → position.retries_left ≤ e.position.retries_left → Moves e position
  -- a dally waits on
  Waits_on : position.retries_left ≤ e.position.retries_left → position.phase ≡ waited e.position.phase
      → Moves e position
  -- progress restores the retries
  Enters : (phase : Phase) → position.phase ≡ phase → position.retries_left ≡
      (if is_progress e.position.phase phase then e.role.retries else e.position.retries_left) → Moves e position

after_moves : (response : Response) (from : Endpoint) (e : EndState) → Moves e (after response from e)
after_moves Retransmit from e = Stays_in refl (omega arith)
after_moves Wait from e = Waits_on (omega arith) refl
after_moves (Close outcome) from e = Enters (closed outcome e.position.phase) refl refl
after_moves (Refuse terms reply outcome) from e = Enters (refused terms outcome e.position.phase) refl refl
after_moves (Accept terms) from e = Enters (Receiving terms 0) refl refl
after_moves Completes from e = Enters (completed e.position.phase) refl refl
after_moves response from e = Stays_in refl (omega arith)

made_moves : {S K : Type 0} {sources : SourceMeaning S} {from : Endpoint} {e : EndState} {turn : Turn} {action : Action}
    {files files' : Files S K} → Makes sources from e turn action files files' → Moves e turn.position
made_moves {from = from} {e} (Responds response acts is) = rw is (after_moves response from e)
made_moves (Gives terms number source source' piece acts was now gives long is) =
    rw is (Enters (Sending terms number) refl refl)
made_moves (Acknowledges terms number held phase acts which is) = rw is (Enters phase refl refl)
made_moves {e = e} (Gives_up terms reply outcome held is) =
    rw is (Enters (refused (Some terms) outcome e.position.phase) refl refl)

module _ {S K : Type 0} {sources : SourceMeaning S} {sinks : SinkMeaning K} {from : Endpoint} {bytes : List ℕ}
    {e : EndState} {files : Files S K} {turn : Turn} {files' : Files S K} where
  -- a datagram moves the position so
  pub datagram_moves : DatagramStep sources sinks from bytes e files turn files' → Moves e turn.position
  datagram_moves steps = search (rules, made_moves, acts_make, datagram_action)

moves_fewer : (e : EndState) (position : Position) → Moves e position
    → is_progress e.position.phase position.phase ≡ false → position.retries_left ≤ e.position.retries_left
moves_fewer e position moves still = search rules

still_at_most : (p p' : Phase) (left : ℕ) → is_complete p ≡ false → is_progress p p' ≡ false
    → timeouts_in left p' ≤ left + 1
still_at_most p p' left complete still = search rules

-- an end that dallies or has closed takes nothing from a datagram
abbrev IsQuiet : Action → Type 0
IsQuiet (Respond Ignore) = Unit {0}
IsQuiet (Respond WrongPeer) = Unit {0}
IsQuiet (Respond ResendReply) = Unit {0}
IsQuiet action = ⊥

quiet_by : (stranger error garbled : Bool) (response : Response) (action : Action) → IsQuiet (Respond response)
    → IsQuiet action
    → IsQuiet (if stranger then (if error then Respond Ignore else Respond WrongPeer) else if garbled then Respond
    response else action)
quiet_by stranger error garbled response action h k = search rules

-- the phase is one of an open end that does not dally, or the end takes nothing
abbrev Ends : Phase → Type 0
Ends phase =
    ((is_complete phase ≡ false) × ((left : ℕ) → timeouts_in left phase ≡ left + 1))
    ⊎ (((e : EndState) (from : Endpoint) (decoded : Option Packet) → IsQuiet (packet_action e from decoded phase))
    × IsQuiet (Respond (garbled_response phase)))

ends : (phase : Phase) → Ends phase
ends phase = search rules

module _ {S K : Type 0} (sources : SourceMeaning S) (sinks : SinkMeaning K) (from : Endpoint) (bytes : List ℕ)
    (e : EndState) (files : Files S K) (turn : Turn) (files' : Files S K) where
  quiet_stays : (action : Action) → IsQuiet action → Acts sources sinks action from bytes e files turn files'
      → turn.position ≡ e.position
  quiet_stays action quiet h = search rules

module _ {S K : Type 0} {sources : SourceMeaning S} {sinks : SinkMeaning K} {from : Endpoint} {bytes : List ℕ}
    {e : EndState} {files : Files S K} {turn : Turn} {files' : Files S K} where
  -- the timeouts until the end closes are no more
  pub datagram_left : DatagramStep sources sinks from bytes e files turn files'
      → is_progress e.position.phase turn.position.phase ≡ false → timeouts_left (after_turn e turn) ≤ timeouts_left e
  datagram_left steps still = elim (ends e.position.phase) [
    | inl going ↦
        let fewer = moves_fewer e _ (datagram_moves steps) still in
        let most = still_at_most e.position.phase turn.position.phase turn.position.retries_left going.0 still in
        omega (arith, fewer, most, going.1 e.position.retries_left)
    | inr quiet ↦
        let stays = quiet_stays _ _ _ _ e _ _ _ _ (quiet_by (is_wrong_peer (terms_of e.position.phase)
        e.position.last_sent_to from) (has_error_opcode bytes) _ _ _ quiet.1 (quiet.0 e from steps.decoded)) steps.acts
        in
        let same = ap (λ p. timeouts_in p.retries_left p.phase) stays in
        omega (arith, same)
  ]

-- ---- a timeout
-- a timeout takes one of those that are left
pub record Spends (e : EndState) (position : Position) : Type 0 where
  pub moves : Moves e position
  pub left : 1 ≤ timeouts_in position.retries_left position.phase
      → timeouts_in position.retries_left position.phase + 1 ≤ timeouts_left e
  pub complete : is_complete position.phase ≡ is_complete e.position.phase
  pub closes : (outcome : Outcome) → outcome_of position.phase ≡ Some outcome
      → ClosesInSilence e.position.phase outcome

gives_up : (e : EndState) (to : Endpoint) (outcome : Outcome) → ClosesInSilence e.position.phase outcome
    → Spends e (after (Close outcome) to e)
gives_up e to outcome why = record {
  moves = after_moves (Close outcome) to e;
  left = λ h. absurd (omega (arith, h));
  complete = refl;
  closes = λ o is. subst (ClosesInSilence e.position.phase) (same_Some outcome o is) why;
}

-- an end that waits for an answer sends its newest datagram again, if it has a retry
tries : (e : EndState)
    → ((e.position.retries_left ≡ 0 → ⊥) → 1 ≤ timeouts_in (e.position.retries_left - 1) e.position.phase
    → timeouts_in (e.position.retries_left - 1) e.position.phase + 1 ≤ timeouts_left e)
    → Spends e (after (if e.position.retries_left == 0 then Close outcomes.TimedOut else Retransmit)
    e.position.last_sent_to e)
tries e fewer = elim (cases_eq e.position.retries_left 0) [
  | inl none ↦
      rw (eq-eqb e.position.retries_left 0 none) (gives_up e e.position.last_sent_to outcomes.TimedOut (inl refl))
  | inr some ↦ rw (ne_eqb e.position.retries_left 0 some) (record {
    moves = Stays_in refl (omega arith);
    left = fewer some;
    complete = refl;
    closes = λ o is. inr (inr is);
  })
]

-- an end in a phase
abbrev in_phase_alone : Phase → EndState → EndState
in_phase_alone p e = record e { position = record e.position { phase = p } }

timeout_at : (p : Phase) (e : EndState) → Spends (in_phase_alone p e) (timeout_turn (in_phase_alone p e)).position
timeout_at (Dallying terms number Fresh) e = search rules
timeout_at (Dallying terms number Waited) e = gives_up _ e.position.last_sent_to _ (inr (inl (refl, refl)))
timeout_at p e = tries _ (λ some h. omega (arith, some, h))

-- each timeout of an open end does
pub timeout_spends : (e : EndState) → Spends e (timeout_turn e).position
timeout_spends e = timeout_at e.position.phase e
