-- How many bytes have moved in the run of a sender: those of its blocks so far, and of a complete
-- one as many as the file had with which it opened.
use Rattle.std.proofs.lemmas.Grind.{common_steps}
use Rattle.tftp_client.proofs.Common.{◌≡◌, ℕ, ◌<◌, ◌≤◌, Bool, true, List, [], ◌++◌, length, Option, Result, sym, ◌∙◌}
use Rattle.tftp_client.proofs.Common.{subst, ◌+◌, ◌-◌, ◌*◌, min, if◌then◌else◌, Packet, Asked, Refusal, SinkMeaning}
use Rattle.tftp_client.proofs.Common.{SourceMeaning, Files, Source, Sink, Action, Respond, Send, Store, Response}
use Rattle.tftp_client.proofs.Common.{Accept, Complete, Endpoint, Phase, Waiting, Sending, Receiving, Dallying, Closed}
use Rattle.tftp_client.proofs.Common.{Terms, datagram_action, garbled_response, packet_action, EndState, is_complete}
use Rattle.tftp_client.proofs.Common.{is_sender, Acts, Turn, after, after_turn, block_length, data_bytes, refused_turn}
use Rattle.tftp_client.proofs.Common.{response_turn, result_count_is, sent_turn, begin_action, Converses}
use Rattle.tftp_client.proofs.Common.{HandlesReceived, MayElapse, State, Begins, Receives, Waits, Times, Rests, Answers}
use Rattle.tftp_client.proofs.Common.{Loses, Moved, acts_move, handling_moves, nothing_moved, run_moves}
use Rattle.std.proofs.Common.{rules, arith as std_arith}
use Rattle.std.specs.Prelude.{◌/◌}
use Rattle.tftp_negotiate.specs.declared.known.Kind.TheVariants as kinds
use Rattle.tftp_negotiate.specs.declared.refusal.Refusal.TheVariants as refusals
use Rattle.tftp_file.specs.Source.{Fills}
use Rattle.tftp_file.specs.declared.fault.FileFault.{FileFault}
use Rattle.tftp_ends.specs.declared.error_reply.ErrorReply.TheVariants.{FileChanged}
use Rattle.tftp_ends.specs.declared.outcome.Outcome.TheVariants as outcomes
use Rattle.tftp_client.proofs.Committing.{by_tests}

-- ---- the actions of a sender
-- the newest block is the last
abbrev IsLast : ℕ → Phase → Type 0
IsLast all (Sending terms number) = all / terms.size + 1 ≤ number
IsLast all _ = ⊥

-- a response of a sender of so many bytes
abbrev MayRespond : ℕ → Phase → Response → Type 0
MayRespond all phase (Accept terms) = ⊥
MayRespond all phase Complete = IsLast all phase
MayRespond all phase _ = Unit {0}

-- the block that it sends next
abbrev IsNext : Phase → Terms → ℕ → Type 0
IsNext (Waiting asked limit) terms number = (number ≡ 1) × (0 < terms.size)
IsNext (Sending before sent) terms number = (terms ≡ before) × (number ≡ sent + 1)
IsNext _ terms number = ⊥

abbrev MayAct : ℕ → Phase → Action → Type 0
MayAct all phase (Respond response) = MayRespond all phase response
MayAct all phase (Send terms number) = IsNext phase terms number
MayAct all phase (Store terms number) = ⊥

module _ (all : ℕ) (asked : Asked) (limit : ℕ) where
  abbrev May : Action → Type 0
  May action = MayAct all (Waiting asked limit) action

  begins : (terms : Terms) → May (begin_action all terms)
  begins terms = search rules

-- a sender receives nothing
abbrev Sends : Phase → Type 0
Sends (Receiving terms number) = ⊥
Sends (Dallying terms number dally) = ⊥
Sends _ = Unit {0}

at_packet : (e : EndState) (from : Endpoint) (decoded : Option Packet) (phase : Phase) → is_sender e.role.side ≡ true
    → Sends phase → MayAct e.role.length phase (packet_action e from decoded phase)
at_packet e from decoded phase sender sends = search rules

garbled : (all : ℕ) (phase : Phase) → MayRespond all phase (garbled_response phase)
garbled all phase = search rules

at_datagram : (e : EndState) (from : Endpoint) (bytes : List ℕ) (decoded : Option Packet)
    → is_sender e.role.side ≡ true → Sends e.position.phase
    → MayAct e.role.length e.position.phase (datagram_action e from bytes decoded)
at_datagram e from bytes decoded sender sends =
    by_tests (λ (a : Action). MayAct e.role.length e.position.phase a) e from bytes decoded tt tt
    (garbled e.role.length e.position.phase) (at_packet e from decoded e.position.phase sender sends)

-- ---- what has moved
-- so many bytes of the blocks so far
abbrev HasSent : ℕ → Phase → ℕ → Type 0
HasSent all (Waiting asked limit) count = count ≡ 0
HasSent all (Sending terms number) count = (count ≡ min (number * terms.size) all) × (0 < terms.size)
HasSent all (Receiving terms number) count = ⊥
HasSent all (Dallying terms number dally) count = ⊥
HasSent all (Closed terms number complete outcome) count = complete ≡ true → count ≡ all

sends_still : (all : ℕ) (phase : Phase) (count : ℕ) → HasSent all phase count → Sends phase
sends_still all phase count h = search rules

of_complete : (all : ℕ) (phase : Phase) (count : ℕ) → HasSent all phase count → is_complete phase ≡ true → count ≡ all
of_complete all phase count h done = search rules

-- after the next block
of_next : (all : ℕ) (phase : Phase) (terms : Terms) (number count : ℕ) → HasSent all phase count
    → IsNext phase terms number
    → (count + block_length all terms.size number ≡ min (number * terms.size) all) × (0 < terms.size)
of_next all phase terms number count h next = search rules

counted : (want : ℕ) (before after : Option (List ℕ)) (piece : List ℕ) (answer : Result ℕ FileFault)
    → Fills before after want [] piece answer → result_count_is want answer ≡ true → length piece ≡ want
counted want before after piece answer fills full = search rules

-- of a sender that opened with a file of this length
abbrev SoFar : ℕ → EndState → Moved → Type 0
SoFar all e moved =
    (is_sender e.role.side ≡ true) × HasSent e.role.length e.position.phase (length moved.bytes)
    × (e.role.length ≡ all)

responds : (all : ℕ) (response : Response) (from : Endpoint) (e : EndState) (moved : Moved)
    → MayRespond e.role.length e.position.phase response
    → SoFar all e moved → SoFar all (after_turn e (response_turn response from e)) moved
responds all response from e moved may h = search rules

-- a block was read, and sent if it was whole
reads : (all : ℕ) (whole : Bool) (terms : Terms) (number : ℕ) (from : Endpoint) (piece : List ℕ) (e : EndState) (moved : Moved)
    → (whole ≡ true → length piece ≡ block_length e.role.length terms.size number)
    → IsNext e.position.phase terms number → SoFar all e moved
    → SoFar all (after_turn e (if whole then sent_turn (Sending terms number) from (data_bytes number piece) e
    else refused_turn terms FileChanged outcomes.SourceFault from e))
    (record moved { bytes = moved.bytes ++ (if whole then piece else []) })
reads all whole terms number from piece e moved long next h =
    grind (std_arith, common_steps, of_next, length, min, of_complete)

module _ {S K : Type 0} (sources : SourceMeaning S) (sinks : SinkMeaning K) (all : ℕ) where
  acts : (action : Action) (from : Endpoint) (bytes : List ℕ) (e : EndState) (files : Files S K) (turn : Turn)
      (files' : Files S K) (moved : Moved) → MayAct e.role.length e.position.phase action → SoFar all e moved
      → (a : Acts sources sinks action from bytes e files turn files')
      → SoFar all (after_turn e turn) (acts_move sources sinks action from bytes e files turn files' a moved)
  acts (Respond response) from bytes e files turn files' moved may h a =
      subst (λ (t : Turn). SoFar all (after_turn e t) moved) (sym a.0) (responds all response from e moved may h)
  acts (Send terms number) from bytes e (Source source) turn (Source source') moved may h a =
      let want = block_length e.role.length terms.size number in
      let At : Turn → Type 0 = λ t. SoFar all (after_turn e t)
      (record moved { bytes = moved.bytes ++ (if result_count_is want a.answer then a.piece else []) }) in
      subst At (sym a.answers)
      (reads all (result_count_is want a.answer) terms number from a.piece e moved
      (counted want (sources.left source) (sources.left source') a.piece a.answer a.reads.fills) may h)
  acts (Send terms number) from bytes e (Source source) turn (Sink sink') moved may h a = absurd a
  acts (Send terms number) from bytes e (Sink sink) turn files' moved may h a = absurd a
  acts (Store terms number) from bytes e files turn files' moved may h a = absurd may

  handles : {port : ℕ} {from : Endpoint} {bytes : List ℕ} {s : State} {files : Files S K} {next : State}
      {files' : Files S K} (moved : Moved) (h : HandlesReceived sources sinks port from bytes s files next files')
      → SoFar all s.end moved → SoFar all next.end (handling_moves h moved)
  handles {from = from} {bytes = bytes} {s = s} {files = files} moved (Answers {turn} {files'} is_open step) h =
      search (rules, acts, datagram_action, at_datagram, sends_still, length)
  handles moved (Loses lost keeps) h = h

  elapses : {port : ℕ} {s next : State} (moved : Moved) → MayElapse port s next → SoFar all s.end moved
      → SoFar all next.end moved
  elapses moved h1 h = search rules

  converses : {port : ℕ} {first : State} {file : Files S K} {s : State} {files : Files S K} (moved : Moved)
      (run : Converses sources sinks port first file s files) → SoFar all first.end moved → SoFar all s.end (run_moves run moved)
  converses moved Begins h = h
  converses moved (Receives run may time answers) h =
      let now = run_moves run moved in
      let Ends : State → Type 0 = λ s. SoFar all s.end (handling_moves answers.handles now) in
      subst Ends (sym answers.is) (handles now answers.handles (converses moved run h))
  converses moved (Waits run may is time) h = converses moved run h
  converses moved (Times {s} {next} {files} run elapsed) h = elapses (run_moves run moved) elapsed (converses moved run h)
  converses moved (Rests run work) h = converses moved run h

  -- a sender that is complete has sent as many bytes as its file had
  pub sent_all : {port : ℕ} {first : State} {file : Files S K} {s : State} {files : Files S K}
      (run : Converses sources sinks port first file s files) → is_sender first.end.role.side ≡ true
      → HasSent first.end.role.length first.end.position.phase 0 → first.end.role.length ≡ all → is_complete s.end.position.phase ≡ true
      → length (run_moves run nothing_moved).bytes ≡ all
  sent_all {s = s} run sender begins same done =
      let h = converses nothing_moved run (sender, begins, same) in
      of_complete s.end.role.length s.end.position.phase (length (run_moves run nothing_moved).bytes) h.1 done ∙ h.2
