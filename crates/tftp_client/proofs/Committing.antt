-- A received file is committed once its end is complete.
use Rattle.std.proofs.Common.{rules}
use Rattle.tftp_client.proofs.Common.{◌≡◌, ℕ, Bool, true, false, List, [], length, Option, Some, Result, Ok, Err, refl}
use Rattle.tftp_client.proofs.Common.{sym, subst, ◌==◌, ◌&&◌, nat_lt, if◌then◌else◌, Mode, Packet, Read, Data, Oack}
use Rattle.tftp_client.proofs.Common.{Asked, Kind, Known, Refusal, agreement, Holding, SinkMeaning, CommitsFreely}
use Rattle.tftp_client.proofs.Common.{Commits, UnlessArmed, SourceMeaning, StoreFault, Files, Source, Sink, Action}
use Rattle.tftp_client.proofs.Common.{Respond, Send, Store, Response, Ignore, WrongPeer, Refuse, Complete, Endpoint}
use Rattle.tftp_client.proofs.Common.{FileTooLarge, Phase, Waiting, Sending, Receiving, Dallying, Closed, Terms}
use Rattle.tftp_client.proofs.Common.{datagram_action, packet_action, garbled_response, EndState, is_sender, is_client}
use Rattle.tftp_client.proofs.Common.{is_complete, KeepsFiles, dally_response, illegal_action, Acts, DatagramStep, Done}
use Rattle.tftp_client.proofs.Common.{GoesOn, Turn, after_turn, committed_turn, holding, response_turn, reader_action}
use Rattle.tftp_client.proofs.Common.{writer_action, refusal_action, default_terms, no_answer, SocketEvent, Job}
use Rattle.tftp_client.proofs.Common.{Converses, HandlesReceived, MayElapse, State, WorksOnFile, Begins, Receives}
use Rattle.tftp_client.proofs.Common.{Waits, Times, Rests, Answers, Loses, RunsAs, opens}
use Rattle.std.specs.Prelude.{nat_le}
use Rattle.tftp_negotiate.specs.declared.limits.TheConstants.{DEFAULT_BLOCK}
use Rattle.tftp_negotiate.specs.declared.known.Kind.TheVariants as kinds
use Rattle.tftp_negotiate.specs.declared.refusal.Refusal.TheVariants as refusals
use Rattle.tftp_file.specs.Sink.{as_committed}
use Rattle.tftp_ends.specs.declared.error_reply.ErrorReply.TheVariants.{NotNetascii}
use Rattle.tftp_ends.specs.declared.outcome.Outcome.TheVariants as outcomes
use Rattle.tftp_ends.specs.Receiver.{receiver_action, data_action, next_action}
use Rattle.tftp_ends.specs.Text.{is_readable}
use Rattle.tftp_ends.specs.Waiting.{accept_action}

-- ---- the action of an end that has sent no block completes no transfer
-- both cases of a test
pub if_either : {A : Type 0} (P : A → Type 0) (b : Bool) (r s : A) → P r → P s → P (if b then r else s)
if_either P true r s p q = p
if_either P false r s p q = q

-- a response that completes no transfer
abbrev Continues : Response → Type 0
Continues Complete = ⊥
Continues _ = Unit {0}

-- the same of an action
abbrev GoesFurther : Action → Type 0
GoesFurther (Respond response) = Continues response
GoesFurther (Send terms number) = Unit {0}
GoesFurther (Store terms number) = Unit {0}

-- the end has sent no block
abbrev HasSentNone : Phase → Type 0
HasSentNone (Sending terms number) = ⊥
HasSentNone _ = Unit {0}

next_continues : (mode : Mode) (held : List ℕ) (terms : Terms) (number : ℕ) (piece : List ℕ)
    → GoesFurther (next_action mode held terms number piece)
next_continues mode held terms number piece =
    let readable = is_readable mode held piece (nat_lt (length piece) terms.size) in
    let bad = Respond (Refuse (Some terms) NotNetascii outcomes.NotNetascii) in
    let large = Respond (Refuse (Some terms) FileTooLarge outcomes.TooLarge) in
    let store = if readable then Store terms number else bad in
    let beyond = number == 65535 && (length piece == terms.size) in
    if_either GoesFurther (nat_lt terms.size (length piece)) (illegal_action terms) (if beyond then large else store) tt
    (if_either GoesFurther beyond large store tt (if_either GoesFurther readable (Store terms number) bad tt tt))

data_continues : (mode : Mode) (held : List ℕ) (terms : Terms) (stored number : ℕ) (piece : List ℕ)
    → GoesFurther (data_action mode held terms stored number piece)
data_continues mode held terms stored number piece =
    search (rules, illegal_action, nat_lt, if_either, next_continues)

receiver_continues : (client : Bool) (mode : Mode) (held : List ℕ) (terms : Terms) (stored : ℕ)
    (decoded : Option Packet) → GoesFurther (receiver_action client mode held terms stored decoded)
receiver_continues client mode held terms stored decoded =
    search (rules, data_continues, if_either, illegal_action)

refusal_continues : (refusal : Refusal) → GoesFurther (refusal_action refusal)
refusal_continues refusal = search rules

accept_continues : (from : Endpoint) (answer : Result (List Known) Refusal) → GoesFurther (accept_action from answer)
accept_continues from (Ok agreed) = tt
accept_continues from (Err refusal) = refusal_continues refusal

reader_continues : (mode : Mode) (asked : Asked) (limit : ℕ) (from : Endpoint) (decoded : Option Packet)
    → GoesFurther (reader_action mode asked limit from decoded)
reader_continues mode asked limit from (Some (Data number piece)) =
    let first = receiver_action true mode [] (default_terms from) 0 (Some (Data number piece)) in
    if_either GoesFurther (number == 1 && nat_le (length piece) DEFAULT_BLOCK) first no_answer
    (data_continues mode [] (default_terms from) 0 number piece) tt
reader_continues mode asked limit from (Some (Oack options)) =
    accept_continues from (agreement asked kinds.Read mode options limit)
reader_continues mode asked limit from decoded = tt

writer_continues : (mode : Mode) (asked : Asked) (limit size : ℕ) (from : Endpoint) (decoded : Option Packet)
    → GoesFurther (writer_action mode asked limit size from decoded)
writer_continues mode asked limit size from decoded = search rules

dally_continues : (stored : ℕ) (decoded : Option Packet) → Continues (dally_response stored decoded)
dally_continues stored decoded = search rules

packet_continues : (e : EndState) (from : Endpoint) (decoded : Option Packet) (phase : Phase) → HasSentNone phase
    → GoesFurther (packet_action e from decoded phase)
packet_continues e from decoded (Waiting asked limit) none =
    search (rules, writer_action, reader_action, if_either, is_sender, writer_continues, reader_continues)
packet_continues e from decoded (Sending terms number) none = absurd none
packet_continues e from decoded (Receiving terms number) none =
    receiver_continues (is_client e.role.side) e.role.mode e.position.held_back terms number decoded
packet_continues e from decoded (Dallying terms number dally) none = dally_continues number decoded
packet_continues e from decoded (Closed terms number complete outcome) none = tt

garbled_continues : (phase : Phase) → Continues (garbled_response phase)
garbled_continues phase = search rules

-- a property of the action for a datagram
pub by_tests : (P : Action → Type 0) (e : EndState) (from : Endpoint) (bytes : List ℕ) (decoded : Option Packet)
    → P (Respond Ignore) → P (Respond WrongPeer)
    → P (Respond (garbled_response e.position.phase)) → P (packet_action e from decoded e.position.phase)
    → P (datagram_action e from bytes decoded)
by_tests P e from bytes decoded ignored foreign garbled handled = search rules

datagram_continues : (e : EndState) (from : Endpoint) (bytes : List ℕ) (decoded : Option Packet)
    → HasSentNone e.position.phase → GoesFurther (datagram_action e from bytes decoded)
datagram_continues e from bytes decoded none =
    by_tests GoesFurther e from bytes decoded tt tt (garbled_continues e.position.phase)
    (packet_continues e from decoded e.position.phase none)

-- ---- a complete end stores no block
abbrev pub StoresNone : Action → Type 0
StoresNone (Respond response) = Unit {0}
StoresNone (Send terms number) = Unit {0}
StoresNone (Store terms number) = ⊥

pub datagram_stores_none : (e : EndState) (from : Endpoint) (bytes : List ℕ) (decoded : Option Packet)
    → is_complete e.position.phase ≡ true → StoresNone (datagram_action e from bytes decoded)
datagram_stores_none e from bytes decoded done = search rules

module _ {S K : Type 0} (sources : SourceMeaning S) (sinks : SinkMeaning K)
    (known : (sink : K) → (held : Holding) × (sinks.held sink ≡ Some held)) where
  abbrev pub Kept : Files S K → Type 0
  Kept (Source source) = Unit {0}
  Kept (Sink sink) = (held : Holding) × (sinks.held sink ≡ Some held) × (held.committed ≡ true)

  -- the end has sent no block, if its file is a sink; and if it is complete, its file is committed
  abbrev Committing : EndState → Files S K → Type 0
  Committing e (Source source) = Unit {0}
  Committing e (Sink sink) = HasSentNone e.position.phase × (is_complete e.position.phase ≡ true → Kept (Sink sink))

  responds : (response : Response) (from : Endpoint) (e : EndState) (files : Files S K) → Continues response
      → Committing e files → Committing (after_turn e (response_turn response from e)) files
  responds response from e files continues h = search rules

  -- a commit that succeeded
  commits : (armed : Bool) (before : Holding) (after : Option Holding) (done : Done)
      → UnlessArmed armed before after (Ok done) (CommitsFreely before after (Ok done))
      → after ≡ Some (as_committed before)
  commits armed before after done h = search rules

  -- the last block was stored
  by_commit : (terms : Terms) (number : ℕ) (from : Endpoint) (e : EndState) (sink : K) (turn : Turn) (sink' : K)
      (answer : Result Done StoreFault)
      → HasSentNone e.position.phase → is_complete e.position.phase ≡ false
      → Commits (sinks.held sink) (sinks.held sink') answer
      → turn ≡ committed_turn terms number from e answer → Committing (after_turn e turn) (Sink sink')
  by_commit terms number from e sink turn sink' (Ok done) none undone c is =
      let before = known sink in
      let Of : Option Holding → Type 0 = λ held. Commits held (sinks.held sink') (Ok done) in
      let after = commits before.0.refuses before.0 (sinks.held sink') done (subst Of before.1 c) in
      let At : Turn → Type 0 = λ t. Committing (after_turn e t) (Sink sink') in
      subst At (sym is) (tt, λ _. (as_committed before.0, after, refl))
  by_commit terms number from e sink turn sink' (Err fault) none undone c is = search rules

  -- a block was appended
  goes : (terms : Terms) (number : ℕ) (from : Endpoint) (e : EndState) (last : Bool) (after : List ℕ) (sink : K)
      (answer : Result Done StoreFault) (turn : Turn) (sink' : K)
      → HasSentNone e.position.phase → is_complete e.position.phase ≡ false
      → GoesOn sinks terms number from e last after sink answer turn sink' → Committing (after_turn e turn) (Sink sink')
  goes terms number from e true after sink (Err fault) turn sink' none undone h = search rules
  goes terms number from e false after sink (Err fault) turn sink' none undone h = search rules
  goes terms number from e true after sink (Ok done) turn sink' none undone h =
      by_commit terms number from (holding after e) sink turn sink' h.answer none undone h.commits h.answers
  goes terms number from e false after sink (Ok done) turn sink' none undone h = search rules

  -- a block for a complete end is not stored
  incomplete : (b : Bool) → (b ≡ true → ⊥) → b ≡ false
  incomplete true never = absurd (never refl)
  incomplete false never = refl

  acts : (action : Action) (from : Endpoint) (bytes : List ℕ) (e : EndState) (files : Files S K) (turn : Turn)
      (files' : Files S K) → (HasSentNone e.position.phase → GoesFurther action)
      → (is_complete e.position.phase ≡ true → StoresNone action)
      → Committing e files → Acts sources sinks action from bytes e files turn files'
      → Committing (after_turn e turn) files'
  acts action from bytes e files turn files' further once h a =
      search (rules, after_turn, responds, goes, nat_lt, length, incomplete, is_complete)

  -- a step of the end for a datagram
  steps : (from : Endpoint) (bytes : List ℕ) (e : EndState) (files : Files S K) (turn : Turn) (files' : Files S K)
      → Committing e files
      → DatagramStep sources sinks from bytes e files turn files' → Committing (after_turn e turn) files'
  steps from bytes e files turn files' h step =
      search (rules, acts, datagram_action, datagram_continues, datagram_stores_none)

  loses : (files files' : Files S K) (e : EndState) → KeepsFiles sources sinks files files' → Committing e files
      → Committing e files'
  loses files files' e keeps h = search rules

  works : (files files' : Files S K) (e : EndState) → WorksOnFile sources sinks files files' → Committing e files
      → Committing e files'
  works files files' e work h = search rules

  handles : {port : ℕ} {from : Endpoint} {bytes : List ℕ} {s : State} {files : Files S K} {next : State}
      {files' : Files S K}
      → HandlesReceived sources sinks port from bytes s files next files' → Committing s.end files
      → Committing next.end files'
  handles (Answers {turn} {files'} is_open step) h = steps _ _ _ _ turn files' h step
  handles {s = s} {files = files} (Loses {files'} lost keeps) h = loses files files' s.end keeps h

  elapses : {port : ℕ} {s next : State} (files : Files S K) → MayElapse port s next → Committing s.end files
      → Committing next.end files
  elapses files h1 h = search rules

  converses : {port : ℕ} {first : State} {file : Files S K} {s : State} {files : Files S K}
      → Converses sources sinks port first file s files
      → Committing first.end file → Committing s.end files
  converses Begins h = h
  converses (Receives {files' = files'} run may time answers) h =
      let Ends : State → Type 0 = λ s. Committing s.end files' in
      subst Ends (sym answers.is) (handles answers.handles (converses run h))
  converses (Waits run may is time) h = converses run h
  converses (Times {s} {next} {files} run elapsed) h = elapses files elapsed (converses run h)
  converses (Rests {s} {files} {files'} run work) h = works files files' s.end work (converses run h)

  begins : (kind : Kind) (job : Job) (size : ℕ) (file : Files S K) → Committing (opens kind job size) file
  begins kind job size file = search rules

  ends : (e : EndState) (files : Files S K) → Committing e files → is_complete e.position.phase ≡ true → Kept files
  ends e (Source source) h done = tt
  ends e (Sink sink) h done = h.1 done

  -- the file of an end that is complete
  pub is_committed : {port : ℕ} {kind : Kind} {job : Job} {before : List SocketEvent} {s : State} {files : Files S K}
      {count : ℕ} → RunsAs sources sinks port kind job before s files count → is_complete s.end.position.phase ≡ true
      → Kept files
  is_committed {kind = kind} {job = job} {s = s} {files = files} r done =
      ends s.end files (converses r.runs.converses (begins kind job r.length r.runs.file)) done
