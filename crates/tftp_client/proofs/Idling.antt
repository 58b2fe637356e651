-- A client that makes no progress, step by step: it closes in time.
use Rattle.tftp_client.proofs.Common.{arith, ◌≡◌, ◌<◌, ◌≤◌, ◌⊎◌, ℕ, Bool, true, false, List, [], length, Option, Some}
use Rattle.tftp_client.proofs.Common.{IsSome, Result, Ok, Err, inl, inr, refl, ap, ◌∙◌, ◌==◌, ◌&&◌, nat_lt, min}
use Rattle.tftp_client.proofs.Common.{if◌then◌else◌, Mode, Packet, Read, Data, Oack, Asked, Kind, Known, Refusal}
use Rattle.tftp_client.proofs.Common.{agreement, SinkMeaning, SourceMeaning, Files, datagram_action, garbled_response}
use Rattle.tftp_client.proofs.Common.{packet_action, wait_of, Backoff, EndState, Position, is_client, is_sender}
use Rattle.tftp_client.proofs.Common.{outcome_of, terms_of, dally_response, illegal_action, Acts, Turn, after}
use Rattle.tftp_client.proofs.Common.{after_turn, timeout_turn, reader_action, writer_action, refusal_action}
use Rattle.tftp_client.proofs.Common.{default_terms, no_answer, Action, Respond, Send, Store, Ignore, WrongPeer}
use Rattle.tftp_client.proofs.Common.{ResendReply, Retransmit, Wait, Close, Refuse, Accept, Complete, Endpoint}
use Rattle.tftp_client.proofs.Common.{FileTooLarge, Outcome, Fresh, Waited, Phase, Waiting, Sending, Receiving}
use Rattle.tftp_client.proofs.Common.{Dallying, Closed, Terms, last_moment, Watch, SocketEvent, QuietEvent, Job}
use Rattle.tftp_client.proofs.Common.{AnswersReceived, Converses, HandlesReceived, IsOpen, IsReadBy, MayElapse, MayWait}
use Rattle.tftp_client.proofs.Common.{State, elapsed, waited, Begins, Receives, Waits, Times, Rests, Answers, Loses}
use Rattle.tftp_client.proofs.Common.{Stays, Elapses, begun, opens}
use Rattle.std.proofs.Common.{◌+◌, ◌-◌, ◌*◌, max}
use Rattle.std.proofs.Common.{mul-add, rules}
use Rattle.std.specs.Prelude.{nat_le}
use Rattle.std.proofs.lemmas.Bool.{eqb-true}
use Rattle.tftp_negotiate.specs.declared.known.Kind.TheVariants as kinds
use Rattle.tftp_negotiate.specs.declared.limits.TheConstants.{DEFAULT_BLOCK}
use Rattle.tftp_negotiate.specs.declared.refusal.Refusal.TheVariants as refusals
use Rattle.tftp_ends.specs.End.{interval_of, is_progress}
use Rattle.tftp_ends.specs.Receiver.{receiver_action, data_action, next_action}
use Rattle.tftp_ends.specs.Sender.{sender_action}
use Rattle.tftp_ends.specs.Step.{StoresIn}
use Rattle.tftp_ends.specs.Text.{is_readable}
use Rattle.tftp_ends.specs.Waiting.{accept_action}
use Rattle.tftp_ends.specs.declared.error_reply.ErrorReply.TheVariants.{NotNetascii}
use Rattle.tftp_ends.specs.declared.outcome.Outcome.TheVariants as outcomes
use Rattle.tftp_client.specs.Converses.{progress_of, received, seconds_of}
use Rattle.tftp_client.specs.Seconds.{ClosesByTheClock, ClosesWithoutProgress, IsIdle, IsSteady, longest_timeout}
use Rattle.tftp_client.proofs.ByTheClock.{passes_with_the_clock, reads_soon, same_elapses, same_handles}
use Rattle.tftp_client.proofs.Committing.{by_tests, if_either}
use Rattle.tftp_client.proofs.Growing.{wait_most}

-- ---- an action without progress leaves the phase, or closes the end
abbrev Fits : Phase → Action → Type 0
Fits p (Respond Ignore) = Unit {0}
Fits p (Respond WrongPeer) = Unit {0}
Fits p (Respond ResendReply) = Unit {0}
Fits p (Respond Retransmit) = Unit {0}
Fits p (Respond Wait) = ⊥
Fits p (Respond (Close outcome)) = Unit {0}
Fits p (Respond (Refuse terms reply outcome)) = Unit {0}
Fits p (Respond (Accept terms)) = is_progress p (Receiving terms 0) ≡ true
Fits p (Respond Complete) = Unit {0}
Fits p (Send terms number) = is_progress p (Sending terms number) ≡ true
Fits p (Store terms number) =
    (is_progress p (Receiving terms number) ≡ true) × (is_progress p (Dallying terms number Fresh) ≡ true)

-- a test whose outcome is known to its first case
where_true : {A : Type 0} (P : A → Type 0) (b : Bool) (r s : A) → (b ≡ true → P r) → P s → P (if b then r else s)
where_true P b r s p q = search rules

sender_fits : (client : Bool) (size : ℕ) (terms : Terms) (number : ℕ) (decoded : Option Packet)
    → Fits (Sending terms number) (sender_action client size terms number decoded)
sender_fits client size terms number decoded = search rules

next_fits : (p : Phase) (mode : Mode) (held : List ℕ) (terms : Terms) (number : ℕ) (piece : List ℕ)
    → Fits p (Store terms number) → Fits p (next_action mode held terms number piece)
next_fits p mode held terms number piece stores =
    let P = Fits p in
    let readable = is_readable mode held piece (nat_lt (length piece) terms.size) in
    let bad = Respond (Refuse (Some terms) NotNetascii outcomes.NotNetascii) in
    let large = Respond (Refuse (Some terms) FileTooLarge outcomes.TooLarge) in
    let store = if readable then Store terms number else bad in
    let beyond = number == 65535 && (length piece == terms.size) in
    if_either P (nat_lt terms.size (length piece)) (illegal_action terms) (if beyond then large else store) tt
    (if_either P beyond large store tt (if_either P readable (Store terms number) bad stores tt))

data_fits : (p : Phase) (mode : Mode) (held : List ℕ) (terms : Terms) (stored number : ℕ) (piece : List ℕ)
    → (number ≡ stored + 1 → Fits p (Store terms number)) → Fits p (data_action mode held terms stored number piece)
data_fits p mode held terms stored number piece stores =
    search (rules, illegal_action, nat_lt, if_either, where_true, next_fits, eqb-true)

stores_next : (terms : Terms) (stored number : ℕ) → number ≡ stored + 1
    → Fits (Receiving terms stored) (Store terms number)
stores_next terms stored number is = search rules

receiver_fits : (client : Bool) (mode : Mode) (held : List ℕ) (terms : Terms) (stored : ℕ) (decoded : Option Packet)
    → Fits (Receiving terms stored) (receiver_action client mode held terms stored decoded)
receiver_fits client mode held terms stored (Some (Data number piece)) =
    data_fits (Receiving terms stored) mode held terms stored number piece (stores_next terms stored number)
receiver_fits client mode held terms stored (Some (Oack options)) = search rules
receiver_fits client mode held terms stored decoded = tt

module _ (asked : Asked) (limit : ℕ) where
  abbrev At : Action → Type 0
  At action = Fits (Waiting asked limit) action

  refusal_fits : (refusal : Refusal) → At (refusal_action refusal)
  refusal_fits refusal = search rules

  accept_fits : (from : Endpoint) (answer : Result (List Known) Refusal) → At (accept_action from answer)
  accept_fits from (Ok agreed) = refl
  accept_fits from (Err refusal) = refusal_fits refusal

  reader_fits : (mode : Mode) (from : Endpoint) (decoded : Option Packet)
      → At (reader_action mode asked limit from decoded)
  reader_fits mode from (Some (Data number piece)) =
      let first = receiver_action true mode [] (default_terms from) 0 (Some (Data number piece)) in
      if_either At (number == 1 && nat_le (length piece) DEFAULT_BLOCK) first no_answer
      (data_fits (Waiting asked limit) mode [] (default_terms from) 0 number piece (λ is. (refl, refl))) tt
  reader_fits mode from (Some (Oack options)) = accept_fits from (agreement asked kinds.Read mode options limit)
  reader_fits mode from decoded = tt

  writer_fits : (mode : Mode) (size : ℕ) (from : Endpoint) (decoded : Option Packet)
      → At (writer_action mode asked limit size from decoded)
  writer_fits mode size from decoded = search rules

dally_fits : (p : Phase) (stored : ℕ) (decoded : Option Packet) → Fits p (Respond (dally_response stored decoded))
dally_fits p stored decoded = search rules

packet_fits : (e : EndState) (from : Endpoint) (decoded : Option Packet) (phase : Phase)
    → Fits phase (packet_action e from decoded phase)
packet_fits e from decoded (Waiting asked limit) =
    search (rules, writer_action, reader_action, if_either, is_sender, writer_fits, reader_fits)
packet_fits e from decoded (Sending terms number) =
    sender_fits (is_client e.role.side) e.role.length terms number decoded
packet_fits e from decoded (Receiving terms number) =
    receiver_fits (is_client e.role.side) e.role.mode e.position.held_back terms number decoded
packet_fits e from decoded (Dallying terms number dally) = dally_fits (Dallying terms number dally) number decoded
packet_fits e from decoded (Closed terms number complete outcome) = tt

garbled_fits : (phase : Phase) → Fits phase (Respond (garbled_response phase))
garbled_fits phase = search rules

datagram_fits : (e : EndState) (from : Endpoint) (bytes : List ℕ) (decoded : Option Packet)
    → Fits e.position.phase (datagram_action e from bytes decoded)
datagram_fits e from bytes decoded =
    by_tests (Fits e.position.phase) e from bytes decoded tt tt (garbled_fits e.position.phase)
    (packet_fits e from decoded e.position.phase)

-- ---- the end after a datagram without progress
record SameIn (e : EndState) (position : Position) : Type 0 where
  phase : position.phase ≡ e.position.phase
  fewer : position.retries_left ≤ e.position.retries_left

abbrev Kept : EndState → Position → Type 0
Kept e position = IsSome (outcome_of position.phase) ⊎ SameIn e position

-- what it is, if it was no progress
abbrev KeptBy : EndState → Turn → Type 0
KeptBy e turn = is_progress e.position.phase turn.position.phase ≡ false → Kept e turn.position

stays : (e : EndState) → Kept e e.position
stays e = inr (record { phase = refl; fewer = omega arith })

module _ {S K : Type 0} (sources : SourceMeaning S) (sinks : SinkMeaning K) where
  stores : (terms : Terms) (number : ℕ) (from : Endpoint) (piece : List ℕ) (e : EndState) (files : Files S K)
      (turn : Turn) (files' : Files S K) → Fits e.position.phase (Store terms number)
      → StoresIn sources sinks terms number from piece e files turn files' → KeptBy e turn
  stores terms number from piece e files turn files' fits h = search rules

  acts : (action : Action) (from : Endpoint) (bytes : List ℕ) (e : EndState) (files : Files S K) (turn : Turn)
      (files' : Files S K) → Fits e.position.phase action
      → Acts sources sinks action from bytes e files turn files' → KeptBy e turn
  acts action from bytes e files turn files' fits h = search rules

  -- what a client does at a datagram that is no progress
  handled : {port : ℕ} {from : Endpoint} {bytes : List ℕ} {s : State} {files : Files S K} {next : State}
      {files' : Files S K} (h : HandlesReceived sources sinks port from bytes s files next files')
      → progress_of sources sinks h ≡ false → Kept s.end next.end.position
  handled {from = from} {bytes = bytes} {s = s} {files = files} (Answers {turn} {files'} is_open step) still =
      acts (datagram_action s.end from bytes step.decoded) from bytes s.end files turn files'
      (datagram_fits s.end from bytes step.decoded) step.acts still
  handled {s = s} (Loses lost keeps) still = stays s.end

  same_deadline : {port : ℕ} {from : Endpoint} {bytes : List ℕ} {s : State} {files : Files S K} {next : State}
      {files' : Files S K} → HandlesReceived sources sinks port from bytes s files next files'
      → next.deadline ≡ s.deadline
  same_deadline (Answers is_open step) = refl
  same_deadline (Loses lost keeps) = refl

  same_backoff : {port : ℕ} {from : Endpoint} {bytes : List ℕ} {s : State} {files : Files S K} {next : State}
      {files' : Files S K} → HandlesReceived sources sinks port from bytes s files next files'
      → next.backoff ≡ s.backoff
  same_backoff (Answers is_open step) = refl
  same_backoff (Loses lost keeps) = refl

-- ---- the end after a timeout
-- how many timeouts in sequence close an end
abbrev timeouts_in : ℕ → Phase → ℕ
timeouts_in left (Waiting asked limit) = left + 1
timeouts_in left (Sending terms number) = left + 1
timeouts_in left (Receiving terms number) = left + 1
timeouts_in left (Dallying terms number Fresh) = 2
timeouts_in left (Dallying terms number Waited) = 1
timeouts_in left (Closed terms number complete outcome) = 0

abbrev timeouts_left : EndState → ℕ
timeouts_left e = timeouts_in e.position.retries_left e.position.phase

most_left : (p : Phase) (left : ℕ) → timeouts_in left p ≤ max 1 left + 1
most_left p left = search rules

fewer_left : (p : Phase) (left left' : ℕ) → left' ≤ left → timeouts_in left' p ≤ timeouts_in left p
fewer_left p left left' h = search rules

some_left : (p : Phase) (left left' : ℕ) → 1 ≤ timeouts_in left p → 1 ≤ timeouts_in left' p
some_left p left left' h = search rules

record Less (e : EndState) (position : Position) : Type 0 where
  terms : terms_of position.phase ≡ terms_of e.position.phase
  some : 1 ≤ timeouts_in position.retries_left position.phase
  fewer : timeouts_in position.retries_left position.phase + 1 ≤ timeouts_left e

abbrev Spent : EndState → Type 0
Spent e =
    let position = (after_turn e (timeout_turn e)).position in
    IsSome (outcome_of position.phase) ⊎ Less e position

-- an end in a phase
abbrev in_phase_alone : Phase → EndState → EndState
in_phase_alone p e = record e { position = record e.position { phase = p } }

timeout_at : (p : Phase) (e : EndState) → IsOpen (in_phase_alone p e) → Spent (in_phase_alone p e)
timeout_at p e is_open = search rules

-- ---- a run without progress
-- the end is open: each timeout so far took no longer than it may
record Unclosed (backoff : Backoff) (terms : Option Terms) (base from longest most : ℕ) (s : State) : Type 0 where
  grows : s.backoff ≡ backoff
  same : terms_of s.end.position.phase ≡ terms
  some : 1 ≤ timeouts_left s.end
  spent : ℕ
  few : timeouts_left s.end + spent ≤ most + 1
  due : s.deadline ≤ base + longest * spent
  since : from ≤ s.now
  soon : s.now ≤ max s.deadline from + 2000

-- a client that may wait is not due
not_due : (s : State) → MayWait s → s.now < last_moment → s.now ≤ s.deadline
not_due s may early = search rules

module _ (backoff : Backoff) (terms : Option Terms) (base from most : ℕ) (first : from ≤ base) where
  -- the longest wait of its end
  abbrev wait : ℕ
  wait = wait_of backoff (interval_of terms) 3

  abbrev longest : ℕ
  longest = wait * 1000 + 2000

  abbrev Lives : State → Type 0
  Lives s = IsSome (outcome_of s.end.position.phase) ⊎ Unclosed backoff terms base from longest most s

  -- a wait of an end with these terms is no longer
  waits_no_longer : (s : State) (e : EndState) → s.backoff ≡ backoff → terms_of e.position.phase ≡ terms
      → seconds_of s.backoff e ≤ wait
  waits_no_longer s e grows same = search (rules, wait_of, wait_most)

  -- after a timeout another wait begins
  times_out : (port : ℕ) (s : State) → Unclosed backoff terms base from longest most s → s.deadline ≤ s.now → IsOpen s.end
      → s.now < last_moment → Lives (elapsed port s)
  times_out port s h due is_open early = elim (timeout_at s.end.position.phase s.end is_open) [
    | inl closed ↦ inl closed
    | inr less ↦
        let next = elapsed port s in
        let at : next.deadline ≡ min (s.now + seconds_of s.backoff next.end * 1000) last_moment = refl in
        let no_longer = waits_no_longer s next.end h.grows (less.terms ∙ h.same) in
        let more : longest * (h.spent + 1) ≡ longest * h.spent + longest * 1 = mul-add longest h.spent 1 in
        let one : longest * 1 ≡ longest = omega arith in
        let fewer = less.fewer in
        let few = h.few in
        let was = h.due in
        let soon = h.soon in
        let since = h.since in
        inr
        (record {
          grows = h.grows;
          same = less.terms ∙ h.same;
          some = less.some;
          spent = h.spent + 1;
          few = omega (arith, fewer, few);
          due = omega (arith, at, no_longer, more, one, was, soon, first);
          since = since;
          soon = omega (arith, at, early);
        })
  ]

  elapses : (port : ℕ) {s next : State} → MayElapse port s next → s.now < last_moment → Lives s → Lives next
  elapses port (Stays why) early h = h
  elapses port {s} (Elapses due is_open) early (inl closed) = absurd (is_open closed)
  elapses port {s} (Elapses due is_open) early (inr h) = times_out port s h due is_open early

  after_wait : (s : State) (event : QuietEvent) (watch : Watch) → MayWait s → IsReadBy s watch → s.now < last_moment
      → Unclosed backoff terms base from longest most s
      → Unclosed backoff terms base from longest most (waited event watch s)
  after_wait s event watch may later early h = search rules

  module _ {S K : Type 0} {sources : SourceMeaning S} {sinks : SinkMeaning K} where
    after_datagram : {port : ℕ} {endpoint : Endpoint} {bytes : List ℕ} {s after : State} {files files' : Files S K}
        {watch : Watch} → MayWait s → IsReadBy s watch
        → (answers : AnswersReceived sources sinks port endpoint bytes (received port endpoint bytes watch s) files after
        files')
        → progress_of sources sinks answers.handles ≡ false → s.now < last_moment
        → Unclosed backoff terms base from longest most s → Lives after
    after_datagram {s = s} {after = after} {watch = watch} may later answers still early h =
        search (
          rules,
          handled,
          outcome_of,
          same_deadline,
          same_handles,
          not_due,
          reads_soon,
          fewer_left,
          some_left,
          same_backoff,
          terms_of,
        )

    lives : {port : ℕ} {start : State} {file : Files S K} {s : State} {files : Files S K}
        (run : Converses sources sinks port start file s files)
        → IsIdle run → Lives start → s.now < last_moment → Lives s
    lives Begins idle h early = h
    lives (Receives {s} {after} {watch = watch} run may later answers) idle h early =
        let now : after.now ≡ answers.again.now = ap (λ (t : State). t.now) answers.is in
        let next_now : answers.next.now ≡ watch.now = (same_handles answers.handles).now in
        let forward = later.forward in
        let onward = answers.later.forward in
        let before : s.now < last_moment = omega (arith, now, next_now, forward, onward, early) in
        elim (lives run idle.0 h before) [
          | inl closed ↦ absurd (may.not_closed closed)
          | inr unclosed ↦ after_datagram may later answers idle.1 before unclosed
        ]
    lives (Waits {s} {event = event} {watch = watch} run may nothing later) idle h early =
        let forward = later.forward in
        let before : s.now < last_moment = omega (arith, forward, early) in
        elim (lives run idle h before) [
          | inl closed ↦ absurd (may.not_closed closed)
          | inr unclosed ↦ inr (after_wait s event watch may later before unclosed)
        ]
    lives {port} (Times {s} {next} run timed) idle h early =
        let now = (same_elapses timed).now in
        let before : s.now < last_moment = omega (arith, now, early) in
        elapses port timed before (lives run idle h before)
    lives (Rests run works) idle h early = lives run idle h early

  -- the last timeout is over
  too_late : (s : State) → Unclosed backoff terms base from longest most s → s.now ≤ base + longest * most + 2000
  too_late s h = search rules

-- a state from which a client makes no progress
begins : (start : State) (most : ℕ) → timeouts_left start.end ≤ most + 1
    → IsSome (outcome_of start.end.position.phase)
    ⊎ Unclosed start.backoff (terms_of start.end.position.phase) (max start.deadline start.now) start.now
    (longest_timeout start.backoff start.end) most start
begins start most few = search rules

module _ {S K : Type 0} (sources : SourceMeaning S) (sinks : SinkMeaning K) where
  closes : (port most : ℕ) (start : State) (file : Files S K) (s : State) (files : Files S K)
      (run : Converses sources sinks port start file s files) → timeouts_left start.end ≤ most + 1
      → IsIdle run → IsSteady run → s.now < last_moment
      → start.reading + ((start.deadline - start.now) + 2000 + longest_timeout start.backoff start.end * most) < s.reading
      → IsSome (outcome_of s.end.position.phase)
  closes port most start file s files run few idle steady early late =
      let base = max start.deadline start.now in
      let terms = terms_of start.end.position.phase in
      let below : start.now ≤ base = omega arith in
      elim (lives start.backoff terms base start.now most below run idle (begins start most few) early) [
        | inl closed ↦ closed
        | inr h ↦
            let passed = passes_with_the_clock sources sinks port start file s files run steady early in
            let last = too_late start.backoff terms base start.now most below s h in
            absurd (omega (arith, passed, last, late))
      ]

  pub closes_without_progress : ClosesWithoutProgress sources sinks
  closes_without_progress port start file s files run idle steady early late =
      closes port (max 1 start.end.position.retries_left) start file s files run
      (most_left start.end.position.phase start.end.position.retries_left) idle steady early late

  begun_left : (port reading : ℕ) (kind : Kind) (job : Job) (size : ℕ) (before : List SocketEvent)
      → timeouts_left (begun job.backoff port reading (opens kind job size) before).end ≤ job.retries + 1
  begun_left port reading kind job size before = search rules

  -- the longest timeout of an end whose request was just sent, and when it is due
  abbrev longest_of : Job → ℕ
  longest_of job = wait_of job.backoff 1 3 * 1000 + 2000

  begun_longest : (port reading : ℕ) (kind : Kind) (job : Job) (size : ℕ) (before : List SocketEvent)
      → longest_timeout job.backoff (begun job.backoff port reading (opens kind job size) before).end ≡ longest_of job
  begun_longest port reading kind job size before = search rules

  begun_due : (port reading : ℕ) (kind : Kind) (job : Job) (size : ℕ) (before : List SocketEvent)
      → (begun job.backoff port reading (opens kind job size) before).deadline ≤ wait_of job.backoff 1 3 * 1000
  begun_due port reading kind job size before = search rules

  pub closes_by_the_clock : ClosesByTheClock sources sinks
  closes_by_the_clock port reading kind job size before file s files run idle steady early late =
      let start = begun job.backoff port reading (opens kind job size) before in
      let longest = ap (λ (n : ℕ). n * job.retries) (begun_longest port reading kind job size before) in
      let due = begun_due port reading kind job size before in
      let all = mul-add (longest_of job) job.retries 1 in
      let one : longest_of job * 1 ≡ longest_of job = omega arith in
      closes port job.retries start file s files run (begun_left port reading kind job size before) idle steady early
      (omega (arith, longest, due, all, one, late))
