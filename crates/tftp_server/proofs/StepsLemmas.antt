-- How a transfer handles a datagram with its file, and why an event was not handled. For eight functions and
-- ShortageLemmas.
use Rattle.std.proofs.Common.{◌≡◌, ◌↔◌, ℕ, Bool, true, false, List, Option, Some, Result, Ok, Err, refl, sym, ap}
use Rattle.std.proofs.Common.{rules, IfOk, IfErr, OnErr}
use Rattle.std.specs.Prelude.{IsErrOf, not}
use Rattle.std.proofs.lemmas.Map.Steps.{set_value_same}
use Rattle.std.specs.BTreeMap.{is_at}
use Rattle.std.specs.Ordering.{nat_cmp}
use Rattle.tftp_file.specs.Source.{SourceMeaning}
use Rattle.tftp_file.specs.Sink.{sink_through}
use Rattle.tftp_file.specs.declared.files.Files.TheVariants.{Source, Sink}
use Rattle.tftp_ends.specs.declared.endpoint.Endpoint.{Endpoint}
use Rattle.tftp_ends.specs.declared.fault.EndFault.{EndFault}
use Rattle.tftp_ends.specs.declared.fault.EndFault.TheVariants as ends
use Rattle.tftp_ends.specs.declared.record.Step.{Step}
use Rattle.tftp_ends.specs.declared.action.Action.{Action}
use Rattle.tftp_ends.specs.Action.{Decodes, datagram_action, timeout_action}
use Rattle.tftp_ends.specs.End.{EndState}
use Rattle.tftp_ends.specs.OneFile.{SenderStep, ReceiverStep, sender_step, receiver_step}
use Rattle.tftp_ends.specs.OtherSinks.{sink_step_as}
use Rattle.tftp_ends.specs.Step.{Turn, reported, timeout_turn, IsAnswered}
use Rattle.tftp_wire.specs.declared.packet.Packet.{Packet}
use Rattle.tftp_server.specs.declared.draft_sink.DraftSink.{DraftSink}
use Rattle.tftp_server.specs.declared.fault.ServerFault.TheVariants as faults
use Rattle.tftp_server.specs.declared.config.Config.{Config}
use Rattle.tftp_server.specs.Draft.{Drafting, drafting_sink}
use Rattle.tftp_server.specs.Fault.{by_end}
use Rattle.tftp_server.specs.State.{TransferState, ServerState, is_closed, is_open, at, with_next}
use Rattle.tftp_server.specs.Steps.{Gives, StepIn, TakesBy, TimesOutBy, TimeoutFault, DatagramFaultBy}
use Rattle.tftp_server.specs.Steps.{TakesDatagramBy, with_end}
use Rattle.tftp_store.specs.Store.{StoreMeaning}

-- a draft sink by its values
abbrev pub drafting_of : {S F D : Type 0} → DraftSink S F D → Drafting S D
drafting_of k = record { store = k.store.now; draft = k.draft.now; path = k.path.now; replace = k.replace }

-- after a call it is the sink of the new store and the new draft
pub drafting_now : {S F D N E : Type 0} (k : DraftSink S F D) {was now : N} {store : S} {path : List ℕ}
    {replace : Bool} → (was ≡ now → store ≡ k.store.now) →
    (now ≡ was) × E × (k.path.now ≡ path) × (k.replace ≡ replace) →
    drafting_of k ≡ record { store = store; draft = k.draft.now; path = path; replace = replace }
drafting_now {S = S} k {store = store} stored same = let s : store ≡ k.store.now = stored (sym same.0) in cc

-- a step over a sink that stands for a store and its draft is one over these
drafted_step : {S F D K : Type 0} (meaning : StoreMeaning S D) (sources : SourceMeaning F)
    (as_drafting : K → Drafting S D) (from : Endpoint) (bytes : List ℕ) (e : EndState) (k : K) (turn : Turn) (k' : K) →
    ReceiverStep (sink_through (drafting_sink meaning) as_drafting) from bytes e k turn k' →
    StepIn meaning sources from bytes e (Sink (as_drafting k)) turn (Sink (as_drafting k'))
drafted_step meaning sources as_drafting from bytes e k turn k' h =
    sink_step_as sources (sink_through (drafting_sink meaning) as_drafting)
    sources (drafting_sink meaning)
    as_drafting (λ k. Unit {0}) (record {
      models = λ k. refl;
      keeps = λ k l p b. tt;
      appends = λ k piece fault p f. f;
      commits = λ k fault p f. f;
      leaves = λ k l committed p b. b;
      after_append = λ k l piece fault p a. a;
      after_commit = λ k l fault p a. a;
    }) from bytes e k turn k' tt
    (receiver_step sources (sink_through (drafting_sink meaning) as_drafting) from bytes e k turn k' h)

module _ {S F D : Type 0} (meaning : StoreMeaning S D) (sources : SourceMeaning F) {gives : Gives} {replace : Bool}
    {from : Endpoint} {bytes : List ℕ} {store : S} {e e' : EndState} {path request : List ℕ} {step : Step} where
  -- the step of a transfer over a source
  pub source_taken : {s s' : F} →
      (turn : Turn) × SenderStep sources from bytes e s turn s' × gives e turn e' step.to × (step ≡ reported e turn) →
      TakesBy meaning sources gives replace from bytes store store
      (record { end = e; files = Source s; path = path; request = request })
      (record { end = e'; files = Source s'; path = path; request = request }) step
  source_taken {s = s} {s' = s'} h = search (sender_step sources (drafting_sink meaning) from bytes e s h.0 s' h.1)

  -- and over a draft of the store
  pub draft_taken : (k k' : DraftSink S F D) {store' : S} {draft draft' : D} →
      drafting_of k ≡ record { store = store; draft = draft; path = path; replace = replace } →
      drafting_of k' ≡ record { store = store'; draft = draft'; path = path; replace = replace } →
      (turn : Turn) × ReceiverStep (sink_through (drafting_sink meaning) drafting_of) from bytes e k turn k'
      × gives e turn e' step.to × (step ≡ reported e turn) →
      TakesBy meaning sources gives replace from bytes store store'
      (record { end = e; files = Sink draft; path = path; request = request })
      (record { end = e'; files = Sink draft'; path = path; request = request }) step
  draft_taken k k' was now h =
      record {
        turn = h.0;
        steps = rw (← was, ← now) (drafted_step meaning sources drafting_of from bytes e k h.0 k' h.1);
        carries = h.2;
        reports = h.3;
        stays = tt;
        kind = tt;
        path = refl;
        request = refl;
      }

-- ---- why an event was not handled
-- an equal transfer handles a datagram by the same action
pub handled_alike : {F D : Type 0} (kind : Action → Type 0) (from : Endpoint) (bytes : List ℕ)
    {held same : TransferState F D} → held ≡ same →
    (decoded : Option Packet) × Decodes bytes decoded × kind (datagram_action held.end from bytes decoded) →
    (decoded : Option Packet) × Decodes bytes decoded × kind (datagram_action same.end from bytes decoded)
handled_alike {F = F} {D = D} kind from bytes is h = search rules

-- ---- what a server returns for what an end returned
module _ {R : Type 0} where
  -- what follows from the fault of the end follows from that of the server
  pub when_closed : {P : Type 0} (r : Result R EndFault) → (IsErrOf r ends.Closed → P) →
      IsErrOf (by_end r) faults.NoSuchTid → P
  when_closed (Ok done) then e = absurd (cc)
  when_closed (Err ends.Closed) then e = then refl
  when_closed (Err ends.Memory) then e = absurd (cc)

  pub when_memory : {P : Type 0} (r : Result R EndFault) → (IsErrOf r ends.Memory → P) →
      IsErrOf (by_end r) faults.Memory → P
  when_memory (Ok done) then e = absurd (cc)
  when_memory (Err ends.Closed) then e = absurd (cc)
  when_memory (Err ends.Memory) then e = then refl

  -- and what follows from any fault
  pub when_fault : {P Q : Type 0} (r : Result R EndFault) → (P → Q) → OnErr r P → OnErr (by_end r) Q
  when_fault (Ok done) then h = tt
  when_fault (Err fault) then h = then h

  -- a fault that is never for lack of memory
  pub never_memory : (r : Result R EndFault) → (IsErrOf r ends.Memory → ⊥) →
      IfErr (by_end r) (λ fault. fault ≡ faults.NoSuchTid)
  never_memory (Ok done) memory = tt
  never_memory (Err ends.Closed) memory = refl
  never_memory (Err ends.Memory) memory = absurd (memory refl)

  -- the server has no such transfer exactly if the end is closed
  pub no_such_tid : {P : Type 0} (r : Result R EndFault) → (IsErrOf r ends.Closed ↔ P) →
      (IsErrOf (by_end r) faults.NoSuchTid ↔ P)
  no_such_tid (Ok done) closed = (
    λ e. absurd (cc),
    λ p. let e : ◌≡◌ {A = Result R EndFault} (Ok done) (Err ends.Closed) = closed.1 p in absurd (cc),
  )
  no_such_tid (Err ends.Closed) closed = (λ e. closed.0 refl, λ p. refl)
  no_such_tid (Err ends.Memory) closed = (
    λ e. absurd (cc),
    λ p. let e : ◌≡◌ {A = Result R EndFault} (Err ends.Memory) (Err ends.Closed) = closed.1 p in absurd (cc),
  )

-- a Bool is one of the two
not_false : (b : Bool) → not b ≡ false → b ≡ true
not_false true h = refl
not_false false h = absurd (cc)

not_true : (b : Bool) → (b ≡ true → ⊥) → b ≡ false
not_true true h = absurd (h refl)
not_true false h = refl

module _ {F D R : Type 0} (held : TransferState F D) where
  -- a transfer that handled an event is open, and so is one that was out of memory
  pub handled_open : (answer : R) → (IsErrOf {T = R} (Ok answer) ends.Closed ↔ (is_closed held ≡ true)) →
      is_closed held ≡ false
  handled_open answer closed =
      not_true (is_closed held) (λ is. let e : ◌≡◌ {A = Result R EndFault} (Ok answer) (Err ends.Closed) = closed.1 is in cc)

  short_open : (IsErrOf {T = R} (Err ends.Memory) ends.Closed ↔ (is_closed held ≡ true)) → is_closed held ≡ false
  short_open closed =
      not_true (is_closed held) (λ is. let e : ◌≡◌ {A = Result R EndFault} (Err ends.Memory) (Err ends.Closed) = closed.1 is in cc)

  pub not_open : (r : Result R EndFault) → (IsErrOf r ends.Closed ↔ (is_closed held ≡ true)) →
      (IsErrOf (by_end r) faults.NoSuchTid ↔ (is_open (Some held) ≡ false))
  not_open r closed = no_such_tid r (λ e. ap not (closed.0 e), λ h. closed.1 (not_false (is_closed held) h))

  -- why a timeout was not handled
  pub timeout_fault : (r : Result R EndFault) → (IsErrOf r ends.Closed ↔ (is_closed held ≡ true)) →
      (IsErrOf r ends.Memory →
      IsAnswered (timeout_action held.end.position.retries_left held.end.position.phase)) →
      IfErr (by_end r) (TimeoutFault (Some held))
  timeout_fault (Ok done) closed memory = tt
  timeout_fault (Err ends.Closed) closed memory = ap not (closed.0 refl)
  timeout_fault (Err ends.Memory) closed memory = (short_open closed, memory refl)

  -- why a datagram was not handled
  pub datagram_fault : (kind : Action → Type 0) (from : Endpoint) (bytes : List ℕ) (r : Result R EndFault) →
      (IsErrOf r ends.Closed ↔ (is_closed held ≡ true)) →
      (IsErrOf r ends.Memory → (decoded : Option Packet) × Decodes bytes decoded
      × kind (datagram_action held.end from bytes decoded)) →
      IfErr (by_end r) (DatagramFaultBy kind from bytes (Some held))
  datagram_fault kind from bytes (Ok done) closed memory = tt
  datagram_fault kind from bytes (Err ends.Closed) closed memory = ap not (closed.0 refl)
  datagram_fault kind from bytes (Err ends.Memory) closed memory =
      let short = memory refl in
      (short_open closed, short.0, short.1, short.2)

-- ---- what is written back to the transfers
module _ {F D R : Type 0} (tid : ℕ) (held : List (ℕ × TransferState F D)) (transfer next : TransferState F D)
    (found : Some transfer ≡ at tid held) where
  -- a timeout of the transfer is one of the table
  pub times_out : (gives : R → Gives) (step : R → Step) (r : Result R EndFault) →
      (IsErrOf r ends.Closed ↔ (is_closed transfer ≡ true)) →
      IfOk r (λ a. gives a transfer.end (timeout_turn transfer.end) next.end (step a).to
      × (step a ≡ reported transfer.end (timeout_turn transfer.end)) × (next ≡ with_end next.end transfer)) →
      IfOk (by_end r) (λ a. TimesOutBy (gives a) tid held (with_next tid next held) (step a))
  times_out gives step (Ok a) closed h =
      let still = handled_open transfer a closed in
      search (sym found, ap (λ (t : TransferState F D). with_next tid t held) h.2)
  times_out gives step (Err fault) closed h = tt

module _ {F D : Type 0} (tid : ℕ) {held : List (ℕ × TransferState F D)} {transfer next : TransferState F D}
    (found : Some transfer ≡ at tid held) where
  -- writing an unchanged transfer back changes nothing of the server
  pub nothing_changed : {S : Type 0} {config : Config} {store store' : S} →
      (next ≡ transfer) × (store' ≡ store) →
      ◌≡◌ {A = ServerState S F D} (record { config = config; store = store'; held = with_next tid next held })
      (record { config = config; store = store; held = held })
  nothing_changed same =
      rw (same.0, same.1, set_value_same (is_at (nat_cmp tid)) held transfer (sym found)) refl

-- a datagram of the transfer is one of the server
module _ {S F D R : Type 0} (meaning : StoreMeaning S D) (sources : SourceMeaning F) (tid : ℕ) (from : Endpoint)
    (bytes : List ℕ) (old : ServerState S F D) (store : S) (transfer next : TransferState F D)
    (found : Some transfer ≡ at tid old.held) where
  pub takes_datagram : (gives : R → Gives) (step : R → Step) (r : Result R EndFault) →
      (IsErrOf r ends.Closed ↔ (is_closed transfer ≡ true)) →
      IfOk r (λ a. TakesBy meaning sources (gives a) old.config.overwrite from bytes old.store store transfer next
      (step a)) →
      IfOk (by_end r) (λ a. TakesDatagramBy meaning sources (gives a) tid from bytes old
      (record old { store = store; held = with_next tid next old.held }) (step a))
  takes_datagram gives step (Ok a) closed h =
      record {
        transfer = transfer;
        next = next;
        found = sym found;
        still = handled_open transfer a closed;
        takes = h;
        held = refl;
      }
  takes_datagram gives step (Err fault) closed h = tt
