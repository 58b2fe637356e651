-- What a received file holds is what moved in the run, unless the end has failed.
use Rattle.std.proofs.Common.{rules}
use Rattle.tftp_client.proofs.Common.{◌≡◌, ℕ, Bool, true, false, List, [], ◌++◌, length, Option, Some, Result, Ok, Err}
use Rattle.tftp_client.proofs.Common.{inl, inr, refl, sym, subst, nat_lt, Mode, Kind, Holding, SinkMeaning}
use Rattle.tftp_client.proofs.Common.{AppendsFreely, UnlessArmed, SourceMeaning, StoreFault, Files, Source, Sink}
use Rattle.tftp_client.proofs.Common.{Action, Respond, Send, Store, Endpoint, Phase, Waiting, Sending, Receiving}
use Rattle.tftp_client.proofs.Common.{Dallying, Closed, Terms, datagram_action, EndState, is_complete, outcome_of}
use Rattle.tftp_client.proofs.Common.{KeepsFiles, Acts, Appended, DatagramStep, Done, GoesOn, Turn, after_turn}
use Rattle.tftp_client.proofs.Common.{SocketEvent, Job, Converses, HandlesReceived, MayElapse, State, WorksOnFile}
use Rattle.tftp_client.proofs.Common.{Begins, Receives, Waits, Times, Rests, Answers, Loses, Moved, acts_move}
use Rattle.tftp_client.proofs.Common.{handling_moves, nothing_moved, run_moves, IsCountOf, IsNew, RunsAs, Transfers}
use Rattle.std.specs.Prelude.{not, IsSome}
use Rattle.tftp_file.specs.Sink.{with_piece}
use Rattle.tftp_client.specs.Moved.{step_moves}
use Rattle.tftp_client.specs.Runs.{IsWhole, moved_by}
use Rattle.tftp_client.specs.Taken.{nothing}
use Rattle.tftp_client.proofs.Committing.{Kept, StoresNone, datagram_stores_none, is_committed}

-- it closed before it was complete
abbrev pub failed : Phase → Bool
failed (Waiting asked limit) = false
failed (Sending terms number) = false
failed (Receiving terms number) = false
failed (Dallying terms number dally) = false
failed (Closed terms number complete outcome) = not complete

pub open_goes_on : (phase : Phase) → (IsSome (outcome_of phase) → ⊥) → failed phase ≡ false
open_goes_on phase is_open = search rules

pub complete_goes_on : (phase : Phase) → is_complete phase ≡ true → failed phase ≡ false
complete_goes_on phase done = search rules

pub undone : (b : Bool) → (b ≡ true → ⊥) → b ≡ false
undone true never = absurd (never refl)
undone false never = refl

-- an append that succeeded
appended : (armed : Bool) (before : Holding) (after : Option Holding) (piece : List ℕ) (done : Done)
    → UnlessArmed armed before after (Ok done) (AppendsFreely before after piece (Ok done))
    → after ≡ Some (with_piece before piece)
appended armed before after piece done h = search rules

module _ {S K : Type 0} (sources : SourceMeaning S) (sinks : SinkMeaning K) where
  abbrev pub Holds : K → List ℕ → Type 0
  Holds sink bytes = (holding : Holding) × (sinks.held sink ≡ Some holding) × (holding.bytes ≡ bytes)

  -- a received file
  abbrev pub AllHeld : Files S K → List ℕ → Type 0
  AllHeld (Source source) bytes = Unit {0}
  AllHeld (Sink sink) bytes = Holds sink bytes

  abbrev Unless_failed : EndState → Files S K → Moved → Type 0
  Unless_failed e files moved = failed e.position.phase ≡ false → AllHeld files moved.bytes

  pub appends : (bytes : List ℕ) (sink mid : K) (done : Done) (old : List ℕ) → Appended sinks bytes sink mid (Ok done)
      → Holds sink old → Holds mid (old ++ bytes)
  appends bytes sink mid done old a h = search rules

  -- the end went on after it
  pub goes : (terms : Terms) (number : ℕ) (from : Endpoint) (e : EndState) (last : Bool) (after : List ℕ) (mid : K)
      (done : Done) (turn : Turn) (sink' : K) (bytes : List ℕ)
      → GoesOn sinks terms number from e last after mid (Ok done) turn sink' → Holds mid bytes → Holds sink' bytes
  goes terms number from e last after mid done turn sink' bytes g h = search rules

  -- it failed, if the append was refused
  stored : (terms : Terms) (number : ℕ) (from : Endpoint) (e : EndState) (last : Bool) (after : List ℕ) (sink mid : K)
      (answer : Result Done StoreFault) (turn : Turn) (sink' : K) (old bytes : List ℕ)
      → is_complete e.position.phase ≡ false → failed turn.position.phase ≡ false
      → Appended sinks bytes sink mid answer → GoesOn sinks terms number from e last after mid answer turn sink'
      → Holds sink old → Holds sink' (old ++ bytes)
  stored terms number from e last after sink mid (Ok done) turn sink' old bytes before still a g h =
      goes _ _ _ e _ _ _ _ _ _ _ g (appends _ _ _ _ _ a h)
  stored terms number from e true after sink mid (Err fault) turn sink' old bytes before still a g h = search rules
  stored terms number from e false after sink mid (Err fault) turn sink' old bytes before still a g h = search rules

  acts : (action : Action) (from : Endpoint) (bytes : List ℕ) (e : EndState) (files : Files S K) (turn : Turn)
      (files' : Files S K) (moved : Moved) → (is_complete e.position.phase ≡ true → StoresNone action)
      → AllHeld files moved.bytes → (a : Acts sources sinks action from bytes e files turn files')
      → Unless_failed (after_turn e turn) files' (acts_move sources sinks action from bytes e files turn files' a moved)
  acts action from bytes e files turn (Source source') moved once h a still = tt
  acts (Respond response) from bytes e (Source source) turn (Sink sink') moved once h a still =
      absurd (let e : ◌≡◌ {A = Files S K} (Sink sink') (Source source) = a.1 in cc)
  acts (Respond response) from bytes e (Sink sink) turn (Sink sink') moved once h a still =
      subst (λ (f : Files S K). AllHeld f moved.bytes) (sym a.1) h
  acts (Send terms number) from bytes e (Source source) turn (Sink sink') moved once h a still = absurd a
  acts (Send terms number) from bytes e (Sink sink) turn (Sink sink') moved once h a still = absurd a
  acts (Store terms number) from bytes e (Source source) turn (Sink sink') moved once h a still = absurd a.2
  acts (Store terms number) from bytes e (Sink sink) turn (Sink sink') moved once h a still =
      stored terms number from e (nat_lt (length a.0) terms.size) a.2.after sink a.2.mid a.2.answer turn sink'
      moved.bytes a.2.bytes (undone (is_complete e.position.phase) once) still a.2.appended a.2.rest h

  steps : (from : Endpoint) (bytes : List ℕ) (e : EndState) (files : Files S K) (turn : Turn) (files' : Files S K)
      (moved : Moved) → AllHeld files moved.bytes → (step : DatagramStep sources sinks from bytes e files turn files')
      → Unless_failed (after_turn e turn) files'
      (step_moves sources sinks from bytes e files turn files' step moved)
  steps from bytes e files turn files' moved h step =
      search (rules, acts, datagram_action, datagram_stores_none)

  pub loses : (files files' : Files S K) (bytes : List ℕ) → KeepsFiles sources sinks files files' → AllHeld files bytes
      → AllHeld files' bytes
  loses files files' bytes keeps h = search rules

  pub works : (files files' : Files S K) (bytes : List ℕ) → WorksOnFile sources sinks files files' → AllHeld files bytes
      → AllHeld files' bytes
  works files files' bytes work h = search rules

  handles : {port : ℕ} {from : Endpoint} {bytes : List ℕ} {s : State} {files : Files S K} {next : State}
      {files' : Files S K} (moved : Moved) (h : HandlesReceived sources sinks port from bytes s files next files')
      → Unless_failed s.end files moved → Unless_failed next.end files' (handling_moves h moved)
  handles {from = from} {bytes = bytes} {s = s} {files = files} moved (Answers {turn} {files'} is_open step) h =
      steps from bytes s.end files turn files' moved (h (open_goes_on s.end.position.phase is_open)) step
  handles {s = s} {files = files} moved (Loses {files'} lost keeps) h =
      λ still. loses files files' moved.bytes keeps (h still)

  elapses : {port : ℕ} {s next : State} (files : Files S K) (moved : Moved) → MayElapse port s next
      → Unless_failed s.end files moved → Unless_failed next.end files moved
  elapses files moved h2 h = search rules

  converses : {port : ℕ} {first : State} {file : Files S K} {s : State} {files : Files S K} (moved : Moved)
      (run : Converses sources sinks port first file s files)
      → Unless_failed first.end file moved → Unless_failed s.end files (run_moves run moved)
  converses moved Begins h = h
  converses moved (Receives {files' = files'} run may time answers) h =
      let now = run_moves run moved in
      let Ends : State → Type 0 = λ s. Unless_failed s.end files' (handling_moves answers.handles now) in
      subst Ends (sym answers.is) (handles now answers.handles (converses moved run h))
  converses moved (Waits run may is time) h = converses moved run h
  converses moved (Times {s} {next} {files} run elapsed) h =
      elapses files (run_moves run moved) elapsed (converses moved run h)
  converses moved (Rests {s} {files} {files'} run work) h =
      λ still. works files files' (run_moves run moved).bytes work (converses moved run h still)

  pub begins : (file : Files S K) → IsNew sources sinks file → AllHeld file []
  begins (Source source) new = tt
  begins (Sink sink) new = (nothing, new, refl)

  module _ (known : (sink : K) → (held : Holding) × (sinks.held sink ≡ Some held)) where
    -- the file holds all that moved, and N counts it
    all_counted : (files : Files S K) (mode : Mode) (sent count : ℕ) (bytes : List ℕ) → AllHeld files bytes
        → Kept sources sinks known files → IsCountOf sources sinks files mode sent count → IsWhole sources sinks files count bytes
    all_counted files mode sent count bytes h kept counts = search rules

    pub run_whole : {port : ℕ} {kind : Kind} {job : Job} {before : List SocketEvent} {s : State} {files : Files S K} {count : ℕ}
        (run : RunsAs sources sinks port kind job before s files count) → is_complete s.end.position.phase ≡ true
        → IsWhole sources sinks files count (run_moves run.runs.converses nothing_moved).bytes
    run_whole {job = job} {s = s} {files = files} {count = count} run done =
        all_counted _ _ _ _ _ (converses _ run.runs.converses (λ _. begins _ run.runs.new) (complete_goes_on _ done))
        (is_committed _ _ known run done) run.counts

    -- of a job that is complete
    pub is_whole : {most port : ℕ} {job : Job} {before : List SocketEvent} {s : State} {files : Files S K} {count : ℕ}
        (transfers : Transfers sources sinks most port job before s files count)
        → is_complete s.end.position.phase ≡ true
        → IsWhole sources sinks files count (moved_by sources sinks transfers).bytes
    is_whole (inl run) done = run_whole run done
    is_whole (inr again) done = run_whole again.2 done
