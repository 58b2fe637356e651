-- What a run that is not complete leaves of its file: what moved is in it, but for what a failed append refused.
use Rattle.std.proofs.Common.{rules}
use Rattle.tftp_client.proofs.Common.{◌≡◌, ℕ, Bool, true, false, List, [], ◌++◌, length, Option, Some, Result, Ok, Err}
use Rattle.tftp_client.proofs.Common.{inl, inr, refl, sym, ap, subst, ◌+◌, Kind, Holding, SinkMeaning, AppendsFreely}
use Rattle.tftp_client.proofs.Common.{UnlessArmed, SourceMeaning, StoreFault, Files, Source, Sink, Action, Respond}
use Rattle.tftp_client.proofs.Common.{Send, Store, Endpoint, Outcome, Phase, Terms, datagram_action, EndState}
use Rattle.tftp_client.proofs.Common.{outcome_of, KeepsFiles, Acts, Appended, Done, GoesOn, Turn, DiskEvent}
use Rattle.tftp_client.proofs.Common.{SocketEvent, waits, LocalFile, Job, Converses, HandlesReceived, IsOpen, MayElapse}
use Rattle.tftp_client.proofs.Common.{State, WorksOnFile, Begins, Receives, Waits, Times, Rests, Answers, Loses}
use Rattle.tftp_client.proofs.Common.{KeepsPlace, Moved, acts_move, handling_moves, nothing_moved, run_moves, IsFor}
use Rattle.tftp_client.proofs.Common.{IsFileOf, IsNew, MayOpen, begun, opens, plain, held_of}
use Rattle.std.specs.Prelude.{◌⊎◌, IsSome}
use Rattle.std.specs.declared.io.traits.Read as read
use Rattle.std.specs.declared.io.traits.Write as write
use Rattle.std.specs.declared.io.traits.Seek as seek
use Rattle.std.proofs.lemmas.List.{append_assoc}
use Rattle.tftp_file.specs.Block.{IsPrefixOf}
use Rattle.tftp_file.specs.declared.fault.StoreFault.TheVariants as faults
use Rattle.tftp_ends.specs.declared.outcome.Outcome.TheVariants.{StoreFault as Refuses}
use Rattle.tftp_disk.specs.declared.disk.Looks as looks
use Rattle.tftp_lines.specs.ClientOutcome.{status_of}
use Rattle.tftp_lines.specs.declared.client_outcome.ClientOutcome.{ClientOutcome}
use Rattle.tftp_lines.specs.declared.client_outcome.ClientOutcome.TheVariants as ends
use Rattle.tftp_client.specs.OnDisk.{EndLeaves, IsLeft, IsOut, LeavesBy, LeavesTransfer, StopsOut, WritesOut}
use Rattle.tftp_client.specs.Runs.{FailsEnd, MayFallBack, Refused}
use Rattle.tftp_client.proofs.HeldBytes.{AllHeld, Holds, appends, begins, goes}
use Rattle.tftp_client.proofs.NamedOnDisk.{HasCalls, kept, log_in, paths_in, still_for, tried_in}
use Rattle.tftp_client.proofs.Uncommitted.{NoneCommitted, uncommitted}

-- a refused append: a beginning of the piece is in the file
refused : (armed : Bool) (before : Holding) (after : Option Holding) (piece : List ℕ) (fault : StoreFault)
    → UnlessArmed {A = Done} armed before after (Err fault) (AppendsFreely {A = Done} before after piece (Err fault))
    → (holding : Holding) × (after ≡ Some holding) × (kept : List ℕ) × IsPrefixOf kept piece
    × (holding.bytes ≡ before.bytes ++ kept)
refused armed before after piece fault h = search rules

module _ {S K : Type 0} (sources : SourceMeaning S) (sinks : SinkMeaning K) where
  -- the file took these bytes, but for a rest that it refused as its end closed
  abbrev pub Took : Phase → K → List ℕ → Type 0
  Took phase sink bytes =
      (holding : Holding) × (sinks.held sink ≡ Some holding) × (rest : List ℕ) × (bytes ≡ holding.bytes ++ rest)
      × ((rest ≡ []) ⊎ (outcome_of phase ≡ Some Refuses))

  -- a received file
  abbrev pub TookOf : Phase → Files S K → List ℕ → Type 0
  TookOf phase (Source source) bytes = Unit {0}
  TookOf phase (Sink sink) bytes = Took phase sink bytes

  took_all : (phase : Phase) (files : Files S K) (bytes : List ℕ) → AllHeld sources sinks files bytes
      → TookOf phase files bytes
  took_all phase files bytes h = search rules

  held_all : (phase : Phase) (files : Files S K) (bytes : List ℕ) → (outcome_of phase ≡ Some Refuses → ⊥)
      → TookOf phase files bytes → AllHeld sources sinks files bytes
  held_all phase files bytes other t = search rules

  refuses : (bytes : List ℕ) (sink mid : K) (fault : StoreFault) (old : List ℕ) (phase : Phase)
      → outcome_of phase ≡ Some Refuses → Appended sinks bytes sink mid (Err fault)
      → Holds sources sinks sink old → Took phase mid (old ++ bytes)
  refuses bytes sink mid fault old phase closed a h = search (rules, refused, append_assoc)

  stored : (terms : Terms) (number : ℕ) (from : Endpoint) (e : EndState) (last : Bool) (after : List ℕ) (sink mid : K)
      (answer : Result Done StoreFault) (turn : Turn) (sink' : K) (old bytes : List ℕ)
      → Appended sinks bytes sink mid answer → GoesOn sinks terms number from e last after mid answer turn sink'
      → Holds sources sinks sink old → Took turn.position.phase sink' (old ++ bytes)
  stored terms number from e last after sink mid (Ok done) turn sink' old bytes a g h =
      took_all turn.position.phase (Sink sink') (old ++ bytes) (goes sources sinks terms number from e last after mid
      done turn sink' (old ++ bytes) g (appends sources sinks bytes sink mid done old a h))
  stored terms number from e true after sink mid (Err fault) turn sink' old bytes a g h =
      let phase = turn.position.phase in
      rw (g.1) (refuses bytes sink mid fault old phase (ap (λ (t : Turn). outcome_of t.position.phase) g.0) a h)
  stored terms number from e false after sink mid (Err fault) turn sink' old bytes a g h =
      let phase = turn.position.phase in
      rw (g.1) (refuses bytes sink mid fault old phase (ap (λ (t : Turn). outcome_of t.position.phase) g.0) a h)

  acts : (action : Action) (from : Endpoint) (bytes : List ℕ) (e : EndState) (files : Files S K) (turn : Turn)
      (files' : Files S K) (moved : Moved) → AllHeld sources sinks files moved.bytes
      → (a : Acts sources sinks action from bytes e files turn files')
      → TookOf turn.position.phase files' (acts_move sources sinks action from bytes e files turn files' a moved).bytes
  acts action from bytes e files turn (Source source') moved h a = tt
  acts (Respond response) from bytes e (Source source) turn (Sink sink') moved h a = absurd (let e = a.1 in cc)
  acts (Respond response) from bytes e (Sink sink) turn (Sink sink') moved h a = search rules
  acts (Send terms number) from bytes e (Source source) turn (Sink sink') moved h a = absurd a
  acts (Send terms number) from bytes e (Sink sink) turn (Sink sink') moved h a = absurd a
  acts (Store terms number) from bytes e (Source source) turn (Sink sink') moved h a = absurd a.2
  acts (Store terms number) from bytes e (Sink sink) turn (Sink sink') moved h a =
      stored _ _ _ e _ _ _ _ _ _ _ _ _ a.2.appended a.2.rest h

  lost : (files files' : Files S K) (phase : Phase) (bytes : List ℕ) → KeepsFiles sources sinks files files'
      → TookOf phase files bytes → TookOf phase files' bytes
  lost files files' phase bytes keeps t = search rules

  worked : (files files' : Files S K) (phase : Phase) (bytes : List ℕ) → WorksOnFile sources sinks files files'
      → TookOf phase files bytes → TookOf phase files' bytes
  worked files files' phase bytes work t = search rules

  -- an open end was not closed by a refusal
  not_closed : (e : EndState) → IsOpen e → outcome_of e.position.phase ≡ Some Refuses → ⊥
  not_closed e is_open closed = is_open (subst (λ (o : Option Outcome). IsSome o) (sym closed) refl)

  handles : {port : ℕ} {from : Endpoint} {bytes : List ℕ} {s : State} {files : Files S K} {next : State}
      {files' : Files S K} (moved : Moved) (h : HandlesReceived sources sinks port from bytes s files next files')
      → TookOf s.end.position.phase files moved.bytes
      → TookOf next.end.position.phase files' (handling_moves h moved).bytes
  handles {from = from} {bytes = bytes} {s = s} {files = files} moved (Answers {turn} {files'} is_open step) t =
      acts (datagram_action s.end from bytes step.decoded) from bytes s.end files turn files' moved
      (held_all s.end.position.phase files moved.bytes (not_closed s.end is_open) t) step.acts
  handles {s = s} {files = files} moved (Loses {files'} gone keeps) t =
      lost files files' s.end.position.phase moved.bytes keeps t

  elapses : {port : ℕ} {s next : State} (files : Files S K) (bytes : List ℕ) → MayElapse port s next
      → TookOf s.end.position.phase files bytes → TookOf next.end.position.phase files bytes
  elapses files bytes h2 t = search rules

  converses : {port : ℕ} {first : State} {file : Files S K} {s : State} {files : Files S K} (moved : Moved)
      (run : Converses sources sinks port first file s files) → TookOf first.end.position.phase file moved.bytes
      → TookOf s.end.position.phase files (run_moves run moved).bytes
  converses moved Begins t = t
  converses moved (Receives {files' = files'} run may time answers) t =
      let bytes = (handling_moves answers.handles (run_moves run moved)).bytes in
      let Ends : State → Type 0 = λ s. TookOf s.end.position.phase files' bytes in
      subst Ends (sym answers.is) (handles (run_moves run moved) answers.handles (converses moved run t))
  converses moved (Waits run may is time) t = converses moved run t
  converses moved (Times {s} {next} {files} run elapsed) t =
      elapses files (run_moves run moved).bytes elapsed (converses moved run t)
  converses moved (Rests {s} {files} {files'} run work) t =
      worked files files' s.end.position.phase (run_moves run moved).bytes work (converses moved run t)

  -- a run that began with a new file
  took_from : {port : ℕ} {first : State} {file : Files S K} {s : State} {files : Files S K}
      (run : Converses sources sinks port first file s files) → IsNew sources sinks file
      → TookOf s.end.position.phase files (run_moves run nothing_moved).bytes
  took_from {first = first} {file = file} run new =
      converses nothing_moved run (took_all first.end.position.phase file [] (begins sources sinks file new))

module _ {S : Type 0} {D F V G : Type 0} {logs : looks.Ghosts D} {writes : write.Ghosts F} {views : looks.Ghosts V}
    {reads : read.Ghosts G} {seeks : seek.Ghosts G}
    (sources : SourceMeaning S) (sinks : SinkMeaning (LocalFile D F V G logs writes views reads seeks)) where
  abbrev Local : Type 0
  Local = LocalFile D F V G logs writes views reads seeks

  -- a file was written once more after a run
  pub written_out : {port : ℕ} {first : State} {file : Files S Local} {s : State} {files : Files S Local} (files' : Files S Local)
      → WritesOut sources sinks files files' → Converses sources sinks port first file s files
      → Converses sources sinks port first file s files'
  written_out {port} {first} {file} {s} {files = Source source} files' work run = rw (work) run
  written_out {port} {first} {file} {s} {files = Sink sink} files' work run = Rests run work

  -- nothing was opened, and nothing was sent
  pub leaves_none : (most : ℕ) (end : ClientOutcome) (kind : Kind) (job : Job) (before after : List SocketEvent)
      (calls : List DiskEvent)
      → status_of end ≡ 2 → after ≡ before → LeavesBy sources sinks most kind job before after calls end
  leaves_none most end kind job before after calls two same =
      let none : (failed : FailsEnd sources sinks most kind job 0 before after end)
      × EndLeaves sources sinks most kind job 0 before after calls end failed = search rules in
      ((0, none.0), none.1)

  -- at once
  pub leaves_first : (most : ℕ) (job : Job) (before after : List SocketEvent) (calls : List DiskEvent) (end : ClientOutcome)
      → (MayFallBack job end → ⊥) → LeavesBy sources sinks most job.kind job before after calls end
      → LeavesTransfer sources sinks most job before after calls end
  leaves_first most job before after calls end never leaves = (inl (leaves.0, never), leaves.1)

  -- without the options that were refused
  pub leaves_again : {most most' : ℕ} (job other : Job) (before middle after : List SocketEvent) (calls : List DiskEvent)
      (end : ClientOutcome)
      → Refused sources sinks most job before middle → other ≡ plain job → most' ≡ most
      → LeavesBy sources sinks most' other.kind other middle after calls end
      → LeavesTransfer sources sinks most job before after calls end
  leaves_again {most} job other before middle after calls end no_options is same leaves =
      let Of : Job → Type 0 = λ j. LeavesBy sources sinks most j.kind j middle after calls end in
      let Within : ℕ → Type 0 = λ m. LeavesBy sources sinks m other.kind other middle after calls end in
      let left = subst Of is (subst Within same leaves) in
      (inr (middle, no_options, left.0), left.1)

  module _ (known : (local : Local) → sinks.held local ≡ Some (held_of local.part.written local.committed))
      (becomes : (before after : Local) (committed : Bool) → sinks.becomes before after committed
      → KeepsPlace (paths_in before) (paths_in after) (tried_in before) (tried_in after) (log_in before) (log_in after)) where
    left : (job : Job) (phase : Phase) (files : Files S Local) (bytes : List ℕ) (calls : List DiskEvent) → IsFor job files
        → IsOut files → HasCalls files calls → NoneCommitted sources sinks files
        → TookOf sources sinks phase files bytes → IsLeft job phase files bytes calls
    left job phase files bytes calls is out has none took = search rules

    -- a run that began by its request, with a new file of the job, stopped
    pub leaves : (most : ℕ) (end : ClientOutcome) (kind : Kind) (job : Job) (length : ℕ) (before after : List SocketEvent)
        (calls : List DiskEvent) {port reading : ℕ} (file files' : Files S Local) → MayOpen kind job length
        → StopsOut sources sinks most port (begun job.backoff port reading (opens kind job length) before) file after files' end
        → IsFileOf sources sinks kind file → IsNew sources sinks file → IsFor job file → HasCalls files' calls
        → LeavesBy sources sinks most kind job before after calls end
    leaves most end kind job length before after calls {port} {reading} file files' may stopped side new for has =
        let stops = stopped.2 in
        let At : ClientOutcome → Type 0 = λ e. LeavesBy sources sinks most kind job before after calls e in
        let calls_are = subst (λ (f : Files S Local). HasCalls f calls) (sym stopped.3) has in
        let none = uncommitted sources sinks stops.converses new stops.incomplete in
        subst At (sym stopped.1) (
          (
            length,
            record { may = may; fails = record { port = port; reading = reading; file = file; stops = stops }; side = side },
          ),
          left job stops.last.end.position.phase stops.files (run_moves stops.converses nothing_moved).bytes calls
              (still_for job file stops.files (kept sources sinks becomes file stops.files stops.converses) for) stopped.4
              calls_are none (took_from sources sinks stops.converses new),
        )
