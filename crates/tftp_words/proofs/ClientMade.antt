-- What a `tftp` did for its words is what some programs did: none, one, or two where its options were refused.
use Rattle.tftp_words.proofs.Common.{◌≡◌, ℕ, true, false, List, [], ◌∷◌, ◌++◌, length, append_assoc, Some, None, refl}
use Rattle.tftp_words.proofs.Common.{sym, ap, ◌∙◌, subst, inl, inr, AllByRecursion, Kind, Read, Write, SinkMeaning}
use Rattle.tftp_words.proofs.Common.{SourceMeaning, Files, Source, Sink, MAX_WIRE, Endpoint, ClientRead, ClientWrite}
use Rattle.tftp_words.proofs.Common.{SocketEvent, Moved, RunsWords, IsFileOf, moved_by, printed, ClientsArePrograms}
use Rattle.tftp_words.proofs.Common.{IsCounted, ClientProgram, To_read, To_write, AreRunsOf, ClientRan, IsRunFor, Job}
use Rattle.tftp_words.proofs.Common.{LastDid, finished_in, side_of}
use Rattle.std.proofs.Common.{Option}
use Rattle.std.specs.Prelude.{is_some}
use Rattle.std.proofs.lemmas.Bool.{true≢false}
use Rattle.tftp_negotiate.specs.declared.asked.Asked.{Asked}
use Rattle.tftp_ends.specs.End.{EndState, is_complete, outcome_of}
use Rattle.tftp_ends.specs.declared.outcome.Outcome.{Outcome}
use Rattle.tftp_ends.specs.Opening.{getting, putting}
use Rattle.tftp_lines.specs.declared.client_outcome.ClientOutcome.{ClientOutcome}
use Rattle.tftp_sockets.specs.Quiet.{waits}
use Rattle.tftp_client.specs.Converses.{EndsBy, State, most_waits}
use Rattle.tftp_client.specs.Moved.{nothing_moved, run_moves}
use Rattle.tftp_client.specs.Runs.{Completes, FailsBy, FailsTransfer, IsCountOf, IsWhole, MayOpen, RunsAs, Dallies}
use Rattle.tftp_client.specs.Runs.{Transfers, measured, opens, plain}
use Rattle.tftp_client.specs.Words.{WordsName}
use Rattle.tftp_promises.specs.ClientPrograms.{IsClientRun, Mode, Netascii, Octet}
use Rattle.tftp_promises.specs.Programs.{ClientOpens, name_of}
use Rattle.tftp_words.specs.Ran.{Finished, HasStopped, HaveStopped, IsRunOf, NotedBy}
use Rattle.tftp_lines.specs.declared.client_outcome.ClientOutcome.TheVariants as ends

module _ {G K : Type 0} (inputs : SourceMeaning G) (outputs : SinkMeaning K) {to : Endpoint} where
  -- the end of a job opens to this server
  abbrev job_opens : (kind : Kind) (job : Job) (length : ℕ) (file : Files G K) → job.server ≡ to → MayOpen kind job length →
      IsFileOf inputs outputs kind file → ClientOpens inputs outputs to (opens kind job length) file
  job_opens Read job length (Sink sink) there may side = To_read (record {
    name = job.name.now;
    mode = job.mode;
    asked = job.asked;
    limit = MAX_WIRE;
    retries = job.retries;
    may = may;
    is = ap (λ (a : Endpoint). getting a job.name.now job.mode job.asked MAX_WIRE job.retries) there;
    sink = sink;
    is_file = refl;
  })
  job_opens Write job length (Source source) there may side = To_write (record {
    name = job.name.now;
    mode = job.mode;
    asked = measured job.asked length;
    length = length;
    limit = MAX_WIRE;
    retries = job.retries;
    may = may;
    is =
        ap (λ (a : Endpoint). putting a job.name.now job.mode (measured job.asked length) length MAX_WIRE job.retries)
        there;
    source = source;
    is_file = refl;
  })
  job_opens kind job length file there may side = absurd side

  its_name : (kind : Kind) (job : Job) (length : ℕ) (file : Files G K) (there : job.server ≡ to)
      (may : MayOpen kind job length) (side : IsFileOf inputs outputs kind file) →
      name_of (job_opens kind job length file there may side) ≡ job.name.now
  its_name Read job length (Sink sink) there may side = refl
  its_name Write job length (Source source) there may side = refl
  its_name kind job length file there may side = absurd side

module _ {G K : Type 0} {inputs : SourceMeaning G} {outputs : SinkMeaning K} {to : Endpoint} where
  -- one run after another
  noted_then : (before middle after : List SocketEvent) (clients more : List (ClientProgram inputs outputs to)) →
      NotedBy before clients middle → NotedBy middle more after → NotedBy before (clients ++ more) after
  noted_then before middle after [] more same noted =
      subst (λ (events : List SocketEvent). NotedBy events more after) same noted
  noted_then before middle after (client ∷ clients) more noted then =
      (noted.0, noted_then (client.noted ++ before) middle after clients more noted.1 then)

  both : (P : ClientProgram inputs outputs to → Type 0) (clients more : List (ClientProgram inputs outputs to)) →
      AllByRecursion P clients → AllByRecursion P more → AllByRecursion P (clients ++ more)
  both P [] more h k = k
  both P (client ∷ clients) more h k = (h.0, both P clients more h.1 k)

-- the last of both
last_of : {G K : Type 0} {inputs : SourceMeaning G} {outputs : SinkMeaning K} {to : Endpoint} (done : Option Finished)
    (clients more : List (ClientProgram inputs outputs to)) → LastDid done more → LastDid done (clients ++ more)
last_of None clients more h = tt
last_of {inputs = inputs} {outputs = outputs} {to = to} (Some done) clients more h = (
  clients ++ h.0,
  h.1,
  ap (λ (all : List (ClientProgram inputs outputs to)). clients ++ all) h.2 ∙ sym (append_assoc clients h.0 (h.1 ∷ [])),
  h.3,
  h.4,
  h.5,
)

-- both have stopped
stopped_both : {G K : Type 0} {inputs : SourceMeaning G} {outputs : SinkMeaning K} {to : Endpoint} (most : ℕ)
    (done : Option Finished) (clients more : List (ClientProgram inputs outputs to)) → HaveStopped most None clients →
    HaveStopped most done more → HaveStopped most done (clients ++ more)
stopped_both most (Some done) clients more h k = tt
stopped_both most None clients more h k = both (HasStopped most) clients more h k

-- the end of a job
job_role : (kind : Kind) (job : Job) (length : ℕ) → ((opens kind job length).role.mode ≡ job.mode)
    × ((opens kind job length).role.side ≡ side_of kind)
    × (side_of kind ≡ ClientWrite → (opens kind job length).role.length ≡ length)
job_role Read job length = (refl, refl, λ is. cc)
job_role Write job length = (refl, refl, λ is. refl)

module _ {G K : Type 0} {inputs : SourceMeaning G} {outputs : SinkMeaning K}
    (are_programs : ClientsArePrograms inputs outputs) (ran : ClientRan inputs outputs) (to : Endpoint) where
  -- programs that noted what leads from the one trace to the other
  record Made (most : ℕ) (done : Option Finished) (before after : List SocketEvent) : Type 0 where
    clients : List (ClientProgram inputs outputs to)
    noted : NotedBy before clients after
    each : AllByRecursion (IsRunOf ran) clients
    last : LastDid done clients
    stopped : HaveStopped most done clients

  made_none : {most : ℕ} {before after : List SocketEvent} → after ≡ before → Made most None before after
  made_none same = record { clients = []; noted = same; each = tt; last = tt; stopped = tt }

  made_both : {most : ℕ} {done : Option Finished} {before middle after : List SocketEvent} →
      Made most None before middle → Made most done middle after → Made most done before after
  made_both {most} {done} {before} {middle} {after} first then = record {
    clients = first.clients ++ then.clients;
    noted = noted_then before middle after first.clients then.clients first.noted then.noted;
    each = both (IsRunOf ran) first.clients then.clients first.each then.each;
    last = last_of done first.clients then.clients then.last;
    stopped = stopped_both most done first.clients then.clients first.stopped then.stopped;
  }

  module _ (job : Job) (named : WordsName ran.words job) (there : job.server ≡ to) where
    -- the run of an end of the job, with these options
    module _ (asked : Asked) where
      abbrev tried : Job
      tried = record job { asked = asked }

      module _ {before : List SocketEvent} {s : State} {moved : Moved} (length : ℕ) (file : Files G K)
          (may : MayOpen job.kind tried length) (side : IsFileOf inputs outputs job.kind file)
          (run : IsClientRun inputs outputs ran.ip (job_opens inputs outputs job.kind tried length file there may side)
          before s moved) where
        runs_for : IsRunFor job run.client
        runs_for = record {
          name = run.name ∙ its_name inputs outputs job.kind tried length file there may side;
          mode = ap (λ (e : EndState). e.role.mode) run.end ∙ (job_role job.kind tried length).0;
          side = ap (λ (e : EndState). e.role.side) run.end ∙ (job_role job.kind tried length).1;
        }

        made_one : (most : ℕ) (its : Option Finished) → LastDid its (run.client ∷ []) →
            HaveStopped most its (run.client ∷ []) → Made most its before s.events
        made_one most its last stopped = record {
          last = last;
          stopped = stopped;
          clients = run.client ∷ [];
          noted = (run.begins, run.notes);
          each = (record { address = run.address; job = job; named = named; runs = runs_for }, tt);
        }

        -- it is not complete, and has closed, or made its waits
        has_stopped : (most : ℕ) (outcome : Outcome) → is_complete s.end.position.phase ≡ false → EndsBy most s outcome →
            HasStopped most run.client
        has_stopped most outcome incomplete (inl closed) = record {
          incomplete = ap (λ (e : EndState). is_complete e.position.phase) run.ends ∙ incomplete;
          closed = λ opened.
              absurd
              (true≢false
              (sym (ap is_some (ap (λ (e : EndState). outcome_of e.position.phase) run.ends ∙ closed)) ∙ opened));
        }
        has_stopped most outcome incomplete (inr waited) = record {
          incomplete = ap (λ (e : EndState). is_complete e.position.phase) run.ends ∙ incomplete;
          closed = λ opened.
              ap waits
              (ap (λ (es : List SocketEvent). run.client.noted ++ es) run.begins ∙ sym run.notes) ∙ waited.1;
        }

      -- it failed, if it opened
      made_stopped : (most : ℕ) (before after : List SocketEvent) (end : ClientOutcome) →
          FailsBy inputs outputs most tried before after end → Made most None before after
      made_stopped most before after (ends.Failed outcome) failed =
          let f = failed.1 in
          let opened = job_opens inputs outputs job.kind tried failed.0 f.fails.file there f.may f.side in
          let run =
          are_programs to ran.ip (opens job.kind tried failed.0) f.fails.file opened before job.backoff f.fails.port
          f.fails.reading f.fails.stops.last f.fails.stops.files f.fails.stops.converses in
          subst (λ (events : List SocketEvent). Made most None before events) f.fails.stops.events
          (made_one failed.0 f.fails.file f.may f.side run.runs_so most None tt (
            has_stopped failed.0 f.fails.file f.may f.side run.runs_so most outcome f.fails.stops.incomplete
                f.fails.stops.ends,
            tt,
          ))
      made_stopped most before after end failed = made_none failed.1

      -- it is complete, and stayed
      module _ {port count : ℕ} {line : List ℕ} {before after : List SocketEvent} {last : State} {files : Files G K}
          (runs : RunsAs inputs outputs port job.kind tried before last files count)
          (stays : Dallies inputs outputs port (printed line last) files after)
          (stayed : is_complete stays.last.end.position.phase ≡ true)
          (still : (moved : Moved) → run_moves stays.converses moved ≡ moved)
          (file : IsFileOf inputs outputs job.kind files) where
        abbrev moved : Moved
        moved = run_moves runs.runs.converses nothing_moved

        -- N of a file that was received, and of one that was sent
        received : (k : Kind) (f : Files G K) → IsFileOf inputs outputs k f →
            IsWhole inputs outputs f count moved.bytes → side_of k ≡ ClientRead → count ≡ length moved.bytes
        received Read (Sink sink) of whole is = whole.4
        received Read (Source source) of whole is = absurd of
        received Write f of whole is = cc

        sent : (k : Kind) (f : Files G K) (m : Mode) → IsFileOf inputs outputs k f →
            IsCountOf inputs outputs f m runs.length count → side_of k ≡ ClientWrite → m ≡ Octet → count ≡ runs.length
        sent Write (Source source) Octet of counts is octet = counts
        sent Write (Source source) Netascii of counts is octet = cc
        sent Write (Sink sink) m of counts is octet = absurd of
        sent Read f m of counts is octet = cc

        abbrev finished : Finished
        finished = record { job = job; count = count; moved = moved }

        made_complete : (most : ℕ) → IsWhole inputs outputs files count moved.bytes → Made most (Some finished) before after
        made_complete most whole =
            let opened = job_opens inputs outputs job.kind tried runs.length runs.runs.file there runs.may runs.side in
            let run =
            (are_programs to ran.ip (opens job.kind tried runs.length) runs.runs.file opened before job.backoff port
            runs.runs.reading last files runs.runs.converses).stays_so line after stays in
            let its = runs_for runs.length runs.runs.file runs.may runs.side run in
            let counted : IsCounted count run.client = record {
              complete = ap (λ (e : EndState). is_complete e.position.phase) run.ends ∙ stayed;
              received =
                  λ is. received job.kind files file whole (sym its.side ∙ is)
                  ∙ ap (λ (m : Moved). length m.bytes) (sym (run.moves ∙ still moved));
              sent = λ is octet.
                  sent job.kind files job.mode file runs.counts (sym its.side ∙ is) (sym its.mode ∙ octet)
                  ∙ (sym ((job_role job.kind tried runs.length).2 (sym its.side ∙ is))
                  ∙ ap (λ (e : EndState). e.role.length) (sym run.end));
            } in
            subst (λ (events : List SocketEvent). Made most (Some finished) before events) stays.events
            (made_one runs.length runs.runs.file runs.may runs.side run most (Some finished)
            ([], run.client, refl, its, counted, run.moves ∙ still moved) tt)

    abbrev done_by : ℕ → Moved → Option Finished
    done_by count moved = Some (record { job = job; count = count; moved = moved })

    made_completes : (status : ℕ) (before after : List SocketEvent) (h : Completes inputs outputs status job before after) →
        Made (most_waits before) (done_by h.count (moved_by inputs outputs h.transfers)) before after
    made_completes status before after h = by_transfers h.transfers h.whole where
      by_transfers : (transfers : Transfers inputs outputs (most_waits before) h.port job before h.last h.files h.count) →
          IsWhole inputs outputs h.files h.count (moved_by inputs outputs transfers).bytes →
          Made (most_waits before) (done_by h.count (moved_by inputs outputs transfers)) before after
      by_transfers (inl runs) whole =
          made_complete job.asked runs h.stays h.stayed h.still h.side (most_waits before) whole
      by_transfers (inr again) whole =
          made_both (made_stopped job.asked (most_waits before) before again.0 again.1.end again.1.fails)
          (made_complete (plain job).asked again.2 h.stays h.stayed h.still h.side (most_waits before) whole)

    made_failed : (most : ℕ) (before after : List SocketEvent) (end : ClientOutcome) →
        FailsTransfer inputs outputs most job before after end → Made most None before after
    made_failed most before after end h = elim h [
      | inl failed ↦ made_stopped job.asked most before after end failed.0
      | inr again ↦
          made_both (made_stopped job.asked most before again.0 again.1.end again.1.fails)
          (made_stopped (plain job).asked most again.0 after end again.2)
    ]

  -- what the command did
  made_words : ((job : Job) → WordsName ran.words job → job.server ≡ to) →
      (h : RunsWords inputs outputs ran.words ran.status ran.before ran.after) →
      Made (most_waits ran.before) (finished_in inputs outputs ran.words ran.status ran.before ran.after h) ran.before
      ran.after
  made_words asks (inl nothing) = made_none nothing.0
  made_words asks (inr (job, named, inl done)) =
      made_completes job named (asks job named) ran.status ran.before ran.after done.1
  made_words asks (inr (job, named, inr failed)) =
      made_failed job named (asks job named) (most_waits ran.before) ran.before ran.after failed.1 failed.3

  pub client_made : ((job : Job) → WordsName ran.words job → job.server ≡ to) →
      (clients : List (ClientProgram inputs outputs to)) × AreRunsOf ran clients
  client_made asks =
      let made = made_words asks ran.ran in
      (made.clients, record { noted = made.noted; each = made.each; last = made.last; stopped = made.stopped })
