-- A transfer that is complete, from the run of its end.
use Rattle.std.proofs.Common.{rules}
use Rattle.tftp_client.proofs.Common.{◌≡◌, ℕ, Bool, List, Some, inl, inr, refl, sym, subst, ◌+◌, Octet, Kind}
use Rattle.tftp_client.proofs.Common.{SinkMeaning, SourceMeaning, Files, Source, Sink, DiskEvent, DiskSource}
use Rattle.tftp_client.proofs.Common.{SocketEvent, waits, LocalFile, Job, Converses, State, KeepsPlace, RunsAs}
use Rattle.tftp_client.proofs.Common.{nothing_moved, run_moves, IsFor, IsFileOf, IsNew, MayOpen, begun, opens, plain}
use Rattle.tftp_client.proofs.Common.{held_of, Result, Err, IfOk-weaker}
use Rattle.std.specs.declared.io.traits.Read as read
use Rattle.std.specs.declared.io.traits.Write as write
use Rattle.std.specs.declared.io.traits.Seek as seek
use Rattle.tftp_negotiate.specs.declared.known.Kind.TheVariants as kinds
use Rattle.tftp_disk.specs.declared.disk.Looks as looks
use Rattle.tftp_lines.specs.ClientOutcome.{status_of}
use Rattle.tftp_client.specs.declared.transfer.failure.Failure.{Failure}
use Rattle.tftp_client.specs.OnDisk.{IsOnDisk, KeepsAs, Reaches, RunsTo}
use Rattle.tftp_client.specs.Runs.{Refused, dallied}
use Rattle.tftp_client.specs.Sent.{BeginsAt, Concludes, Finishes, RunsOnce}
use Rattle.tftp_client.specs.Stored.{count_of}
use Rattle.tftp_client.proofs.Counting.{runs_as}
use Rattle.tftp_client.proofs.HeldBytes.{run_whole}
use Rattle.tftp_client.proofs.LeftBytes.{leaves, leaves_none}
use Rattle.tftp_client.proofs.NamedOnDisk.{HasCalls, kept, log_in, of_file, paths_in, still_for, tried_in}
use Rattle.tftp_client.proofs.ReadFile.{for_plain as begins_plain}
use Rattle.tftp_client.proofs.Running.{if_err}
use Rattle.tftp_client.proofs.SameKind.{converses}

module _ {F K : Type 0} (sources : SourceMeaning (DiskSource F)) (sinks : SinkMeaning K) where
  -- at once
  pub finishes_first : {status most : ℕ} (job : Job) {before after : List SocketEvent} {calls : List DiskEvent}
      → Concludes sources sinks status most job.kind job before after calls
      → Finishes sources sinks status most job before after calls
  finishes_first job done =
      record {
        port = done.port;
        last = done.last;
        files = done.files;
        count = done.count;
        ends = done.ends;
        transfers = (inl done.run.0, done.run.1);
        complete = done.complete;
        stored = done.stored;
        stays = done.stays;
        over = done.over;
      }

  disk_plain : (job : Job) (files : Files (DiskSource F) K) (bytes : List ℕ) (calls : List DiskEvent)
      → IsOnDisk (plain job) files bytes calls → IsOnDisk job files bytes calls
  disk_plain job (Source source) bytes calls stored = tt
  disk_plain job (Sink sink) bytes calls stored = stored

  -- without the options that were refused
  pub finishes_again : {status most most' : ℕ} (job other : Job) {before : List SocketEvent} (middle : List SocketEvent)
      {after : List SocketEvent} {calls : List DiskEvent} → Refused sources sinks most job before middle
      → other ≡ plain job → most' ≡ most → Concludes sources sinks status most' other.kind other middle after calls
      → Finishes sources sinks status most job before after calls
  finishes_again {status} {most} {most'} job other middle {after} {calls} refused is same ended =
      let Of : Job → Type 0 = λ j. Concludes sources sinks status most j.kind j middle after calls in
      let Within : ℕ → Type 0 = λ m. Concludes sources sinks status m other.kind other middle after calls in
      let done = subst Of is (subst Within same ended) in
      record {
        port = done.port;
        last = done.last;
        files = done.files;
        count = done.count;
        ends = done.ends;
        transfers = (
          inr (middle, refused, done.run.0),
          begins_plain job done.count done.run.0.length done.run.0.runs.file done.run.1,
        );
        complete = done.complete;
        stored =
            disk_plain job done.files (run_moves done.run.0.runs.converses nothing_moved).bytes calls done.stored;
        stays = done.stays;
        over = done.over;
      }

module _ {D F V G : Type 0} {logs : looks.Ghosts D} {writes : write.Ghosts F} {views : looks.Ghosts V}
    {reads : read.Ghosts G} {seeks : seek.Ghosts G}
    (sources : SourceMeaning (DiskSource G)) (sinks : SinkMeaning (LocalFile D F V G logs writes views reads seeks))
    (known : (local : LocalFile D F V G logs writes views reads seeks) → sinks.held local
    ≡ Some (held_of local.part.written local.committed)) where
  abbrev Local : Type 0
  Local = LocalFile D F V G logs writes views reads seeks

  -- a file that is sent has the length with which it was opened
  begins_at : (job : Job) (sent length : ℕ) {port : ℕ} {first last : State} (file files : Files (DiskSource G) Local)
      → Converses sources sinks port first file last files → BeginsAt job sent length file
      → BeginsAt job (count_of sent files) length file
  begins_at job sent length (Sink local) files run begins = tt
  begins_at job sent length (Source source) (Source other) run begins = begins
  begins_at job sent length (Source source) (Sink local) run begins = absurd (converses sources sinks kinds.Write run tt)

  module _ (becomes : (before after : Local) (committed : Bool) → sinks.becomes before after committed
      → KeepsPlace (paths_in before) (paths_in after) (tried_in before) (tried_in after) (log_in before) (log_in after)) where
    -- the run of an end from its request on is complete
    concluded : {status : ℕ} (job : Job) (kind : Kind) (sent length most : ℕ) (before after : List SocketEvent)
        (calls : List DiskEvent) {port reading : ℕ} (file files : Files (DiskSource G) Local) → MayOpen kind job length
        → IsFileOf sources sinks kind file → IsNew sources sinks file → IsFor job file → (job.mode ≡ Octet → sent ≡ length)
        → BeginsAt job sent length file → HasCalls files calls
        → Reaches sources sinks status job.dallies most port (begun job.backoff port reading (opens kind job length) before) file sent after files
        → Concludes sources sinks status most kind job before after calls
    concluded job kind sent length most before after calls {port} {reading} file files may side new for octet begins has r =
        let run : RunsAs sources sinks port kind job before r.last r.files (count_of sent r.files) =
        runs_as sources sinks known job kind sent length may
        (record { reading = reading; file = file; new = new; converses = r.converses }) side octet refl in
        record {
          port = port;
          last = r.last;
          files = r.files;
          count = count_of sent r.files;
          ends = r.ends;
          run = (run, begins_at job sent length file r.files r.converses begins);
          complete = r.complete;
          stored =
              of_file sources sinks known job r.files files (count_of sent r.files)
              (run_moves r.converses nothing_moved).bytes calls
              (still_for job file r.files (kept sources sinks becomes file r.files r.converses) for)
              (run_whole sources sinks (λ local. (held_of local.part.written local.committed, known local)) run r.complete)
              r.kept has;
          stays = dallied sources sinks r.stays;
          over = r.stays.over;
        }

    -- the run of an end from its request on, which is no wait
    pub runs_once : (job : Job) (kind : Kind) (sent length most left : ℕ) (ended : Result ℕ Failure) (before after : List SocketEvent)
        (calls calls' : List DiskEvent) {port reading : ℕ} {first : State} (file files : Files (DiskSource G) Local)
        → MayOpen kind job length → first ≡ begun job.backoff port reading (opens kind job length) before
        → IsFileOf sources sinks kind file → IsNew sources sinks file → IsFor job file → (job.mode ≡ Octet → sent ≡ length)
        → BeginsAt job sent length file → HasCalls files calls' → KeepsAs kind job calls calls'
        → RunsTo sources sinks job.dallies (most + waits first.events) left port first file sent after files ended
        → RunsOnce sources sinks (most + waits before) left kind job ended before after calls calls'
    runs_once job kind sent length most left ended before after calls calls' {port} {reading} {first} file files may is side new for octet begins has keeps runs =
        let From : State → Type 0 =
        λ s. RunsTo sources sinks job.dallies (most + waits s.events) left port s file sent after files ended in
        let r = subst From is runs in
        record {
          ok =
              IfOk-weaker ended _ _ (λ status reached. concluded job kind sent length (most + waits before) before after
              calls' file files may side new for octet begins has reached) r.ok;
          err =
              if_err ended _ _ (λ failure stopped. leaves sources sinks known becomes (most + waits before) failure.end kind
              job length before after calls' file files may stopped side new for has) r.err;
          keeps = keeps;
          counts = r.counts;
        }

  -- nothing was opened, and nothing was sent
  pub runs_none : (job : Job) (kind : Kind) (left : ℕ) (failure : Failure) (before after : List SocketEvent)
      (calls calls' : List DiskEvent) → status_of failure.end ≡ 2 → after ≡ before → KeepsAs kind job calls calls'
      → RunsOnce sources sinks (left + waits before) left kind job (Err failure) before after calls calls'
  runs_none job kind left failure before after calls calls' two same keeps =
      record {
        ok = tt;
        err = leaves_none sources sinks (left + waits before) failure.end kind job before after calls' two same;
        keeps = keeps;
        counts = search rules;
      }

-- of a run by an end of the kind of the job
pub of_kind : {D F V G : Type 0} {logs : looks.Ghosts D} {writes : write.Ghosts F} {views : looks.Ghosts V}
    {reads : read.Ghosts G} {seeks : seek.Ghosts G} {sources : SourceMeaning (DiskSource G)}
    {sinks : SinkMeaning (LocalFile D F V G logs writes views reads seeks)} {most left : ℕ} (kind kind' : Kind)
    (job : Job) (ended : Result ℕ Failure) (before after : List SocketEvent) (calls calls' : List DiskEvent)
    → kind ≡ kind' → RunsOnce sources sinks most left kind' job ended before after calls calls'
    → RunsOnce sources sinks most left kind job ended before after calls calls'
of_kind kind kind' job ended before after calls calls' is runs = rw is runs
