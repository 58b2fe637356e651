-- N of a complete transfer, from its file and the length with which its end was opened.
use Rattle.std.proofs.Common.{rules}
use Rattle.tftp_client.proofs.Common.{◌≡◌, ℕ, List, Some, Mode, Octet, Kind, SinkMeaning, SourceMeaning, Files}
use Rattle.tftp_client.proofs.Common.{SocketEvent, LocalFile, Job, State, IsCountOf, IsFileOf, MayOpen, RunsAs, opens}
use Rattle.tftp_client.proofs.Common.{held_of}
use Rattle.std.specs.declared.io.traits.Read as read
use Rattle.std.specs.declared.io.traits.Write as write
use Rattle.std.specs.declared.io.traits.Seek as seek
use Rattle.tftp_disk.specs.declared.disk.Looks as looks
use Rattle.tftp_client.specs.Runs.{Runs}
use Rattle.tftp_client.specs.Stored.{count_of}

module _ {S : Type 0} {D F V G : Type 0} {logs : looks.Ghosts D} {writes : write.Ghosts F} {views : looks.Ghosts V}
    {reads : read.Ghosts G} {seeks : seek.Ghosts G} where
  -- a received file holds as many bytes as it counted; a file that is sent in octet has its own length on the wire
  pub counts : (sources : SourceMeaning S) (sinks : SinkMeaning (LocalFile D F V G logs writes views reads seeks))
      → ((local : LocalFile D F V G logs writes views reads seeks) → sinks.held local ≡ Some (held_of local.part.written local.committed))
      → (mode : Mode) (sent length : ℕ) (files : Files S (LocalFile D F V G logs writes views reads seeks)) (count : ℕ)
      → (mode ≡ Octet → sent ≡ length) → count ≡ count_of sent files
      → IsCountOf sources sinks files mode length count
  counts sources sinks known mode sent length files count same is = search rules

  -- the run of an end that a job opens, with N of its file
  abbrev pub runs_as : (sources : SourceMeaning S) (sinks : SinkMeaning (LocalFile D F V G logs writes views reads seeks))
      → ((local : LocalFile D F V G logs writes views reads seeks) → sinks.held local ≡ Some (held_of local.part.written local.committed))
      → (job : Job) (kind : Kind) (sent length : ℕ) {port : ℕ} {before : List SocketEvent} {last : State}
      {files : Files S (LocalFile D F V G logs writes views reads seeks)} {count : ℕ}
      → MayOpen kind job length
      → (run : Runs sources sinks job.backoff port (opens kind job length) before last files) → IsFileOf sources sinks kind run.file
      → (job.mode ≡ Octet → sent ≡ length) → count ≡ count_of sent files
      → RunsAs sources sinks port kind job before last files count
  runs_as sources sinks known job kind sent length {port} {before} {last} {files} {count} may run side same is =
      record {
        length = length;
        may = may;
        runs = run;
        side = side;
        counts =
            counts sources sinks known job.mode sent length files count same is;
      }
