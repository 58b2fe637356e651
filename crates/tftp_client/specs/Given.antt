-- What moved in the run of a complete put, of any source.
use Rattle.std.specs.Prelude.{ℕ, ◌≡◌, true, List, length}
use Rattle.std.proofs.Common.{inl, inr}
use Rattle.tftp_wire.specs.declared.mode.Mode.TheVariants.{Octet}
use Rattle.tftp_negotiate.specs.declared.known.Kind.TheVariants.{Write}
use Rattle.tftp_file.specs.Sink.{SinkMeaning}
use Rattle.tftp_file.specs.Source.{GivesInTurn, SourceMeaning}
use Rattle.tftp_file.specs.declared.files.Files.{Files}
use Rattle.tftp_file.specs.declared.files.Files.TheVariants.{Source}
use Rattle.tftp_ends.specs.End.{is_complete}
use Rattle.tftp_sockets.specs.Trace.{SocketEvent}
use Rattle.tftp_client.specs.declared.transfer.Job.{Job}
use Rattle.tftp_client.specs.Converses.{State}
use Rattle.tftp_client.specs.Moved.{nothing_moved, run_moves}
use Rattle.tftp_client.specs.Runs.{Transfers, moved_by}

module _ {S K : Type 0} (sources : SourceMeaning S) (sinks : SinkMeaning K) where
  -- a source gave these bytes, from the first state to the last, in order and each once
  abbrev pub IsGiven : Files S K → Files S K → List ℕ → Type 0
  IsGiven (Source first) (Source last) bytes = GivesInTurn sources first bytes last
  IsGiven first last bytes = Unit {0}

  -- the file of a job gave what moved in its run
  abbrev pub GaveWhatMoved : {most port : ℕ} {job : Job} {before : List SocketEvent} {s : State}
      {files : Files S K} {count : ℕ}
      → Transfers sources sinks most port job before s files count → Type 0
  GaveWhatMoved {files = files} (inl run) =
      IsGiven run.runs.file files (run_moves run.runs.converses nothing_moved).bytes
  GaveWhatMoved {files = files} (inr again) =
      IsGiven again.2.runs.file files (run_moves again.2.runs.converses nothing_moved).bytes

  -- of each job that is complete
  abbrev pub SendsWhatItsFileGave : Type 0
  SendsWhatItsFileGave =
      (most port : ℕ) (job : Job) (before : List SocketEvent) (s : State) (files : Files S K)
      (count : ℕ) (transfers : Transfers sources sinks most port job before s files count)
      → is_complete s.end.position.phase ≡ true → GaveWhatMoved transfers

  -- N of each put in octet that is complete is the number of the bytes that moved
  abbrev pub CountsWhatItSent : Type 0
  CountsWhatItSent =
      (most port : ℕ) (job : Job) (before : List SocketEvent) (s : State) (files : Files S K)
      (count : ℕ) (transfers : Transfers sources sinks most port job before s files count)
      → is_complete s.end.position.phase ≡ true → job.kind ≡ Write → job.mode ≡ Octet
      → count ≡ length (moved_by sources sinks transfers).bytes
