-- What the program did for an order of its command line, and for a command line.
use Rattle.std.specs.Prelude.{ℕ, ◌≡◌, ◌≤◌, ◌⊎◌, List}
use Rattle.tftp_file.specs.Sink.{SinkMeaning}
use Rattle.tftp_file.specs.Source.{SourceMeaning}
use Rattle.tftp_arguments.specs.Fault.{AskForText}
use Rattle.tftp_lines.specs.ClientOutcome.{status_of}
use Rattle.tftp_lines.specs.declared.client_outcome.ClientOutcome.{ClientOutcome}
use Rattle.tftp_sockets.specs.Trace.{SocketEvent}
use Rattle.tftp_client.specs.Converses.{most_waits}
use Rattle.tftp_client.specs.Runs.{Completes, FailsTransfer}
use Rattle.tftp_client.specs.declared.transfer.Job.{Job}
use Rattle.tftp_client.specs.Words.{WordsName, tftp_app}

-- the status of a program that ran no job: 0 only if the words ask for the help or the version, and
-- else 2
abbrev pub EndsWithoutJob : List (List ℕ) → ℕ → Type 0
EndsWithoutJob words status = ((status ≡ 0) × AskForText tftp_app words) ⊎ (status ≡ 2)

module _ {S K : Type 0} (sources : SourceMeaning S) (sinks : SinkMeaning K) where
  -- a job was run, and the program ends with this status: the job is complete, and the status is 0
  -- if its line was printed, and 2 if the system refused that; or the job failed, and the status is
  -- that of its end: 1 if a transfer was opened, and 2 if none was
  abbrev pub RunsOrder : Job → ℕ → List SocketEvent → List SocketEvent → Type 0
  RunsOrder job status before after =
      (((status ≡ 0) ⊎ (status ≡ 2)) × Completes sources sinks status job before after)
      ⊎ ((1 ≤ status) × (end : ClientOutcome) × (status ≡ status_of end)
      × FailsTransfer sources sinks (most_waits before) job before after end)

  -- nothing was done over UDP, with a status of 0, only if the words ask for the help or the
  -- version, or of 2; or the job that the words name was run, whatever the status
  abbrev pub RunsWords : List (List ℕ) → ℕ → List SocketEvent → List SocketEvent → Type 0
  RunsWords words status before after =
      ((after ≡ before) × EndsWithoutJob words status)
      ⊎ ((job : Job) × WordsName words job × RunsOrder job status before after)
