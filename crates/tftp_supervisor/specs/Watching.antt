-- What a supervisor knows of its servers, by what their outputs gave (ours).
use Rattle.std.specs.Prelude.{ℕ, ◌≡◌, ◌<◌, ◌+◌, true, false, List, [], ◌∷◌, length}
use Rattle.std.specs.Prelude.{Ok, Some, pos, slice_index_or}
use Rattle.std.specs.Process.{exit_code}
use Rattle.std.specs.declared.process.status.ExitStatus.{ExitStatus}
use Rattle.tftp_supervisor.specs.Lines.{has_any}
use Rattle.tftp_supervisor.specs.Output.{PassesOn, lines_in}
use Rattle.tftp_supervisor.specs.ProcessEvent.{HasSucceeded, ProcessEvent, started_in}
use Rattle.tftp_supervisor.specs.ProcessEvent.ProcessEvent.{Started, Gave, Closed, Ended, Printed}
use Rattle.tftp_supervisor.specs.PassedOn.{AlwaysPassedOn, PassedOn, ServerLine}
use Rattle.tftp_supervisor.specs.PassedOn.{first_lines, lines_at}
use Rattle.tftp_supervisor.specs.declared.supervisor.WatchedServer.{WatchedServer}
use Rattle.tftp_supervisor.specs.declared.supervisor.Supervisor.{Supervisor}

-- the server of this number has printed nothing that is known
pub record IsNew (number : ℕ) (watched : WatchedServer) : Type 0 where
  pub server : watched.output.server ≡ number
  pub begun : watched.output.begun.items ≡ []
  pub has_printed : watched.output.has_printed ≡ false
  pub has_ended : watched.has_ended ≡ false

-- the server of this number is where these lines and the start of a line leave it
pub record IsKnown (events : List ProcessEvent) (lines : List ServerLine) (starts : ℕ → List ℕ)
    (number : ℕ) (watched : WatchedServer) : Type 0 where
  pub server : watched.output.server ≡ number
  pub begun : watched.output.begun.items ≡ starts number
  pub has_printed : watched.output.has_printed ≡ has_any (lines_at number lines)
  pub ended : watched.has_ended ≡ true → HasSucceeded number events

-- each server, counted from 1
abbrev pub EachServer : (ℕ → WatchedServer → Type 0) → List WatchedServer → Type 0
EachServer Is servers =
    (k : ℕ) (d : WatchedServer) → k < length servers → Is (k + 1) (slice_index_or servers k d)

-- servers were started, and nothing else was done
abbrev pub OnlyStarts : List ProcessEvent → Type 0
OnlyStarts [] = Unit {0}
OnlyStarts (Started line ∷ before) = OnlyStarts before
OnlyStarts (Gave server bytes ∷ before) = ⊥
OnlyStarts (Closed server ∷ before) = ⊥
OnlyStarts (Ended server answer ∷ before) = ⊥
OnlyStarts (Printed text ∷ before) = ⊥

-- each server that was started is watched
pub record IsCounted (events : List ProcessEvent) (supervisor : Supervisor) : Type 0 where
  pub count : supervisor.count ≡ length (started_in events)
  pub watched : length supervisor.servers.items ≡ supervisor.count

-- no output was read
pub record IsStarting (events : List ProcessEvent) (supervisor : Supervisor) : Type 0 where
  pub only : OnlyStarts events
  pub counted : IsCounted events supervisor
  pub announced : supervisor.announced.items ≡ []
  pub each : EachServer IsNew supervisor.servers.items

-- what was read is printed
pub record IsWatching (events : List ProcessEvent) (supervisor : Supervisor) : Type 0 where
  pub passed : PassedOn events
  pub always : AlwaysPassedOn events
  pub counted : IsCounted events supervisor
  pub announced : lines_in supervisor.announced.items ≡ first_lines passed.lines
  pub each : EachServer (IsKnown events passed.lines passed.begun) supervisor.servers.items

-- so it goes on, whatever the outcome: what was read before was printed, and no server was started
pub record GoesOn (before after : List ProcessEvent) : Type 0 where
  pub always : AlwaysPassedOn after
  pub started : started_in after ≡ started_in before

-- the output of a server was read once: it gave bytes, and `out` is what is printed of them, or it
-- is closed, and the server ended with the status 0; and what the first lines of servers were,
-- before and after
pub data ReadsOutput (announced announces : List (List ℕ)) (old new : WatchedServer)
    (before after : List ProcessEvent) (out : List ℕ) : Type 0 where
  Given : (bytes : List ℕ) → after ≡ Gave old.output.server bytes ∷ before
      → PassesOn announced announces bytes old.output new.output out
      → new.has_ended ≡ old.has_ended
      → ReadsOutput announced announces old new before after out
  Finished : (status : ExitStatus) → exit_code status ≡ Some (pos 0)
      → after ≡ Ended old.output.server (Ok status) ∷ Closed old.output.server ∷ before
      → new.output ≡ old.output → out ≡ [] → announces ≡ announced
      → ReadsOutput announced announces old new before after out
