-- What a server did is one run of it.
use Rattle.tftp_promises.proofs.Common.{List, ℕ, ◌≡◌, rules, sym, Endpoint, refl, [], ◌∙◌, ap, SourceMeaning, subst}
use Rattle.tftp_promises.proofs.Common.{StoreMeaning, ◌∷◌, SinkMeaning, ◌++◌, EndState, Files, SocketEvent, LoopState}
use Rattle.tftp_promises.proofs.Common.{LoopStep, Sent, Run, State, Then, Start, ServerState, moved_in, Receives_one}
use Rattle.tftp_promises.proofs.Common.{append_assoc, ClientOpens, Waits_until, Goes_on, ClientRun, Starts, begun}
use Rattle.tftp_promises.proofs.Common.{Times_out, File_works, Prints_line, Reads_clock, Backoff, at_start, LoopConfig}
use Rattle.tftp_client.specs.Moved.{Moved, handling_moves, run_moves}
use Rattle.tftp_client.specs.Converses.{Converses, progress_of}
use Rattle.tftp_client.specs.Converses.Converses.{Begins, Receives, Waits, Times, Rests}
use Rattle.tftp_promises.specs.Programs.{ServersAreRuns}
use Rattle.tftp_promises.specs.Lines.{printed_lines, close_lines, closed_lines}
use Rattle.tftp_promises.specs.ClientRuns.{ClientsAreRuns}
use Rattle.tftp_promises.specs.ClientPrograms.{ClientsArePrograms, IsClientRun}
use Rattle.tftp_promises.proofs.StepEvents.{step_adds}
use Rattle.tftp_promises.proofs.ClientTraces.{converse}

-- what it noted
pub server_noted : {S F D : Type 0} {stores : StoreMeaning S D} {sources : SourceMeaning F}
    {start last : LoopState S F D} → Run (LoopStep stores sources) start last →
    (noted : List SocketEvent) × (last.events ≡ noted ++ start.events)
server_noted Start = ([], refl)
server_noted {start = start} (Then run does) =
    let adds = step_adds does in
    let before = server_noted run in (
      adds.0 ++ before.0,
      adds.1
          ∙ (ap (λ (es : List SocketEvent). adds.0 ++ es) before.1 ∙ sym (append_assoc adds.0 before.0 start.events)),
    )

pub servers_run : {S F D : Type 0} (stores : StoreMeaning S D) (sources : SourceMeaning F) →
    ServersAreRuns stores sources
servers_run stores sources to start last run requests empty idle max_block = record {
  server = record {
    start = start;
    last = last;
    run = run;
    noted = (server_noted run).0;
    is_noted = (server_noted run).1;
    requests = requests;
    empty = empty;
    idle = idle;
    max_block = max_block;
  };
  starts = refl;
  arrives = refl;
}

-- Each line of a run is that of a transfer that it removed.

module _ {S F D : Type 0} {stores : StoreMeaning S D} {sources : SourceMeaning F} where
  step_lines : (old new : LoopState S F D) (does : LoopStep stores sources old new) →
      printed_lines new.events ≡ close_lines does ++ printed_lines old.events
  step_lines old new does = search rules

  run_lines : {first now : LoopState S F D} (run : Run (LoopStep stores sources) first now) →
      printed_lines now.events ≡ closed_lines run ++ printed_lines first.events
  run_lines Start = refl
  run_lines {first} {now} (Then {middle} run does) =
      step_lines middle now does
      ∙ (ap (λ (ls : List (List ℕ)). close_lines does ++ ls) (run_lines run)
      ∙ sym (append_assoc (close_lines does) (closed_lines run) (printed_lines first.events)))

  pub lines_are_closes : (config : LoopConfig) (port reading : ℕ) (first : ServerState S F D) (before : List SocketEvent)
      (now : LoopState S F D) (run : Run (LoopStep stores sources) (at_start config port first reading before) now) →
      printed_lines now.events ≡ closed_lines run ++ printed_lines before
  lines_are_closes config port reading first before now run = run_lines run

-- What a client did is one run of it, and that of a program.

module _ {G K : Type 0} {inputs : SourceMeaning G} {outputs : SinkMeaning K} {port : ℕ} {first : State}
    {file : Files G K} where
  -- a run goes on, and what moves in what follows moves in it
  goes_so : {s : State} {files : Files G K} (run : ClientRun inputs outputs port first file s files) →
      {s' : State} {files' : Files G K} (more : Converses inputs outputs port s files s' files') →
      (all : ClientRun inputs outputs port first file s' files') × (moved_in all ≡ run_moves more (moved_in run))
  goes_so run Begins = (run, refl)
  goes_so run (Receives {files' = files'} more may later answers) =
      let so = goes_so run more in
      let told : Moved = handling_moves answers.handles (run_moves more (moved_in run)) in
      let To : State → Type 0 = λ t. (all : ClientRun inputs outputs port first file t files') × (moved_in all ≡ told) in
      subst To (sym answers.is) (
        Goes_on (Goes_on so.0 (Receives_one may later answers.handles))
            (Reads_clock (progress_of inputs outputs answers.handles) answers.later),
        ap (λ (m : Moved). handling_moves answers.handles m) so.1,
      )
  goes_so run (Waits more may which later) =
      let so = goes_so run more in (Goes_on so.0 (Waits_until may which later), so.1)
  goes_so run (Times more elapses) = let so = goes_so run more in (Goes_on so.0 (Times_out elapses), so.1)
  goes_so run (Rests more works) = let so = goes_so run more in (Goes_on so.0 (File_works works), so.1)

pub clients_run : {G K : Type 0} (inputs : SourceMeaning G) (outputs : SinkMeaning K) → ClientsAreRuns inputs outputs
clients_run inputs outputs backoff port end before s files runs = record {
  runs_so = (goes_so Starts runs.converses).0;
  stays_so =
      λ line after stays. (
        stays.last,
        stays.files,
        (goes_so (Goes_on (goes_so Starts runs.converses).0 (Prints_line line)) stays.converses).0,
        stays.events,
      );
}

-- a run is that of a program
module _ {G K : Type 0} (inputs : SourceMeaning G) (outputs : SinkMeaning K) {to : Endpoint} where
  program_of : (ip : List ℕ) {first : EndState} {file : Files G K} (opens : ClientOpens inputs outputs to first file)
      (before : List SocketEvent) (backoff : Backoff) (port reading : ℕ) (last : State) (files : Files G K) →
      (runs : ClientRun inputs outputs port (begun backoff port reading first before) file last files) →
      IsClientRun inputs outputs ip opens before last (moved_in runs)
  program_of ip {first} {file} opens before backoff port reading last files runs =
      let since = converse runs in
      let asked : List SocketEvent = Sent port first.position.last_sent_to first.position.last_sent ∷ [] in
      let notes : last.events ≡ (since.0 ++ asked) ++ before = since.1 ∙ sym (append_assoc since.0 asked before) in
      record {
        client = search (since.0 ++ asked);
        address = refl;
        end = refl;
        name = refl;
        begins = refl;
        notes = notes;
        ends = refl;
        moves = refl;
      }

pub clients_are_programs : {G K : Type 0} (inputs : SourceMeaning G) (outputs : SinkMeaning K) →
    ClientsArePrograms inputs outputs
clients_are_programs inputs outputs to ip first file opens before backoff port reading s files converses = record {
  runs_so =
      let so = goes_so Starts converses in
      rw (← so.1) (program_of inputs outputs ip opens before backoff port reading s files so.0);
  stays_so = λ line after stays.
      let so = goes_so Starts converses in
      let on = goes_so (Goes_on so.0 (Prints_line line)) stays.converses in
      rw (← on.1 ∙ ap (λ (m : Moved). run_moves stays.converses m) so.1) (program_of inputs outputs ip opens before
      backoff port reading stays.last stays.files on.0);
}
