-- The run of a client, step by step: what its end does over its socket, and the lines that it
-- prints.
use Rattle.std.specs.Prelude.{ℕ, ◌≡◌, List, ◌⊎◌, ◌∷◌, Bool}
use Rattle.tftp_promises.specs.Common.{SourceMeaning, Endpoint, SinkMeaning, SocketEvent, EndState}
use Rattle.tftp_promises.specs.Common.{State, Files, Printed, begun, HandlesReceived, Backoff}
use Rattle.tftp_promises.specs.Common.{Empty, MayElapse, QuietEvent, Watch, printed, Dallies}
use Rattle.tftp_promises.specs.Common.{Failed}
use Rattle.tftp_client.specs.Converses.{IsReadBy, MayWait, WorksOnFile, received, renewed, waited}
use Rattle.tftp_client.specs.Runs.{Runs}
use Rattle.tftp_promises.specs.Moved.{Moved, nothing_moved, handling_moves}

-- a client that has printed this line
abbrev pub line_printed : List ℕ → State → State
line_printed line s = record s { events = Printed line ∷ s.events }

-- one step of a client, apart from the run before it
pub data ClientDoes {G K : Type 0} (inputs : SourceMeaning G) (outputs : SinkMeaning K) (port : ℕ)
    (s : State) (files : Files G K) : State → Files G K → Type 0 where
  -- a datagram was received
  Receives_one : {next : State} {files' : Files G K} {from : Endpoint} {bytes : List ℕ}
      {watch : Watch} → MayWait s → IsReadBy s watch
      → HandlesReceived inputs outputs port from bytes (received port from bytes watch s) files next
      files'
      → ClientDoes inputs outputs port s files next files'
  -- the clock was read again, once a datagram was handled
  Reads_clock : (progress : Bool) {watch : Watch} → IsReadBy s watch
      → ClientDoes inputs outputs port s files (renewed progress watch s) files
  -- none was received until the clock was read: the port was empty, or the receive failed
  Waits_until : {event : QuietEvent} {watch : Watch} → MayWait s
      → (event ≡ Empty port) ⊎ (event ≡ Failed port) → IsReadBy s watch
      → ClientDoes inputs outputs port s files (waited event watch s) files
  -- a timeout was due
  Times_out : {next : State} → MayElapse port s next
      → ClientDoes inputs outputs port s files next files
  -- the file did its work
  File_works : {files' : Files G K} → WorksOnFile inputs outputs files files'
      → ClientDoes inputs outputs port s files s files'
  -- a line was printed
  Prints_line : (line : List ℕ) → ClientDoes inputs outputs port s files (line_printed line s) files

-- what has moved after it
abbrev pub client_moves : {G K : Type 0} {inputs : SourceMeaning G} {outputs : SinkMeaning K}
    {port : ℕ} {s s' : State} {files files' : Files G K}
    → ClientDoes inputs outputs port s files s' files' → Moved → Moved
client_moves (Receives_one may later handles) moved = handling_moves handles moved
client_moves does moved = moved

-- a client reaches this state from its first by such steps
pub data ClientRun {G K : Type 0} (inputs : SourceMeaning G) (outputs : SinkMeaning K) (port : ℕ)
    (first : State) (file : Files G K) : State → Files G K → Type 0 where
  Starts : ClientRun inputs outputs port first file first file
  Goes_on : {s s' : State} {files files' : Files G K}
      → ClientRun inputs outputs port first file s files
      → ClientDoes inputs outputs port s files s' files'
      → ClientRun inputs outputs port first file s' files'

-- what has moved in the run so far
abbrev pub moved_in : {G K : Type 0} {inputs : SourceMeaning G} {outputs : SinkMeaning K} {port : ℕ}
    {first : State} {file : Files G K} {s : State} {files : Files G K}
    → ClientRun inputs outputs port first file s files → Moved
moved_in Starts = nothing_moved
moved_in (Goes_on run does) = client_moves does (moved_in run)

module _ {G K : Type 0} (inputs : SourceMeaning G) (outputs : SinkMeaning K) where
  -- what a client with this end did is one run of it: that from its request on, and that of one
  -- that is complete, with its line and what it did after it
  pub record IsOneRun (backoff : Backoff) (port : ℕ) (end : EndState) (before : List SocketEvent)
      (s : State) (files : Files G K) (runs : Runs inputs outputs backoff port end before s files)
      : Type 0 where
    pub runs_so : ClientRun inputs outputs port (begun backoff port runs.reading end before)
        runs.file s files
    pub stays_so : (line : List ℕ) (after : List SocketEvent)
        → Dallies inputs outputs port (printed line s) files after
        → (last : State) × (files' : Files G K)
        × ClientRun inputs outputs port (begun backoff port runs.reading end before) runs.file last
        files'
        × (last.events ≡ after)

  abbrev pub ClientsAreRuns : Type 0
  ClientsAreRuns =
      (backoff : Backoff) (port : ℕ) (end : EndState) (before : List SocketEvent) (s : State)
      (files : Files G K) (runs : Runs inputs outputs backoff port end before s files)
      → IsOneRun backoff port end before s files runs
