-- The programs of a network between two of their steps.
use Rattle.std.specs.Prelude.{ℕ, List, [], ◌∷◌, ◌++◌, map}
use Rattle.tftp_promises.specs.Common.{SourceMeaning, StoreMeaning, Endpoint, SinkMeaning, LoopStep}
use Rattle.tftp_promises.specs.Common.{LoopState, SocketEvent, Run, Sent, Then, Start, State, Files}
use Rattle.tftp_promises.specs.Common.{begun}
use Rattle.std.specs.Prelude.{slice_set}
use Rattle.tftp_promises.specs.ClientRuns.{moved_in}
use Rattle.tftp_promises.specs.Moved.{Moved, nothing_moved}
use Rattle.tftp_promises.specs.Order.{Programs}
use Rattle.tftp_promises.specs.Programs.{ClientProgram}

-- how far a client is
pub data ClientStage (G K : Type 0) : Type 0 where
  -- it has not sent its request
  Unasked : ClientStage G K
  -- it has: its state, its file, the events from the request on, the newest first, and what has
  -- moved
  Has_asked : State → Files G K → List SocketEvent → Moved → ClientStage G K

-- what it has noted
abbrev pub noted_by : {G K : Type 0} → ClientStage G K → List SocketEvent
noted_by Unasked = []
noted_by (Has_asked s files noted moved) = noted

module _ {G K : Type 0} {inputs : SourceMeaning G} {outputs : SinkMeaning K} where
  -- a client that has sent its request, and no more
  abbrev pub just_asked : {to : Endpoint} → ClientProgram inputs outputs to → ClientStage G K
  just_asked client =
      Has_asked (begun client.backoff client.port client.reading client.first client.before)
      client.file
      (Sent client.port client.first.position.last_sent_to client.first.position.last_sent ∷ [])
      nothing_moved

module _ {S F D G K : Type 0} {stores : StoreMeaning S D} {sources : SourceMeaning F}
    {inputs : SourceMeaning G} {outputs : SinkMeaning K}
    (programs : Programs stores sources inputs outputs) where
  -- where the programs are
  pub record Snapshot : Type 0 where
    -- the server, and its run so far
    pub state : LoopState S F D
    pub run : Run (LoopStep stores sources)
        programs.server.start state
    -- the events of that run, the newest first
    pub noted : List SocketEvent
    -- one for each client, by its index
    pub clients : List (ClientStage G K)

  -- no program has done anything
  abbrev pub nothing_done : Snapshot
  nothing_done =
      record {
        state = programs.server.start;
        run = Start;
        noted = [];
        clients = map (λ client. Unasked) programs.clients;
      }

  -- all programs in their end states
  abbrev pub all_of : Snapshot
  all_of =
      record {
        state = programs.server.last;
        run = programs.server.run;
        noted = programs.server.noted;
        clients =
            map
            (λ client. Has_asked client.last client.files client.noted
            (moved_in client.runs)) programs.clients;
      }

module _ {S F D G K : Type 0} {stores : StoreMeaning S D} {sources : SourceMeaning F}
    {inputs : SourceMeaning G} {outputs : SinkMeaning K}
    {programs : Programs stores sources inputs outputs} where
  -- the server has made this step, and noted these events
  abbrev pub server_did : (old : Snapshot programs) {new : LoopState S F D}
      → LoopStep stores sources old.state new → List SocketEvent → Snapshot programs
  server_did old {new} does added =
      record {
        state = new;
        run = Then old.run does;
        noted = added ++ old.noted;
        clients = old.clients;
      }

  -- the client at this index is there now
  abbrev pub client_did : Snapshot programs → ℕ → ClientStage G K → Snapshot programs
  client_did old k stage = record old { clients = slice_set old.clients k stage }
