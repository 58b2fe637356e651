-- The joint run of all programs: whole steps of theirs, one at a time, each of which receives only
-- what was sent in the steps before it, or what is a stranger's, or an ERROR.
use Rattle.std.specs.List.{Contains}
use Rattle.std.specs.Prelude.{ℕ, ◌≡◌, List, Some, slice_get, ◌⊎◌, ◌++◌}
use Rattle.tftp_promises.specs.Common.{SourceMeaning, StoreMeaning, Endpoint, SinkMeaning, LoopStep}
use Rattle.tftp_promises.specs.Common.{LoopState, SocketEvent, Sent, Received, State, Files}
use Rattle.tftp_promises.specs.Joined.{OfJoined}
use Rattle.tftp_promises.specs.Moved.{Moved}
use Rattle.tftp_promises.specs.Order.{Programs, MayCome, ClientOf}
use Rattle.tftp_promises.specs.Others.{DoesOwn}
use Rattle.tftp_promises.specs.Programs.{endpoint}
use Rattle.tftp_promises.specs.ClientRuns.{ClientDoes, client_moves}
use Rattle.tftp_promises.specs.Snapshots.{ClientStage, Unasked, Has_asked, noted_by, Snapshot}
use Rattle.tftp_promises.specs.Snapshots.{nothing_done, just_asked, server_did, client_did, all_of}

module _ {S F D G K : Type 0} {stores : StoreMeaning S D} {sources : SourceMeaning F}
    {inputs : SourceMeaning G} {outputs : SinkMeaning K}
    (programs : Programs stores sources inputs outputs) where
  -- a client has sent these bytes from this endpoint to that one
  pub record ClientHasSent (stages : List (ClientStage G K)) (from to : Endpoint) (bytes : List ℕ)
      : Type 0 where
    pub k : ℕ
    pub client : ClientOf programs
    pub is_client : slice_get programs.clients k ≡ Some client
    pub stage : ClientStage G K
    pub is_stage : slice_get stages k ≡ Some stage
    pub port : ℕ
    pub at : from ≡ endpoint client.ip port
    pub sent : Contains (noted_by stage) (Sent port to bytes)

module _ {S F D G K : Type 0} {stores : StoreMeaning S D} {sources : SourceMeaning F}
    {inputs : SourceMeaning G} {outputs : SinkMeaning K}
    {programs : Programs stores sources inputs outputs} where
  -- the server has
  pub record ServerHasSent (snapshot : Snapshot programs) (from to : Endpoint) (bytes : List ℕ)
      : Type 0 where
    pub port : ℕ
    pub at : from ≡ endpoint programs.ip port
    pub sent : Contains snapshot.noted (Sent port to bytes)

  -- a program has
  abbrev pub WasSentBefore : Snapshot programs → Endpoint → Endpoint → List ℕ → Type 0
  WasSentBefore snapshot from to bytes =
      ServerHasSent snapshot from to bytes ⊎ ClientHasSent programs snapshot.clients from to bytes

  -- what a program at this address receives in these events was sent there, or may come anyhow
  abbrev pub CanTake : Snapshot programs → List ℕ → List SocketEvent → Type 0
  CanTake snapshot ip added =
      (port : ℕ) (from : Endpoint) (bytes : List ℕ) → Contains added (Received port from bytes)
      → WasSentBefore snapshot from (endpoint ip port) bytes ⊎ MayCome programs from bytes

  -- the programs reach this state by whole steps, one at a time
  pub data Joint : Snapshot programs → Type 0 where
    All_begin : Joint (nothing_done programs)
    -- a step of the server
    Server_does : {old : Snapshot programs} {new : LoopState S F D}
        → Joint old → (does : LoopStep stores sources old.state new) (added : List SocketEvent)
        → new.events ≡ added ++ old.state.events → CanTake old programs.ip added
        → Joint (server_did old does added)
    -- a client sends its request
    Client_asks : {old : Snapshot programs} → Joint old → (k : ℕ) (client : ClientOf programs)
        → slice_get programs.clients k ≡ Some client → slice_get old.clients k ≡ Some Unasked
        → Joint (client_did old k (just_asked client))
    -- a step of a client after that
    Client_does : {old : Snapshot programs} {s s' : State} {files files' : Files G K}
        {noted : List SocketEvent} {moved : Moved} → Joint old → (k : ℕ)
        (client : ClientOf programs) → slice_get programs.clients k ≡ Some client
        → slice_get old.clients k ≡ Some (Has_asked s files noted moved)
        → (does : ClientDoes inputs outputs client.port s files s' files')
        → DoesOwn programs.ip programs.others does → (added : List SocketEvent)
        → s'.events ≡ added ++ s.events → CanTake old client.ip added
        → Joint (client_did old k (Has_asked s' files' (added ++ noted) (client_moves does moved)))

module _ {S F D G K : Type 0} (stores : StoreMeaning S D) (sources : SourceMeaning F)
    (inputs : SourceMeaning G) (outputs : SinkMeaning K) where
  -- a joint run leads to the end state of the programs
  abbrev pub TracesAreJoint : Type 0
  TracesAreJoint = OfJoined stores sources inputs outputs (λ programs. Joint (all_of programs))
