-- The promises of a transfer in the end state of the traces, over any store and any files: what
-- moved at an end is read off its run.
use Rattle.std.specs.Prelude.{ℕ, ◌≡◌, List, Some, [], slice_get, ◌⊎◌, true, false, length, Ok}
use Rattle.std.specs.Prelude.{Option, not}
use Rattle.tftp_promises.specs.Common.{SourceMeaning, StoreMeaning, Endpoint, SinkMeaning, EndState}
use Rattle.tftp_promises.specs.Common.{is_complete, TransferState, is_sender, Spells, record_of}
use Rattle.tftp_promises.specs.Common.{Sink, Opening, wire_text, is_client, path_of_name, Source}
use Rattle.tftp_rules.specs.OpenEnds.{received_text}
use Rattle.tftp_rules.specs.Safety.{AreSafe, SafetyView}
use Rattle.tftp_promises.specs.ClientRuns.{moved_in}
use Rattle.tftp_promises.specs.Drafts.{HadStore, StoreBegan, TookSince}
use Rattle.tftp_promises.specs.Given.{GaveSince, StoreOpened}
use Rattle.tftp_promises.specs.Moved.{Moved}
use Rattle.tftp_promises.specs.Openings.{moved_at, opened_at}
use Rattle.tftp_promises.specs.Order.{Programs, IsStranger, ClientOf}
use Rattle.tftp_promises.specs.Programs.{endpoint, client_at, name_of, request_packet}
use Rattle.tftp_promises.specs.Network.{HasOpened}

-- an end in the end state of the traces: its endpoint, its state, and what moved between its file
-- and its datagrams
pub record ProgramEnd : Type 0 where
  pub address : Endpoint
  pub state : EndState
  pub moved : Moved

-- its peer
abbrev pub peer_of : ProgramEnd → Option Endpoint
peer_of x = (record_of x.state).peer

-- what a receiver has of its peer's text: what its file was handed, as wire text, and the text held
-- back
abbrev pub has_of : ProgramEnd → List ℕ
has_of x = received_text x.state x.moved.bytes

-- what is claimed of an end: what its file gave, or what it has
abbrev pub safety_of : ProgramEnd → SafetyView
safety_of x =
    record {
      address = x.address;
      client = is_client x.state.role.side;
      sender = is_sender x.state.role.side;
      mode = x.state.role.mode;
      peer = peer_of x;
      size = (record_of x.state).size;
      complete = is_complete x.state.position.phase;
      sent = x.moved.bytes;
      length = x.state.role.length;
      has = has_of x;
      committed = x.moved.committed;
    }

module _ {S F D G K : Type 0} {stores : StoreMeaning S D} {sources : SourceMeaning F}
    {inputs : SourceMeaning G} {outputs : SinkMeaning K}
    (programs : Programs stores sources inputs outputs) where
  -- the end of a client
  abbrev pub client_end : ClientOf programs → ProgramEnd
  client_end client =
      record {
        address = client_at client;
        state = client.last.end;
        moved = moved_in client.runs;
      }

  -- the end of a transfer of the server, at this place
  abbrev pub transfer_end : TransferState F D → Endpoint → ProgramEnd
  transfer_end transfer a =
      record {
        address = a;
        state = transfer.end;
        moved = moved_at programs a programs.server.run;
      }

  -- an end of the programs: that of a client, or of a transfer that the server holds or has closed
  abbrev pub IsEnd : ProgramEnd → Type 0
  IsEnd x =
      ((k : ℕ) × (client : ClientOf programs)
      × (slice_get programs.clients k ≡ Some client) × (x ≡ client_end client))
      ⊎ ((port : ℕ) × (transfer : TransferState F D) × (a : Endpoint)
      × HasOpened programs port transfer a × (x ≡ transfer_end transfer a))

  -- the endpoint is no stranger's
  abbrev pub IsOurs : Endpoint → Type 0
  IsOurs a = IsStranger programs a → ⊥

  -- a transfer of the server at this endpoint is the client's: it has the client as its peer, the
  -- datagram that opened it spells the client's request, and its path is that of the client's name
  pub record ServesClient (p : Endpoint) (client : ClientOf programs) : Type 0 where
    pub port : ℕ
    pub transfer : TransferState F D
    pub opened : HasOpened programs port transfer p
    pub server : is_client transfer.end.role.side ≡ false
    pub peer : peer_of (transfer_end transfer p) ≡ Some (client_at client)
    -- one of the two sends, and the other receives
    pub other : is_sender transfer.end.role.side ≡ not (is_sender client.last.end.role.side)
    pub asked : Spells (request_packet client.opens) transfer.request
    pub path : path_of_name (name_of client.opens) ≡ Ok transfer.path

  -- the server opened the transfer for this path, as its store answered then, and in this role
  pub record WasOpened (transfer : TransferState F D) (a : Endpoint) : Type 0 where
    pub opening : TransferState F D
    pub opened : opened_at programs a programs.server.run ≡ Some opening
    pub path : opening.path ≡ transfer.path
    pub role : opening.end.role ≡ transfer.end.role

  -- the store opened a file for the request of the transfer, under its path and in its mode, and
  -- the source of that file has given since, call by call, what the transfer sent
  pub record WasGiven (transfer : TransferState F D) (a : Endpoint) : Type 0 where
    pub opening : Opening F
    pub first : StoreOpened programs.server.run transfer.path transfer.request
        transfer.end.role.mode opening
    -- which measured it so
    pub long : transfer.end.role.length ≡ opening.length
    pub source : F
    pub is_source : transfer.files ≡ Source source
    pub since : GaveSince sources opening.source transfer.end
        (moved_at programs a programs.server.run).bytes source

  -- the store began a draft for the request of the transfer, under its path and in its mode, and
  -- that has taken since, call by call, what the transfer handed to it; once the transfer is
  -- complete, a commit after that succeeded
  pub record WasTaken (transfer : TransferState F D) (a : Endpoint) : Type 0 where
    pub began_with : D
    pub began : StoreBegan programs.server.run transfer.path transfer.request
        transfer.end.role.mode programs.server.start.server.config.overwrite began_with
    pub draft : D
    pub is_draft : transfer.files ≡ Sink draft
    pub since : TookSince stores (HadStore programs.server.run) transfer.path
        programs.server.start.server.config.overwrite began_with transfer.end
        (moved_at programs a programs.server.run).bytes draft

  -- the source that a client began with has given since, call by call, what the client sent
  pub record WasGivenBy (client : ClientOf programs) : Type 0 where
    pub first : G
    pub is_first : client.file ≡ Source first
    pub source : G
    pub is_source : client.files ≡ Source source
    pub since : GaveSince inputs first client.last.end (moved_in client.runs).bytes source

  -- the file of a client, once it is complete: what it was handed, as wire text, is all that the
  -- source gave, call by call, that the server's store opened for this client's request, under the
  -- path of the name that it asked for; and it is committed
  pub record HasGot (client : ClientOf programs) : Type 0 where
    pub peer : Endpoint
    pub serves : ServesClient peer client
    pub given : WasGiven serves.transfer peer
    pub same_mode : serves.transfer.end.role.mode ≡ client.first.role.mode
    pub sent : wire_text client.first.role.mode (moved_in client.runs).bytes
        ≡ (moved_at programs peer programs.server.run).bytes
    pub no_more : given.since.rest ≡ []
    pub measured : length (moved_at programs peer programs.server.run).bytes ≡ given.opening.length
    pub committed : (moved_in client.runs).committed ≡ true

  -- the file of a client, once it has sent all of it: what the client's source gave is, as wire
  -- text, all that the draft took, call by call, that the server's store began for this client's
  -- request, under the path of its name; and a commit of that succeeded
  pub record HasPut (client : ClientOf programs) : Type 0 where
    pub peer : Endpoint
    pub serves : ServesClient peer client
    pub given : WasGivenBy client
    pub taken : WasTaken serves.transfer peer
    pub same_mode : serves.transfer.end.role.mode ≡ client.first.role.mode
    pub stored : wire_text client.first.role.mode (moved_at programs peer programs.server.run).bytes
        ≡ (moved_in client.runs).bytes
    pub no_more : given.since.rest ≡ []
    pub measured : length (moved_in client.runs).bytes ≡ client.first.role.length
    pub complete : is_complete serves.transfer.end.position.phase ≡ true
    pub committed : (moved_at programs peer programs.server.run).committed ≡ true

  -- the promises of a transfer
  pub record KeepAnyFiles : Type 0 where
    -- the transfers are safe: what a receiver was handed is what its peer's file gave
    pub safe : AreSafe safety_of IsEnd IsOurs
    -- no two ends share an endpoint
    pub unique : (x y : ProgramEnd) → IsEnd x → IsEnd y → x.address ≡ y.address → x ≡ y
    -- the peer of a client is a transfer of the server, which is the client's: of the file that it
    -- asked for
    pub served : (k : ℕ) (client : ClientOf programs) (p : Endpoint) →
        slice_get programs.clients k ≡ Some client → peer_of (client_end client) ≡ Some p →
        ServesClient p client
    -- a transfer is at its port, unless its peer is a stranger
    pub at_port : (port : ℕ) (transfer : TransferState F D) (a p : Endpoint) →
        HasOpened programs port transfer a → peer_of (transfer_end transfer a) ≡ Some p →
        IsOurs p → a ≡ endpoint programs.ip port
    -- what a transfer sends was opened under its path, and what it stores was begun under its path
    pub opened : (port : ℕ) (transfer : TransferState F D) (a : Endpoint) →
        HasOpened programs port transfer a → WasOpened transfer a
    -- what a transfer sends was given by the source that the store opened for it
    pub given : (port : ℕ) (transfer : TransferState F D) (a : Endpoint) →
        HasOpened programs port transfer a → is_sender transfer.end.role.side ≡ true →
        WasGiven transfer a
    -- what a transfer stores was taken by the draft that the store began for it
    pub taken : (port : ℕ) (transfer : TransferState F D) (a : Endpoint) →
        HasOpened programs port transfer a → is_sender transfer.end.role.side ≡ false →
        WasTaken transfer a
    -- and what it sends all, once a client that received it is complete
    pub got : (k : ℕ) (client : ClientOf programs) →
        slice_get programs.clients k ≡ Some client → is_sender client.first.role.side ≡ false →
        is_complete client.last.end.position.phase ≡ true → HasGot client
    -- what a client sends was given by its source
    pub gave : (k : ℕ) (client : ClientOf programs) → slice_get programs.clients k ≡ Some client →
        is_sender client.first.role.side ≡ true → WasGivenBy client
    -- and all of it, once the client is complete
    pub put : (k : ℕ) (client : ClientOf programs) →
        slice_get programs.clients k ≡ Some client → is_sender client.first.role.side ≡ true →
        is_complete client.last.end.position.phase ≡ true → HasPut client
