-- What a server sends, and to whom: of files nothing but blocks that the source gave which its
-- store opened, to the endpoint that asked for the file (RFC 1350, sections 2 and 4).
use Rattle.std.specs.Prelude.{ℕ, ◌≡◌, ◌≤◌, max, ⊤, List, [], ◌∷◌, length, None, Ok}
use Rattle.std.specs.List.{Contains}
use Rattle.tftp_wire.specs.Spelling.{Spells}
use Rattle.tftp_wire.specs.declared.packet.Packet.TheVariants.{Read}
use Rattle.tftp_wire.specs.declared.packet.Request.{Request}
use Rattle.tftp_negotiate.specs.declared.known.Known.{Known}
use Rattle.tftp_negotiate.specs.declared.limits.TheConstants.{DEFAULT_BLOCK}
use Rattle.tftp_file.specs.Path.{path_of_name}
use Rattle.tftp_file.specs.Source.{SourceMeaning, GivesInTurn}
use Rattle.tftp_ends.specs.Opening.{oack_bytes}
use Rattle.tftp_ends.specs.Step.{ack_bytes, data_bytes, error_bytes}
use Rattle.tftp_ends.specs.declared.endpoint.Endpoint.{Endpoint}
use Rattle.tftp_ends.specs.declared.error_reply.ErrorReply.{ErrorReply}
use Rattle.tftp_store.specs.Store.{StoreMeaning}
use Rattle.tftp_server.specs.declared.config.Config.{Config}
use Rattle.tftp_sockets.specs.Trace.{SocketEvent}
use Rattle.tftp_sockets.specs.Trace.SocketEvent.{Received, Sent}
use Rattle.tftp_loop.specs.Run.{Run}
use Rattle.tftp_loop.specs.Steps.{LoopState, LoopStep}

-- a datagram that a server may send: an ERROR, an ACK, an OACK, or DATA whose block is such
pub data IsSaid (IsGiven : List ℕ → Type 0) (bytes : List ℕ) : Type 0 where
  An_error : (reply : ErrorReply) → bytes ≡ error_bytes reply → IsSaid IsGiven bytes
  An_ack : (number : ℕ) → bytes ≡ ack_bytes number → IsSaid IsGiven bytes
  An_oack : (agreed : List Known) → bytes ≡ oack_bytes agreed → IsSaid IsGiven bytes
  A_block : (number : ℕ) (piece : List ℕ) → bytes ≡ data_bytes number piece → IsGiven piece
      → IsSaid IsGiven bytes

-- a source gave these bytes by one call, since it was so
pub record GaveBlock {F : Type 0} (sources : SourceMeaning F) (first : F) (piece : List ℕ)
    : Type 0 where
  pub text : List ℕ
  pub before : F
  pub after : F
  pub earlier : GivesInTurn sources first text before
  pub gave : sources.gives before piece after

-- a datagram was received from the endpoint before, at whatever port
abbrev pub HasWritten : Endpoint → List SocketEvent → Type 0
HasWritten peer events =
    (port : ℕ) × (bytes : List ℕ) × Contains events (Received port peer bytes)

module _ {F : Type 0} (sources : SourceMeaning F) (root : List ℕ) (requests largest : ℕ) where
  -- the endpoint asked at the request port for a file, and a source of this root was opened at its
  -- path and in its mode, of a length that was stated
  pub record Asks (peer : Endpoint) (events : List SocketEvent) : Type 0 where
    pub request : Request
    pub bytes : List ℕ
    pub spells : Spells (Read request) bytes
    pub received : Contains events (Received requests peer bytes)
    pub path : List ℕ
    pub named : path_of_name request.name ≡ Ok path
    pub first : F
    pub stated : ℕ
    pub opened : sources.opens root path request.mode stated first

  -- and that gave the block, which is no longer than the largest block
  pub record AskedFor (peer : Endpoint) (events : List SocketEvent) (piece : List ℕ) : Type 0 where
    pub asks : Asks peer events
    pub open asks use *
    pub gave : GaveBlock sources first piece
    pub long : length piece ≤ largest

module _ (IsGiven : Endpoint → List SocketEvent → List ℕ → Type 0) where
  -- a datagram that was sent goes to an endpoint that sent one before; DATA goes to the one that
  -- asked for its file
  pub record MayLeave (to : Endpoint) (bytes : List ℕ) (earlier : List SocketEvent) : Type 0 where
    pub said : IsSaid (IsGiven to earlier) bytes
    pub written : HasWritten to earlier

  -- an event is no datagram that was sent, or one that may be
  abbrev pub MayHappen : SocketEvent → List SocketEvent → Type 0
  MayHappen (Sent port to bytes) earlier = MayLeave to bytes earlier
  MayHappen event earlier = ⊤

  -- each datagram that was sent since a trace was so may be
  pub data LeavesOnly (before : List SocketEvent) : List SocketEvent → Type 0 where
    At_first : LeavesOnly before before
    And_then : {event : SocketEvent} {events : List SocketEvent} → LeavesOnly before events
        → MayHappen event events → LeavesOnly before (event ∷ events)

-- the largest block that a server sends: as large as its limit, or the default if that is larger
abbrev pub largest_block : Config → ℕ
largest_block config = max DEFAULT_BLOCK config.limits.max_block

module _ {S F D : Type 0} (meaning : StoreMeaning S D) (sources : SourceMeaning F) where
  -- the store has this root as long as the server runs
  abbrev pub HasRoot : List ℕ → LoopState S F D → Type 0
  HasRoot root start =
      (now : LoopState S F D) → Run (LoopStep meaning sources) start now
      → meaning.root now.server.store ≡ root

  -- so it is of each datagram of a run
  abbrev pub SendsOnlyGiven : Type 0
  SendsOnlyGiven =
      (root : List ℕ) (start now : LoopState S F D)
      → start.server.held ≡ [] → start.pending ≡ None → HasRoot root start
      → Run (LoopStep meaning sources) start now
      → LeavesOnly (AskedFor sources root start.requests (largest_block start.server.config))
      start.events now.events
