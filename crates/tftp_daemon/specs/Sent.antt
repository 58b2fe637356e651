-- What of the disk a server sends: blocks of what reads of the files that were asked for returned.
use Rattle.std.specs.Prelude.{ℕ, ◌≡◌, ◌≤◌, List, [], ◌++◌, length, None, Ok}
use Rattle.std.specs.List.{Contains}
use Rattle.std.specs.String.{string_bytes}
use Rattle.tftp_wire.specs.Spelling.{Spells}
use Rattle.tftp_wire.specs.declared.packet.Packet.TheVariants.{Read}
use Rattle.tftp_wire.specs.declared.packet.Request.{Request}
use Rattle.tftp_file.specs.Path.{path_of_name}
use Rattle.tftp_file.specs.Source.{SourceMeaning}
use Rattle.tftp_disk.specs.DiskSourceLaws.{GivenInOrder}
use Rattle.tftp_disk.specs.DiskTrace.{DiskEvent}
use Rattle.tftp_ends.specs.declared.endpoint.Endpoint.{Endpoint}
use Rattle.tftp_store.specs.Store.{StoreMeaning}
use Rattle.tftp_sockets.specs.Trace.{SocketEvent}
use Rattle.tftp_sockets.specs.Trace.SocketEvent.{Received}
use Rattle.tftp_loop.specs.Leaving.{LeavesOnly, largest_block}
use Rattle.tftp_loop.specs.Run.{Run}
use Rattle.tftp_loop.specs.Steps.{LoopState, LoopStep}
use Rattle.tftp_folder.specs.Source.{OpensSource, text_of}
use Rattle.tftp_folder.specs.declared.folder_source.FolderSource.{FolderSource}
use Rattle.tftp_folder.specs.declared.folder_store.FolderStore.{FolderStore}

module _ {V : Type 0} (F : Type 0) (log : V → List DiskEvent) (root : List ℕ)
    (requests largest : ℕ) where
  -- the endpoint asked at the request port for a file. It was found in the folder at that path and
  -- opened, and what was sent of it before, and then the block, is a beginning of the wire text of
  -- what reads of it returned. The block is no longer than the largest one
  pub record IsOfFile (peer : Endpoint) (events : List SocketEvent) (piece : List ℕ) : Type 0 where
    pub request : Request
    pub bytes : List ℕ
    pub spells : Spells (Read request) bytes
    pub received : Contains events (Received requests peer bytes)
    pub path : List ℕ
    pub named : path_of_name request.name ≡ Ok path
    pub first : FolderSource V F
    pub stated : ℕ
    pub opened : OpensSource log root path request.mode stated first
    pub last : FolderSource V F
    pub text : List ℕ
    pub given : GivenInOrder (text_of first) (text_of last) (text ++ piece)
    pub long : length piece ≤ largest

-- so it is of each block that a server of a folder sends, from a time at which it holds no transfer
abbrev pub OnlyAskedFilesLeave : {V F G H K L D : Type 0} (log : V → List DiskEvent)
    → StoreMeaning (FolderStore G H K L) D → SourceMeaning (FolderSource V F) → Type 0
OnlyAskedFilesLeave {V} {F} {G} {H} {K} {L} {D} log meaning sources =
    (start now : LoopState (FolderStore G H K L) (FolderSource V F) D)
    → start.server.held ≡ [] → start.pending ≡ None → Run (LoopStep meaning sources) start now
    → LeavesOnly (IsOfFile F log (string_bytes start.server.store.folder.root) start.requests
    (largest_block start.server.config)) start.events now.events
