-- What leaves a server of a folder was read from the files that were asked for.
-- For the law only_what_was_asked_leaves_the_folder.
use Rattle.std.proofs.Common.{◌≡◌, List, ◌++◌, ◌∙◌, ℕ}
use Rattle.std.specs.String.{string_bytes}
use Rattle.tftp_wire.specs.declared.mode.Mode.{Mode}
use Rattle.tftp_file.specs.Source.{SourceMeaning, Gave_more}
use Rattle.tftp_disk.specs.DiskTrace.{DiskEvent}
use Rattle.tftp_ends.specs.declared.endpoint.Endpoint.{Endpoint}
use Rattle.tftp_store.specs.Store.{StoreMeaning}
use Rattle.tftp_sockets.specs.Trace.{SocketEvent}
use Rattle.tftp_sockets.specs.Trace.SocketEvent.{Received, Sent, Elapsed, Printed, Quiet}
use Rattle.tftp_loop.specs.Leaving.{AskedFor, IsSaid, An_error, An_ack, An_oack, A_block, LeavesOnly, At_first, And_then}
use Rattle.tftp_loop.specs.Leaving.{MayHappen, SendsOnlyGiven, largest_block}
use Rattle.tftp_folder.specs.Settings.{SameSettings}
use Rattle.tftp_folder.specs.Source.{GivesFile, OpensSource}
use Rattle.tftp_folder.specs.declared.folder_source.FolderSource.{FolderSource}
use Rattle.tftp_folder.specs.declared.folder_store.FolderStore.{FolderStore}
use Rattle.tftp_daemon.specs.Leaves.{RunLeaves}
use Rattle.tftp_daemon.specs.Sent.{IsOfFile, OnlyAskedFilesLeave}

-- ---- of any two kinds of blocks
module _ (P Q : Endpoint → List SocketEvent → List ℕ → Type 0)
    (more : (peer : Endpoint) (events : List SocketEvent) (piece : List ℕ) → P peer events piece → Q peer events piece)
  where
    said_so : (peer : Endpoint) (events : List SocketEvent) (bytes : List ℕ) → IsSaid (P peer events) bytes
        → IsSaid (Q peer events) bytes
    said_so peer events bytes (An_error reply is) = An_error reply is
    said_so peer events bytes (An_ack number is) = An_ack number is
    said_so peer events bytes (An_oack agreed is) = An_oack agreed is
    said_so peer events bytes (A_block number piece is given) = A_block number piece is (more peer events piece given)

    happens_so : (event : SocketEvent) (events : List SocketEvent) → MayHappen P event events → MayHappen Q event events
    happens_so (Sent port to bytes) events may = record { said = said_so to events bytes may.said; written = may.written }
    happens_so (Received port from bytes) events may = tt
    happens_so (Elapsed port time) events may = tt
    happens_so (Printed line) events may = tt
    happens_so (Quiet event) events may = tt
    happens_so event events may = tt

    leaves_so : (before after : List SocketEvent) → LeavesOnly P before after → LeavesOnly Q before after
    leaves_so before after At_first = At_first
    leaves_so before after (And_then {event} {events} leaves may) =
        And_then (leaves_so before events leaves) (happens_so event events may)

module _ {V F G H K L D : Type 0} (log : V → List DiskEvent) (meaning : StoreMeaning (FolderStore G H K L) D)
    (sources : SourceMeaning (FolderSource V F)) (root : List ℕ)
    (requests largest : ℕ) where
  -- what was given of a source is of its file
  of_file : ((path : List ℕ) (mode : Mode) (stated : ℕ) (source : FolderSource V F)
      → sources.opens root path mode stated source → OpensSource log root path mode stated source)
      → GivesFile log sources → (peer : Endpoint) (events : List SocketEvent) (piece : List ℕ)
      → AskedFor sources root requests largest peer events piece → IsOfFile F log root requests largest peer events piece
  of_file opens gives peer events piece asked =
      let opened = opens asked.path asked.request.mode asked.stated asked.first asked.opened in
      record {
        request = asked.request;
        bytes = asked.bytes;
        spells = asked.spells;
        received = asked.received;
        path = asked.path;
        named = asked.named;
        first = asked.first;
        stated = asked.stated;
        opened = opened;
        last = asked.gave.after;
        text = asked.gave.text;
        given = gives root asked.path asked.request.mode asked.stated asked.first asked.gave.after
            (asked.gave.text ++ piece) opened
            (Gave_more asked.gave.earlier asked.gave.gave);
        long = asked.long;
      }

module _ {V F G H K L D : Type 0} (log : V → List DiskEvent) (meaning : StoreMeaning (FolderStore G H K L) D)
    (sources : SourceMeaning (FolderSource V F)) where
  -- the law
  pub only_asked_files_leave : ((store : FolderStore G H K L) → meaning.root store ≡ string_bytes store.folder.root)
      → ((root path : List ℕ) (mode : Mode) (stated : ℕ) (source : FolderSource V F)
      → sources.opens root path mode stated source → OpensSource log root path mode stated source)
      → GivesFile log sources → RunLeaves SameSettings meaning sources → SendsOnlyGiven meaning sources
      → OnlyAskedFilesLeave log meaning sources
  only_asked_files_leave rooted opens gives keeps sends start now none idle run =
      let root = string_bytes start.server.store.folder.root in
      let largest = largest_block start.server.config in
      leaves_so (AskedFor sources root start.requests largest) (IsOfFile F log root start.requests largest)
      (of_file log meaning sources root start.requests largest (opens root) gives) start.events now.events
      (sends root start now none idle
      (λ later ran. rooted later.server.store ∙ (keeps start later ran).root) run)
