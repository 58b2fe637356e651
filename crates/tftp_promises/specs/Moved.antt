-- What moved between the file of a server's end and its datagrams, by the run of the server; and of
-- a client's, as `tftp_client` has it.
use Rattle.std.specs.Prelude.{ℕ, List, Some, [], false, None, if◌then◌else◌, Bool, ◌==◌, Option}
use Rattle.std.specs.Prelude.{drop}
use Rattle.tftp_promises.specs.Common.{SourceMeaning, StoreMeaning, EndState, TransferState}
use Rattle.tftp_promises.specs.Common.{PortStep, PortState, drafting_sink, A_transfer}
use Rattle.tftp_ends.specs.End.{number_of}
use Rattle.tftp_server.specs.Draft.{files_in}
use Rattle.tftp_server.specs.Request.{Came}
use Rattle.tftp_loop.specs.Steps.{A_datagram}
pub use Rattle.tftp_client.specs.Moved.{Moved, nothing_moved, with_more, commits_after, acts_move}
pub use Rattle.tftp_client.specs.Moved.{step_moves, handling_moves}

-- the data of a DATA (RFC 1350, section 5)
abbrev pub data_in : List ℕ → List ℕ
data_in bytes = drop 4 bytes

-- what has moved at an end as it opens: the block of its DATA 1, if it sent one
abbrev pub first_moved : EndState → Moved
first_moved e =
    record {
      bytes = if number_of e.position.phase == 1 then data_in e.position.last_sent else [];
      committed = false;
    }

module _ {S F D : Type 0} where
  -- the transfer that opened, if this is its place
  abbrev pub came_if : Bool → Came S F D → Option (TransferState F D)
  came_if here (A_transfer held store) = if here then Some held else None
  came_if here came = None

module _ {F D : Type 0} where
  -- the last of both
  abbrev pub or_before : Option (TransferState F D) → Option (TransferState F D)
      → Option (TransferState F D)
  or_before (Some now) before = Some now
  or_before None before = before

  -- what has moved after an opening, if there is one
  abbrev pub opening_moves : Option (TransferState F D) → Moved → Moved
  opening_moves (Some held) moved = first_moved held.end
  opening_moves None moved = moved

module _ {S F D : Type 0} {stores : StoreMeaning S D} {sources : SourceMeaning F} where
  -- what has moved after a step at the port of a transfer
  abbrev pub port_moves : {now : ℕ} {old new : PortState S F D}
      → PortStep stores sources now old new → Moved → Moved
  port_moves {old = old} {new = new} (A_datagram h) moved =
      let taken = h.handles.takes in
      step_moves sources (drafting_sink stores) h.from h.bytes taken.transfer.end
      (files_in old.server.store taken.transfer.path old.server.config.overwrite
      taken.transfer.files) taken.takes.turn
      (files_in new.server.store taken.next.path old.server.config.overwrite taken.next.files)
      taken.takes.steps moved
  port_moves does moved = moved
