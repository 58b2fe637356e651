-- A note of a pending datagram reads no port. For five other files.
use Rattle.std.proofs.Common.{rules}
use Rattle.tftp_loop.proofs.Common.{◌≡◌, ℕ, Bool, List, SourceMeaning, Endpoint, StoreMeaning, LoopState, RequestNote}
use Rattle.tftp_loop.proofs.Common.{note_event}
use Rattle.tftp_sockets.specs.Quiet.{drained_by, tried_by}

module _ {S F D : Type 0} {meaning : StoreMeaning S D} {sources : SourceMeaning F} {s : LoopState S F D}
    {from : Endpoint} {bytes : List ℕ} (port : ℕ) (before : Bool) where
  -- a note about a pending datagram changes no port's tries
  pub note_tried : (note : RequestNote meaning sources s from bytes) → tried_by port (note_event note) before ≡ before
  note_tried note = search rules

  -- nor which port is drained
  pub note_drained : (note : RequestNote meaning sources s from bytes) → drained_by port (note_event note) before ≡ before
  note_drained note = search rules
