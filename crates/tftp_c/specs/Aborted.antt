-- A transfer that its caller ends by an ERROR, for C.
use Rattle.std.specs.Prelude.{ℕ, ◌≡◌, ◌≤◌, false, List, length, Option, Some, None, IsSome}
use Rattle.tftp_wire.specs.Spelling.{canonical}
use Rattle.tftp_wire.specs.Texts.{IsText}
use Rattle.tftp_wire.specs.declared.packet.Packet.TheVariants.{Error}
use Rattle.tftp_ends.specs.declared.record.Record.{Record}
use Rattle.tftp_ends.specs.End.{record_of, seconds_of}
use Rattle.tftp_server.specs.State.{at, without}
use Rattle.tftp_c.specs.declared.aborting.AbortFault.{AbortFault}
use Rattle.tftp_c.specs.declared.aborting.AbortFault.TheVariants.{Over, BadText, Memory}
use Rattle.tftp_c.specs.declared.client.Client.{Client}
use Rattle.tftp_c.specs.declared.event.TftpEvent.{TftpEvent}
use Rattle.tftp_c.specs.HeldServer.{CallersTransfer, Table}
use Rattle.tftp_c.specs.Reports.{Sends}

-- an ERROR may have this text: no zero byte, and at most 512 bytes with the rest
pub record MayTell (text : List ℕ) : Type 0 where
  pub is_text : IsText text
  pub fits : length text ≤ 507

-- the ERROR is for the peer, if there is one yet, and the file is not whole: a caller that could not
-- store its last block has not acknowledged it
pub record Tells (r : Record) (error reply : List ℕ) (event : TftpEvent) : Type 0 where
  pub sends : Sends r.peer error reply event
  pub file : event.file_len ≡ 0
  pub progress : event.progress ≡ false
  pub complete : event.complete ≡ false
  pub outcome : event.outcome ≡ 10
  pub peer_code : event.peer_code ≡ 0
  pub number : event.number ≡ r.number
  pub interval : event.interval ≡ seconds_of r.timeout
  pub size : event.block_size ≡ r.size

-- the end was open, and is aborted
pub record AbortsOpen (r : Record) (code : ℕ) (text reply : List ℕ) (event : TftpEvent) : Type 0
  where
    pub still : r.outcome ≡ None
    pub tells : MayTell text
    pub error : Tells r (canonical (Error code text)) reply event

-- the number of a fault, where `over` is that of a transfer which is over
abbrev pub abort_number : ℕ → AbortFault → ℕ
abort_number over Over = over
abort_number over BadText = 2
abort_number over Memory = 3

-- it is not aborted: it is over, no ERROR has the text, or memory is lacking
abbrev pub AbortFails : Record → List ℕ → AbortFault → Type 0
AbortFails r text Over = IsSome r.outcome
AbortFails r text BadText = (r.outcome ≡ None) × (MayTell text → ⊥)
AbortFails r text Memory = (r.outcome ≡ None) × MayTell text

-- a call returns the number of such a fault
pub record AbortRefused (over : ℕ) (r : Record) (text : List ℕ) (returned : ℕ) : Type 0 where
  pub fault : AbortFault
  pub number : returned ≡ abort_number over fault
  pub why : AbortFails r text fault

-- the record of the end that is held
abbrev pub OnRecord : Option Client → (Record → Type 0) → Type 0
OnRecord None holds = ⊥
OnRecord (Some c) holds = holds (record_of c.end)

-- the transfer that may be there is not aborted
abbrev pub FaultOf : Option CallersTransfer → List ℕ → ℕ → Type 0
FaultOf None text returned = returned ≡ 9
FaultOf (Some transfer) text returned = AbortRefused 9 (record_of transfer.end) text returned

-- the transfer of this number is aborted, and gone; nothing else changes
pub record AbortsAt (tid code : ℕ) (text reply : List ℕ) (event : TftpEvent) (old new : Table)
    : Type 0 where
  pub transfer : CallersTransfer
  pub found : at tid old.held ≡ Some transfer
  pub aborts : AbortsOpen (record_of transfer.end) code text reply event
  pub removed : new ≡ record old { held = without tid old.held }

-- it is not: no transfer has the number, or it is over, or no ERROR has the text, or memory is lacking
abbrev pub AtFault : ℕ → List ℕ → Table → ℕ → Type 0
AtFault tid text table returned = FaultOf (at tid table.held) text returned
