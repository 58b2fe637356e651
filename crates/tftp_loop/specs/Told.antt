-- What is told of the transfers, for whoever counts it.
use Rattle.std.specs.Prelude.{ℕ, ◌≡◌, ◌-◌, ◌==◌, ◌&&◌, List, [], ◌∷◌, length, nat_eq, if◌then◌else◌}
use Rattle.std.specs.Prelude.{Option, None, Some}
use Rattle.std.specs.Cmp.Lexicographic.{pointwise}
use Rattle.tftp_ends.specs.Step.{error_bytes}
use Rattle.tftp_ends.specs.declared.endpoint.Endpoint.{Endpoint}
use Rattle.tftp_ends.specs.declared.error_reply.ErrorReply.TheVariants.{ServerBusy}
use Rattle.tftp_ends.specs.declared.outcome.Outcome.{Outcome}
use Rattle.tftp_ends.specs.declared.record.Record.{Record}
use Rattle.tftp_ends.specs.declared.side.Side.{Side}
use Rattle.tftp_ends.specs.declared.side.Side.TheVariants as sides
use Rattle.tftp_sockets.specs.Told.{and_told}
use Rattle.tftp_sockets.specs.declared.entry.Direction.{Direction}
use Rattle.tftp_sockets.specs.declared.entry.Direction.TheVariants.{Read, Write}
use Rattle.tftp_sockets.specs.declared.entry.Entry.{Entry}
use Rattle.tftp_sockets.specs.declared.entry.Entry.TheVariants.{Closed, Refused, Busy, Ignored}

-- what happened by an answer to a datagram that opened no transfer
abbrev pub unopened_entry : List ℕ → Entry
unopened_entry [] = Ignored
unopened_entry (high ∷ rest) =
    if pointwise nat_eq (high ∷ rest) (error_bytes ServerBusy) then Busy else Refused

-- which way the file goes that a request asks for (RFC 1350, section 5)
abbrev pub direction_asked : List ℕ → Direction
direction_asked (high ∷ low ∷ rest) = if (high == 0) && (low == 1) then Read else Write
direction_asked (high ∷ []) = Write
direction_asked [] = Write

-- which way the file of an end goes
abbrev pub direction_of : Side → Direction
direction_of sides.ClientRead = Read
direction_of sides.ServerRead = Read
direction_of sides.ClientWrite = Write
direction_of sides.ServerWrite = Write

-- the close of a transfer of this end with this outcome, whatever was sent and received
abbrev pub IsClosedBy : Side → Outcome → Entry → Type 0
IsClosedBy side outcome (Closed direction ended bytes again) =
    (direction ≡ direction_of side) × (ended ≡ outcome)
IsClosedBy side outcome entry = ⊥

-- the close of an end with this outcome is told, if it has one
abbrev pub IsOutcomeTold : Side → Option Outcome → Option (List Entry) → Option (List Entry) → Type 0
IsOutcomeTold side None before after = after ≡ before
IsOutcomeTold side (Some outcome) before after =
    (entry : Entry) × (IsClosedBy side outcome entry × (after ≡ and_told entry before))

-- the close of a transfer with this record is told, if there is one
abbrev pub IsCloseTold : Option Record → Option (List Entry) → Option (List Entry) → Type 0
IsCloseTold None before after = after ≡ before
IsCloseTold (Some r) before after = IsOutcomeTold r.side r.outcome before after

-- one entry is told
abbrev pub IsToldOnce : Option (List Entry) → Option (List Entry) → Type 0
IsToldOnce before after = (entry : Entry) × (after ≡ and_told entry before)

-- one entry is told, unless a datagram stays pending: then none is
abbrev pub IsToldUnlessKept : Option (Endpoint × ℕ) → Option (List Entry) → Option (List Entry) → Type 0
IsToldUnlessKept None before after = IsToldOnce before after
IsToldUnlessKept (Some pending) before after = after ≡ before

-- the bytes behind the header of a datagram that begins as a DATA (RFC 1350, section 5)
abbrev pub data_length : List ℕ → ℕ
data_length (high ∷ low ∷ rest) = if (high == 0) && (low == 3) then length rest - 2 else 0
data_length (high ∷ []) = 0
data_length [] = 0
