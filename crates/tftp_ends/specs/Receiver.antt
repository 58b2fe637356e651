-- How a receiver handles a packet from its peer, in the order of the code's tests. Its table, a
-- statement for each row, is in ReceiverRows.
use Rattle.std.specs.Prelude.{ℕ, ◌+◌, nat_lt, ◌==◌, ◌&&◌, Bool, if◌then◌else◌, List, length, Option}
use Rattle.std.specs.Prelude.{Some, None}
use Rattle.tftp_wire.specs.declared.mode.Mode.{Mode}
use Rattle.tftp_wire.specs.declared.packet.Packet.{Packet}
use Rattle.tftp_wire.specs.declared.packet.Packet.TheVariants.{Data, Error, Oack}
use Rattle.tftp_ends.specs.declared.error_reply.ErrorReply.TheVariants.{FileTooLarge, NotNetascii}
use Rattle.tftp_ends.specs.declared.outcome.Outcome.TheVariants as outcomes
use Rattle.tftp_ends.specs.declared.phase.Terms.{Terms}
use Rattle.tftp_ends.specs.declared.action.Action.{Action}
use Rattle.tftp_ends.specs.declared.action.Action.TheVariants.{Respond, Store}
use Rattle.tftp_ends.specs.declared.action.Response.{Response}
use Rattle.tftp_ends.specs.declared.action.Response.TheVariants.{Ignore, ResendReply, Refuse}
use Rattle.tftp_ends.specs.Sender.{illegal_action, peer_error}
use Rattle.tftp_ends.specs.Text.{is_readable}

-- the next block is stored, if it is a block of this transfer
abbrev pub next_action : Mode → List ℕ → Terms → ℕ → List ℕ → Action
next_action mode held terms number bytes =
    if nat_lt terms.size (length bytes) then illegal_action terms
    else if number == 65535 && (length bytes == terms.size)
    then Respond (Refuse (Some terms) FileTooLarge outcomes.TooLarge)
    else if is_readable mode held bytes (nat_lt (length bytes) terms.size) then Store terms number
    else Respond (Refuse (Some terms) NotNetascii outcomes.NotNetascii)

-- the newest block is acknowledged again, an older one is ignored, and none may be skipped
abbrev pub data_action : Mode → List ℕ → Terms → ℕ → ℕ → List ℕ → Action
data_action mode held terms stored number bytes =
    if number == stored then Respond ResendReply
    else if nat_lt number stored then Respond Ignore
    else if number == stored + 1 then next_action mode held terms number bytes
    else illegal_action terms

-- how a receiver handles a packet; `client` says that it is a client's end
abbrev pub receiver_action : Bool → Mode → List ℕ → Terms → ℕ → Option Packet → Action
receiver_action client mode held terms stored None = illegal_action terms
receiver_action client mode held terms stored (Some (Data number bytes)) =
    data_action mode held terms stored number bytes
receiver_action client mode held terms stored (Some (Error code text)) = peer_error code
receiver_action client mode held terms stored (Some (Oack options)) =
    if client && terms.by_oack then (if stored == 0 then Respond ResendReply else Respond Ignore)
    else illegal_action terms
receiver_action client mode held terms stored (Some _) = illegal_action terms

-- a dallying receiver acknowledges the last block again, and ignores all else
abbrev pub dally_response : ℕ → Option Packet → Response
dally_response stored (Some (Data number bytes)) = if number == stored then ResendReply else Ignore
dally_response stored _ = Ignore
