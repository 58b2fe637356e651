-- How a sender handles a packet from its peer, in the order of the code's tests. Its table, a
-- statement for each row, is in SenderRows.
use Rattle.std.specs.Prelude.{ℕ, ◌+◌, ◌/◌, nat_lt, ◌==◌, ◌&&◌, Bool, if◌then◌else◌, Option, Some}
use Rattle.std.specs.Prelude.{None}
use Rattle.tftp_wire.specs.declared.packet.Packet.{Packet}
use Rattle.tftp_wire.specs.declared.packet.Packet.TheVariants.{Ack, Error, Oack}
use Rattle.tftp_ends.specs.declared.error_reply.ErrorReply.TheVariants.{IllegalOperation}
use Rattle.tftp_ends.specs.declared.outcome.Outcome.TheVariants as outcomes
use Rattle.tftp_ends.specs.declared.phase.Terms.{Terms}
use Rattle.tftp_ends.specs.declared.action.Action.{Action}
use Rattle.tftp_ends.specs.declared.action.Action.TheVariants.{Respond, Send}
use Rattle.tftp_ends.specs.declared.action.Response.TheVariants.{Ignore, Close, Refuse, Complete}

-- a packet that is not valid in this state
abbrev pub illegal_action : Terms → Action
illegal_action terms = Respond (Refuse (Some terms) IllegalOperation outcomes.Illegal)

-- an ERROR from the peer
abbrev pub peer_error : ℕ → Action
peer_error code = Respond (Close (outcomes.PeerError code))

-- an ACK of the newest block requests the next one, or ends the transfer; an older one is ignored
abbrev pub acked_action : ℕ → Terms → ℕ → ℕ → Action
acked_action length terms number acked =
    if acked == number then
    (if nat_lt number (length / terms.size + 1) then Send terms (number + 1) else Respond Complete)
    else if nat_lt acked number then Respond Ignore else illegal_action terms

-- how a sender handles a packet; `client` says that it is a client's end
abbrev pub sender_action : Bool → ℕ → Terms → ℕ → Option Packet → Action
sender_action client length terms number None = illegal_action terms
sender_action client length terms number (Some (Ack acked)) = acked_action length terms number acked
sender_action client length terms number (Some (Error code text)) = peer_error code
sender_action client length terms number (Some (Oack options)) =
    if client && terms.by_oack then Respond Ignore else illegal_action terms
sender_action client length terms number (Some _) = illegal_action terms
