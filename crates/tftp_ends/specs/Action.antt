-- How an end handles an event, in every role and phase.
use Rattle.std.specs.Prelude.{ℕ, ◌≡◌, ◌==◌, ◌&&◌, not, Bool, nat_eq, if◌then◌else◌, List, Option}
use Rattle.std.specs.Prelude.{Some, None, is_none}
use Rattle.std.specs.Cmp.Lexicographic.{pointwise}
use Rattle.tftp_wire.specs.declared.packet.Packet.{Packet}
use Rattle.tftp_wire.specs.declared.fault.PacketFault.{PacketFault}
use Rattle.tftp_wire.specs.Spelling.{Spells}
use Rattle.tftp_wire.specs.Reading.{first_fault, has_error_opcode}
use Rattle.tftp_ends.specs.declared.endpoint.Endpoint.{Endpoint}
use Rattle.tftp_ends.specs.declared.outcome.Outcome.TheVariants as outcomes
use Rattle.tftp_ends.specs.declared.phase.Dally.TheVariants.{Fresh, Waited}
use Rattle.tftp_ends.specs.declared.phase.Phase.{Phase}
use Rattle.tftp_ends.specs.declared.phase.Phase.TheVariants.{Waiting, Sending, Receiving, Dallying}
use Rattle.tftp_ends.specs.declared.phase.Phase.TheVariants.{Closed}
use Rattle.tftp_ends.specs.declared.phase.Terms.{Terms}
use Rattle.tftp_ends.specs.declared.action.Action.{Action}
use Rattle.tftp_ends.specs.declared.action.Action.TheVariants.{Respond}
use Rattle.tftp_ends.specs.declared.action.Response.{Response}
use Rattle.tftp_ends.specs.declared.action.Response.TheVariants.{Ignore, WrongPeer}
use Rattle.tftp_ends.specs.declared.action.Response.TheVariants.{Retransmit, Wait}
use Rattle.tftp_ends.specs.declared.action.Response.TheVariants.{Close}
use Rattle.tftp_ends.specs.End.{EndState, is_sender, is_client, terms_of}
use Rattle.tftp_ends.specs.Waiting.{reader_action, writer_action}
use Rattle.tftp_ends.specs.Sender.{sender_action}
use Rattle.tftp_ends.specs.Receiver.{receiver_action, dally_response}

-- the bytes spell this packet, or no packet
abbrev pub Decodes : List ℕ → Option Packet → Type 0
Decodes bytes (Some packet) = Spells packet bytes
Decodes bytes None = (fault : PacketFault) × (first_fault bytes ≡ Some fault)

-- the same address
abbrev pub same_address : Endpoint → Endpoint → Bool
same_address a b = pointwise nat_eq a.ip b.ip

-- the same address and the same port
abbrev pub same_endpoint : Endpoint → Endpoint → Bool
same_endpoint a b = same_address a b && (a.port == b.port)

-- the datagram is not from the peer or, while the peer is unknown, not from the server's address
abbrev pub is_wrong_peer : Option Terms → Endpoint → Endpoint → Bool
is_wrong_peer None to from = not (same_address to from)
is_wrong_peer (Some terms) to from = not (same_endpoint terms.peer from)

-- a malformed ERROR closes the transfer without a reply; in a dally it is ignored
abbrev pub garbled_response : Phase → Response
garbled_response (Waiting asked limit) = Close outcomes.Illegal
garbled_response (Sending terms number) = Close outcomes.Illegal
garbled_response (Receiving terms number) = Close outcomes.Illegal
garbled_response (Dallying terms number dally) = Ignore
garbled_response (Closed terms number complete outcome) = Ignore

-- how a waiting client handles a packet
abbrev pub waiting_action : EndState → Endpoint → Option Packet → Phase → Action
waiting_action e from decoded (Waiting asked limit) =
    if is_sender e.role.side then writer_action e.role.mode asked limit e.role.length from decoded
    else reader_action e.role.mode asked limit from decoded
waiting_action e from decoded _ = Respond Ignore

-- how an open end handles a packet from its peer, or from the server while the peer is unknown
abbrev pub packet_action : EndState → Endpoint → Option Packet → Phase → Action
packet_action e from decoded (Waiting asked limit) =
    waiting_action e from decoded (Waiting asked limit)
packet_action e from decoded (Sending terms number) =
    sender_action (is_client e.role.side) e.role.length terms number decoded
packet_action e from decoded (Receiving terms number) =
    receiver_action (is_client e.role.side) e.role.mode e.position.held_back terms number decoded
packet_action e from decoded (Dallying terms number dally) = Respond (dally_response number decoded)
packet_action e from decoded (Closed terms number complete outcome) = Respond Ignore

-- how an open end handles a datagram: it tests the sender first, and then for a malformed ERROR
abbrev pub datagram_action : EndState → Endpoint → List ℕ → Option Packet → Action
datagram_action e from bytes decoded =
    if is_wrong_peer (terms_of e.position.phase) e.position.last_sent_to from
    then (if has_error_opcode bytes then Respond Ignore else Respond WrongPeer)
    else if has_error_opcode bytes && is_none decoded
    then Respond (garbled_response e.position.phase)
    else packet_action e from decoded e.position.phase

-- an open end handles a datagram by an action of which this holds
abbrev pub HandledBy : (Action → Type 0) → Endpoint → List ℕ → EndState → Type 0
HandledBy holds from bytes e =
    (decoded : Option Packet) × Decodes bytes decoded × holds (datagram_action e from bytes decoded)

-- how an open end handles a timeout (RFC 1350, sections 2 and 6)
abbrev pub timeout_response : ℕ → Phase → Response
timeout_response retries_left (Dallying terms number Fresh) = Wait
timeout_response retries_left (Dallying terms number Waited) = Close outcomes.Complete
timeout_response retries_left _ = if retries_left == 0 then Close outcomes.TimedOut else Retransmit

-- the same, as an action
abbrev pub timeout_action : ℕ → Phase → Action
timeout_action retries_left phase = Respond (timeout_response retries_left phase)
