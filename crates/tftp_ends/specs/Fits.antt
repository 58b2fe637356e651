-- Internal to the code: what holds of an action, so that the end can carry it out.
use Rattle.std.specs.Prelude.{ℕ, ◌≡◌, ◌*◌, ◌<◌, ◌≤◌, nat_lt, true, false, List, length, drop}
use Rattle.std.specs.Prelude.{Option, Some}
use Rattle.tftp_wire.specs.Spelling.{Spells}
use Rattle.tftp_wire.specs.declared.packet.Packet.TheVariants.{Data}
use Rattle.tftp_ends.specs.declared.action.Action.{Action}
use Rattle.tftp_ends.specs.declared.action.Action.TheVariants.{Respond, Send, Store}
use Rattle.tftp_ends.specs.declared.action.Response.{Response}
use Rattle.tftp_ends.specs.declared.action.Response.TheVariants.{ResendReply, Retransmit, Refuse}
use Rattle.tftp_ends.specs.declared.action.Response.TheVariants.{Accept}
use Rattle.tftp_ends.specs.declared.phase.Terms.{Terms}
use Rattle.tftp_ends.specs.End.{EndState, is_sender, number_of}
use Rattle.tftp_ends.specs.Sound.{IsSending, longest_sent}
use Rattle.tftp_ends.specs.Step.{ack_bytes}
use Rattle.tftp_ends.specs.Text.{is_readable}

-- a retransmission requires a retry, and only a receiver answers an OACK by an ACK
abbrev pub ResponseFits : EndState → Response → Type 0
ResponseFits e Retransmit = 0 < e.position.retries_left
ResponseFits e (Accept terms) = is_sender e.role.side ≡ false
ResponseFits e _ = Unit {0}

-- only a sender sends a block, and only a receiver stores one
abbrev pub ActionFits : EndState → Action → Type 0
ActionFits e (Respond response) = ResponseFits e response
ActionFits e (Send terms number) = IsSending e terms
ActionFits e (Store terms number) = is_sender e.role.side ≡ false

-- the last datagram sent is no longer than these terms allow
abbrev pub SentFits : EndState → Option Terms → Type 0
SentFits e terms = length e.position.last_sent ≤ longest_sent terms

-- what a response requires of the last datagram sent
abbrev pub ReplyFits : EndState → Response → Type 0
ReplyFits e (Refuse terms reply outcome) = SentFits e terms
ReplyFits e ResendReply = e.position.last_sent ≡ ack_bytes (number_of e.position.phase)
ReplyFits e _ = Unit {0}

-- the bytes spell the DATA to store, and its data continues the text
pub record BlockFits (e : EndState) (bytes : List ℕ) (terms : Terms) (number : ℕ) : Type 0 where
  pub spelled : Spells (Data number (drop 4 bytes)) bytes
  pub readable : is_readable e.role.mode e.position.held_back (drop 4 bytes)
      (nat_lt (length (drop 4 bytes)) terms.size) ≡ true

-- what an action requires of the last datagram sent and of the received bytes
abbrev pub BytesFit : EndState → List ℕ → Action → Type 0
BytesFit e bytes (Respond response) = ReplyFits e response
BytesFit e bytes (Send terms number) = SentFits e (Some terms)
BytesFit e bytes (Store terms number) = SentFits e (Some terms) × BlockFits e bytes terms number

-- a sender's response to a packet
abbrev pub IsSenders : Response → Type 0
IsSenders Retransmit = ⊥
IsSenders (Accept terms) = ⊥
IsSenders _ = Unit {0}

-- a receiver's response to a packet
abbrev pub IsReceivers : Response → Type 0
IsReceivers Retransmit = ⊥
IsReceivers _ = Unit {0}

-- a sender's action for a packet, with a file of this length
abbrev pub FitsSender : ℕ → Action → Type 0
FitsSender length (Respond response) = IsSenders response
FitsSender length (Send terms number) = (0 < terms.size) × (length < 65535 * terms.size)
FitsSender length (Store terms number) = ⊥

-- a receiver's action for a packet
abbrev pub FitsReceiver : Action → Type 0
FitsReceiver (Respond response) = IsReceivers response
FitsReceiver (Send terms number) = ⊥
FitsReceiver (Store terms number) = Unit {0}
