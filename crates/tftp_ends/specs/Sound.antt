-- What holds of every end between two events.
use Rattle.std.specs.Prelude.{ℕ, ◌≡◌, ◌+◌, ◌*◌, ◌<◌, ◌≤◌, max, ◌||◌, nat_lt, not, true, false, List}
use Rattle.std.specs.Prelude.{[], length, Option, Some, None}
use Rattle.tftp_wire.specs.declared.limits.TheConstants.{HEADER, MAX_REQUEST}
use Rattle.tftp_wire.specs.declared.mode.Mode.{Mode}
use Rattle.tftp_wire.specs.declared.mode.Mode.TheVariants.{Octet, Netascii}
use Rattle.tftp_file.specs.Decoding.{IsHeldBack}
use Rattle.tftp_negotiate.specs.Asked.{IsAskable}
use Rattle.tftp_ends.specs.declared.phase.Phase.{Phase}
use Rattle.tftp_ends.specs.declared.phase.Phase.TheVariants.{Waiting, Sending, Receiving, Dallying}
use Rattle.tftp_ends.specs.declared.phase.Phase.TheVariants.{Closed}
use Rattle.tftp_ends.specs.declared.phase.Terms.{Terms}
use Rattle.tftp_ends.specs.End.{EndState, is_sender, is_client, terms_of}
use Rattle.tftp_ends.specs.Step.{ack_bytes}

-- a sender's block size is positive, and the file's blocks can be numbered
abbrev pub IsSending : EndState → Terms → Type 0
IsSending e terms =
    (is_sender e.role.side ≡ true) × (0 < terms.size) × (e.role.length < 65535 * terms.size)

-- clients wait and have no text yet, senders send, receivers receive
abbrev pub PhaseFits : EndState → Phase → Type 0
PhaseFits e (Waiting asked limit) =
    (is_client e.role.side ≡ true) × IsAskable asked × (e.position.held_back ≡ [])
PhaseFits e (Sending terms number) = IsSending e terms
PhaseFits e (Receiving terms number) = is_sender e.role.side ≡ false
PhaseFits e (Dallying terms number dally) = is_sender e.role.side ≡ false
PhaseFits e (Closed terms number complete outcome) = Unit {0}

-- a receiver's last datagram is the ACK of its number, except for a server's OACK
abbrev pub HasAcknowledged : EndState → Terms → ℕ → Type 0
HasAcknowledged e terms number =
    is_client e.role.side || (not terms.by_oack || nat_lt 0 number) ≡ true
    → e.position.last_sent ≡ ack_bytes number

-- the same, of every phase
abbrev pub ResendsAck : EndState → Phase → Type 0
ResendsAck e (Waiting asked limit) = Unit {0}
ResendsAck e (Sending terms number) = Unit {0}
ResendsAck e (Receiving terms number) = HasAcknowledged e terms number
ResendsAck e (Dallying terms number dally) = HasAcknowledged e terms number
ResendsAck e (Closed terms number complete outcome) = Unit {0}

-- the text held back: none in octet, and at most the CR of a pair in netascii (RFC 764)
abbrev pub HeldBackFits : Mode → List ℕ → Type 0
HeldBackFits Octet held = held ≡ []
HeldBackFits Netascii held = IsHeldBack held

-- the longest datagram that an end keeps for retransmission, in bytes: a request while the peer is
-- unknown, and then an OACK, or a header and a block of the agreed size
abbrev pub longest_sent : Option Terms → ℕ
longest_sent None = MAX_REQUEST
longest_sent (Some terms) = max MAX_REQUEST (HEADER + terms.size)

-- what holds of an end between two events
pub record IsSound (e : EndState) : Type 0 where
  pub phase : PhaseFits e e.position.phase
  pub resends : ResendsAck e e.position.phase
  pub held_back : HeldBackFits e.role.mode e.position.held_back
  pub sent : length e.position.last_sent ≤ longest_sent (terms_of e.position.phase)
