-- What holds of an open end between two events.
use Rattle.std.specs.Prelude.{◌≡◌, ℕ, ◌*◌, ◌<◌, ◌≤◌, true, false, List, [], length, drop, None}
use Rattle.tftp_wire.specs.declared.limits.TheConstants.{MAX_BLOCK}
use Rattle.tftp_wire.specs.declared.mode.Mode.{Mode}
use Rattle.tftp_wire.specs.declared.mode.Mode.TheVariants.{Octet, Netascii}
use Rattle.tftp_wire.specs.declared.packet.Packet.{Packet as WirePacket}
use Rattle.tftp_wire.specs.declared.packet.Packet.TheVariants.{Read, Write, Data, Ack, Error, Oack}
use Rattle.tftp_wire.specs.Spelling.{Spells}
use Rattle.tftp_negotiate.specs.Asked.{IsAskable}
use Rattle.tftp_file.specs.Block.{block_count, Fits}
use Rattle.tftp_ends.specs.declared.phase.Phase.{Phase}
use Rattle.tftp_ends.specs.declared.phase.Phase.TheVariants.{Waiting, Sending, Receiving, Dallying}
use Rattle.tftp_ends.specs.declared.phase.Phase.TheVariants.{Closed}
use Rattle.tftp_ends.specs.declared.phase.Terms.{Terms}
use Rattle.tftp_ends.specs.Action.{same_address}
use Rattle.tftp_ends.specs.End.{is_sender, is_client, is_complete}
use Rattle.tftp_rules.specs.Machine.{Endpoint, At_server, Network}
use Rattle.tftp_rules.specs.OpenEnds.{OpenEnd, peer_of}

-- a sender at this block: its source has left the text after it
pub record IsUnderWay (x : OpenEnd) (terms : Terms) (number : ℕ) : Type 0 where
  pub sender : is_sender x.state.role.side ≡ true
  pub positive : 0 < terms.size
  pub size : terms.size ≤ MAX_BLOCK
  pub fits : Fits x.text terms.size
  pub so_far : number ≤ block_count x.text terms.size
  pub left : x.left ≡ drop (number * terms.size) x.text
  pub last_sent_to : x.state.position.last_sent_to ≡ terms.peer
  -- its file is as long as it was measured
  pub measured : x.state.role.length ≡ length x.text

-- in octet no text is held back
abbrev pub HeldBackFits : Mode → List ℕ → Type 0
HeldBackFits Octet held = held ≡ []
HeldBackFits Netascii held = Unit {0}

-- a packet that a waiting client may accept as its answer
abbrev pub IsAnswer : WirePacket → Type 0
IsAnswer (Read request) = ⊥
IsAnswer (Write request) = ⊥
IsAnswer (Data block bytes) = Unit {0}
IsAnswer (Ack block) = Unit {0}
IsAnswer (Error code text) = ⊥
IsAnswer (Oack options) = Unit {0}

module _ (network : Network) where
  -- what holds of an end in this phase
  abbrev pub PhaseKept : OpenEnd → Phase → Type 0
  PhaseKept x (Waiting asked limit) =
      (is_client x.state.role.side ≡ true) × IsAskable asked
      × (x.state.position.last_sent_to ≡ network.request_port) × (x.left ≡ x.text)
      × (is_sender x.state.role.side ≡ false → x.state.position.held_back ≡ [])
      × (is_sender x.state.role.side ≡ true → x.state.role.length ≡ length x.text)
  PhaseKept x (Sending terms number) = IsUnderWay x terms number
  PhaseKept x (Receiving terms number) =
      (is_sender x.state.role.side ≡ false) × (x.state.position.last_sent_to ≡ terms.peer)
  PhaseKept x (Dallying terms number dally) =
      (is_sender x.state.role.side ≡ false) × (x.state.position.last_sent_to ≡ terms.peer)
  PhaseKept x (Closed terms number complete outcome) = Unit {0}

  -- what holds of an end, for every list of sent datagrams
  pub record EndKept (x : OpenEnd) : Type 0 where
    pub phase : PhaseKept x x.state.position.phase
    pub held_back : HeldBackFits x.state.role.mode x.state.position.held_back
    -- a receiver has committed what it stored exactly if it is complete
    pub committed : is_sender x.state.role.side ≡ false
        → x.committed ≡ is_complete x.state.position.phase

  -- an answer to the end x, if it has no peer, is from the server; it is known to come from the
  -- address of the request port
  abbrev pub IsFromServer : OpenEnd → Endpoint → List ℕ → Type 0
  IsFromServer x from bytes =
      peer_of x.state.position.phase ≡ None → same_address network.request_port from ≡ true →
      (p : WirePacket) → Spells p bytes → IsAnswer p → network.host_of from ≡ At_server
