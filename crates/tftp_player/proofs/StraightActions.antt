-- What an end does at the datagram that it waits for. For eleven other files.
use Rattle.tftp_player.proofs.Common.{◌≡◌, ℕ, ◌+◌, ◌<◌, ◌≤◌, true, false, List, length, Some, None, rules, nat_lt, Mode}
use Rattle.tftp_player.proofs.Common.{Packet, Respond, Send, Store, Complete, Phase, Terms, EndState, terms_of}
use Rattle.tftp_player.proofs.Common.{is_wrong_peer, packet_action, datagram_action, next_action, Endpoint, ◌/◌}
use Rattle.tftp_ends.specs.Receiver.{data_action}
use Rattle.tftp_ends.specs.Sender.{acked_action}
use Rattle.tftp_ends.specs.Text.{is_readable}

-- a datagram of the peer is not of a wrong peer
pub peer_near : (terms : Terms) (to from : Endpoint) → terms.peer ≡ from → is_wrong_peer (Some terms) to from ≡ false
peer_near terms to from peer = search rules

-- an end that has a peer, in this phase
pub from_peer : (e : EndState) (phase : Phase) (terms : Terms) (from : Endpoint) (bytes : List ℕ) (packet : Packet) →
    e.position.phase ≡ phase → terms_of phase ≡ Some terms → terms.peer ≡ from →
    datagram_action e from bytes (Some packet) ≡ packet_action e from (Some packet) phase
from_peer e phase terms from bytes packet is agreed peer = search rules

-- a client that waits, with a packet from the server's address
pub from_server : (e : EndState) (phase : Phase) (from : Endpoint) (bytes : List ℕ) (packet : Packet) →
    e.position.phase ≡ phase → terms_of phase ≡ None → e.position.last_sent_to.ip ≡ from.ip →
    datagram_action e from bytes (Some packet) ≡ packet_action e from (Some packet) phase
from_server e phase from bytes packet is none server = search rules

-- ---- a sender with the ACK of its newest block
-- the ACK of a block before the last sends the next
pub acked_more : (length n : ℕ) (terms : Terms) → n < length / terms.size + 1 →
    acked_action length terms n n ≡ Send terms (n + 1)
acked_more length n terms more = search rules

-- the ACK of the last block completes a sender
pub acked_last : (length n : ℕ) (terms : Terms) → length / terms.size + 1 ≤ n →
    acked_action length terms n n ≡ Respond Complete
acked_last length n terms last = search rules

-- which it stores
pub next_stores : (mode : Mode) (held : List ℕ) (terms : Terms) (number : ℕ) (piece : List ℕ) →
    length piece ≤ terms.size → (number ≡ 65535 → length piece ≡ terms.size → ⊥) →
    is_readable mode held piece (nat_lt (length piece) terms.size) ≡ true →
    next_action mode held terms number piece ≡ Store terms number
next_stores mode held terms number piece fits short readable = search rules

-- the DATA with the next number is stored
pub data_next : (mode : Mode) (held : List ℕ) (terms : Terms) (n : ℕ) (piece : List ℕ) →
    data_action mode held terms n (n + 1) piece ≡ next_action mode held terms (n + 1) piece
data_next mode held terms n piece = search rules
