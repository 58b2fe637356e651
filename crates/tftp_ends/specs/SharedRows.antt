-- The rows that the tables of all ends share: a datagram of a wrong peer, a malformed ERROR and a
-- timeout, a statement for each (RFC 1350, sections 2, 4, 6 and 7).
use Rattle.std.specs.Prelude.{ℕ, ◌≡◌, ◌≢◌, ◌<◌, ◌-◌, Bool, true, false, codes, Option, Some, None}
use Rattle.tftp_wire.specs.Reading.{has_error_opcode}
use Rattle.tftp_wire.specs.Spelling.{Spells}
use Rattle.tftp_wire.specs.declared.packet.Packet.{Packet}
use Rattle.tftp_wire.specs.declared.packet.Packet.TheVariants.{Error}
use Rattle.tftp_negotiate.specs.declared.asked.Asked.{Asked}
use Rattle.tftp_file.specs.Source.{SourceMeaning}
use Rattle.tftp_file.specs.Sink.{SinkMeaning}
use Rattle.tftp_ends.specs.declared.endpoint.Endpoint.{Endpoint}
use Rattle.tftp_ends.specs.declared.outcome.Outcome.{Outcome}
use Rattle.tftp_ends.specs.declared.outcome.Outcome.TheVariants.{Illegal, TimedOut, Complete}
use Rattle.tftp_ends.specs.declared.phase.Dally.TheVariants.{Fresh, Waited}
use Rattle.tftp_ends.specs.declared.phase.Phase.TheVariants.{Sending, Receiving, Dallying}
use Rattle.tftp_ends.specs.declared.phase.Phase.TheVariants.{Closed}
use Rattle.tftp_ends.specs.declared.phase.Terms.{Terms}
use Rattle.tftp_ends.specs.End.{EndState, terms_of, number_of, is_complete}
use Rattle.tftp_ends.specs.Rows.{Handled, FromPeer, DoesNothing, ClosesInSilence, AnswersAgain}
use Rattle.tftp_ends.specs.Run.{IsOpen}
use Rattle.tftp_ends.specs.Step.{Reply, timeout_turn}
use Rattle.tftp_ends.specs.WaitingRows.{FromServer}

-- not the peer's endpoint or, while the peer is unknown, not the server's address
abbrev pub IsForeign : Option Terms → Endpoint → Endpoint → Type 0
IsForeign None server from = from.ip ≢ server.ip
IsForeign (Some terms) server from = from ≢ terms.peer

module _ {S K : Type 0} {sources : SourceMeaning S} {sinks : SinkMeaning K}
    (c : Handled sources sinks) where
  -- an open end received a datagram with a wrong transfer identifier
  pub record FromWrongPeer : Type 0 where
    pub open_end : IsOpen c.e
    pub foreign : IsForeign (terms_of c.e.position.phase) c.e.position.last_sent_to c.from

  -- bytes that begin as an ERROR, and spell no packet
  pub record IsMalformedError : Type 0 where
    pub spells_none : (packet : Packet) → Spells packet c.bytes → ⊥
    pub error : has_error_opcode c.bytes ≡ true

module _ {S K : Type 0} (sources : SourceMeaning S) (sinks : SinkMeaning K) where
  -- ---- a wrong peer
  -- any datagram but an ERROR: ERROR 5 to the wrong peer, and nothing has changed
  abbrev pub WrongPeerIsRefused : Type 0
  WrongPeerIsRefused =
      (c : Handled sources sinks) → FromWrongPeer c → has_error_opcode c.bytes ≡ false
      → AnswersAgain c (Error 5 (codes "unknown transfer id"))

  -- bytes that begin as an ERROR: nothing
  abbrev pub ErrorOfWrongPeerIsNothing : Type 0
  ErrorOfWrongPeerIsNothing =
      (c : Handled sources sinks) → FromWrongPeer c → has_error_opcode c.bytes ≡ true
      → DoesNothing c

  -- ---- a malformed ERROR of the peer: Illegal, closed without a reply; in a dally nothing, as the
  -- receiver's table says
  abbrev pub MalformedErrorClosesSender : Type 0
  MalformedErrorClosesSender =
      (c : Handled sources sinks) (terms : Terms) (n : ℕ)
      → FromPeer c (Sending terms n) terms
      → IsMalformedError c → ClosesInSilence c (Some terms) n false Illegal

  abbrev pub MalformedErrorClosesReceiver : Type 0
  MalformedErrorClosesReceiver =
      (c : Handled sources sinks) (terms : Terms) (n : ℕ)
      → FromPeer c (Receiving terms n) terms
      → IsMalformedError c → ClosesInSilence c (Some terms) n false Illegal

  abbrev pub MalformedErrorClosesWaiting : Type 0
  MalformedErrorClosesWaiting =
      (c : Handled sources sinks) (writes : Bool) (asked : Asked) (limit : ℕ)
      → FromServer c writes asked limit
      → IsMalformedError c → ClosesInSilence c None 0 false Illegal

-- ---- a timeout
-- the end is closed with this outcome, without a datagram
pub record ClosesAtTimeout (e : EndState) (complete : Bool) (outcome : Outcome) : Type 0 where
  pub silent : (timeout_turn e).reply ≡ None
  pub phase : (timeout_turn e).position.phase
      ≡ Closed (terms_of e.position.phase) (number_of e.position.phase) complete outcome

-- not in a dally, and retries are left: the newest datagram again, where it went; one retry less
abbrev pub TimeoutRetransmits : Type 0
TimeoutRetransmits =
    (e : EndState) → IsOpen e → is_complete e.position.phase ≡ false → 0 < e.position.retries_left
    → let again : Reply =
    record { to = e.position.last_sent_to; bytes = e.position.last_sent } in
    timeout_turn e ≡ record {
      position = record e.position { retries_left = e.position.retries_left - 1 };
      reply = Some again;
    }

-- not in a dally, and no retry is left: TimedOut
abbrev pub LastTimeoutCloses : Type 0
LastTimeoutCloses =
    (e : EndState) → IsOpen e → is_complete e.position.phase ≡ false → e.position.retries_left ≡ 0
    → ClosesAtTimeout e false TimedOut

-- in a dally, the first: no datagram, and it is counted
abbrev pub FirstDallyTimeoutIsCounted : Type 0
FirstDallyTimeoutIsCounted =
    (e : EndState) (terms : Terms) (n : ℕ) → e.position.phase ≡ Dallying terms n Fresh
    → timeout_turn e ≡ record {
      position = record e.position { phase = Dallying terms n Waited };
      reply = None;
    }

-- in a dally, the second: Complete
abbrev pub SecondDallyTimeoutCompletes : Type 0
SecondDallyTimeoutCompletes =
    (e : EndState) (terms : Terms) (n : ℕ) → e.position.phase ≡ Dallying terms n Waited
    → ClosesAtTimeout e true Complete
