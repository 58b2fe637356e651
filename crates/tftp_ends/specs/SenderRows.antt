-- The sender's table, a statement for each row (RFC 1350, sections 2 and 6; RFC 1123, section
-- 4.2.3.1).
use Rattle.std.specs.Prelude.{ℕ, ◌≡◌, ◌<◌, ◌+◌, ◌/◌, ◌&&◌, Bool, true, false, List, codes, Some}
use Rattle.tftp_wire.specs.Spelling.{Spells}
use Rattle.tftp_wire.specs.declared.options.RawOption.{RawOption}
use Rattle.tftp_wire.specs.declared.packet.Packet.{Packet}
use Rattle.tftp_wire.specs.declared.packet.Packet.TheVariants.{Read, Write, Data, Ack, Error, Oack}
use Rattle.tftp_file.specs.Source.{SourceMeaning}
use Rattle.tftp_file.specs.Sink.{SinkMeaning}
use Rattle.tftp_ends.specs.declared.outcome.Outcome.TheVariants.{Complete, PeerError, Illegal}
use Rattle.tftp_ends.specs.declared.outcome.Outcome.TheVariants.{SourceFault}
use Rattle.tftp_ends.specs.declared.phase.Phase.TheVariants.{Sending}
use Rattle.tftp_ends.specs.declared.phase.Terms.{Terms}
use Rattle.tftp_ends.specs.End.{EndState, is_client}
use Rattle.tftp_ends.specs.Rows.{Handled, FromPeer, IsMalformed, DoesNothing, ClosesInSilence}
use Rattle.tftp_ends.specs.Rows.{GivesUp, RefusesBy, AnswersBy, AsksSource}
use Rattle.tftp_ends.specs.Step.{block_length, result_count_is}

-- how many blocks a sender's file has: the last is shorter than a block, and may be empty
abbrev pub blocks_of : EndState → Terms → ℕ
blocks_of e terms = e.role.length / terms.size + 1

-- a client's end that an OACK opened
abbrev pub took_oack : EndState → Terms → Bool
took_oack e terms = is_client e.role.side && terms.by_oack

-- a packet that is not valid at a sender
abbrev pub UnexpectedAtSender : Bool → Packet → Type 0
UnexpectedAtSender took (Read request) = Unit {0}
UnexpectedAtSender took (Write request) = Unit {0}
UnexpectedAtSender took (Data number piece) = Unit {0}
UnexpectedAtSender took (Ack number) = ⊥
UnexpectedAtSender took (Error code text) = ⊥
UnexpectedAtSender took (Oack options) = took ≡ false

module _ {S K : Type 0} {sources : SourceMeaning S} {sinks : SinkMeaning K} where
  -- DATA, if the source gave the whole block; if it failed or ended before the measured length,
  -- ERROR 0, and the number stays
  abbrev pub SendsBlock : (c : Handled sources sinks) → Terms → ℕ → ℕ → List ℕ → Bool → Type 0
  SendsBlock c terms n number piece true = AnswersBy c (Sending terms number) (Data number piece)
  SendsBlock c terms n number piece false =
      GivesUp c (Some terms) n 0 (codes "file changed") SourceFault

  -- the block is read from the source, and then DATA or an ERROR is sent
  abbrev pub SendsFromSource : (c : Handled sources sinks) → Terms → ℕ → ℕ → Type 0
  SendsFromSource c terms n number =
      let want = block_length c.e.role.length terms.size number in
      (asked : AsksSource c terms number)
      × SendsBlock c terms n number asked.piece (result_count_is want asked.answer)

module _ {S K : Type 0} (sources : SourceMeaning S) (sinks : SinkMeaning K) where
  -- ACK n, n < N: DATA n+1, n rises; or ERROR 0 `file changed`
  abbrev pub NewestAckSends : Type 0
  NewestAckSends =
      (c : Handled sources sinks) (terms : Terms) (n : ℕ)
      → FromPeer c (Sending terms n) terms
      → Spells (Ack n) c.bytes
      → n < blocks_of c.e terms → SendsFromSource c terms n (n + 1)

  -- ACK n, n = N: complete, closed without a reply
  abbrev pub LastAckCompletes : Type 0
  LastAckCompletes =
      (c : Handled sources sinks) (terms : Terms) (n : ℕ)
      → FromPeer c (Sending terms n) terms
      → Spells (Ack n) c.bytes
      → n ≡ blocks_of c.e terms → ClosesInSilence c (Some terms) n true Complete

  -- ACK m, m < n: nothing
  abbrev pub OldAckIsNothing : Type 0
  OldAckIsNothing =
      (c : Handled sources sinks) (terms : Terms) (n m : ℕ)
      → FromPeer c (Sending terms n) terms
      → Spells (Ack m) c.bytes
      → m < n → DoesNothing c

  -- ACK m, m > n: ERROR 4, Illegal
  abbrev pub EarlyAckIsIllegal : Type 0
  EarlyAckIsIllegal =
      (c : Handled sources sinks) (terms : Terms) (n m : ℕ)
      → FromPeer c (Sending terms n) terms
      → Spells (Ack m) c.bytes
      → n < m → RefusesBy c (Some terms) n 4 (codes "illegal operation") Illegal

  -- ERROR: PeerError, closed without a reply
  abbrev pub ErrorClosesSender : Type 0
  ErrorClosesSender =
      (c : Handled sources sinks) (terms : Terms) (n code : ℕ) (text : List ℕ)
      → FromPeer c (Sending terms n) terms
      → Spells (Error code text) c.bytes → ClosesInSilence c (Some terms) n false (PeerError code)

  -- OACK at a client that was opened by an OACK: nothing
  abbrev pub OackAgainIsNothing : Type 0
  OackAgainIsNothing =
      (c : Handled sources sinks) (terms : Terms) (n : ℕ) (options : List RawOption)
      → FromPeer c (Sending terms n) terms
      → Spells (Oack options) c.bytes → took_oack c.e terms ≡ true → DoesNothing c

  -- any other packet: ERROR 4, Illegal
  abbrev pub SenderRefusesOthers : Type 0
  SenderRefusesOthers =
      (c : Handled sources sinks) (terms : Terms) (n : ℕ) (packet : Packet)
      → FromPeer c (Sending terms n) terms
      → Spells packet c.bytes → UnexpectedAtSender (took_oack c.e terms) packet
      → RefusesBy c (Some terms) n 4 (codes "illegal operation") Illegal

  -- a malformed packet: ERROR 4, Illegal
  abbrev pub SenderRefusesMalformed : Type 0
  SenderRefusesMalformed =
      (c : Handled sources sinks) (terms : Terms) (n : ℕ)
      → FromPeer c (Sending terms n) terms
      → IsMalformed c
      → RefusesBy c (Some terms) n 4 (codes "illegal operation") Illegal
