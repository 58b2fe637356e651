-- The receiver's table, a statement for each row (RFC 1350, sections 2 and 6).
use Rattle.std.specs.Prelude.{ℕ, ◌≡◌, ◌≢◌, ◌<◌, ◌≤◌, ◌+◌, Bool, true, false, nat_lt, List, length}
use Rattle.std.specs.Prelude.{codes, Some, Result, Ok, Err, IfErr, is_ok}
use Rattle.std.specs.Result.{result_err}
use Rattle.tftp_wire.specs.Spelling.{Spells}
use Rattle.tftp_wire.specs.declared.options.RawOption.{RawOption}
use Rattle.tftp_wire.specs.declared.packet.Packet.{Packet}
use Rattle.tftp_wire.specs.declared.packet.Packet.TheVariants.{Read, Write, Data, Ack, Error, Oack}
use Rattle.tftp_file.specs.Source.{SourceMeaning}
use Rattle.tftp_file.specs.Sink.{SinkMeaning, Commits}
use Rattle.tftp_file.specs.declared.fault.StoreFault.{StoreFault}
use Rattle.tftp_file.specs.declared.fault.StoreFault.TheVariants as faults
use Rattle.tftp_file.specs.declared.files.Files.TheVariants.{Sink}
use Rattle.tftp_ends.specs.declared.outcome.Outcome.TheVariants as outcomes
use Rattle.tftp_ends.specs.declared.phase.Dally.{Dally}
use Rattle.tftp_ends.specs.declared.phase.Dally.TheVariants.{Fresh}
use Rattle.tftp_ends.specs.declared.phase.Phase.TheVariants.{Receiving, Dallying}
use Rattle.tftp_ends.specs.declared.phase.Terms.{Terms}
use Rattle.tftp_ends.specs.Rows.{Handled, FromPeer, IsMalformed, DoesNothing, ClosesInSilence}
use Rattle.tftp_ends.specs.Rows.{GivesUp, RefusesBy, AnswersBy, AnswersAgain}
use Rattle.tftp_ends.specs.SenderRows.{took_oack}
use Rattle.tftp_ends.specs.Step.{Done, Appended}
use Rattle.tftp_ends.specs.Text.{Decoded, is_readable}

-- a packet that is not valid at a receiver
abbrev pub UnexpectedAtReceiver : Bool → Packet → Type 0
UnexpectedAtReceiver took (Read request) = Unit {0}
UnexpectedAtReceiver took (Write request) = Unit {0}
UnexpectedAtReceiver took (Data number piece) = ⊥
UnexpectedAtReceiver took (Ack number) = Unit {0}
UnexpectedAtReceiver took (Error code text) = ⊥
UnexpectedAtReceiver took (Oack options) = took ≡ false

module _ {S K : Type 0} {sources : SourceMeaning S} {sinks : SinkMeaning K}
    (c : Handled sources sinks) (terms : Terms) (n : ℕ) where
  -- ---- the next block, after its text was appended to the sink
  -- the last block was stored, and this is the result of the commit
  abbrev pub CommitRow : List ℕ → Result Done StoreFault → Type 0
  -- committed: n rises, ACK n+1, complete, dally begins
  CommitRow after (Ok done) =
      AnswersBy c (Dallying terms (n + 1) Fresh) (Ack (n + 1)) × (c.turn.position.held_back ≡ after)
  -- refused as Exists: ERROR 6, n stays, not complete
  CommitRow after (Err faults.Exists) =
      GivesUp c (Some terms) n 6 (codes "file exists") outcomes.StoreFault
  -- refused otherwise: ERROR 3, n stays, not complete
  CommitRow after (Err faults.Missing) =
      GivesUp c (Some terms) n 3 (codes "disk full") outcomes.StoreFault
  CommitRow after (Err faults.Full) =
      GivesUp c (Some terms) n 3 (codes "disk full") outcomes.StoreFault
  CommitRow after (Err faults.Io) =
      GivesUp c (Some terms) n 3 (codes "disk full") outcomes.StoreFault
  CommitRow after (Err faults.Memory) =
      GivesUp c (Some terms) n 3 (codes "disk full") outcomes.StoreFault

  -- the sink was called to commit the file
  pub record CommitsWhole (after : List ℕ) (sink sink' : K) : Type 0 where
    pub answer : Result Done StoreFault
    pub commits : Commits (sinks.held sink) (sinks.held sink') answer
    pub refused : IfErr answer (sinks.may_refuse_commit sink)
    pub leaves : sinks.becomes sink sink' (is_ok answer)
    pub effect : sinks.after_commit sink sink' (result_err answer)
    pub row : CommitRow after answer

  -- the result of the append; `last` says that the block is shorter than the block size
  abbrev pub AppendRow : Bool → List ℕ → K → K → Result Done StoreFault → Type 0
  -- refused: ERROR 3
  AppendRow last after sink sink' (Err fault) =
      GivesUp c (Some terms) n 3 (codes "disk full") outcomes.StoreFault × (sink' ≡ sink)
  -- a block of b bytes: stored, n rises, ACK n+1
  AppendRow false after sink sink' (Ok done) =
      AnswersBy c (Receiving terms (n + 1)) (Ack (n + 1)) × (c.turn.position.held_back ≡ after)
      × (sink' ≡ sink)
  -- a block of fewer bytes: the file is committed before the block is acknowledged
  AppendRow true after sink sink' (Ok done) = CommitsWhole after sink sink'

  -- the host bytes of this data were appended to the sink, if there are any
  pub record HandsToSink (piece : List ℕ) : Type 0 where
    pub sink : K
    pub mid : K
    pub sink' : K
    pub files : c.files ≡ Sink sink
    pub files' : c.files' ≡ Sink sink'
    pub bytes : List ℕ
    pub after : List ℕ
    pub decoded : Decoded c.e.role.mode c.e.position.held_back piece bytes after
    pub answer : Result Done StoreFault
    pub appended : Appended sinks bytes sink mid answer
    pub memory : answer ≢ Err faults.Memory
    pub row : AppendRow (nat_lt (length piece) terms.size) after mid sink' answer

  -- ---- DATA n+1 of at most b bytes that is not one block too many
  abbrev pub NextRow : List ℕ → Bool → Type 0
  -- its text is valid in the mode: it is stored
  NextRow piece true = HandsToSink piece
  -- its text is not valid: ERROR 0 `not netascii`, not stored
  NextRow piece false = RefusesBy c (Some terms) n 0 (codes "not netascii") outcomes.NotNetascii

module _ {S K : Type 0} (sources : SourceMeaning S) (sinks : SinkMeaning K) where
  -- in dally, DATA N (N = n): ACK N again
  abbrev pub LastDataIsAckedAgain : Type 0
  LastDataIsAckedAgain =
      (c : Handled sources sinks) (terms : Terms) (n : ℕ) (dally : Dally) (piece : List ℕ)
      → FromPeer c (Dallying terms n dally) terms
      → Spells (Data n piece) c.bytes → AnswersAgain c (Ack n)

  -- in dally, any other packet: nothing
  abbrev pub DallyIgnoresOthers : Type 0
  DallyIgnoresOthers =
      (c : Handled sources sinks) (terms : Terms) (n : ℕ) (dally : Dally) (packet : Packet)
      → FromPeer c (Dallying terms n dally) terms
      → Spells packet c.bytes → ((piece : List ℕ) → packet ≢ Data n piece) → DoesNothing c

  -- in dally, bytes that spell no packet: nothing
  abbrev pub DallyIgnoresMalformed : Type 0
  DallyIgnoresMalformed =
      (c : Handled sources sinks) (terms : Terms) (n : ℕ) (dally : Dally)
      → FromPeer c (Dallying terms n dally) terms
      → ((packet : Packet) → Spells packet c.bytes → ⊥) → DoesNothing c

  -- DATA n: ACK n again
  abbrev pub NewestDataIsAckedAgain : Type 0
  NewestDataIsAckedAgain =
      (c : Handled sources sinks) (terms : Terms) (n : ℕ) (piece : List ℕ)
      → FromPeer c (Receiving terms n) terms
      → Spells (Data n piece) c.bytes → AnswersAgain c (Ack n)

  -- DATA m, m < n: nothing
  abbrev pub OldDataIsNothing : Type 0
  OldDataIsNothing =
      (c : Handled sources sinks) (terms : Terms) (n m : ℕ) (piece : List ℕ)
      → FromPeer c (Receiving terms n) terms
      → Spells (Data m piece) c.bytes → m < n → DoesNothing c

  -- DATA m, m > n+1: ERROR 4, Illegal
  abbrev pub EarlyDataIsIllegal : Type 0
  EarlyDataIsIllegal =
      (c : Handled sources sinks) (terms : Terms) (n m : ℕ) (piece : List ℕ)
      → FromPeer c (Receiving terms n) terms
      → Spells (Data m piece) c.bytes
      → n + 1 < m
      → RefusesBy c (Some terms) n 4 (codes "illegal operation") outcomes.Illegal

  -- DATA n+1 of more than b bytes: ERROR 4, Illegal
  abbrev pub LongDataIsIllegal : Type 0
  LongDataIsIllegal =
      (c : Handled sources sinks) (terms : Terms) (n : ℕ) (piece : List ℕ)
      → FromPeer c (Receiving terms n) terms
      → Spells (Data (n + 1) piece) c.bytes
      → terms.size < length piece
      → RefusesBy c (Some terms) n 4 (codes "illegal operation") outcomes.Illegal

  -- DATA 65,535 of b bytes: ERROR 0 `file too large`, TooLarge, not stored
  abbrev pub BlocksRunOut : Type 0
  BlocksRunOut =
      (c : Handled sources sinks) (terms : Terms) (piece : List ℕ)
      → FromPeer c (Receiving terms 65534) terms
      → Spells (Data 65535 piece) c.bytes → length piece ≡ terms.size
      → RefusesBy c (Some terms) 65534 0 (codes "file too large") outcomes.TooLarge

  -- any other DATA n+1: its rows above
  abbrev pub NextDataIsStored : Type 0
  NextDataIsStored =
      (c : Handled sources sinks) (terms : Terms) (n : ℕ) (piece : List ℕ)
      → FromPeer c (Receiving terms n) terms
      → Spells (Data (n + 1) piece) c.bytes
      → length piece ≤ terms.size
      → (n + 1 ≡ 65535 → length piece < terms.size)
      → NextRow c terms n piece
      (is_readable c.e.role.mode c.e.position.held_back piece (nat_lt (length piece) terms.size))

  -- ERROR: PeerError, closed without a reply
  abbrev pub ErrorClosesReceiver : Type 0
  ErrorClosesReceiver =
      (c : Handled sources sinks) (terms : Terms) (n code : ℕ) (text : List ℕ)
      → FromPeer c (Receiving terms n) terms
      → Spells (Error code text) c.bytes
      → ClosesInSilence c (Some terms) n false (outcomes.PeerError code)

  -- OACK at a client that was opened by an OACK, n = 0: ACK 0 again
  abbrev pub OackIsAckedAgain : Type 0
  OackIsAckedAgain =
      (c : Handled sources sinks) (terms : Terms) (options : List RawOption)
      → FromPeer c (Receiving terms 0) terms
      → Spells (Oack options) c.bytes → took_oack c.e terms ≡ true → AnswersAgain c (Ack 0)

  -- the same, n > 0: nothing
  abbrev pub LateOackIsNothing : Type 0
  LateOackIsNothing =
      (c : Handled sources sinks) (terms : Terms) (n : ℕ) (options : List RawOption)
      → FromPeer c (Receiving terms n) terms
      → Spells (Oack options) c.bytes → took_oack c.e terms ≡ true → 0 < n → DoesNothing c

  -- any other packet: ERROR 4, Illegal
  abbrev pub ReceiverRefusesOthers : Type 0
  ReceiverRefusesOthers =
      (c : Handled sources sinks) (terms : Terms) (n : ℕ) (packet : Packet)
      → FromPeer c (Receiving terms n) terms
      → Spells packet c.bytes → UnexpectedAtReceiver (took_oack c.e terms) packet
      → RefusesBy c (Some terms) n 4 (codes "illegal operation") outcomes.Illegal

  -- a malformed packet: ERROR 4, Illegal
  abbrev pub ReceiverRefusesMalformed : Type 0
  ReceiverRefusesMalformed =
      (c : Handled sources sinks) (terms : Terms) (n : ℕ)
      → FromPeer c (Receiving terms n) terms
      → IsMalformed c
      → RefusesBy c (Some terms) n 4 (codes "illegal operation") outcomes.Illegal
