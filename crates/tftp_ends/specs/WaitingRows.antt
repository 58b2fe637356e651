-- The table of a client that waits for its first answer, a statement for each row (RFC 1350,
-- section 4; RFC 2347, "Negotiation Protocol").
use Rattle.std.specs.Prelude.{ℕ, ◌≡◌, ◌≢◌, ◌<◌, ◌≤◌, ◌*◌, Bool, true, false, nat_lt, List, []}
use Rattle.std.specs.Prelude.{length, codes, None, Result, Ok, Err}
use Rattle.tftp_wire.specs.Spelling.{Spells}
use Rattle.tftp_wire.specs.declared.options.RawOption.{RawOption}
use Rattle.tftp_wire.specs.declared.packet.Packet.{Packet}
use Rattle.tftp_wire.specs.declared.packet.Packet.TheVariants.{Read, Write, Data, Ack, Error, Oack}
use Rattle.tftp_negotiate.specs.Agreement.{agreement}
use Rattle.tftp_negotiate.specs.declared.asked.Asked.{Asked}
use Rattle.tftp_negotiate.specs.declared.known.Kind.TheVariants as kinds
use Rattle.tftp_negotiate.specs.declared.known.Known.{Known}
use Rattle.tftp_negotiate.specs.declared.limits.TheConstants.{DEFAULT_BLOCK}
use Rattle.tftp_negotiate.specs.declared.refusal.Refusal.{Refusal}
use Rattle.tftp_negotiate.specs.declared.refusal.Refusal.TheVariants as refusals
use Rattle.tftp_file.specs.Source.{SourceMeaning}
use Rattle.tftp_file.specs.Sink.{SinkMeaning}
use Rattle.tftp_ends.specs.declared.outcome.Outcome.TheVariants.{PeerError, Illegal, Refused}
use Rattle.tftp_ends.specs.declared.outcome.Outcome.TheVariants.{TooLarge}
use Rattle.tftp_ends.specs.declared.phase.Phase.TheVariants.{Waiting, Receiving}
use Rattle.tftp_ends.specs.declared.phase.Terms.{Terms}
use Rattle.tftp_ends.specs.End.{is_sender}
use Rattle.tftp_ends.specs.ReceiverRows.{NextRow}
use Rattle.tftp_ends.specs.Rows.{Handled, IsMalformed, ClosesInSilence, RefusesBy, AnswersBy}
use Rattle.tftp_ends.specs.SenderRows.{SendsFromSource}
use Rattle.tftp_ends.specs.Text.{is_readable}
use Rattle.tftp_ends.specs.Waiting.{default_terms, agreed_terms}

-- a packet that is not valid as a first answer to a client that reads: all but DATA 1 of at most
-- 512 bytes, an OACK and an ERROR
abbrev pub NoAnswerToReader : Packet → Type 0
NoAnswerToReader (Read request) = Unit {0}
NoAnswerToReader (Write request) = Unit {0}
NoAnswerToReader (Data number piece) = number ≡ 1 → DEFAULT_BLOCK < length piece
NoAnswerToReader (Ack number) = Unit {0}
NoAnswerToReader (Error code text) = ⊥
NoAnswerToReader (Oack options) = ⊥

-- a packet that is not valid as a first answer to a client that writes: all but ACK 0, an OACK and
-- an ERROR
abbrev pub NoAnswerToWriter : Packet → Type 0
NoAnswerToWriter (Read request) = Unit {0}
NoAnswerToWriter (Write request) = Unit {0}
NoAnswerToWriter (Data number piece) = Unit {0}
NoAnswerToWriter (Ack number) = number ≢ 0
NoAnswerToWriter (Error code text) = ⊥
NoAnswerToWriter (Oack options) = ⊥

module _ {S K : Type 0} {sources : SourceMeaning S} {sinks : SinkMeaning K}
    (c : Handled sources sinks) where
  -- a waiting client received a datagram from the server's address
  pub record FromServer (writes : Bool) (asked : Asked) (limit : ℕ) : Type 0 where
    pub stands : c.e.position.phase ≡ Waiting asked limit
    pub side : is_sender c.e.role.side ≡ writes
    pub server : c.from.ip ≡ c.e.position.last_sent_to.ip
    pub no_text : c.e.position.held_back ≡ []

  -- an OACK that does not match the requested options
  abbrev pub RefusesOack : Refusal → Type 0
  -- as too large: ERROR 3, TooLarge
  RefusesOack refusals.TooLarge = RefusesBy c None 0 3 (codes "disk full") TooLarge
  -- otherwise: ERROR 8, Refused
  RefusesOack refusals.Repeated =
      RefusesBy c None 0 8 (codes "option refused") (Refused refusals.Repeated)
  RefusesOack refusals.NotAsked =
      RefusesBy c None 0 8 (codes "option refused") (Refused refusals.NotAsked)
  RefusesOack refusals.BadValue =
      RefusesBy c None 0 8 (codes "option refused") (Refused refusals.BadValue)

  -- a client that reads accepts an OACK (its peer and size, n = 0, ACK 0), or refuses it
  abbrev pub ReaderTakes : Result (List Known) Refusal → Type 0
  ReaderTakes (Ok agreed) =
      AnswersBy c (Receiving (agreed_terms c.from agreed) 0) (Ack 0) × (c.files' ≡ c.files)
  ReaderTakes (Err refusal) = RefusesOack refusal

  -- a client that writes sends DATA 1 with these terms, if its file's blocks can be numbered
  abbrev pub WriterBegins : Terms → Bool → Type 0
  WriterBegins terms true = SendsFromSource c terms 0 1
  WriterBegins terms false = RefusesBy c None 0 0 (codes "file too large") TooLarge

  -- it accepts an OACK, or refuses it
  abbrev pub WriterTakes : Result (List Known) Refusal → Type 0
  WriterTakes (Ok agreed) =
      let terms = agreed_terms c.from agreed in
      WriterBegins terms (nat_lt c.e.role.length (65535 * terms.size))
  WriterTakes (Err refusal) = RefusesOack refusal

module _ {S K : Type 0} (sources : SourceMeaning S) (sinks : SinkMeaning K) where
  -- ---- a client that reads
  -- DATA 1 of at most 512 bytes: peer known, size 512, then the receiver's rows with n = 0
  abbrev pub FirstDataIsStored : Type 0
  FirstDataIsStored =
      (c : Handled sources sinks) (asked : Asked) (limit : ℕ) (piece : List ℕ)
      → FromServer c false asked limit
      → Spells (Data 1 piece) c.bytes → length piece ≤ DEFAULT_BLOCK
      → NextRow c (default_terms c.from) 0 piece
      (is_readable c.e.role.mode [] piece (nat_lt (length piece) DEFAULT_BLOCK))

  -- OACK: accepted by ACK 0, or refused
  abbrev pub OackOpensReader : Type 0
  OackOpensReader =
      (c : Handled sources sinks) (asked : Asked) (limit : ℕ) (options : List RawOption)
      → FromServer c false asked limit
      → Spells (Oack options) c.bytes
      → ReaderTakes c (agreement asked kinds.Read c.e.role.mode options limit)

  -- any other packet: ERROR 4, Illegal, and no peer
  abbrev pub ReaderTakesNoOther : Type 0
  ReaderTakesNoOther =
      (c : Handled sources sinks) (asked : Asked) (limit : ℕ) (packet : Packet)
      → FromServer c false asked limit
      → Spells packet c.bytes
      → NoAnswerToReader packet
      → RefusesBy c None 0 4 (codes "illegal operation") Illegal

  -- ---- a client that writes
  -- ACK 0: peer known, size 512, n = 1, DATA 1; or the file is too large
  abbrev pub FirstAckBegins : Type 0
  FirstAckBegins =
      (c : Handled sources sinks) (asked : Asked) (limit : ℕ)
      → FromServer c true asked limit
      → Spells (Ack 0) c.bytes
      → WriterBegins c (default_terms c.from) (nat_lt c.e.role.length (65535 * DEFAULT_BLOCK))

  -- OACK: accepted by DATA 1; or the file is too large; or refused
  abbrev pub OackOpensWriter : Type 0
  OackOpensWriter =
      (c : Handled sources sinks) (asked : Asked) (limit : ℕ) (options : List RawOption)
      → FromServer c true asked limit
      → Spells (Oack options) c.bytes
      → WriterTakes c (agreement asked kinds.Write c.e.role.mode options limit)

  -- any other packet: ERROR 4, Illegal, and no peer
  abbrev pub WriterTakesNoOther : Type 0
  WriterTakesNoOther =
      (c : Handled sources sinks) (asked : Asked) (limit : ℕ) (packet : Packet)
      → FromServer c true asked limit
      → Spells packet c.bytes
      → NoAnswerToWriter packet
      → RefusesBy c None 0 4 (codes "illegal operation") Illegal

  -- ---- either
  -- ERROR: closed without a reply, and no peer
  abbrev pub ErrorClosesWaiting : Type 0
  ErrorClosesWaiting =
      (c : Handled sources sinks) (writes : Bool) (asked : Asked) (limit code : ℕ) (text : List ℕ)
      → FromServer c writes asked limit
      → Spells (Error code text) c.bytes → ClosesInSilence c None 0 false (PeerError code)

  -- a malformed packet: ERROR 4, Illegal, and no peer
  abbrev pub MalformedClosesWaiting : Type 0
  MalformedClosesWaiting =
      (c : Handled sources sinks) (writes : Bool) (asked : Asked) (limit : ℕ)
      → FromServer c writes asked limit
      → IsMalformed c
      → RefusesBy c None 0 4 (codes "illegal operation") Illegal
