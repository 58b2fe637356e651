-- The vocabulary of the tables of the ends: what an end received, its state after it, and its
-- answer. It is independent of how the code decides.
use Rattle.std.specs.Prelude.{ℕ, ◌≡◌, Bool, false, List, Option, Some, None, Result}
use Rattle.tftp_wire.specs.Reading.{has_error_opcode}
use Rattle.tftp_wire.specs.Spelling.{Spells, canonical}
use Rattle.tftp_wire.specs.declared.packet.Packet.{Packet}
use Rattle.tftp_wire.specs.declared.packet.Packet.TheVariants.{Error}
use Rattle.tftp_file.specs.Source.{SourceMeaning}
use Rattle.tftp_file.specs.Sink.{SinkMeaning}
use Rattle.tftp_file.specs.declared.fault.FileFault.{FileFault}
use Rattle.tftp_file.specs.declared.files.Files.{Files}
use Rattle.tftp_file.specs.declared.files.Files.TheVariants.{Source}
use Rattle.tftp_ends.specs.declared.endpoint.Endpoint.{Endpoint}
use Rattle.tftp_ends.specs.declared.outcome.Outcome.{Outcome}
use Rattle.tftp_ends.specs.declared.phase.Phase.{Phase}
use Rattle.tftp_ends.specs.declared.phase.Phase.TheVariants.{Closed}
use Rattle.tftp_ends.specs.declared.phase.Terms.{Terms}
use Rattle.tftp_ends.specs.End.{EndState}
use Rattle.tftp_ends.specs.Step.{Turn, DatagramStep, AsksFor, block_length}

-- an end handled a datagram: the end and its files before, the sender and the bytes of the
-- datagram, and the step
pub record Handled {S K : Type 0} (sources : SourceMeaning S) (sinks : SinkMeaning K) : Type 0 where
  pub e : EndState
  pub files : Files S K
  pub from : Endpoint
  pub bytes : List ℕ
  pub turn : Turn
  pub files' : Files S K
  pub step : DatagramStep sources sinks from bytes e files turn files'

module _ {S K : Type 0} {sources : SourceMeaning S} {sinks : SinkMeaning K}
    (c : Handled sources sinks) where
  -- ---- what was received
  -- by an end in this phase, from its peer
  pub record FromPeer (phase : Phase) (terms : Terms) : Type 0 where
    pub stands : c.e.position.phase ≡ phase
    pub peer : c.from ≡ terms.peer

  -- bytes that spell no packet, and do not begin as an ERROR
  pub record IsMalformed : Type 0 where
    pub spells_none : (packet : Packet) → Spells packet c.bytes → ⊥
    pub no_error : has_error_opcode c.bytes ≡ false

  -- ---- what the end did
  -- no datagram and no change
  pub record DoesNothing : Type 0 where
    pub silent : c.turn.reply ≡ None
    pub position : c.turn.position ≡ c.e.position
    pub files : c.files' ≡ c.files

  -- closed with this outcome, without a reply
  pub record ClosesInSilence (terms : Option Terms) (number : ℕ) (complete : Bool)
      (outcome : Outcome) : Type 0 where
    pub silent : c.turn.reply ≡ None
    pub phase : c.turn.position.phase ≡ Closed terms number complete outcome
    pub files : c.files' ≡ c.files

  -- closed with this outcome, after an ERROR to the sender of the datagram
  pub record GivesUp (terms : Option Terms) (number code : ℕ) (text : List ℕ)
      (outcome : Outcome) : Type 0 where
    pub error : c.turn.reply ≡ Some (record { to = c.from; bytes = canonical (Error code text) })
    pub phase : c.turn.position.phase ≡ Closed terms number false outcome

  -- the same, and no file was used
  pub record RefusesBy (terms : Option Terms) (number code : ℕ) (text : List ℕ)
      (outcome : Outcome) : Type 0 where
    pub gives_up : GivesUp terms number code text outcome
    pub files : c.files' ≡ c.files

  -- a new packet is sent to the sender of the datagram; a timeout retransmits it, and all retries
  -- are left
  pub record AnswersBy (next : Phase) (packet : Packet) : Type 0 where
    pub reply : c.turn.reply ≡ Some (record { to = c.from; bytes = canonical packet })
    pub phase : c.turn.position.phase ≡ next
    pub newest : c.turn.position.last_sent ≡ canonical packet
    pub newest_to : c.turn.position.last_sent_to ≡ c.from
    pub retries : c.turn.position.retries_left ≡ c.e.role.retries

  -- this packet is sent there, and nothing has changed
  pub record AnswersAgain (packet : Packet) : Type 0 where
    pub reply : c.turn.reply ≡ Some (record { to = c.from; bytes = canonical packet })
    pub position : c.turn.position ≡ c.e.position
    pub files : c.files' ≡ c.files

  -- ---- the source of a sender
  -- the block of this number was read: the answer, and the bytes read
  pub record AsksSource (terms : Terms) (number : ℕ) : Type 0 where
    pub source : S
    pub source' : S
    pub files : c.files ≡ Source source
    pub files' : c.files' ≡ Source source'
    pub answer : Result ℕ FileFault
    pub piece : List ℕ
    pub asks :
        AsksFor sources (block_length c.e.role.length terms.size number) source
        (sources.left source') piece answer
