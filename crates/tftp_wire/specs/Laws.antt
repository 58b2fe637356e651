-- Laws of the bytes of packets.
use Rattle.std.specs.Prelude.{ℕ, ◌≡◌, ◌<◌, List, [], ◌++◌, get_or, None}
use Rattle.tftp_wire.specs.declared.options.RawOption.{RawOption}
use Rattle.tftp_wire.specs.declared.packet.Packet.{Packet}
use Rattle.tftp_wire.specs.declared.packet.Packet.TheVariants.{Read, Write, Oack}
use Rattle.tftp_wire.specs.declared.packet.Request.{Request}
use Rattle.tftp_wire.specs.Options.{options_bytes}
use Rattle.tftp_wire.specs.Spelling.{Spells, IsValid, canonical, default_request}
use Rattle.tftp_wire.specs.Parts.{packet_in}
use Rattle.tftp_wire.specs.Reading.{first_fault}

-- the bytes spell at most one packet
abbrev pub OneMeaning : Type 0
OneMeaning = (p q : Packet) (bytes : List ℕ) → Spells p bytes → Spells q bytes → p ≡ q

-- bytes without a fault spell the packet that `packet_in` computes
abbrev pub FaultWhereNothing : Type 0
FaultWhereNothing =
    (bytes : List ℕ) → ((k : ℕ) → get_or bytes k 0 < 256) → first_fault bytes ≡ None
    → Spells (packet_in bytes) bytes

-- bytes that spell a packet have no fault
abbrev pub SpelledHasNoFault : Type 0
SpelledHasNoFault = (p : Packet) (bytes : List ℕ) → Spells p bytes → first_fault bytes ≡ None

-- `packet_in` computes the packet that bytes spell
abbrev pub SpelledIsFound : Type 0
SpelledIsFound = (p : Packet) (bytes : List ℕ) → Spells p bytes → packet_in bytes ≡ p

-- the request without its options
abbrev pub prefix : Request → Request
prefix r = default_request r.name r.mode

-- the options of a packet follow the packet without them
pub record OptionsFollow : Type 0 where
  pub read : (r : Request) →
      canonical (Read r) ≡ canonical (Read (prefix r)) ++ options_bytes r.options
  pub write : (r : Request) →
      canonical (Write r) ≡ canonical (Write (prefix r)) ++ options_bytes r.options
  pub oack : (os : List RawOption) → canonical (Oack os) ≡ canonical (Oack []) ++ options_bytes os

-- the canonical bytes of a valid packet spell it
abbrev pub CanonicalSpells : Type 0
CanonicalSpells = (p : Packet) → IsValid p → Spells p (canonical p)
