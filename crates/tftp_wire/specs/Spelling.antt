-- The bytes that spell a packet (RFC 1350, section 5; RFC 2347, "Packet Formats").
use Rattle.std.specs.Prelude.{ℕ, ◌≡◌, ◌≢◌, ◌<◌, ◌≤◌, ◌^◌, List, [], ◌++◌, length}
use Rattle.std.specs.List.{AllByRecursion}
use Rattle.std.specs.Str.{str_to_ascii_lowercase}
use Rattle.byteorder.specs.Endian.{big_bytes}
use Rattle.tftp_wire.specs.declared.limits.TheConstants.{MAX_BLOCK, MAX_REQUEST}
use Rattle.tftp_wire.specs.declared.mode.Mode.{Mode}
use Rattle.tftp_wire.specs.declared.packet.Packet.{Packet}
use Rattle.tftp_wire.specs.declared.packet.Packet.TheVariants.{Read, Write, Data, Ack, Error, Oack}
use Rattle.tftp_wire.specs.declared.packet.Request.{Request}
use Rattle.tftp_wire.specs.Modes.{mode_word}
use Rattle.tftp_wire.specs.Texts.{IsText, zero_ended}
use Rattle.tftp_wire.specs.Options.{IsOption, options_bytes}

-- the word of the packet's mode, which only requests have
abbrev pub word_of : Packet → List ℕ
word_of (Read r) = mode_word r.mode
word_of (Write r) = mode_word r.mode
word_of (Data block bytes) = []
word_of (Ack block) = []
word_of (Error code text) = []
word_of (Oack options) = []

-- a request by its opcode and the word of its mode
abbrev pub request_bytes : ℕ → List ℕ → Request → List ℕ
request_bytes opcode word r =
    big_bytes 2 opcode ++ (zero_ended r.name ++ (zero_ended word ++ options_bytes r.options))

-- a request without options
abbrev pub default_request : List ℕ → Mode → Request
default_request name mode = record { name = name; mode = mode; options = [] }

-- a packet by the word of its mode
abbrev pub written : List ℕ → Packet → List ℕ
written word (Read r) = request_bytes 1 word r
written word (Write r) = request_bytes 2 word r
written word (Data block bytes) = big_bytes 2 3 ++ (big_bytes 2 block ++ bytes)
written word (Ack block) = big_bytes 2 4 ++ big_bytes 2 block
written word (Error code text) = big_bytes 2 5 ++ (big_bytes 2 code ++ zero_ended text)
written word (Oack options) = big_bytes 2 6 ++ options_bytes options

-- the canonical bytes of the packet: its mode is in lower case
abbrev pub canonical : Packet → List ℕ
canonical p = written (word_of p) p

-- a request has at most 512 bytes (RFC 2347, "Packet Formats"); by our own choice an OACK and an
-- ERROR have the same limit
abbrev pub IsShort : List ℕ → Type 0
IsShort bytes = length bytes ≤ MAX_REQUEST

-- the file name is a text and not empty, and each option is well-formed
pub record IsRequest (r : Request) : Type 0 where
  pub named : r.name ≢ []
  pub name : IsText r.name
  pub options : AllByRecursion IsOption r.options

-- can be encoded: texts contain no zero byte, names are not empty, and the limits hold
abbrev pub IsValid : Packet → Type 0
IsValid (Read r) = IsRequest r × IsShort (canonical (Read r))
IsValid (Write r) = IsRequest r × IsShort (canonical (Write r))
IsValid (Data block bytes) = (block ≢ 0) × (block < 2 ^ 16) × (length bytes ≤ MAX_BLOCK)
IsValid (Ack block) = block < 2 ^ 16
IsValid (Error code text) = (code < 2 ^ 16) × IsText text × IsShort (canonical (Error code text))
IsValid (Oack options) =
    (options ≢ []) × AllByRecursion IsOption options × IsShort (canonical (Oack options))

-- the bytes spell the packet: they are its canonical bytes, except for the case of the mode
pub record Spells (p : Packet) (bytes : List ℕ) : Type 0 where
  pub valid : IsValid p
  pub word : List ℕ
  pub mode : str_to_ascii_lowercase word ≡ word_of p
  pub whole : bytes ≡ written word p
