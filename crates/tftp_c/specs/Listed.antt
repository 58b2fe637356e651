-- The options of a packet, for C: by their index and by name.
use Rattle.std.specs.Prelude.{ℕ, ◌≡◌, ◌==◌, ◌-◌, Bool, if◌then◌else◌, List, [], ◌∷◌, Option}
use Rattle.std.specs.Prelude.{Some, None, IsSome, length, take, bytes_eq}
use Rattle.std.specs.Str.{str_to_ascii_lowercase}
use Rattle.tftp_wire.specs.Options.{option_bytes}
use Rattle.tftp_wire.specs.Spelling.{Spells}
use Rattle.tftp_wire.specs.declared.options.RawOption.{RawOption}
use Rattle.tftp_wire.specs.declared.packet.Packet.{Packet}
use Rattle.tftp_wire.specs.declared.packet.Packet.TheVariants.{Read, Write, Data, Ack, Error, Oack}

-- the options of a packet that may have some
abbrev pub options_of : Packet → Option (List RawOption)
options_of (Read r) = Some r.options
options_of (Write r) = Some r.options
options_of (Data block piece) = None
options_of (Ack block) = None
options_of (Error code text) = None
options_of (Oack options) = Some options

-- these are the options of the packet that a datagram spells, if it spells one that may have some
pub record Lists (datagram : List ℕ) (found : Option (List RawOption)) : Type 0 where
  pub spelled : IsSome found → (packet : Packet) × Spells packet datagram
  pub only : (packet : Packet) → Spells packet datagram → options_of packet ≡ found

-- the option at this index
abbrev pub option_at : ℕ → List RawOption → Option RawOption
option_at index [] = None
option_at index (o ∷ os) = if index == 0 then Some o else option_at (index - 1) os

-- the option has this name, in any case
abbrev pub is_named : List ℕ → RawOption → Bool
is_named name o = bytes_eq (str_to_ascii_lowercase o.name) (str_to_ascii_lowercase name)

-- the first option of this name
abbrev pub option_named : List ℕ → List RawOption → Option RawOption
option_named name [] = None
option_named name (o ∷ os) = if is_named name o then Some o else option_named name os

-- a datagram spells a packet in whose options this one is found
pub record HasOption (find : List RawOption → Option RawOption) (datagram : List ℕ) (o : RawOption)
    : Type 0 where
  pub packet : Packet
  pub spelled : Spells packet datagram
  pub options : List RawOption
  pub listed : options_of packet ≡ Some options
  pub found : find options ≡ Some o

-- an option of the datagram is written to the start of a buffer: its name and its value, each ended
-- by a zero byte
pub record WritesOption (find : List RawOption → Option RawOption) (datagram text : List ℕ)
    (count : ℕ) : Type 0 where
  pub option : RawOption
  pub has : HasOption find datagram option
  pub len : count ≡ length (option_bytes option)
  pub written : take count text ≡ option_bytes option
