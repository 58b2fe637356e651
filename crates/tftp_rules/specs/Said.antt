-- A packet as the guarded machine sees it.
use Rattle.std.specs.Prelude.{ℕ, true, false, List, [], ◌∷◌, ◌++◌, Option, Some, None}
use Rattle.std.specs.Prelude.{option_to_list}
use Rattle.tftp_wire.specs.declared.options.RawOption.{RawOption}
use Rattle.tftp_wire.specs.declared.packet.Packet.{Packet as WirePacket}
use Rattle.tftp_wire.specs.declared.packet.Packet.TheVariants.{Read, Write, Data as WireData}
use Rattle.tftp_wire.specs.declared.packet.Packet.TheVariants.{Ack as WireAck, Error as WireError}
use Rattle.tftp_wire.specs.declared.packet.Packet.TheVariants.{Oack as WireOack}
use Rattle.tftp_negotiate.specs.declared.known.Known.{Known}
use Rattle.tftp_negotiate.specs.declared.known.Known.TheVariants as known
use Rattle.tftp_negotiate.specs.declared.name.Name.{Name}
use Rattle.tftp_negotiate.specs.declared.name.Name.TheVariants.{Blksize, Timeout, Tsize}
use Rattle.tftp_negotiate.specs.Options.{name_of, number_of}
use Rattle.tftp_negotiate.specs.Agreed.{size}
use Rattle.tftp_rules.specs.Machine.{Packet, Request, Data, Ack, Oack, Error}

-- the option of this name with this number
abbrev pub known_as : Name → ℕ → Known
known_as Blksize n = known.Blksize n
known_as Timeout n = known.Timeout n
known_as Tsize n = known.Tsize n

-- the known option, if its name is known and its value is a number
abbrev pub stated_as : Option Name → Option ℕ → Option Known
stated_as None value = None
stated_as (Some name) None = None
stated_as (Some name) (Some n) = Some (known_as name n)

-- the known options of a list, in their order
abbrev pub stated_options : List RawOption → List Known
stated_options [] = []
stated_options (o ∷ options) =
    option_to_list (stated_as (name_of o.name) (number_of o.value)) ++ stated_options options

-- the block size of an OACK: 512 without the option (RFC 2347, "Negotiation Protocol"; RFC 2348,
-- "Blocksize Option Specification")
abbrev pub oack_size : List RawOption → ℕ
oack_size options = size (stated_options options)

-- the packet of the machine
abbrev pub said : WirePacket → Packet
said (Read request) = Request false request
said (Write request) = Request true request
said (WireData block bytes) = Data block bytes
said (WireAck block) = Ack block
said (WireError code text) = Error
said (WireOack options) = Oack (oack_size options)
