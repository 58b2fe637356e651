-- A borrowed value as the owned value with the same bytes.
use Rattle.tftp_wire.specs.declared.options.RawOption.{RawOption}
use Rattle.tftp_wire.specs.declared.options.OptionRef.{OptionRef}
use Rattle.tftp_wire.specs.declared.packet.Packet.{Packet}
use Rattle.tftp_wire.specs.declared.packet.Packet.TheVariants as owns
use Rattle.tftp_wire.specs.declared.packet.PacketRef.{PacketRef}
use Rattle.tftp_wire.specs.declared.packet.PacketRef.TheVariants.{Read, Write, Data, Ack, Error}
use Rattle.tftp_wire.specs.declared.packet.PacketRef.TheVariants.{Oack}
use Rattle.tftp_wire.specs.declared.packet.Request.{Request}
use Rattle.tftp_wire.specs.declared.packet.RequestRef.{RequestRef}

-- an option
abbrev pub owned_option : OptionRef → RawOption
owned_option o = record { name = o.name.now; value = o.value.now }

-- a request
abbrev pub owned_request : RequestRef → Request
owned_request r = record { name = r.name.now; mode = r.mode; options = r.options }

-- a packet
abbrev pub owned : PacketRef → Packet
owned (Read r) = owns.Read (owned_request r)
owned (Write r) = owns.Write (owned_request r)
owned (Data block bytes) = owns.Data block bytes.now
owned (Ack block) = owns.Ack block
owned (Error code text) = owns.Error code text.now
owned (Oack options) = owns.Oack options
