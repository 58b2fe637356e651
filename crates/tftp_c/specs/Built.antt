-- A request that a caller in C builds.
use Rattle.std.specs.Prelude.{ℕ, ◌≡◌, ◌==◌, if◌then◌else◌, List, length, take}
use Rattle.tftp_wire.specs.Spelling.{canonical, default_request}
use Rattle.tftp_wire.specs.declared.mode.Mode.{Mode}
use Rattle.tftp_wire.specs.declared.packet.Packet.{Packet}
use Rattle.tftp_wire.specs.declared.packet.Packet.TheVariants.{Read, Write}
use Rattle.tftp_c.specs.Modes.{mode_number}

-- a request without options: opcode 1 is a read, any other a write
abbrev pub plain_request : ℕ → List ℕ → Mode → Packet
plain_request opcode name mode =
    if opcode == 1 then Read (default_request name mode) else Write (default_request name mode)

-- the start of a buffer is a request without options, in the mode of this number
pub record BuildsRequest (opcode number : ℕ) (name datagram : List ℕ) (count : ℕ) : Type 0 where
  pub mode : Mode
  pub numbered : mode_number mode ≡ number
  pub len : count ≡ length (canonical (plain_request opcode name mode))
  pub written : take count datagram ≡ canonical (plain_request opcode name mode)
