-- A datagram as a line of text (our own format).
use Rattle.std.specs.Prelude.{ℕ, List, ◌∷◌, ◌++◌, codes, Option, Some, None}
use Rattle.std.specs.Fmt.{decimal}
use Rattle.tftp_wire.specs.declared.fault.PacketFault.{PacketFault}
use Rattle.tftp_wire.specs.declared.fault.PacketFaultKind.{PacketFaultKind}
use Rattle.tftp_wire.specs.Faults.{kind_name}
use Rattle.tftp_wire.specs.Line.{line}
use Rattle.tftp_wire.specs.Parts.{packet_in}

-- the line of a fault, by name and offset
abbrev pub fault_line : PacketFaultKind → ℕ → List ℕ
fault_line kind at = codes "fault " ++ (kind_name kind ++ (32 ∷ decimal at))

-- the line of a datagram: its packet's, or its first fault's
abbrev pub datagram_shown : List ℕ → Option PacketFault → List ℕ
datagram_shown bytes None = line (packet_in bytes)
datagram_shown bytes (Some fault) = fault_line fault.kind fault.at
