-- The numbers, names and texts of the faults, and the fault for out of memory (our own).
use Rattle.std.specs.Prelude.{ℕ, ◌≡◌, List, codes, Option, Some, None}
use Rattle.tftp_wire.specs.declared.fault.PacketFault.{PacketFault}
use Rattle.tftp_wire.specs.declared.fault.PacketFaultKind.{PacketFaultKind}
use Rattle.tftp_wire.specs.declared.fault.PacketFaultKind.TheVariants.{Short, Opcode, Unterminated}
use Rattle.tftp_wire.specs.declared.fault.PacketFaultKind.TheVariants.{EmptyName, Mode, NoValue}
use Rattle.tftp_wire.specs.declared.fault.PacketFaultKind.TheVariants.{EmptyOption, Trailing}
use Rattle.tftp_wire.specs.declared.fault.PacketFaultKind.TheVariants.{TooLong, BlockZero}
use Rattle.tftp_wire.specs.declared.fault.PacketFaultKind.TheVariants.{EmptyOack, Memory}

-- the number of a kind
abbrev pub kind_number : PacketFaultKind → ℕ
kind_number Short = 1
kind_number Opcode = 2
kind_number Unterminated = 3
kind_number EmptyName = 4
kind_number Mode = 5
kind_number NoValue = 6
kind_number EmptyOption = 7
kind_number Trailing = 8
kind_number TooLong = 9
kind_number BlockZero = 10
kind_number EmptyOack = 11
kind_number Memory = 12

-- the name of a kind
abbrev pub kind_name : PacketFaultKind → List ℕ
kind_name Short = codes "Short"
kind_name Opcode = codes "Opcode"
kind_name Unterminated = codes "Unterminated"
kind_name EmptyName = codes "EmptyName"
kind_name Mode = codes "Mode"
kind_name NoValue = codes "NoValue"
kind_name EmptyOption = codes "EmptyOption"
kind_name Trailing = codes "Trailing"
kind_name TooLong = codes "TooLong"
kind_name BlockZero = codes "BlockZero"
kind_name EmptyOack = codes "EmptyOack"
kind_name Memory = codes "Memory"

-- what is printed of a kind
abbrev pub kind_text : PacketFaultKind → List ℕ
kind_text Short = codes "the datagram is too short"
kind_text Opcode = codes "the opcode is unknown"
kind_text Unterminated = codes "a text has no zero byte after it"
kind_text EmptyName = codes "the file name is empty"
kind_text Mode = codes "the mode is neither netascii nor octet"
kind_text NoValue = codes "an option has no value"
kind_text EmptyOption = codes "an option has no name"
kind_text Trailing = codes "bytes stand after the packet"
kind_text TooLong = codes "the datagram is too long"
kind_text BlockZero = codes "a DATA has the number 0"
kind_text EmptyOack = codes "an OACK holds no option"
kind_text Memory = codes "out of memory"

-- out of memory, which is not a fault of the bytes
abbrev pub out_of_memory : PacketFault
out_of_memory = record { kind = Memory; at = 0 }

-- the error of a decoder that allocates: the first fault, or out of memory if no fault exists
abbrev pub IsFailure : Option PacketFault → PacketFault → Type 0
IsFailure None e = e ≡ out_of_memory
IsFailure (Some fault) e = e ≡ fault
