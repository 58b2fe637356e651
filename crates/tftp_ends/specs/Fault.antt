-- The numbers of the faults.
use Rattle.std.specs.Prelude.{ℕ}
use Rattle.tftp_ends.specs.declared.fault.EndFault.{EndFault}
use Rattle.tftp_ends.specs.declared.fault.EndFault.TheVariants as ends
use Rattle.tftp_ends.specs.declared.fault.OpenFault.{OpenFault}
use Rattle.tftp_ends.specs.declared.fault.OpenFault.TheVariants.{BadRequest, TooLarge, SourceFault}
use Rattle.tftp_ends.specs.declared.fault.OpenFault.TheVariants.{Memory}

-- the number of a fault of an opening
abbrev pub open_fault_number : OpenFault → ℕ
open_fault_number BadRequest = 1
open_fault_number TooLarge = 2
open_fault_number SourceFault = 3
open_fault_number Memory = 4

-- the number of a fault of an event
abbrev pub end_fault_number : EndFault → ℕ
end_fault_number ends.Closed = 1
end_fault_number ends.Memory = 2
