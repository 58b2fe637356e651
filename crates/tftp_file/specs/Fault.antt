-- The numbers of the faults.
use Rattle.std.specs.Prelude.{ℕ}
use Rattle.tftp_file.specs.declared.fault.FileFault.{FileFault}
use Rattle.tftp_file.specs.declared.fault.FileFault.TheVariants as file
use Rattle.tftp_file.specs.declared.fault.StoreFault.{StoreFault}
use Rattle.tftp_file.specs.declared.fault.StoreFault.TheVariants.{Missing, Exists, Full, Io, Memory}

-- the number of a fault in reading
abbrev pub file_fault_number : FileFault → ℕ
file_fault_number file.Read = 1
file_fault_number file.Memory = 2

-- the number of a fault in storing
abbrev pub store_fault_number : StoreFault → ℕ
store_fault_number Missing = 1
store_fault_number Exists = 2
store_fault_number Full = 3
store_fault_number Io = 4
store_fault_number Memory = 5
