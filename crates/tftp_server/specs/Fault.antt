-- The numbers of the faults, and which fault of a server an end's is.
use Rattle.std.specs.Prelude.{ℕ, Result, Ok, Err}
use Rattle.tftp_ends.specs.declared.fault.EndFault.{EndFault}
use Rattle.tftp_ends.specs.declared.fault.EndFault.TheVariants.{Closed}
use Rattle.tftp_ends.specs.declared.fault.EndFault.TheVariants as ends
use Rattle.tftp_server.specs.declared.fault.ServerFault.{ServerFault}
use Rattle.tftp_server.specs.declared.fault.ServerFault.TheVariants.{TidInUse, NoSuchTid, Memory}

-- the server's fault for the fault of an end: a closed end is not an open transfer
abbrev pub of_end : EndFault → ServerFault
of_end Closed = NoSuchTid
of_end ends.Memory = Memory

-- what a server returns for what an end returned
abbrev pub by_end : {T : Type 0} → Result T EndFault → Result T ServerFault
by_end (Ok done) = Ok done
by_end (Err fault) = Err (of_end fault)

-- the number of a fault
abbrev pub fault_number : ServerFault → ℕ
fault_number TidInUse = 1
fault_number NoSuchTid = 2
fault_number Memory = 3
