-- The numbers of the faults.
use Rattle.std.specs.Prelude.{ℕ}
use Rattle.tftp_player.specs.Common.{WorldFault, NoSuchDatagram, NoSuchEnd, NoPort, BadRequest}
use Rattle.tftp_player.specs.Common.{Memory}

-- the number of a fault
abbrev pub world_fault_number : WorldFault → ℕ
world_fault_number NoSuchDatagram = 1
world_fault_number NoSuchEnd = 2
world_fault_number NoPort = 3
world_fault_number BadRequest = 4
world_fault_number Memory = 5
