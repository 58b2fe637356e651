-- Why standard input is no request port (ours).
use Rattle.std.specs.Prelude.{ℕ, ℤ, unsigned_abs, List, codes, Option, Some, None}
use Rattle.std.specs.Prelude.{if◌then◌else◌, ◌==◌}
use Rattle.tftp_lines.specs.Reason.{reason_of_number, reason_text}
use Rattle.tftp_lines.specs.declared.reason.Reason.{Reason}
use Rattle.tftp_service.specs.declared.handed_fault.HandedFault.{HandedFault}
use Rattle.tftp_service.specs.declared.handed_fault.HandedFault.TheVariants as faults

-- the fault of an error number of Linux: it is closed (9), or no socket (88), or else the call was
-- refused for this reason
abbrev pub fault_of_number : ℕ → Reason → HandedFault
fault_of_number number reason =
    if number == 9 then faults.Closed else
    if number == 88 then faults.NotSocket else
    faults.System reason

-- the fault of an error with this number; one without a number is std's own, at an address of
-- another family than IPv4 and IPv6
abbrev pub fault_of : Option ℤ → HandedFault
fault_of (Some code) = fault_of_number (unsigned_abs code) (reason_of_number (unsigned_abs code))
fault_of None = faults.NotInternet

-- the words for a fault
abbrev pub fault_text : HandedFault → List ℕ
fault_text faults.Closed = codes "closed"
fault_text faults.NotSocket = codes "not a socket"
fault_text faults.NotInternet = codes "not a socket of the internet"
fault_text faults.Ipv6 = codes "a socket over IPv6"
fault_text faults.Stream = codes "a socket for streams"
fault_text faults.Connected = codes "a connected socket"
fault_text faults.NoPort = codes "a socket without a port"
fault_text (faults.System reason) = reason_text reason
