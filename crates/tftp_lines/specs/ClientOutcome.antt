-- The last line of `tftp`, and its exit status (ours).
use Rattle.std.specs.Prelude.{ℕ, List, ◌++◌, codes}
use Rattle.std.specs.Fmt.{decimal}
use Rattle.tftp_ends.specs.Outcome.{outcome_text}
use Rattle.tftp_ends.specs.declared.fault.OpenFault.{OpenFault}
use Rattle.tftp_ends.specs.declared.fault.OpenFault.TheVariants as open_faults
use Rattle.tftp_lines.specs.declared.client_outcome.ClientOutcome.{ClientOutcome}
use Rattle.tftp_lines.specs.declared.client_outcome.ClientOutcome.TheVariants.{Complete}
use Rattle.tftp_lines.specs.declared.client_outcome.ClientOutcome.TheVariants.{Failed}
use Rattle.tftp_lines.specs.declared.client_outcome.ClientOutcome.TheVariants.{FileFault}
use Rattle.tftp_lines.specs.declared.client_outcome.ClientOutcome.TheVariants.{SocketFault}
use Rattle.tftp_lines.specs.declared.client_outcome.ClientOutcome.TheVariants.{NotOpened}
use Rattle.tftp_lines.specs.declared.client_outcome.ClientOutcome.TheVariants.{Memory}

-- the status: 0 for a complete transfer, 1 for one that failed, 2 if none was opened
abbrev pub status_of : ClientOutcome → ℕ
status_of (Complete count) = 0
status_of (Failed outcome) = 1
status_of FileFault = 2
status_of SocketFault = 2
status_of (NotOpened fault) = 2
status_of Memory = 2

-- the word for the fault of an opening
abbrev pub open_fault_word : OpenFault → List ℕ
open_fault_word open_faults.BadRequest = codes "BadRequest"
open_fault_word open_faults.TooLarge = codes "TooLarge"
open_fault_word open_faults.SourceFault = codes "SourceFault"
open_fault_word open_faults.Memory = codes "Memory"

-- the line, without its end
abbrev pub end_text : ClientOutcome → List ℕ
end_text (Complete count) = codes "complete " ++ decimal count
end_text (Failed outcome) = codes "tftp: " ++ outcome_text outcome
end_text FileFault = codes "tftp: file fault"
end_text SocketFault = codes "tftp: socket fault"
end_text (NotOpened fault) = codes "tftp: " ++ open_fault_word fault
end_text Memory = codes "tftp: out of memory"
