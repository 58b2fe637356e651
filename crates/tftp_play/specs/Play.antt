-- The messages of `tftp-play` on standard error if a script is not played to its end.
use Rattle.std.specs.Prelude.{ℕ, Bool, true, false, List, ◌++◌, codes}
use Rattle.std.specs.Fmt.{decimal}
use Rattle.tftp_play.specs.declared.play.fault.PlayFault.{PlayFault}
use Rattle.tftp_play.specs.declared.play.fault.PlayFault.TheVariants.{Unreadable, Line, Unwritable}
use Rattle.tftp_play.specs.declared.play.fault.PlayFault.TheVariants.{Closed, Undrawn, Memory}
use Rattle.tftp_play.specs.declared.script.ScriptFault.{ScriptFault}
use Rattle.tftp_play.specs.declared.script.ScriptFault.TheVariants as script_faults

-- the message of a fault, without its line feed
abbrev pub fault_text : PlayFault → List ℕ
fault_text (Unreadable kind) = codes "script: unreadable"
fault_text (Line line) = codes "line " ++ (decimal line.number ++ codes ": fault")
fault_text Unwritable = codes "output: unwritable"
fault_text Closed = codes "output: closed"
fault_text (Undrawn kind) = codes "svg: unwritable"
fault_text Memory = codes "out of memory"

-- the fault of a run for a script with this fault
abbrev pub play_fault_of : ScriptFault → PlayFault
play_fault_of (script_faults.Line line) = Line line
play_fault_of script_faults.Memory = Memory

-- whether the script could not be read
abbrev pub is_unreadable : PlayFault → Bool
is_unreadable (Unreadable kind) = true
is_unreadable (Line line) = false
is_unreadable Unwritable = false
is_unreadable Closed = false
is_unreadable (Undrawn kind) = false
is_unreadable Memory = false

-- whether the picture could not be written
abbrev pub is_undrawn : PlayFault → Bool
is_undrawn (Unreadable kind) = false
is_undrawn (Line line) = false
is_undrawn Unwritable = false
is_undrawn Closed = false
is_undrawn (Undrawn kind) = true
is_undrawn Memory = false
