-- When the next text of a status file is due (ours).
use Rattle.std.specs.Prelude.{ℕ, ◌+◌, min, nat_le, Bool, true, false, ◌&&◌, ◌||◌, if◌then◌else◌}
use Rattle.std.specs.Prelude.{Option, None, Some, is_err, Result, Ok, Err}
use Rattle.tftp_lines.specs.declared.reason.Reason.{Reason}
use Rattle.tftp_sockets.specs.declared.receipt.Receipt.{Receipt}
use Rattle.tftp_sockets.specs.declared.receipt.Receipt.TheVariants.{Datagram}
use Rattle.tftp_status.specs.declared.schedule.Schedule.{Schedule}
use Rattle.tftp_status.specs.declared.schedule.TheConstants.{LONGEST_AGE, PERIOD}

-- the schedule of a server that has done nothing yet: a text is due at once
abbrev pub at_start : Schedule
at_start = record { due = 0; stale = 0; is_changed = true; has_failed = false }

-- the time so much later, up to the last time of the watch
abbrev pub later : ℕ → ℕ → ℕ
later now millis = min (now + millis) 18446744073709551615

-- the newest text lacks something that was counted, or it is a minute old
abbrev pub lacks : ℕ → Schedule → Bool
lacks now schedule = schedule.is_changed || nat_le schedule.stale now

-- a text is due: the newest one lacks something or is too old, and it is a second old
abbrev pub is_due : ℕ → Schedule → Bool
is_due now schedule = nat_le schedule.due now && lacks now schedule

-- something was counted
abbrev pub changed : Schedule → Schedule
changed old = record old { is_changed = true }

-- so it was, once a receive has ended so, if a datagram was received
abbrev pub changed_by : Receipt → Schedule → Schedule
changed_by (Datagram peer length) old = changed old
changed_by receipt old = old

-- a text was written at this time, or could not be: then the newest one lacks it still
abbrev pub tried_at : ℕ → Result (Unit {0}) Reason → Schedule → Schedule
tried_at now written old = record old {
  stale = later now LONGEST_AGE;
  is_changed = is_err written;
  has_failed = old.has_failed || is_err written;
}

-- the failure of a text, if none has failed before
abbrev pub first_failure : Result (Unit {0}) Reason → Schedule → Option Reason
first_failure (Ok done) old = None
first_failure (Err reason) old = if old.has_failed then None else Some reason

-- a text was tried at this time, and could not be written
abbrev pub has_missed : ℕ → Schedule → Schedule → Bool
has_missed now old new = lacks now old && new.is_changed

-- the next text is due a second after this time
abbrev pub waiting_at : ℕ → Schedule → Schedule
waiting_at now old = record old { due = later now PERIOD }
