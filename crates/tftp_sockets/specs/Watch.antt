-- The time of a program over UDP, and its deadlines (ours; RFC 2349, "Timeout Interval Option
-- Specification").
use Rattle.std.specs.Prelude.{ℕ, ◌+◌, ◌-◌, ◌*◌, ◌/◌, min, max, List, [], ◌∷◌, Result, Ok, Err}
use Rattle.std.specs.Duration.{as_nanos}
use Rattle.std.specs.declared.time.Duration.{Duration}
use Rattle.tftp_sockets.specs.declared.watch.Watch.{Watch}
use Rattle.tftp_sockets.specs.declared.watch.TheConstants.{LONGEST_WAIT, MILLIS_PER_SECOND}

-- the greatest time
abbrev pub last_moment : ℕ
last_moment = 18446744073709551615

-- nanoseconds as whole milliseconds
abbrev pub whole_millis : ℕ → ℕ
whole_millis nanos = min (nanos / 1000000) last_moment

-- a reading of the clock: its time in milliseconds, or the reading before if it could not be read
abbrev pub reading_of : {E : Type 0} → Result Duration E → ℕ → ℕ
reading_of (Ok time) last = whole_millis (as_nanos time)
reading_of (Err error) last = last

-- the time at a new reading: it advances as much as the clock, at most by a second
abbrev pub later_by : Watch → ℕ → ℕ
later_by watch reading = min (watch.now + min (reading - watch.reading) LONGEST_WAIT) last_moment

-- the time at a new reading: it advances as much as the clock, to this time at most
abbrev pub later_within : Watch → ℕ → ℕ → ℕ
later_within watch reading limit =
    min (min (watch.now + (reading - watch.reading)) last_moment) (max limit watch.now)

-- the deadline: these seconds from now
abbrev pub deadline_of : ℕ → ℕ → ℕ
deadline_of now seconds = min (now + seconds * MILLIS_PER_SECOND) last_moment

-- how long to wait: until the nearest deadline, at most a second
abbrev pub wait_of : ℕ → List ℕ → ℕ
wait_of now [] = LONGEST_WAIT
wait_of now (deadline ∷ deadlines) = min (deadline - now) (wait_of now deadlines)
