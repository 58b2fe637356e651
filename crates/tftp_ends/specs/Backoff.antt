-- How long an end waits for its peer (RFC 1123, section 4.2.3.2).
use Rattle.std.specs.Prelude.{ℕ, ◌*◌, ◌-◌, ◌^◌, min}
use Rattle.tftp_ends.specs.declared.backoff.Backoff.{Backoff}
use Rattle.tftp_ends.specs.declared.backoff.Backoff.TheVariants.{Constant, Doubling}
use Rattle.tftp_ends.specs.End.{EndState}

-- the timeouts of an end since its opening or its last progress: the retries that are used up
abbrev pub timeouts_of : EndState → ℕ
timeouts_of e = e.role.retries - e.position.retries_left

-- the wait in seconds after so many timeouts without progress: the interval, or for each of the
-- first three timeouts twice as long
abbrev pub wait_of : Backoff → ℕ → ℕ → ℕ
wait_of Constant interval timeouts = interval
wait_of Doubling interval timeouts = interval * 2 ^ min timeouts 3
