-- How long a transfer waits after timeouts, and how long it takes to close. For Looking, InTime and
-- `a_server_closes_what_makes_no_progress`.
use Rattle.tftp_loop.proofs.Common.{arith, ◌≡◌, ◌≤◌, ◌<◌, ◌+◌, ◌*◌, ℕ, min, max, zero, suc, wait_of, Backoff}
use Rattle.tftp_loop.proofs.Common.{LONGEST_WAIT, in_millis, waits_of}
use Rattle.std.proofs.Common.{◌^◌, rules}
use Rattle.std.proofs.Math.Nat.{mul-le-mul_left, mul-suc, pow-le-pow_right}
use Rattle.tftp_ends.specs.declared.backoff.Backoff.TheVariants.{Constant, Doubling}
use Rattle.tftp_loop.specs.Expiry.{ClosesAfterDoubling, ClosesAfterIntervals}

power_more : (n m : ℕ) → n ≤ m → 2 ^ n ≤ 2 ^ m
power_more n m h = let some : 0 < 2 = omega arith in pow-le-pow_right some h

-- after more timeouts the wait is no shorter
pub wait_more : (backoff : Backoff) (interval n m : ℕ) → n ≤ m → wait_of backoff interval n ≤ wait_of backoff interval m
wait_more Constant interval n m h = omega arith
wait_more Doubling interval n m h = mul-le-mul_left interval (power_more (min n 3) (min m 3) (omega (arith, h)))

pub wait_most : (backoff : Backoff) (interval n : ℕ) → wait_of backoff interval n ≤ 8 * interval
wait_most Constant interval n = omega arith
wait_most Doubling interval n =
    let less : interval * 2 ^ min n 3 ≤ interval * 2 ^ 3 =
    mul-le-mul_left interval (power_more (min n 3) 3 (omega arith)) in
    omega (arith, less)

-- ---- so many waits
waits_constant : (interval n : ℕ) → waits_of Constant interval n ≡ (in_millis interval + LONGEST_WAIT) * n
waits_constant interval zero = search rules
waits_constant interval (suc n) = search (rules, mul-suc, in_millis, waits_constant interval n)

pub closes_after_intervals : ClosesAfterIntervals
closes_after_intervals now interval retries = search (rules, waits_constant, max)

wait_full : (interval more : ℕ) → wait_of Doubling interval (suc (suc (suc more))) ≡ interval * 8
wait_full interval more = search rules

waits_doubling : (interval more : ℕ) → waits_of Doubling interval (suc (suc (suc more)))
    ≡ in_millis (interval * 7) + LONGEST_WAIT * 3 + (in_millis (interval * 8) + LONGEST_WAIT) * more
waits_doubling interval zero = search rules
waits_doubling interval (suc more) =
    search (rules, wait_full, mul-suc, in_millis, waits_doubling interval more)

pub closes_after_doubling : ClosesAfterDoubling
closes_after_doubling now interval more =
    search (rules, max, suc, waits_of, wait_of, waits_doubling, wait_full)
