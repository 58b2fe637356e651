-- The waits of a client, which may grow.
use Rattle.tftp_client.proofs.Common.{◌≡◌, ◌<◌, ◌≤◌, ◌⊎◌, ℕ, ap, ◌+◌, ◌-◌, ◌*◌, min, wait_of, Backoff, seconds_in}
use Rattle.std.proofs.Common.{rules}
use Rattle.std.specs.Prelude.{◌^◌}
use Rattle.tftp_ends.specs.declared.backoff.Backoff.TheVariants.{Doubling}

-- a wait is doubled three times at most
doubles : (n : ℕ) → (min n 3 ≡ 0) ⊎ ((min n 3 ≡ 1) ⊎ ((min n 3 ≡ 2) ⊎ (min n 3 ≡ 3)))
doubles n = search rules

grown : (interval n k : ℕ) → min n 3 ≡ k → wait_of Doubling interval n ≡ interval * 2 ^ k
grown interval n k is = ap (λ (j : ℕ). interval * 2 ^ j) is

-- it is the interval at least, and no longer than after three timeouts
pub wait_least : (backoff : Backoff) (interval n : ℕ) → interval ≤ wait_of backoff interval n
wait_least backoff interval n = search rules

pub wait_most : (backoff : Backoff) (interval n : ℕ) → wait_of backoff interval n ≤ wait_of backoff interval 3
wait_most backoff interval n = search (rules, wait_of, doubles, grown)

-- the first of some waits
pub one_more : (backoff : Backoff) (interval timeouts count : ℕ) → 0 < count
    → seconds_in backoff interval timeouts count
    ≡ wait_of backoff interval timeouts + seconds_in backoff interval (timeouts + 1) (count - 1)
one_more backoff interval timeouts count some = search rules
