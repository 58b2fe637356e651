-- The values that an option may have (RFC 2348; RFC 2349).
use Rattle.std.specs.Prelude.{ℕ, ◌≤◌, Bool, ◌&&◌, nat_le}
use Rattle.tftp_wire.specs.declared.limits.TheConstants.{MAX_BLOCK}
use Rattle.tftp_negotiate.specs.declared.limits.TheConstants.{MIN_BLOCK, MIN_TIMEOUT, MAX_TIMEOUT}

-- the numbers between two bounds, both included
pub record Range : Type 0 where
  pub least : ℕ
  pub most : ℕ

-- the number is in the range
abbrev pub IsIn : Range → ℕ → Type 0
IsIn range n = (range.least ≤ n) × (n ≤ range.most)

-- the test for it
abbrev pub is_in : Range → ℕ → Bool
is_in range n = nat_le range.least n && nat_le n range.most

-- the block sizes up to a maximum, in data bytes
abbrev pub block_sizes_to : ℕ → Range
block_sizes_to most = record { least = MIN_BLOCK; most = most }

-- the block sizes, in data bytes (RFC 2348, "Blocksize Option Specification")
abbrev pub block_sizes : Range
block_sizes = block_sizes_to MAX_BLOCK

-- the timeouts, in seconds (RFC 2349, "Timeout Interval Option Specification")
abbrev pub timeouts : Range
timeouts = record { least = MIN_TIMEOUT; most = MAX_TIMEOUT }

-- a block size
abbrev pub IsBlockSize : ℕ → Type 0
IsBlockSize n = IsIn block_sizes n

-- a timeout
abbrev pub IsTimeout : ℕ → Type 0
IsTimeout n = IsIn timeouts n
