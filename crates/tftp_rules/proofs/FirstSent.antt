-- How much of its source a server's end asks for first. For the crate tftp_promises.
use Rattle.tftp_rules.proofs.Common.{◌≡◌, ℕ, arith, min, DEFAULT_BLOCK, block_length}

-- the first block is requested of a text that was measured to its end
pub first_want : (m n : ℕ) → m ≡ n → block_length m DEFAULT_BLOCK 1 ≡ min DEFAULT_BLOCK n
first_want m n e = omega arith
