-- The ports of a range as a list. For `listed`.
use Rattle.std.proofs.Common.{rules}
use Rattle.tftp_loop.proofs.Common.{◌≡◌, ◌≤◌, ◌+◌, ◌-◌, ℕ, zero, suc, List, [], ◌∷◌, ◌++◌, ap, arith, range_with_len}

-- one more number
pub one_more : (a n : ℕ) → range_with_len a (suc n) ≡ range_with_len a n ++ (a + n) ∷ []
one_more a zero = let e : a ≡ a + 0 = omega arith in ap (λ (b : ℕ). b ∷ []) e
one_more a (suc n) = search (rules, range_with_len, one_more (a + 1) n)

-- a loop over the ports of a range
pub next_listed : (first port : ℕ) (xs ys : List ℕ) → first ≤ port → xs ≡ range_with_len first (port - first) →
    ys ≡ xs ++ port ∷ [] → ys ≡ range_with_len first ((port + 1) - first)
next_listed first port xs ys h e more = search (rules, suc, range_with_len, one_more)
