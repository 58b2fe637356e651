-- The blocks of a text. For `blocks` and the crate tftp_rules.
use Rattle.std.proofs.lemmas.Grind.{common_steps}
use Rattle.std.proofs.Common.{◌≡◌, ℕ, zero, suc, ◌+◌, ◌-◌, ◌*◌, ◌<◌, ◌≤◌, List, ◌++◌, sym, ap, ◌∙◌, arith, length, take}
use Rattle.std.proofs.Common.{drop, rules}
use Rattle.std.specs.Prelude.{◌%◌}
use Rattle.std.proofs.lemmas.List.{take-append-drop, take-take, drop-take, take_all}
use Rattle.std.proofs.lemmas.Nat.{div-add-mod', mod_below}
use Rattle.tftp_file.specs.Block.{block, block_count, first_blocks}

-- the first elements of a list are some and then some of the rest
pub take-add : (m n : ℕ) (xs : List ℕ) → take (m + n) xs ≡ take m xs ++ take n (drop m xs)
take-add m n xs =
    sym (take-append-drop m (take (m + n) xs))
    ∙ (ap (λ (t : List ℕ). t ++ drop m (take (m + n) xs)) (take-take m (m + n) xs (omega arith))
    ∙ ap (λ (t : List ℕ). take m xs ++ t) (drop-take m n xs))

-- one block more
pub take_block : (text : List ℕ) (size n : ℕ)
    → take (n * size) text ++ block text size (suc n) ≡ take (suc n * size) text
take_block text size n =
    let e : (suc n - 1) * size ≡ n * size = ap (λ (k : ℕ). k * size) (let f : suc n - 1 ≡ n = omega arith in f) in
    let s : n * size + size ≡ suc n * size = omega arith in
    search (rules, take-add)

-- the first n blocks are the first n times the size bytes
pub first_blocks_is : (text : List ℕ) (size n : ℕ) → first_blocks text size n ≡ take (n * size) text
first_blocks_is text size zero = ap (λ (k : ℕ). take k text) (let z : 0 ≡ 0 * size = omega arith in z)
first_blocks_is text size (suc n) =
    ap (λ (t : List ℕ). t ++ block text size (suc n)) (first_blocks_is text size n) ∙ take_block text size n

module _ (text : List ℕ) (size : ℕ) (some : 0 < size) where
  count_covers : length text ≤ block_count text size * size
  count_covers = omega (arith, div-add-mod' (length text) size, mod_below (length text) size some)

  -- all blocks together are the text
  pub blocks_join : first_blocks text size (block_count text size) ≡ text
  blocks_join = search (rules, first_blocks_is, take_all, count_covers)

  -- the last block has the remaining bytes
  pub length-last : length (block text size (block_count text size)) ≡ length text % size
  length-last = grind (arith, common_steps)

  -- the last is shorter than the block size
  pub last_short : length (block text size (block_count text size)) < size
  last_short = omega (arith, length-last, mod_below (length text) size some)

  -- every other has the block size
  pub others_full : (n : ℕ) → 1 ≤ n → n < block_count text size → length (block text size n) ≡ size
  others_full n low high = grind (arith, common_steps)
