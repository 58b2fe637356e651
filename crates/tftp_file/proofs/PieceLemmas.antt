-- One more element from the start of a list. For `encode`.
use Rattle.std.proofs.Common.{◌≡◌, ℕ, ◌+◌, ◌≤◌, List, [], ◌∷◌, ◌++◌, length, take, drop, ap, sym, ◌∙◌, arith}
use Rattle.std.proofs.Common.{length-drop}
use Rattle.std.proofs.lemmas.List.{drop-drop}
use Rattle.std.proofs.Math.Seq.{take-add}

-- the first n + 1 of a list whose rest after n begins with b
pub record OneMore (n : ℕ) (xs : List ℕ) (b : ℕ) (rest : List ℕ) : Type 0 where
  pub within : n + 1 ≤ length xs
  pub front : take (n + 1) xs ≡ take n xs ++ b ∷ []
  pub back : drop (n + 1) xs ≡ rest

-- the next element is the first of the rest
pub one_more : (n : ℕ) (xs : List ℕ) (b : ℕ) (rest : List ℕ) → drop n xs ≡ b ∷ rest → OneMore n xs b rest
one_more n xs b rest left = record {
  within = omega (arith, length-drop n xs, ap length left);
  front = take-add n 1 xs ∙ ap (λ tail. take n xs ++ take 1 tail) left;
  back = sym (drop-drop 1 n xs) ∙ ap (drop 1) left;
}
