-- What begins with a folder and a slash is below the folder.
use Rattle.std.proofs.lemmas.Grind.{common_steps}
use Rattle.std.proofs.Common.{◌≡◌, ◌≤◌, ℕ, List, [], ◌∷◌, ◌++◌, true, nat_eq, length, take, drop, slice_index_or, sym}
use Rattle.std.proofs.Common.{ap, arith}
use Rattle.std.specs.Cmp.Lexicographic.{pointwise, same_text}
use Rattle.tftp_folder.specs.Uploads.{IsBelow}

pub below : (folder path rest : List ℕ)
    → pointwise nat_eq (take (length folder) path) folder ≡ true
    → rest ≡ drop (length folder) path → 1 ≤ length rest
    → nat_eq (slice_index_or rest 0 0) 47 ≡ true → IsBelow folder path
below folder path [] same is long slash = absurd (omega arith)
below folder path (first ∷ rest) same is long slash =
    let begins : take (length folder) path ≡ folder = same_text _ _ (sym same) in
    let goes_on : folder ++ (first ∷ rest) ≡ folder ++ drop (length folder) path =
    ap (λ (t : List ℕ). folder ++ t) is in grind (arith, common_steps)
