-- The path of the file of one of several servers (ours).
use Rattle.std.specs.Prelude.{ℕ, ◌≡◌, List, ◌∷◌, ◌++◌, codes}
use Rattle.std.specs.Fmt.{decimal}

-- its number stands behind a dot (46): before the last dot of the path, or behind it all
pub data IsFileOf (file : List ℕ) (server : ℕ) (own : List ℕ) : Type 0 where
  Before : (front ending : List ℕ) → file ≡ front ++ (46 ∷ ending)
      → own ≡ front ++ (codes "." ++ (decimal server ++ (codes "." ++ ending)))
      → IsFileOf file server own
  Behind : own ≡ file ++ (codes "." ++ decimal server) → IsFileOf file server own
