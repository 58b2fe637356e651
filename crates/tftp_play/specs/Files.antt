-- The files of a script, beside the set of their paths.
use Rattle.std.specs.Prelude.{ℕ, ◌≡◌, List, is_some}
use Rattle.std.specs.BTreeSet.{contains}
use Rattle.std.specs.declared.vec.Vec.{Vec}
use Rattle.std.specs.BTreeSet.{BTreeSet}
use Rattle.tftp_store.specs.Memory.{contents}
use Rattle.tftp_store.specs.Store.{file_at, path_cmp}

-- a path is in the set exactly if a file has it
abbrev pub AreThePaths : {A : Type 0} → BTreeSet (List ℕ) → List (List ℕ × Vec ℕ A) → Type 0
AreThePaths paths files =
    (path : List ℕ) → contains path_cmp paths path ≡ is_some (file_at path (contents files))
