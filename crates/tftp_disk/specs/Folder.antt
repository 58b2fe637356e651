-- The folder of a path of the system (ours).
use Rattle.std.specs.Prelude.{◌≡◌, ◌≢◌, ℕ, ◌<◌, List, [], ◌∷◌, ◌++◌, length, slice_index, codes}

-- no byte is a slash
abbrev pub HasNoSlash : List ℕ → Type 0
HasNoSlash bytes = (i : ℕ) → i < length bytes → slice_index bytes i ≢ 47

-- what is before a slash, as a folder: the root if that is nothing
abbrev pub folder_or_root : List ℕ → List ℕ
folder_or_root [] = codes "/"
folder_or_root (byte ∷ bytes) = byte ∷ bytes

-- the folder of a path: what is before its last slash, or the current folder if it has none
pub data IsFolderOf (path : List ℕ) : List ℕ → Type 0 where
  Before : (front name : List ℕ) → path ≡ front ++ 47 ∷ name → HasNoSlash name
      → IsFolderOf path (folder_or_root front)
  Here : HasNoSlash path → IsFolderOf path (codes ".")
