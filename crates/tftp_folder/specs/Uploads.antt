-- The folder that takes all writes (ours).
use Rattle.std.specs.Prelude.{ℕ, ◌≡◌, ◌-◌, ◌==◌, if◌then◌else◌, List, ◌∷◌, ◌++◌, length, take}
use Rattle.std.specs.Prelude.{Option, Some, None, Result, slice_get}
use Rattle.tftp_file.specs.Path.{path_of_name}
use Rattle.tftp_file.specs.declared.path.PathFault.{PathFault}

-- a path of a file in the folder or below it: the folder, a slash, and a rest
abbrev pub IsBelow : List ℕ → List ℕ → Type 0
IsBelow folder path = (rest : List ℕ) × (path ≡ folder ++ (47 ∷ rest))

-- the path of a folder below the root
abbrev pub path_below : List ℕ → List ℕ → List ℕ
path_below root folder = root ++ (47 ∷ folder)

-- a word without its last byte, if that is this one and a slash
abbrev pub without_byte : Option ℕ → List ℕ → List ℕ
without_byte None word = word
without_byte (Some byte) word = if byte == 47 then take (length word - 1) word else word

-- a word without one last slash, which a shell puts behind the name of a folder
abbrev pub without_last_slash : List ℕ → List ℕ
without_last_slash word = without_byte (slice_get word (length word - 1)) word

-- the path of a folder, as an operator names it, or the first fault of the name
abbrev pub path_of_folder : List ℕ → Result (List ℕ) PathFault
path_of_folder word = path_of_name (without_last_slash word)
