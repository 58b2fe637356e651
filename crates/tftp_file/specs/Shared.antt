-- The bytes of a file that may be shared.
use Rattle.std.specs.Prelude.{ℕ, List}
use Rattle.tftp_file.specs.declared.shared.Kept.{Kept}
use Rattle.tftp_file.specs.declared.shared.Kept.TheVariants.{Alone, Shared}

-- the bytes, whoever owns them
abbrev pub kept_bytes : Kept → List ℕ
kept_bytes (Alone held) = held.items
kept_bytes (Shared shared) = shared
