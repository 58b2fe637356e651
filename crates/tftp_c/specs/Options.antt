-- The options that C gives: the bytes of its struct, of which it states how many there are.
use Rattle.std.specs.Prelude.{ℕ, ◌≡◌, ◌≤◌, ◌<◌, ◌+◌, ◌*◌, ◌⊎◌, Bool, not, ◌==◌, List, [], ◌∷◌}
use Rattle.std.specs.Prelude.{get_or, length}
use Rattle.std.specs.Int.{w64, from_le_bytes}
use Rattle.tftp_c.specs.declared.event.TftpOptions.{TftpOptions}

-- the byte at an offset, or 0 if the struct ends before it
abbrev pub byte_at : List ℕ → ℕ → ℕ
byte_at bytes at = get_or bytes at 0

-- whether it is not 0
abbrev pub flag_at : List ℕ → ℕ → Bool
flag_at bytes at = not (byte_at bytes at == 0)

-- a number of two bytes, and one of eight: the lowest byte is the first
abbrev pub half_at : List ℕ → ℕ → ℕ
half_at bytes at = byte_at bytes at + 256 * byte_at bytes (at + 1)

abbrev pub word_at : List ℕ → ℕ → ℕ
word_at bytes at =
    from_le_bytes w64
    (byte_at bytes at ∷ byte_at bytes (at + 1) ∷ byte_at bytes (at + 2) ∷ byte_at bytes (at + 3)
    ∷ byte_at bytes (at + 4) ∷ byte_at bytes (at + 5) ∷ byte_at bytes (at + 6)
    ∷ byte_at bytes (at + 7) ∷ [])

-- the options: the fields of struct tftp_options at their offsets
abbrev pub options_in : List ℕ → TftpOptions
options_in bytes =
    record {
      max_file = word_at bytes 8;
      blksize = half_at bytes 16;
      timeout = byte_at bytes 18;
      retries = byte_at bytes 19;
      asks_tsize = flag_at bytes 20;
      is_netascii = flag_at bytes 21;
      backoff = flag_at bytes 24;
      max_timeout = byte_at bytes 25;
    }

-- the caller has set the size, which is that of the first version (24), of today's (32), or between:
-- all bytes zero are no options
pub record HasSize (bytes : List ℕ) : Type 0 where
  pub least : 24 ≤ length bytes
  pub most : length bytes ≤ 32
  pub stated : word_at bytes 0 ≡ length bytes

-- the struct is that of a later version (14), or has no such size (11)
abbrev pub SizeRefused : List ℕ → ℕ → Type 0
SizeRefused bytes returned =
    ((returned ≡ 14) × (32 < length bytes))
    ⊎ ((returned ≡ 11) × (length bytes ≤ 32) × (HasSize bytes → ⊥))
