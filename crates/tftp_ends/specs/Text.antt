-- A receiver's text, received in pieces (RFC 1350, section 1; RFC 764).
use Rattle.std.specs.Prelude.{ℕ, ◌≡◌, ◌==◌, ◌&&◌, ◌||◌, not, Bool, true, false, if◌then◌else◌, List}
use Rattle.std.specs.Prelude.{[], ◌∷◌, ◌++◌}
use Rattle.tftp_wire.specs.declared.mode.Mode.{Mode}
use Rattle.tftp_wire.specs.declared.mode.Mode.TheVariants.{Octet, Netascii}
use Rattle.tftp_file.specs.Decoding.{DecodesPiece}

-- each CR is followed by LF or NUL, and each LF follows a CR; a CR at the end awaits its byte
abbrev pub begins_netascii : List ℕ → Bool
begins_netascii [] = true
begins_netascii (b ∷ []) = not (b == 10)
begins_netascii (b ∷ c ∷ bytes) =
    if b == 13 then (c == 10 || (c == 0)) && begins_netascii bytes
    else not (b == 10) && begins_netascii (c ∷ bytes)

-- the last byte is a CR
abbrev pub ends_in_cr : List ℕ → Bool
ends_in_cr [] = false
ends_in_cr (b ∷ []) = b == 13
ends_in_cr (b ∷ c ∷ bytes) = ends_in_cr (c ∷ bytes)

-- a piece continues the text whose end was held back; `last` says that the piece ends the text
abbrev pub is_readable : Mode → List ℕ → List ℕ → Bool → Bool
is_readable Octet held piece last = true
is_readable Netascii held piece last =
    begins_netascii (held ++ piece) && not (last && ends_in_cr (held ++ piece))

-- a piece, after the text held back, stands for these host bytes, and leaves this text held back
abbrev pub Decoded : Mode → List ℕ → List ℕ → List ℕ → List ℕ → Type 0
Decoded Octet held piece bytes after = (bytes ≡ piece) × (after ≡ held)
Decoded Netascii held piece bytes after = DecodesPiece held piece bytes after
