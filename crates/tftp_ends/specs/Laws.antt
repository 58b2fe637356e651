-- Laws of a receiver's text, independent of the program.
use Rattle.std.specs.Prelude.{ℕ, ◌≡◌, List, ◌++◌, true}
use Rattle.tftp_file.specs.Decoding.{DecodesPiece}
use Rattle.tftp_ends.specs.Text.{begins_netascii, ends_in_cr}

-- text that decodes, after the text held back before it, begins a wire text
abbrev pub DecodedBegins : Type 0
DecodedBegins =
    (held piece bytes after : List ℕ) → DecodesPiece held piece bytes after
    → begins_netascii (held ++ piece) ≡ true

-- it ends in a CR exactly if a CR is then held back
abbrev pub DecodedEnds : Type 0
DecodedEnds =
    (held piece bytes after : List ℕ) → DecodesPiece held piece bytes after
    → ends_in_cr (held ++ piece) ≡ ends_in_cr after
