-- The rest of a text that is encoded in pieces.
use Rattle.std.specs.Prelude.{ℕ, List, ◌++◌, Option, None, option_to_list}
use Rattle.tftp_wire.specs.declared.mode.Mode.{Mode}
use Rattle.tftp_wire.specs.declared.mode.Mode.TheVariants as mode
use Rattle.tftp_file.specs.declared.encoding.Encoding.{Encoding}
use Rattle.tftp_file.specs.declared.encoding.Encoding.TheVariants.{Octet, Netascii}
use Rattle.tftp_file.specs.Netascii.{netascii_text}

-- the second byte of a split pair, and then the host bytes in netascii
abbrev pub netascii_left : Option ℕ → List ℕ → List ℕ
netascii_left held bytes = option_to_list held ++ netascii_text bytes

-- the wire text that is left of the host bytes
abbrev pub text_left : Encoding → List ℕ → List ℕ
text_left Octet bytes = bytes
text_left (Netascii held) bytes = netascii_left held bytes

-- the encoding at the beginning of a text
abbrev pub encoding_of : Mode → Encoding
encoding_of mode.Octet = Octet
encoding_of mode.Netascii = Netascii None
