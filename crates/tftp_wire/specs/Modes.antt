-- The words of the modes (RFC 1350, section 5).
use Rattle.std.specs.Prelude.{ℕ, List, codes}
use Rattle.tftp_wire.specs.declared.mode.Mode.{Mode}
use Rattle.tftp_wire.specs.declared.mode.Mode.TheVariants.{Octet, Netascii}

-- the word of a mode, in lower case
abbrev pub mode_word : Mode → List ℕ
mode_word Octet = codes "octet"
mode_word Netascii = codes "netascii"
