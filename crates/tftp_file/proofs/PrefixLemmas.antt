-- Prefixes of host bytes and of their wire text. For `prefixes`.
use Rattle.std.proofs.Common.{◌≡◌, ℕ, List, [], ◌∷◌, ◌++◌, sym, refl, ap, ◌∙◌, append_assoc}
use Rattle.tftp_wire.specs.declared.mode.Mode.{Mode}
use Rattle.tftp_wire.specs.declared.mode.Mode.TheVariants.{Octet, Netascii}
use Rattle.tftp_file.specs.Netascii.{wire_byte, netascii_text, wire_text}
use Rattle.tftp_file.specs.Block.{IsPrefixOf}
use Rattle.tftp_file.proofs.NetasciiLemmas.{byte_form}
use Rattle.tftp_file.proofs.DecodingLemmas.{next_byte, stop_nil}
use Rattle.tftp_file.proofs.LengthLemmas.{wire-append}

netascii_begins : (xs ys rest : List ℕ) → netascii_text xs ++ rest ≡ netascii_text ys → IsPrefixOf xs ys
netascii_begins [] ys rest e = (ys, refl)
netascii_begins (x ∷ xs) [] rest e =
    absurd (stop_nil x (netascii_text xs ++ rest) (sym (append_assoc (wire_byte x) (netascii_text xs) rest) ∙ e))
netascii_begins (x ∷ xs) (y ∷ ys) rest e =
    let n =
    next_byte x y (netascii_text xs ++ rest) (netascii_text ys) (byte_form x) (byte_form y)
    (sym (append_assoc (wire_byte x) (netascii_text xs) rest) ∙ e) in
    let h = netascii_begins xs ys rest n.1 in
    (h.0, ap (λ (k : ℕ). k ∷ (xs ++ h.0)) n.0 ∙ ap (λ (t : List ℕ). y ∷ t) h.1)

-- a prefix of the wire text is that of a prefix of the host bytes
pub host_begins : (mode : Mode) (xs ys : List ℕ) → IsPrefixOf (wire_text mode xs) (wire_text mode ys)
    → IsPrefixOf xs ys
host_begins Octet xs ys h = h
host_begins Netascii xs ys h = netascii_begins xs ys h.0 h.1

-- the wire text of a prefix is a prefix
pub wire_begins : (mode : Mode) (xs ys : List ℕ) → IsPrefixOf xs ys
    → IsPrefixOf (wire_text mode xs) (wire_text mode ys)
wire_begins mode xs ys h = (wire_text mode h.0, sym (wire-append mode xs h.0) ∙ ap (λ t. wire_text mode t) h.1)
