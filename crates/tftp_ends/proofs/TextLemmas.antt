-- A piece of netascii, by its first wrong byte and by the host bytes that it stands for. For five functions and the
-- crate tftp_rules.
use Rattle.tftp_ends.proofs.Common.{◌≡◌, ◌≢◌, ℕ, Bool, true, false, List, [], ◌∷◌, ◌++◌, Result, length, ◌<◌, ◌≤◌, sym}
use Rattle.tftp_ends.proofs.Common.{refl, ap, ◌∙◌, ◌&&◌, not, ne_eqb, true≢false, lt-ltb, le-ltb, is_readable, Done}
use Rattle.std.proofs.Common.{ltb, append_assoc, rules}
use Rattle.std.specs.Prelude.{◌↔◌}
use Rattle.std.specs.Result.{IsOk, is_ok}
use Rattle.tftp_wire.specs.declared.mode.Mode.TheVariants.{Netascii}
use Rattle.tftp_file.specs.Netascii.{wire_byte, netascii_text}
use Rattle.tftp_file.specs.Decoding.{IsHeldBack, DecodesPiece, IsWrong, Refuses}
use Rattle.tftp_file.specs.declared.netascii.NetFault.{NetFault}
use Rattle.tftp_file.specs.declared.netascii.NetFault.TheVariants.{LoneCr, LoneLf, EndsInCr, Memory}
use Rattle.tftp_ends.specs.Laws.{DecodedBegins, DecodedEnds}
use Rattle.tftp_ends.specs.Text.{begins_netascii, ends_in_cr}

-- one host byte before a text
byte_begins : (b : ℕ) (rest : List ℕ)
    → (begins_netascii (wire_byte b ++ rest) ≡ begins_netascii rest)
    × (ends_in_cr (wire_byte b ++ rest) ≡ ends_in_cr rest)
byte_begins b rest = search rules

-- host bytes before a text
text_begins : (bytes rest : List ℕ)
    → (begins_netascii (netascii_text bytes ++ rest) ≡ begins_netascii rest)
    × (ends_in_cr (netascii_text bytes ++ rest) ≡ ends_in_cr rest)
text_begins [] rest = (refl, refl)
text_begins (b ∷ bytes) rest =
    let one = byte_begins b (netascii_text bytes ++ rest) in
    let more = text_begins bytes rest in
    let split : netascii_text (b ∷ bytes) ++ rest ≡ wire_byte b ++ (netascii_text bytes ++ rest) =
    append_assoc (wire_byte b) (netascii_text bytes) rest in
    (ap begins_netascii split ∙ (one.0 ∙ more.0), ap ends_in_cr split ∙ (one.1 ∙ more.1))

held_begins : (held : List ℕ) → IsHeldBack held → begins_netascii held ≡ true
held_begins held h = search rules

-- text that decodes begins a wire text
pub decoded_begins : DecodedBegins
decoded_begins held piece bytes after d = ap begins_netascii d.1 ∙ ((text_begins bytes after).0 ∙ held_begins after d.0)

-- and ends in a CR if one is held back
pub decoded_ends : DecodedEnds
decoded_ends held piece bytes after d = ap ends_in_cr d.1 ∙ (text_begins bytes after).1

-- text with a wrong byte does not decode
lone_cr : (byte : ℕ) (rest : List ℕ) → byte ≢ 10 → byte ≢ 0 → begins_netascii (13 ∷ byte ∷ rest) ≡ false
lone_cr byte rest n m = rw (ne_eqb byte 10 n, ne_eqb byte 0 m)

lone_lf : (rest : List ℕ) → begins_netascii (10 ∷ rest) ≡ false
lone_lf [] = refl
lone_lf (c ∷ rest) = refl

-- a text that begins with a wrong byte begins no text in netascii
pub wrong_begins : (text : List ℕ) (fault : NetFault) → IsWrong text fault → begins_netascii text ≡ false
wrong_begins text fault h = search (rules, text_begins, lone_cr, lone_lf)

-- a push of a text that begins a wire text fails only if out of memory
pub refused_for_memory : (text : List ℕ) (fault : NetFault) → begins_netascii text ≡ true → fault ≢ Memory
    → Refuses text fault → ⊥
refused_for_memory text LoneCr b n h = true≢false (sym b ∙ wrong_begins text LoneCr h)
refused_for_memory text LoneLf b n h = true≢false (sym b ∙ wrong_begins text LoneLf h)
refused_for_memory text EndsInCr b n h = h
refused_for_memory text Memory b n h = n refl

both_true : (a b : Bool) → (a && b) ≡ true → (a ≡ true) × (b ≡ true)
both_true true b e = (refl, e)
both_true false b e = absurd (true≢false (sym e))

readable_by : (held piece bytes after : List ℕ) (last : Bool) → DecodesPiece held piece bytes after
    → is_readable Netascii held piece last ≡ not (last && ends_in_cr after)
readable_by held piece bytes after last d = search (rules, decoded_begins, decoded_ends)

-- a whole block continues the text
pub readable_more : (held piece bytes after : List ℕ) (size : ℕ) → DecodesPiece held piece bytes after
    → size ≤ length piece → true ≡ is_readable Netascii held piece (ltb (length piece) size)
readable_more held piece bytes after size d l =
    sym (readable_by held piece bytes after (ltb (length piece) size) d
    ∙ ap (λ (b : Bool). not (b && ends_in_cr after)) (le-ltb (length piece) size l))

ends_well : (after : List ℕ) (answer : Result Done NetFault) → IsHeldBack after → IsOk answer ↔ (after ≡ [])
    → is_ok answer ≡ not (ends_in_cr after)
ends_well after answer h iff = search rules

-- the last block does if no CR is held back after it
pub readable_last : (held piece bytes after : List ℕ) (size : ℕ) (answer : Result Done NetFault)
    → DecodesPiece held piece bytes after → length piece < size → IsOk answer ↔ (after ≡ [])
    → is_ok answer ≡ is_readable Netascii held piece (ltb (length piece) size)
readable_last held piece bytes after size answer d l iff =
    ends_well after answer d.0 iff
    ∙ sym
    (readable_by held piece bytes after (ltb (length piece) size) d
    ∙ ap (λ (b : Bool). not (b && ends_in_cr after)) (lt-ltb (length piece) size l))

-- a piece with a wrong byte does not continue the text
pub wrong_unreadable : (held piece : List ℕ) (last : Bool) (fault : NetFault) → IsWrong (held ++ piece) fault
    → false ≡ is_readable Netascii held piece last
wrong_unreadable held piece last fault w =
    sym (ap (λ (b : Bool). b && not (last && ends_in_cr (held ++ piece))) (wrong_begins (held ++ piece) fault w))

-- a readable piece begins a wire text
pub readable_begins : (held piece : List ℕ) (last : Bool) → is_readable Netascii held piece last ≡ true
    → begins_netascii (held ++ piece) ≡ true
readable_begins held piece last e = search (rules, both_true, not)
