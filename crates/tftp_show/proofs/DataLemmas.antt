-- The line of a DATA in digits.
use Rattle.std.proofs.Common.{ℕ, suc, ◌≡◌, ◌+◌, ◌-◌, ◌*◌, ◌/◌, ◌<◌, ◌≤◌, true, refl, ap, sym, ◌∙◌, arith, List, [], ◌∷◌}
use Rattle.std.proofs.Common.{◌++◌, length, length-drop, length-take-le, get_or, take, drop, take-append-drop, None}
use Rattle.std.proofs.Common.{ne_eqb}
use Rattle.std.specs.Prelude.{Ok, is_ok, is_none}
use Rattle.std.proofs.lemmas.Bool.{le-ltb}
use Rattle.hex.specs.Hex.{decode_of}
use Rattle.tftp_wire.specs.Datagram.{datagram_shown}
use Rattle.tftp_wire.specs.Line.{line}
use Rattle.tftp_wire.specs.Reading.{first_fault}
use Rattle.tftp_wire.specs.declared.packet.Packet.TheVariants.{Data}
use Rattle.tftp_flow.specs.DataLine.{data_line}
use Rattle.tftp_show.specs.Data.{IsShownAs}
use Rattle.tftp_show.specs.Digits.{bytes_of, pair_value}
use Rattle.tftp_show.specs.Show.{decoded_shown, spells_packet}
use Rattle.tftp_show.proofs.DigitsLemmas.{bytes_length, decodes}

-- a DATA with a number and within the longest has no fault
no_fault : (high low : ℕ) (bytes : List ℕ) → 0 < high * 256 + low → length bytes ≤ 65464 →
    first_fault (0 ∷ 3 ∷ high ∷ low ∷ bytes) ≡ None
no_fault high low bytes some fits =
    let all = suc (suc (suc (suc (length bytes)))) in
    rw (
      le-ltb all 2 (omega arith),
      le-ltb 65468 all (omega arith),
      le-ltb all 4 (omega arith),
      ne_eqb (high * 256 + (low * 1 + 0)) 0 (λ z. omega (arith, z, some)),
    ) refl

-- its line has the number and the length alone
same_line : (block other len : ℕ) (bytes : List ℕ) → block ≡ other → length bytes ≡ len →
    line (Data block bytes) ≡ data_line other len
same_line block other len bytes e l = rw (e, l) refl

-- the DATA of digits with its opcode before has the line of its number and its length
pub data_shown : (digits rest : List ℕ) (block len : ℕ) → is_ok (decode_of digits) ≡ true →
    digits ≡ 48 ∷ 48 ∷ 48 ∷ 51 ∷ rest → 4 ≤ length rest →
    block ≡ pair_value (get_or rest 0 0) (get_or rest 1 0) * 256 + pair_value (get_or rest 2 0) (get_or rest 3 0) →
    0 < block → len ≡ (length rest - 4) / 2 → len ≤ 65464 → IsShownAs digits block len
data_shown digits [] block len h e l b some half fits = absurd (omega arith)
data_shown digits (x ∷ []) block len h e l b some half fits = absurd (omega arith)
data_shown digits (x ∷ y ∷ []) block len h e l b some half fits = absurd (omega arith)
data_shown digits (x ∷ y ∷ z ∷ []) block len h e l b some half fits = absurd (omega arith)
data_shown digits (x ∷ y ∷ z ∷ w ∷ rest) block len h e l b some half fits =
    let high = pair_value x y in
    let low = pair_value z w in
    let bytes = bytes_of rest in
    let all = 0 ∷ 3 ∷ high ∷ low ∷ bytes in
    let as_bytes = decodes digits h ∙ ap (λ d. Ok (bytes_of d)) e in
    let none = no_fault high low bytes (omega (arith, b, some)) (omega (arith, bytes_length rest, half, fits)) in (
      ap spells_packet as_bytes ∙ ap is_none none,
      ap decoded_shown as_bytes ∙ ap (datagram_shown all) none
          ∙ same_line (high * 256 + (low * 1 + 0)) block len bytes (omega (arith, b))
          (omega (arith, bytes_length rest, half)),
    )

-- digits that begin with the opcode
pub with_opcode : (digits rest : List ℕ) → take 4 digits ≡ 48 ∷ 48 ∷ 48 ∷ 51 ∷ [] → rest ≡ drop 4 digits →
    digits ≡ 48 ∷ 48 ∷ 48 ∷ 51 ∷ rest
with_opcode digits rest o r =
    sym (take-append-drop 4 digits) ∙ ap (λ l. l ++ drop 4 digits) o ∙ ap (λ l. 48 ∷ 48 ∷ 48 ∷ 51 ∷ l) (sym r)

-- half of the digits after the number
pub half_length : (rest : List ℕ) → 4 ≤ length rest →
    length (take (length rest - 4) (drop 4 rest)) / 2 ≡ (length rest - 4) / 2
half_length rest long =
    ap (λ n. n / 2) (length-take-le (length rest - 4) (drop 4 rest) (omega (arith, length-drop 4 rest)))
