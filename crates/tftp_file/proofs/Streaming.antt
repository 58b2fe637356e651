-- From the bytes of a reader to the text of a source. For `fill_octet` and `read_encoded`.
use Rattle.std.proofs.Common.{◌≡◌, ℕ, ◌+◌, ◌*◌, ◌≤◌, ◌<◌, min, List, ◌++◌, length, take, drop, Option, Some, None}
use Rattle.std.proofs.Common.{option_to_list, option_map, Result, Ok, IfOk, IfErr, sym, ap, ◌∙◌, arith, length-append}
use Rattle.std.proofs.Common.{length-drop, length-take-le, take-append-drop}
use Rattle.std.specs.Result.{result_unwrap_or}
use Rattle.std.specs.Io.KnownBytes.{Consumes, IsAtEnd}
use Rattle.std.proofs.lemmas.Grind.{flat_map-append, common_steps}
use Rattle.std.proofs.Math.Seq.{take-add}
use Rattle.tftp_file.specs.declared.fault.FileFault.{FileFault}
use Rattle.tftp_file.specs.declared.fault.FileFault.TheVariants.{Read}
use Rattle.tftp_file.specs.Netascii.{wire_byte, netascii_text}
use Rattle.tftp_file.specs.Encoding.{netascii_left}
use Rattle.tftp_file.specs.Source.{Moved, Fills}
use Rattle.tftp_file.specs.Stream.{Gives}
use Rattle.tftp_file.proofs.NetasciiLength.{length-netascii_text, netascii_text-longer}

-- a fill moves a piece of the requested length, or up to the end
pub fills_from_gives : (a b : Option (List ℕ)) (want : ℕ) (old new : List ℕ) (n : ℕ) → Gives a b old new n → n ≤ want
    → (n < want → IsAtEnd b) → Fills a b want old new (Ok n)
fills_from_gives a b want old new n g bound end = grind (arith, common_steps)

-- a fill moves the bytes read in place after the old ones, and truncated after them
pub fills_at_end : (a b : Option (List ℕ)) (want : ℕ) (old : List ℕ) (start : ℕ) (full : List ℕ)
    (r : Result ℕ FileFault) (kept : ℕ) (new : List ℕ)
    → start ≡ length old → length full ≡ start + want → take start full ≡ old
    → IfOk r (λ n. start + n ≤ length full) → IfOk r (λ n. Consumes a b (take n (drop start full)))
    → IfOk r (λ n. start + n < length full → IsAtEnd b) → IfErr r (λ fault. fault ≡ Read)
    → kept ≡ result_unwrap_or r 0 → new ≡ take (start + kept) full → Fills a b want old new r
fills_at_end a b want old start full r kept new at long front within consumed end fault count cut = grind (
  arith,
  common_steps,
  take-add,
  fills_from_gives,
)

-- the bytes before appended zeros, and before a read after them
pub front_kept : (old zeros : List ℕ) (start end : ℕ) (resized lent full : List ℕ) → start ≡ length old → start ≤ end
    → resized ≡ take end old ++ zeros
    → lent ≡ resized → take start full ≡ take start lent → take start full ≡ old
front_kept old zeros start end resized lent full at within items same kept = grind (arith, common_steps)

-- the truncated bytes
pub cut_at : (n : ℕ) (items full new : List ℕ) → items ≡ full → new ≡ take n items → new ≡ take n full
cut_at n items full new same cut = cut ∙ ap (take n) same

taken_all : (chunk : List ℕ) (held : Option ℕ) (room taken count : ℕ) → 2 * length chunk ≤ room + 1
    → taken ≤ length chunk → count ≡ min room (length (netascii_text chunk))
    → netascii_left held (drop taken chunk) ≡ drop count (netascii_text chunk) → taken ≡ length chunk
taken_all chunk held room taken count few within full rest =
    let front = take taken chunk in
    let back = drop taken chunk in
    let split =
    ap length (ap netascii_text (sym (take-append-drop taken chunk)) ∙ flat_map-append wire_byte front back) in
    let both = length-append (netascii_text front) (netascii_text back) in
    let front_long = length-take-le taken chunk within in
    let front_text = length-netascii_text front in
    let back_long = length-drop taken chunk in
    let back_text = netascii_text-longer back in
    let left = ap length rest in
    let left_both = length-append (option_to_list held) (netascii_text back) in
    let left_long = length-drop count (netascii_text chunk) in
    omega arith

encoded_consumes : (a b : Option (List ℕ)) (chunk piece : List ℕ) (held : Option ℕ) → Consumes a b chunk
    → netascii_text chunk ≡ piece ++ option_to_list held
    → Consumes (option_map (netascii_left None) a) (option_map (netascii_left held) b) piece
encoded_consumes a b chunk piece held consumed split = grind (arith, common_steps)

-- a chunk that was read, and encoded in a capacity that lacks at most one byte
pub gives_encoded : (a b : Option (List ℕ)) (chunk : List ℕ) (held : Option ℕ) (room taken count : ℕ) (old new : List ℕ)
    → Consumes a b chunk → 2 * length chunk ≤ room + 1
    → taken ≤ length chunk
    → Moved (netascii_left None chunk) (Some (netascii_left held (drop taken chunk))) room old new count
    → Gives (option_map (netascii_left None) a) (option_map (netascii_left held) b) old new count
gives_encoded a b chunk held room taken count old new consumed few within moved = grind (
  arith,
  common_steps,
  taken_all,
  encoded_consumes,
)
