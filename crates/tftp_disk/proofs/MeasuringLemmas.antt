-- What one pass over a file counts. For `count_netascii` and `count_next`.
use Rattle.std.proofs.Common.{◌≡◌, ◌≤◌, ◌<◌, ◌*◌, ℕ, Bool, if◌then◌else◌, List, [], ◌∷◌, length, min, None}
use Rattle.std.proofs.Common.{arith, rules}
use Rattle.tftp_disk.specs.DiskTrace.{DiskEvent}
use Rattle.tftp_disk.specs.DiskTrace.DiskEvent.{Given}
use Rattle.tftp_disk.specs.Given.{GaveBytes}
use Rattle.tftp_file.specs.Netascii.{netascii_text}
use Rattle.tftp_file.specs.declared.length.TheConstants.{MAX_WIRE}
use Rattle.tftp_disk.specs.Measuring.{CountsChunk, CountsPass}
use Rattle.tftp_disk.specs.declared.measuring.TextLength.{TextLength}
use Rattle.tftp_disk.proofs.ReadLemmas.{no_length, reads_given}

pair_length : (is_end is_return : Bool) (b : ℕ)
    → (0 < length (if is_end then 13 ∷ 10 ∷ [] else if is_return then 13 ∷ 0 ∷ [] else b ∷ []))
    × (length (if is_end then 13 ∷ 10 ∷ [] else if is_return then 13 ∷ 0 ∷ [] else b ∷ []) ≤ 2)
pair_length is_end is_return b = search rules

text_length : (bytes : List ℕ) → (length bytes ≤ length (netascii_text bytes)) × (length (netascii_text bytes) ≤ 2 * length bytes)
text_length [] = (omega arith, omega arith)
text_length (x ∷ xs) = search (rules, pair_length, text_length xs)

-- these calls read so many bytes, whose text is so long in netascii
pub record Counted (before after : List DiskEvent) (total : TextLength) : Type 0 where
  pub bytes : List ℕ
  pub reads : GaveBytes before after bytes
  pub count : total.bytes ≡ length bytes
  pub wire : total.wire_bytes ≡ length (netascii_text bytes)

-- a file has no more bytes than its text on the wire
pub few_bytes : (before after : List DiskEvent) (counted : TextLength) → CountsChunk before after counted
    → counted.bytes ≤ counted.wire_bytes
few_bytes before after counted chunk = search (rules, text_length)

-- the text is too long
pub counts_past : (before after : List DiskEvent) (total : TextLength) → Counted before after total
    → MAX_WIRE < total.wire_bytes → CountsPass before after None
counts_past before after total first past = search rules

-- what is counted of one read
pub counts_chunk : (before after : List DiskEvent) (bytes : List ℕ) (most : ℕ) (counted : TextLength)
    → after ≡ Given bytes ∷ before → 2 * length bytes ≤ most → counted.bytes ≡ length bytes
    → counted.wire_bytes ≡ min (length (netascii_text bytes)) most → CountsChunk before after counted
counts_chunk before after bytes most counted noted few count wire =
    search (rules, text_length, reads_given, no_length)
