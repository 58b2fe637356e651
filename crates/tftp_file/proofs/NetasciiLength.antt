-- Netascii is at most twice as long as the host's bytes. For `MemSource::fill` and Streaming.
use Rattle.std.proofs.Common.{ℕ, ◌+◌, ◌*◌, ◌≤◌, List, length, Option, arith, rules}
use Rattle.std.proofs.lemmas.List.Sums.{count_by-le-length}
use Rattle.tftp_file.specs.Netascii.{netascii_text}
use Rattle.tftp_file.specs.Encoding.{netascii_left}
use Rattle.tftp_file.specs.Lines.{is_line_byte}
use Rattle.tftp_file.proofs.NetasciiLemmas.{length-netascii}

-- each byte has at most two wire bytes
pub length-netascii_text : (xs : List ℕ) → length (netascii_text xs) ≤ 2 * length xs
length-netascii_text xs = omega (arith, length-netascii xs, count_by-le-length is_line_byte xs)

-- with a byte held back the text is one longer
pub length-netascii_left : (held : Option ℕ) (xs : List ℕ) → length (netascii_left held xs) ≤ 2 * length xs + 1
length-netascii_left held xs = search (rules, length-netascii_text)

-- the wire text in netascii is not shorter
pub netascii_text-longer : (xs : List ℕ) → length xs ≤ length (netascii_text xs)
netascii_text-longer xs = omega (arith, length-netascii xs)
