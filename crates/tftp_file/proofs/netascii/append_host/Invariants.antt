-- The appended bytes are the host bytes of the text so far.
use Rattle.std.proofs.Common.{◌≡◌, ◌≤◌, ◌+◌, ◌++◌, ℕ, List, length, vec_len, vec_capacity}
use Rattle.tftp_file.specs.Netascii.{netascii_text}
use Rattle.tftp_file.proofs.netascii.append_host.Given as goal

abbrev pub invariant-loop-byte : goal.invariant-loop-byte
invariant-loop-byte l = record {
  taken : (bytes : List ℕ) × (l.text ≡ netascii_text bytes ++ l.left) × (l.out.items ≡ l.initial.out.items ++ bytes);
  room : vec_len l.out + length l.left ≤ vec_capacity l.out;
}

abbrev pub decreases-loop-byte : goal.decreases-loop-byte
decreases-loop-byte l = length l.left
