-- The slashes so far and those from the index on are all.
use Rattle.std.proofs.Common.{◌≡◌, ◌≤◌, ◌+◌, drop}
use Rattle.std.specs.Prelude.{◌==◌, count_by}
use Rattle.tftp_file.proofs.path.slash_count.Given as goal

abbrev pub invariant-loop-byte : goal.invariant-loop-byte
invariant-loop-byte l = record {
  all : l.count + count_by (λ byte. byte == 47) (drop l.byte-index l.path) ≡ count_by (λ byte. byte == 47) l.path;
  few : l.count ≤ l.byte-index;
}
