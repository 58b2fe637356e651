-- The command lines of the first servers.
use Rattle.std.proofs.Common.{◌≡◌, length, map}
use Rattle.std.specs.String.{string_bytes}
use Rattle.tftp_daemon.specs.Supervised.{AreServerLines}
use Rattle.tftp_daemon.proofs.servers.add_lines.Given as goal

abbrev pub invariant-loop-before : goal.invariant-loop-before
invariant-loop-before g l = record {
  count : length l.lines.items ≡ l.before;
  named : AreServerLines l.config (map (λ line. map string_bytes line.items) l.lines.items);
}
