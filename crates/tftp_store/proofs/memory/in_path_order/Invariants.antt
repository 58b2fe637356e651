-- The files before the index are in path order.
use Rattle.std.proofs.Common.{◌≡◌}
use Rattle.tftp_store.specs.Memory.{contents, in_path_order}
use Rattle.tftp_store.proofs.memory.in_path_order.Given as goal

abbrev pub invariant-loop-path : goal.invariant-loop-path
invariant-loop-path l = l.held.entries ≡ in_path_order (contents l.yielded)
