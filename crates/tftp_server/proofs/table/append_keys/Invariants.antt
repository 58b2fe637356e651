-- What was appended and what is left are the keys, and there is capacity for the rest.
use Rattle.std.proofs.Common.{◌≡◌, ◌+◌, ◌≤◌, ◌++◌, length, vec_capacity}
use Rattle.std.specs.Map.{keys_of}
use Rattle.tftp_server.proofs.table.append_keys.Given as goal

abbrev pub invariant-loop-tid : goal.invariant-loop-tid
invariant-loop-tid l =
    (goal.iterator-loop-tid).can_next l.tid-iterator
    × (goal.iterator-loop-tid).is_finite l.tid-iterator
    × (l.out.items ++ l.tid-iterator ≡ l.initial.out.items ++ keys_of l.index.entries)
    × (length l.out.items + length l.tid-iterator ≤ vec_capacity l.out)
