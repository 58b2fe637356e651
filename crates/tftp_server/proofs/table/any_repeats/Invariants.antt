-- A transfer under a key that is left repeats the request exactly if one under any key does.
use Rattle.std.proofs.Common.{map}
use Rattle.tftp_wire.specs.Borrowed.{owned}
use Rattle.tftp_server.specs.Table.{AnyKeyRepeats}
use Rattle.tftp_server.proofs.table.any_repeats.Given as goal

abbrev pub invariant-loop-key : goal.invariant-loop-key
invariant-loop-key g l =
    (goal.iterator-loop-key g).can_next l.key-iterator
    × (goal.iterator-loop-key g).is_finite l.key-iterator
    × (AnyKeyRepeats l.from (owned l.packet) l.slots l.key-iterator →
    AnyKeyRepeats l.from (owned l.packet) l.slots (map (λ e. e.1) l.index.entries))
    × (AnyKeyRepeats l.from (owned l.packet) l.slots (map (λ e. e.1) l.index.entries) →
    AnyKeyRepeats l.from (owned l.packet) l.slots l.key-iterator)
