-- The end receives.
use Rattle.std.proofs.Common.{◌≡◌, false}
use Rattle.tftp_ends.specs.End.{is_sender}
use Rattle.memory_examples.proofs.fetch.converse.Given as goal

abbrev pub invariant-loop : goal.invariant-loop
invariant-loop l = is_sender l.end.role.side ≡ false
