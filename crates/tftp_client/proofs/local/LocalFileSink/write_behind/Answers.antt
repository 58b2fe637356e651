-- What was handed to the file is the same, and so is its place.
use Rattle.tftp_client.proofs.Common.{paths_of}
use Rattle.tftp_client.proofs.TriedOnce.{written_given, written_left}
use Rattle.tftp_client.proofs.local.LocalFileSink.write_behind.Goals as goal

pub invariant_of-self-clause-named : goal.invariant_of-self-clause-named
invariant_of-self-clause-named g c committed =
    let ensured = c.write_behind.ensures in
    written_given c.args.self.now.part c.write_behind.new.self (λ k. paths_of (ensured.names k) (ensured.existing k))
    ensured.bytes ensured.disk ensured.tried (c.args.self.now.named committed)

pub invariant_of-self-clause-left : goal.invariant_of-self-clause-left
invariant_of-self-clause-left g c open_file =
    let ensured = c.write_behind.ensures in
    written_left c.args.self.now.part c.write_behind.new.self (λ k. paths_of (ensured.names k) (ensured.existing k))
    ensured.same ensured.disk (c.args.self.now.left open_file)
