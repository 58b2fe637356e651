-- A byte more.
use Rattle.std.proofs.Common.{rules}
use Rattle.std.proofs.lemmas.List.{take_more}
use Rattle.tftp_supervisor.specs.Output.{lines_in}
use Rattle.tftp_supervisor.proofs.Passing.{passes_more, passes_none}
use Rattle.tftp_supervisor.proofs.output.Output.pass_on.Goals as goal

pub loop-byte-init : goal.loop-byte-init
loop-byte-init c begun = passes_none (lines_in c.args.announced.now.items) c.args.self.now c.args.out.now.items c.requires.empty begun

pub loop-byte-preserved : goal.loop-byte-preserved
loop-byte-preserved c begun =
    let more = passes_more _ _ _ _ _ _ _ _ _ _ (c.loop-byte.invariant begun) c.in_ok-take.ensures in
    search (rules, take_more)
