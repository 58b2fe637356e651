-- An address more.
use Rattle.tftp_daemon.proofs.Addresses.{named_more}
use Rattle.tftp_daemon.proofs.command_line.endpoints_in.Goals as goal

pub loop-word-preserved : goal.loop-word-preserved
loop-word-preserved c =
    named_more c.args.words.now c.loop-word.word-index _ c.loop-word.endpoints.items c.push.new.self.items
    c.in-Some.endpoint c.loop-word-test.true c.loop-word.invariant c.in-Some.ensures c.in_ok-push-in-Some.ensures.items
