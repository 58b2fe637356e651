-- The first end that repeats the request is one of them.
use Rattle.tftp_player.proofs.Common.{sym, arith, rules, true≢false, slice_get_within, owned}
use Rattle.tftp_player.proofs.AskingLemmas.{none_before, none_repeats}
use Rattle.tftp_player.proofs.HostEnds.{list_get}
use Rattle.tftp_player.proofs.UnansweredLemmas.{any_at}
use Rattle.tftp_player.proofs.ends.asking.any_repeats.Goals as goal

pub returns-then-repeats : goal.returns-then-repeats
returns-then-repeats c = search (rules, any_at, list_get)

pub loop-player-preserved : goal.loop-player-preserved
loop-player-preserved c = search (rules, none_before, list_get, true≢false)

pub returns : goal.returns
returns c = (
  λ f. absurd (true≢false (sym f)),
  λ r. absurd
      (none_repeats c.args.from (owned c.args.packet.now) c.args.players.now
      (λ k x there. c.loop-player.invariant k x
      (let within = slice_get_within c.args.players.now k x there in omega (arith, within, c.loop-player-test.false))
      there) r),
)
