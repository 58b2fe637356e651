-- No end before this one repeats the request.
use Rattle.tftp_player.proofs.Common.{◌≡◌, ℕ, ◌<◌, Some, slice_get, Repeats, WorldEnd, owned}
use Rattle.tftp_player.proofs.ends.asking.any_repeats.Given as goal

abbrev pub invariant-loop-player : goal.invariant-loop-player
invariant-loop-player l =
    (k : ℕ) (x : WorldEnd) → k < l.player-index → slice_get l.players k ≡ Some x →
    Repeats l.from (owned l.packet) x → ⊥
