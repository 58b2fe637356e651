-- An event whose stray datagram is of neither host is one that a world plays, and conversely: for `PlayableEvent`.
use Rattle.std.proofs.Common.{◌≡◌, refl, subst}
use Rattle.tftp_player.specs.Arriving.{IsPlayable}
use Rattle.tftp_player.specs.declared.event.Event.{Event}
use Rattle.tftp_player.specs.declared.event.Event.TheVariants.{Get, Put, Deliver, Timeout, RefuseStore, Stray}
use Rattle.tftp_play.specs.Playable.{IsOfNeitherHost}

pub of_neither : (event : Event) → IsPlayable event → IsOfNeitherHost event
of_neither event plays from to bytes stray = subst IsPlayable stray plays

pub plays : (event : Event) → IsOfNeitherHost event → IsPlayable event
plays (Get name mode asked) h = tt
plays (Put name mode asked bytes) h = tt
plays (Deliver index) h = tt
plays (Timeout port) h = tt
plays (RefuseStore port) h = tt
plays (Stray from to bytes) h = h from to bytes refl
