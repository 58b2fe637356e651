-- How datagrams are delivered one after another.
use Rattle.std.specs.Prelude.{ℕ, ◌≡◌, ◌+◌, ◌<◌, ◌≤◌, ◌⊎◌, List, length}
use Rattle.tftp_player.specs.Common.{Deliver, WorldFault, Report}
use Rattle.tftp_player.specs.World.{WorldState}
use Rattle.tftp_player.specs.WorldSteps.{Settles, WorldRefuses}

-- `count` were delivered: `most` of them, or all that there are
pub record Settled (old : WorldState) (from most count : ℕ) (new : WorldState) : Type 0 where
  pub reports : List Report
  pub delivered : Settles old from reports new
  pub counted : length reports ≡ count
  pub bounded : count ≤ most
  pub all : (count ≡ most) ⊎ (length new.sent ≤ from + count)

-- fewer than `most` were delivered, and the next one was refused
pub record StopsAt (old : WorldState) (from most : ℕ) (fault : WorldFault)
    (new : WorldState) : Type 0 where
  pub reports : List Report
  pub delivered : Settles old from reports new
  pub fewer : length reports < most
  pub left : from + length reports < length new.sent
  pub refused : WorldRefuses new (Deliver (from + length reports)) fault
