-- What the calls of a store leave as it was (ours).
use Rattle.std.specs.Prelude.{ℕ, ◌≡◌, List}
use Rattle.tftp_disk.specs.Changes.{changes, renames}
use Rattle.tftp_disk.specs.DiskTrace.{DiskEvent}
use Rattle.tftp_folder.specs.Opened.{follows}
use Rattle.tftp_folder.specs.Placed.{placed, StaysThere}
use Rattle.tftp_folder.specs.Reached.{ReachesNames}

-- calls that look at paths themselves, and change nothing
pub record OnlyLooks (before after : List DiskEvent) : Type 0 where
  pub changes : changes after ≡ changes before
  pub renames : renames after ≡ renames before
  pub placed : placed after ≡ placed before
  pub follows : follows after ≡ follows before

-- calls that give no file a name, and follow no link
pub record GivesNoName (before after : List DiskEvent) : Type 0 where
  pub renames : renames after ≡ renames before
  pub there : StaysThere before after
  pub reaches : (root : List ℕ) → ReachesNames root before after
  pub follows : follows after ≡ follows before
