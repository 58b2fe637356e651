-- What the calls that give a draft its name leave as it was (ours).
use Rattle.std.specs.Prelude.{ℕ, ◌≡◌, List}
use Rattle.std.specs.String.{string_bytes}
use Rattle.tftp_disk.specs.DiskTrace.{DiskEvent}
use Rattle.tftp_folder.specs.Draft.{IsDraftBelow, IsThere}
use Rattle.tftp_folder.specs.Inside.{StaysInside}
use Rattle.tftp_folder.specs.Opened.{follows}
use Rattle.tftp_folder.specs.Placed.{StaysThere}
use Rattle.tftp_folder.specs.Reached.{IsReached, ReachesNames}
use Rattle.tftp_folder.specs.declared.folder_draft.FolderDraft.{FolderDraft}

-- calls that give a draft its name, or none: by then its file is still at its path and the name was
-- reached, if that is so before. No link is followed, and each path is inside a root that the draft
-- is below
pub record NamesWithin {F : Type 0} (draft : FolderDraft F) (before after : List DiskEvent)
    : Type 0 where
  pub there : IsThere draft before → StaysThere before after
  pub reaches : (root : List ℕ) → IsReached root (string_bytes draft.target) before
      → ReachesNames root before after
  pub follows : follows after ≡ follows before
  pub inside : (root : List ℕ) → IsDraftBelow root draft → StaysInside root before after
