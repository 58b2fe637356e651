-- A draft got its name, also when it was looked at again; and it was renamed just after a look.
use Rattle.std.proofs.Common.{◌≡◌, ◌∷◌, ℕ, Bool, true, false, List, rules}
use Rattle.std.specs.String.{string_bytes}
use Rattle.tftp_disk.specs.Changes.{changes, renames}
use Rattle.tftp_disk.specs.DiskTrace.{DiskEvent, Done}
use Rattle.tftp_disk.specs.DiskTrace.DiskEvent.{Removed}
use Rattle.tftp_folder.specs.Commit.{LooksThenRenames, MayRemove}
use Rattle.tftp_folder.specs.Draft.{KeepsDone, LooksForOwn, NamesDraft, StaysDone, TakesBack}
use Rattle.tftp_folder.specs.declared.folder_draft.FolderDraft.{FolderDraft}

pub names_stay : {F : Type 0} (a b : FolderDraft F) → StaysDone a b → (before after : List DiskEvent) (replaces : Bool)
    → NamesDraft a before replaces after → NamesDraft b before replaces after
names_stay a b stays before after replaces names = search rules

module _ (replaces : Bool) (path : List ℕ) where
  -- calls that rename nothing, and then those
  pub then_renames : (before between after : List DiskEvent) → renames between ≡ renames before
      → LooksThenRenames replaces path between after → LooksThenRenames replaces path before after
  then_renames before between after none looks = search rules

  -- those, and then calls that rename nothing
  pub renames_then : (before between after : List DiskEvent) → LooksThenRenames replaces path before between
      → renames after ≡ renames between → LooksThenRenames replaces path before after
  renames_then before between after looks none = search rules

-- the same by equal settings and paths
pub looks_as : (by replaces : Bool) (at path : List ℕ) (before after : List DiskEvent) → by ≡ replaces → at ≡ path
    → LooksThenRenames by at before after → LooksThenRenames replaces path before after
looks_as by replaces at path before after same is looks = search rules

-- the name may be removed, after calls that only look
pub then_may_remove : (path : List ℕ) (before between after : List DiskEvent) → changes between ≡ changes before
    → MayRemove path (changes between) (changes after) → MayRemove path (changes before) (changes after)
then_may_remove path before between after looks removes = search rules

module _ {F : Type 0} where
  -- a draft has its names and its file after both
  pub stays_done : (a b c : FolderDraft F) → StaysDone a b → StaysDone b c → StaysDone a c
  stays_done a b c first second = search rules

  -- a draft that is as it was, and then is done
  pub then_keeps : (a b c : FolderDraft F) → StaysDone a b → KeepsDone b c → KeepsDone a c
  then_keeps a b c first second = search rules

  -- calls that only look, and then those
  pub then_takes_back : (draft draft' : FolderDraft F) (before between after : List DiskEvent)
      → changes between ≡ changes before → TakesBack draft draft' between after → TakesBack draft draft' before after
  then_takes_back draft draft' before between after looks takes = search rules

  -- the name was looked at, and is another file's
  pub leaves_other : (draft draft' : FolderDraft F) (before between after : List DiskEvent) (finds : Bool)
      → changes between ≡ changes before → finds ≡ false → LooksForOwn draft draft' between after finds
      → TakesBack draft draft' before after
  leaves_other draft draft' before between after finds looks other own = search rules

  -- the name was looked at, and removed as its own
  pub removes_own : (draft draft' : FolderDraft F) (at : List ℕ) (removal : Done) (before looked after : List DiskEvent)
      (finds : Bool) → at ≡ string_bytes draft'.target → finds ≡ true
      → LooksForOwn draft draft' before looked finds → after ≡ Removed at removal ∷ looked
      → TakesBack draft draft' before after
  removes_own draft draft' at removal before looked after finds same found own removes = search rules
