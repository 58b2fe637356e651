-- The file that an open file made is still at its path.
use Rattle.std.proofs.Common.{◌≡◌, ◌≢◌, ◌∙◌, ℕ, List, [], ◌∷◌, ◌++◌, Option, Some, Ok, Err, inl, inr, length, ap, refl, subst, sym}
use Rattle.std.proofs.Common.{rules}
use Rattle.std.specs.Prelude.{◌⊎◌}
use Rattle.std.specs.String.{string_bytes}
use Rattle.tftp_disk.specs.DiskTrace.{DiskEvent, Done, FileState, made_when}
use Rattle.tftp_disk.specs.DiskTrace.DiskEvent.{Looked, Followed, Resolved, Opened, Tried, Created, Made, Locked, Linked, Renamed, Removed}
use Rattle.tftp_disk.specs.DiskTrace.DiskEvent.{Folder_opened, Folder_synced, Examined, Given, Not_given, Sought}
use Rattle.tftp_disk.specs.DiskTrace.DiskEvent.{Written, Not_written, Synced, Mode_set}
use Rattle.tftp_disk.specs.Still.{AllLeave, IsStillAt, LeavesPath}
use Rattle.tftp_disk.specs.DiskWriter.{calls_of}
use Rattle.tftp_disk.specs.NamedFolder.{OpensAlone, SyncsAlone}
use Rattle.tftp_disk.specs.declared.disk_file.DiskFile.{DiskFile}
use Rattle.tftp_disk.specs.declared.disk_file.DiskFolder.{DiskFolder}
use Rattle.tftp_folder.specs.Commit.{lock_of}
use Rattle.tftp_folder.specs.Draft.{IsThere, SameNames}
use Rattle.tftp_folder.specs.Placed.{placed, AreNamedThere, LeavesOthers, StaysThere}
use Rattle.tftp_folder.specs.declared.folder_draft.FolderDraft.{FolderDraft}

-- a file is made, or removed, at another path
pub leaves_made : (path own : List ℕ) (answer : Done) → path ≢ own → LeavesPath path (Made own answer)
leaves_made path own (Ok done) differs = differs
leaves_made path own (Err error) differs = tt

pub leaves_removed : (path own : List ℕ) (answer : Done) → path ≢ own → LeavesPath path (Removed own answer)
leaves_removed path own (Ok done) differs = differs
leaves_removed path own (Err error) differs = tt

module _ (path : List ℕ) (when : Option ℕ) where
  -- the same by the calls up to each that makes, names or removes a file
  abbrev StillIn : List (List DiskEvent) → Type 0
  StillIn [] = ⊥
  StillIn ([] ∷ rest) = StillIn rest
  StillIn ((Made at (Ok done) ∷ events) ∷ rest) =
      ((path ≡ at) × (when ≡ Some (length events))) ⊎ ((path ≢ at) × StillIn rest)
  StillIn ((event ∷ events) ∷ rest) = LeavesPath path event × StillIn rest

  -- a call that leaves what has the path
  pub still_past : (event : DiskEvent) (events : List DiskEvent) → LeavesPath path event → IsStillAt path when events
      → IsStillAt path when (event ∷ events)
  still_past event events leaves still = record {
    since = event ∷ still.since;
    before = still.before;
    made = ap (λ (l : List DiskEvent). event ∷ l) still.made;
    when = still.when;
    left = (leaves, still.left);
  }

  to_in : (since before : List DiskEvent) → AllLeave path since → when ≡ Some (length before)
      → StillIn (placed (since ++ (Made path (Ok tt) ∷ before)))
  to_in [] before left is = inl (refl, is)
  to_in (Made at (Ok done) ∷ since) before left is = inr (left.0, to_in since before left.1 is)
  to_in (Made at (Err error) ∷ since) before left is = (left.0, to_in since before left.1 is)
  to_in (Locked at answer ∷ since) before left is = to_in since before left.1 is
  to_in (Linked file from to answer ∷ since) before left is = (left.0, to_in since before left.1 is)
  to_in (Renamed file from to answer ∷ since) before left is = (left.0, to_in since before left.1 is)
  to_in (Removed at answer ∷ since) before left is = (left.0, to_in since before left.1 is)
  to_in (Looked at answer ∷ since) before left is = to_in since before left.1 is
  to_in (Followed at answer ∷ since) before left is = to_in since before left.1 is
  to_in (Resolved at answer ∷ since) before left is = to_in since before left.1 is
  to_in (Opened at answer ∷ since) before left is = to_in since before left.1 is
  to_in (Tried at answer ∷ since) before left is = to_in since before left.1 is
  to_in (Created at calls ∷ since) before left is = to_in since before left.1 is
  to_in (Folder_opened at answer ∷ since) before left is = to_in since before left.1 is
  to_in (Folder_synced at answer ∷ since) before left is = to_in since before left.1 is
  to_in (Examined answer ∷ since) before left is = to_in since before left.1 is
  to_in (Given bytes ∷ since) before left is = to_in since before left.1 is
  to_in (Not_given error ∷ since) before left is = to_in since before left.1 is
  to_in (Sought to answer ∷ since) before left is = to_in since before left.1 is
  to_in (Written bytes ∷ since) before left is = to_in since before left.1 is
  to_in (Not_written error ∷ since) before left is = to_in since before left.1 is
  to_in (Synced answer ∷ since) before left is = to_in since before left.1 is
  to_in (Mode_set mode answer ∷ since) before left is = to_in since before left.1 is

  from_in : (events : List DiskEvent) → StillIn (placed events) → IsStillAt path when events
  from_in [] still = absurd still
  from_in (Made at (Ok done) ∷ events) (inl (same, is)) = record {
    since = [];
    before = events;
    made = ap (λ (p : List ℕ). Made p (Ok tt) ∷ events) (sym same);
    when = is;
    left = tt;
  }
  from_in (Made at (Ok done) ∷ events) (inr (differs, still)) =
      still_past (Made at (Ok done)) events differs (from_in events still)
  from_in (Made at (Err error) ∷ events) still = still_past (Made at (Err error)) events still.0 (from_in events still.1)
  from_in (Locked at answer ∷ events) still = still_past (Locked at answer) events tt (from_in events still)
  from_in (Linked file from to answer ∷ events) still =
      still_past (Linked file from to answer) events still.0 (from_in events still.1)
  from_in (Renamed file from to answer ∷ events) still =
      still_past (Renamed file from to answer) events still.0 (from_in events still.1)
  from_in (Removed at answer ∷ events) still =
      still_past (Removed at answer) events still.0 (from_in events still.1)
  from_in (Looked at answer ∷ events) still = still_past (Looked at answer) events tt (from_in events still)
  from_in (Followed at answer ∷ events) still = still_past (Followed at answer) events tt (from_in events still)
  from_in (Resolved at answer ∷ events) still = still_past (Resolved at answer) events tt (from_in events still)
  from_in (Opened at answer ∷ events) still = still_past (Opened at answer) events tt (from_in events still)
  from_in (Tried at answer ∷ events) still = still_past (Tried at answer) events tt (from_in events still)
  from_in (Created at calls ∷ events) still = still_past (Created at calls) events tt (from_in events still)
  from_in (Folder_opened at answer ∷ events) still = still_past (Folder_opened at answer) events tt (from_in events still)
  from_in (Folder_synced at answer ∷ events) still = still_past (Folder_synced at answer) events tt (from_in events still)
  from_in (Examined answer ∷ events) still = still_past (Examined answer) events tt (from_in events still)
  from_in (Given bytes ∷ events) still = still_past (Given bytes) events tt (from_in events still)
  from_in (Not_given error ∷ events) still = still_past (Not_given error) events tt (from_in events still)
  from_in (Sought to answer ∷ events) still = still_past (Sought to answer) events tt (from_in events still)
  from_in (Written bytes ∷ events) still = still_past (Written bytes) events tt (from_in events still)
  from_in (Not_written error ∷ events) still = still_past (Not_written error) events tt (from_in events still)
  from_in (Synced answer ∷ events) still = still_past (Synced answer) events tt (from_in events still)
  from_in (Mode_set mode answer ∷ events) still = still_past (Mode_set mode answer) events tt (from_in events still)

  -- calls that make, name and remove nothing
  pub still_by : (before after : List DiskEvent) → placed after ≡ placed before → IsStillAt path when before
      → IsStillAt path when after
  still_by before after same still = search (rules, from_in, to_in)

-- calls that make, name and remove nothing
pub looks_there : (before after : List DiskEvent) → placed after ≡ placed before → StaysThere before after
looks_there before after same names = subst AreNamedThere (sym same) names

-- the same after calls that make, name and remove nothing
pub then_others : (folder : List ℕ) (port : ℕ) (before looked after : List DiskEvent) → placed looked ≡ placed before
    → LeavesOthers folder port looked after → LeavesOthers folder port before after
then_others folder port before looked after same leaves path when none still = search (rules, still_by)

module _ {F : Type 0} where
  still_as : (draft : FolderDraft F) (file : FileState) (from : List ℕ) (before looked : List DiskEvent)
      → placed looked ≡ placed before → file.made_when ≡ made_when (calls_of draft.writer)
      → from ≡ string_bytes draft.draft → IsThere draft before → IsStillAt from file.made_when looked
  still_as draft file from before looked same making path there = search (rules, still_by)

  -- the draft is renamed after such calls
  pub rename_there : (draft : FolderDraft F) (file : FileState) (from to : List ℕ) (answer : Done)
      (before looked after : List DiskEvent) → placed looked ≡ placed before
      → file.made_when ≡ made_when (calls_of draft.writer) → from ≡ string_bytes draft.draft
      → after ≡ Renamed file from to answer ∷ looked → IsThere draft before → StaysThere before after
  rename_there draft file from to answer before looked after same making path is there names =
      search (rules, still_as, looks_there)

  -- it is linked after such calls
  pub link_there : (draft : FolderDraft F) (file : FileState) (from to : List ℕ) (answer : Done)
      (before after : List DiskEvent)
      → file.made_when ≡ made_when (calls_of draft.writer) → from ≡ string_bytes draft.draft
      → after ≡ Linked file from to answer ∷ before → IsThere draft before → StaysThere before after
  link_there draft file from to answer before after making path is there names = search rules

  -- its file is still there after a call that leaves it
  pub past_there : (draft : FolderDraft F) (event : DiskEvent) (before after : List DiskEvent)
      → LeavesPath (string_bytes draft.draft) event → after ≡ event ∷ before → IsThere draft before
      → IsThere draft after
  past_there draft event before after leaves is there = search (rules, still_past)

  -- and after calls that make, name and remove nothing
  pub looks_past : (draft : FolderDraft F) (before after : List DiskEvent) → placed after ≡ placed before
      → IsThere draft before → IsThere draft after
  looks_past draft before after same there = search (rules, still_by)

  -- it is another value of the same draft
  pub same_there : (a b : FolderDraft F) (log : List DiskEvent) → SameNames a b → IsThere a log → IsThere b log
  same_there a b log names there = search rules

  -- the lock of its name is made
  pub lock_there : (draft : FolderDraft F) (at : List ℕ) (answer : Done) (before after : List DiskEvent)
      → at ≡ lock_of (string_bytes draft.target) → after ≡ Made at answer ∷ before → IsThere draft before
      → IsThere draft after
  lock_there draft at answer before after lock is there =
      past_there _ _ _ _ (leaves_made (string_bytes draft.draft) at answer (λ same. there.apart (same ∙ lock))) is there

  -- its open file was made when the draft says
  pub same_making : (draft : FolderDraft F) (file : DiskFile F) → file ≡ draft.writer.file
      → made_when file.trace.events ≡ made_when (calls_of draft.writer)
  same_making draft file same = ap (λ (f : DiskFile F). made_when f.trace.events) same

  -- the folder is synced
  pub syncs_placed : (folder : Option (DiskFolder F)) (before after : List DiskEvent) → SyncsAlone folder before after
      → placed after ≡ placed before
  syncs_placed folder before after syncs = search rules

-- the folder of a path is opened
pub opens_placed : (path : List ℕ) (before after : List DiskEvent) → OpensAlone path before after
    → placed after ≡ placed before
opens_placed path before after (at, answer, is_folder, is) = ap placed is
