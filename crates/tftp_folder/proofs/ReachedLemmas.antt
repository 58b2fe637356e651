-- The folders on the way to a name were looked at before it was given.
use Rattle.std.proofs.lemmas.Grind.{common_steps}
use Rattle.std.proofs.Common.{◌≡◌, ◌∙◌, ℕ, List, [], ◌∷◌, ◌++◌, Result, Err, ap, refl, subst, sym, arith, rules}
use Rattle.std.specs.declared.io.Error.{Error}
use Rattle.tftp_disk.specs.DiskTrace.{DiskEvent, Done, FileState}
use Rattle.tftp_disk.specs.DiskTrace.DiskEvent.{Linked, Looked, Made, Removed, Renamed, Tried}
use Rattle.tftp_disk.specs.Folder.{IsFolderOf}
use Rattle.tftp_disk.specs.NamedFolder.{OpensAlone}
use Rattle.tftp_disk.specs.declared.found.Found.{Found}
use Rattle.tftp_folder.specs.Begin.{DraftCalls}
use Rattle.tftp_folder.specs.Begin.DraftCalls.{None_yet, Look, Lock, Remove, Make}
use Rattle.tftp_folder.specs.Commit.{lock_of}
use Rattle.tftp_folder.specs.Opened.{AreFolders}
use Rattle.tftp_folder.specs.Placed.{placed}
use Rattle.tftp_folder.specs.Reached.{AreReached, IsReached, ReachesNames}
use Rattle.tftp_folder.specs.Reached.IsReached.{Walked, Opens, Looks, Tries, Locks, Refuses}

-- those of two parts
pub both_reached : (root : List ℕ) (newer older : List (List DiskEvent)) → AreReached root newer
    → AreReached root older → AreReached root (newer ++ older)
both_reached root [] older first second = second
both_reached root (calls ∷ newer) older first second = (first.0, both_reached root newer older first.1 second)

-- what was reached before such calls, and by them
pub still_reached : (root : List ℕ) (before after : List DiskEvent) → ReachesNames root before after
    → AreReached root (placed before) → AreReached root (placed after)
still_reached root before after reaches reached = search (rules, both_reached)

module _ (root : List ℕ) where
  -- calls that make, name and remove nothing
  pub looks_reach : (before after : List DiskEvent) → placed after ≡ placed before → ReachesNames root before after
  looks_reach before after same = record { newer = []; are = same; reached = tt }

  pub then_reaches : (a b c : List DiskEvent) → ReachesNames root a b → ReachesNames root b c → ReachesNames root a c
  then_reaches a b c first second = grind (arith, common_steps, both_reached)

  -- a file is removed, or made
  pub remove_reaches : (at : List ℕ) (answer : Done) (before after : List DiskEvent) → after ≡ Removed at answer ∷ before
      → ReachesNames root before after
  remove_reaches at answer before after is =
      record { newer = (Removed at answer ∷ before) ∷ []; are = ap placed is; reached = (tt, tt) }

  pub make_reaches : (at : List ℕ) (answer : Done) (before after : List DiskEvent) → after ≡ Made at answer ∷ before
      → ReachesNames root before after
  make_reaches at answer before after is =
      record { newer = (Made at answer ∷ before) ∷ []; are = ap placed is; reached = (tt, tt) }

  -- a name is given once it was reached
  pub link_reaches : (file : FileState) (from to target : List ℕ) (answer : Done) (before after : List DiskEvent)
      → to ≡ target → after ≡ Linked file from to answer ∷ before → IsReached root target before
      → ReachesNames root before after
  link_reaches file from to target answer before after aim is reached = record {
    newer = (Linked file from to answer ∷ before) ∷ [];
    are = ap placed is;
    reached = (subst (λ (t : List ℕ). IsReached root t before) (sym aim) reached, tt);
  }

  pub rename_reaches : (file : FileState) (from to target : List ℕ) (answer : Done) (before after : List DiskEvent)
      → to ≡ target → after ≡ Renamed file from to answer ∷ before → IsReached root target before
      → ReachesNames root before after
  rename_reaches file from to target answer before after aim is reached = record {
    newer = (Renamed file from to answer ∷ before) ∷ [];
    are = ap placed is;
    reached = (subst (λ (t : List ℕ). IsReached root t before) (sym aim) reached, tt);
  }

  -- it is still reached after a call that a name takes
  pub look_reached : (at path : List ℕ) (answer : Result Found Error) (before after : List DiskEvent) → at ≡ path
      → after ≡ Looked at answer ∷ before → IsReached root path before → IsReached root path after
  look_reached at path answer before after aim is reached =
      subst (IsReached root path) (sym (is ∙ ap (λ (p : List ℕ). Looked p answer ∷ before) aim)) (Looks answer reached)

  pub try_reached : (at path : List ℕ) (answer : Done) (before after : List DiskEvent) → at ≡ path
      → after ≡ Tried at answer ∷ before → IsReached root path before → IsReached root path after
  try_reached at path answer before after aim is reached =
      subst (IsReached root path) (sym (is ∙ ap (λ (p : List ℕ). Tried p answer ∷ before) aim)) (Tries answer reached)

  pub lock_reached : (at path : List ℕ) (answer : Done) (before after : List DiskEvent) → at ≡ lock_of path
      → after ≡ Made at answer ∷ before → IsReached root path before → IsReached root path after
  lock_reached at path answer before after aim is reached =
      subst (IsReached root path) (sym (is ∙ ap (λ (p : List ℕ). Made p answer ∷ before) aim)) (Locks answer reached)

  pub refuse_reached : (file : FileState) (from to path : List ℕ) (refusal : Error) (before after : List DiskEvent)
      → to ≡ path → after ≡ Linked file from to (Err refusal) ∷ before → IsReached root path before
      → IsReached root path after
  refuse_reached file from to path refusal before after aim is reached =
      subst (IsReached root path) (sym (is ∙ ap (λ (p : List ℕ). Linked file from p (Err refusal) ∷ before) aim))
      (Refuses refusal reached)

  -- the folders were looked at, and then that of the path was opened
  pub walk_reached : (path shown other folder : List ℕ) (looked opened : List DiskEvent) → shown ≡ path → other ≡ path
      → IsFolderOf shown folder → ((first : List DiskEvent) × AreFolders root folder first looked)
      → OpensAlone other looked opened → IsReached root path opened
  walk_reached path shown other folder looked opened is_shown is_other is_folder (first, folders) (at, answer, is_at, is) =
      subst (IsReached root path) (sym is)
      (Opens answer (subst (λ (p : List ℕ). IsFolderOf p at) is_other is_at)
      (Walked (subst (λ (p : List ℕ). IsFolderOf p folder) is_shown is_folder) folders))

  -- the calls that make a draft name no file
  pub draft_reaches : (folder : List ℕ) (port : ℕ) (before after : List DiskEvent) → DraftCalls folder port before after
      → ReachesNames root before after
  draft_reaches folder port before _ None_yet = looks_reach _ _ refl
  draft_reaches folder port before _ (Look {path = path} {after = after} answer is calls) =
      then_reaches _ _ _ (draft_reaches _ _ _ _ calls) (looks_reach _ _ refl)
  draft_reaches folder port before _ (Lock {path = path} {after = after} answer is calls) =
      then_reaches _ _ _ (draft_reaches _ _ _ _ calls) (looks_reach _ _ refl)
  draft_reaches folder port before _ (Remove {path = path} {after = after} removal found is calls) =
      then_reaches _ _ _ (draft_reaches _ _ _ _ calls) (then_reaches _ _ _ (looks_reach _ _ refl) (remove_reaches _ _ _
      _ refl))
  draft_reaches folder port before _ (Make {path = path} {after = after} answer is calls) =
      then_reaches _ _ _ (draft_reaches _ _ _ _ calls) (make_reaches _ _ _ _ refl)
