-- The calls that make a draft.
use Rattle.std.proofs.lemmas.Grind.{common_steps}
use Rattle.std.proofs.Common.{◌≡◌, ◌∙◌, ℕ, Bool, true, false, List, [], ◌∷◌, Ok, Err, IfOk, OnErr, Result, ap, inl, inr}
use Rattle.std.proofs.Common.{refl, subst, sym, arith, rules}
use Rattle.std.specs.String.{string_bytes}
use Rattle.std.specs.declared.io.Error.{Error}
use Rattle.tftp_disk.specs.Changes.{changes}
use Rattle.tftp_disk.specs.DiskTrace.{DiskEvent, Done, made_when}
use Rattle.tftp_disk.specs.DiskTrace.DiskEvent.{Locked, Looked, Made, Removed}
use Rattle.tftp_disk.specs.DiskWriter.{calls_of}
use Rattle.tftp_disk.specs.Still.{IsStillAt}
use Rattle.tftp_disk.specs.declared.disk_file.DiskFile.{DiskFile}
use Rattle.tftp_disk.specs.declared.disk_writer.DiskWriter.{DiskWriter}
use Rattle.tftp_disk.specs.declared.found.Found.{Found}
use Rattle.tftp_folder.specs.Begin.{DraftCalls, IsDraftOf, IsMade, IsMadeFor, IsNew, MakesDraft, TriesAt, TriesDraft}
use Rattle.tftp_folder.specs.Begin.DraftCalls.{None_yet, Look, Lock, Remove, Make}
use Rattle.tftp_folder.specs.Begin.TriesDraft.{Nothing, Locks, Removes, Makes}
use Rattle.tftp_folder.specs.Commit.{lock_of}
use Rattle.tftp_folder.specs.Draft.{IsThere}
use Rattle.tftp_folder.specs.Inside.{IsInside, StaysInside}
use Rattle.tftp_folder.specs.Looked.{RemovesIf, RemovesOwn}
use Rattle.tftp_folder.specs.Opened.{follows}
use Rattle.tftp_folder.specs.Placed.{LeavesOthers}
use Rattle.tftp_folder.specs.Uploads.{IsBelow}
use Rattle.tftp_folder.specs.declared.folder_draft.FolderDraft.{FolderDraft}
use Rattle.tftp_folder.proofs.ApartLemmas.{draft_apart}
use Rattle.tftp_folder.proofs.PlacedLemmas.{leaves_made, leaves_removed, still_past}

-- each path of a draft is below the folder
pub draft_in_folder : (folder : List ℕ) (port : ℕ) (path : List ℕ) → IsDraftOf folder port path → IsBelow folder path
draft_in_folder folder port path (inl is) = (_, is)
draft_in_folder folder port path (inr (turn, is)) = (_, is)

draft_inside : (root folder : List ℕ) (port : ℕ) (path : List ℕ) → IsInside root folder → IsDraftOf folder port path
    → IsInside root path
draft_inside root folder port path inside is = grind (arith, common_steps)

module _ (folder : List ℕ) (port : ℕ) where
  -- of such calls, those that change something
  pub tries_by : (before after : List DiskEvent) → DraftCalls folder port before after
      → TriesDraft folder port (changes before) (changes after)
  tries_by before _ None_yet = Nothing
  tries_by before _ (Look answer is calls) = tries_by before _ calls
  tries_by before _ (Lock answer is calls) = Locks answer is (tries_by before _ calls)
  tries_by before _ (Remove removal found is calls) = Removes removal is (tries_by before _ calls)
  tries_by before _ (Make answer is calls) = Makes answer is (tries_by before _ calls)

  pub then_calls : (a b c : List DiskEvent) → DraftCalls folder port a b → DraftCalls folder port b c
      → DraftCalls folder port a c
  then_calls a b _ first None_yet = first
  then_calls a b _ first (Look answer is calls) = Look answer is (then_calls a b _ first calls)
  then_calls a b _ first (Lock answer is calls) = Lock answer is (then_calls a b _ first calls)
  then_calls a b _ first (Remove removal found is calls) = Remove removal found is (then_calls a b _ first calls)
  then_calls a b _ first (Make answer is calls) = Make answer is (then_calls a b _ first calls)

  -- what only was looked at before counts as nothing
  pub others_by : (before after : List DiskEvent) → DraftCalls folder port before after
      → LeavesOthers folder port before after
  others_by before _ None_yet path when none still = still
  others_by before _ (Look answer is calls) path when none still =
      still_past path when (Looked _ answer) _ tt (others_by before _ calls path when none still)
  others_by before _ (Lock answer is calls) path when none still =
      still_past path when (Locked _ answer) _ tt (others_by before _ calls path when none still)
  others_by before _ (Remove {path = at} {after = after} removal found is calls) path when none still =
      still_past path when (Removed at removal) _
      (leaves_removed path at removal (λ same. none (subst (IsDraftOf folder port) (sym same) is)))
      (still_past path when (Looked at found) _ tt
      (still_past path when (Locked at (Ok tt)) after tt (others_by before after calls path when none still)))
  others_by before _ (Make {path = at} {after = after} answer is calls) path when none still =
      still_past path when (Made at answer) after
      (leaves_made path at answer (λ same. none (subst (IsDraftOf folder port) (sym same) is)))
      (others_by before after calls path when none still)

  pub follows_by : (before after : List DiskEvent) → DraftCalls folder port before after
      → follows after ≡ follows before
  follows_by before _ None_yet = refl
  follows_by before _ (Look answer is calls) = follows_by before _ calls
  follows_by before _ (Lock answer is calls) = follows_by before _ calls
  follows_by before _ (Remove removal found is calls) = follows_by before _ calls
  follows_by before _ (Make answer is calls) = follows_by before _ calls

  -- each path is inside the root, if the folder is
  pub calls_inside : (root : List ℕ) (before after : List DiskEvent) → IsInside root folder
      → DraftCalls folder port before after → StaysInside root before after
  calls_inside root before _ inside None_yet all = all
  calls_inside root before _ inside (Look answer is calls) all =
      (draft_inside root folder port _ inside is, calls_inside root before _ inside calls all)
  calls_inside root before _ inside (Lock answer is calls) all =
      (draft_inside root folder port _ inside is, calls_inside root before _ inside calls all)
  calls_inside root before _ inside (Remove removal found is calls) all =
      let at = draft_inside root folder port _ inside is in
      (at, (at, (at, calls_inside root before _ inside calls all)))
  calls_inside root before _ inside (Make answer is calls) all =
      (draft_inside root folder port _ inside is, calls_inside root before _ inside calls all)

  -- the calls that made a draft
  pub made_calls : (path : List ℕ) (file before after : List DiskEvent) → IsMadeFor folder port path file before after
      → DraftCalls folder port before after
  made_calls path file before after made =
      subst (DraftCalls folder port before) (sym made.new.made) (Look made.new.found made.own (Make (Ok tt) made.own made.tries))

  -- of those, the ones that change something
  pub makes_draft : (path at : List ℕ) (file before looked after : List DiskEvent) → changes looked ≡ changes before
      → at ≡ path → IsMadeFor folder port path file looked after
      → MakesDraft folder port at (changes before) (changes after)
  makes_draft path at file before looked after same is made = search (rules, tries_by)

  pub made_for : (path : List ℕ) (file before between after : List DiskEvent) → DraftCalls folder port before between
      → IsDraftOf folder port path → IsMade path file between after → IsMadeFor folder port path file before after
  made_for path file before between after first own made = search (rules, then_calls)

  -- such calls, and then those
  pub made_more : (path : List ℕ) (file before between after : List DiskEvent) → DraftCalls folder port before between
      → IsMadeFor folder port path file between after → IsMadeFor folder port path file before after
  made_more path file before between after first made = search (rules, then_calls)

-- it is still at its path
pub made_there : (path : List ℕ) (file cleared after : List DiskEvent) → IsNew path file cleared after
    → IsStillAt path (made_when file) after
made_there path file cleared after new = record {
  since = Looked path new.found ∷ [];
  before = cleared;
  made = new.made;
  when = ap made_when new.opened;
  left = (tt, tt);
}

-- of a result of either kind
pub if_ok : {A B : Type 0} {P Q : A → Type 0} (result : Result A B) → ((value : A) → P value → Q value)
    → IfOk result P → IfOk result Q
if_ok (Ok value) more is = more value is
if_ok (Err error) more is = tt

pub if_err : {A B X Y : Type 0} (result : Result A B) → (X → Y) → OnErr result X → OnErr result Y
if_err (Ok value) more is = tt
if_err (Err error) more is = more is

pub on_err : {A B X : Type 0} (result : Result A B) → X → OnErr result X
on_err (Ok value) is = tt
on_err (Err error) is = is

-- one call, and no more
pub looks_at : (path : List ℕ) (answer : Result Found Error) (before after : List DiskEvent)
    → after ≡ Looked path answer ∷ before → TriesAt path before after
looks_at path answer before after is folder port own =
    subst (DraftCalls folder port before) (sym is) (Look answer own None_yet)

pub locks_at : (path : List ℕ) (answer : Done) (before after : List DiskEvent)
    → after ≡ Locked path answer ∷ before → TriesAt path before after
locks_at path answer before after is folder port own =
    subst (DraftCalls folder port before) (sym is) (Lock answer own None_yet)

pub makes_at : (path : List ℕ) (answer : Done) (before after : List DiskEvent)
    → after ≡ Made path answer ∷ before → TriesAt path before after
makes_at path answer before after is folder port own =
    subst (DraftCalls folder port before) (sym is) (Make answer own None_yet)

pub then_tries : (path : List ℕ) (a b c : List DiskEvent) → TriesAt path a b → TriesAt path b c → TriesAt path a c
then_tries path a b c first second folder port own =
    then_calls folder port a b c (first folder port own) (second folder port own)

removed_at : (path : List ℕ) (found : Result Found Error) (finds : Bool) (before looked after : List DiskEvent)
    → looked ≡ Looked path found ∷ Locked path (Ok tt) ∷ before → RemovesIf finds path looked after
    → TriesAt path before after
removed_at path found true before looked after is (removal, gone) folder port own =
    subst (DraftCalls folder port before)
    (sym (gone ∙ ap (λ (l : List DiskEvent). Removed path removal ∷ l) is)) (Remove removal found own None_yet)
removed_at path found false before looked after is left folder port own =
    subst (DraftCalls folder port before) (sym (left ∙ is)) (Look found own (Lock (Ok tt) own None_yet))

-- what was just locked is removed, or left
pub removes_at : (path : List ℕ) (calls calls' before locked after : List DiskEvent)
    → locked ≡ Locked path (Ok tt) ∷ before → RemovesOwn path calls calls' locked after → TriesAt path before after
removes_at path calls calls' before locked after is removes = search (rules, removed_at)

module _ {F : Type 0} where
  -- a draft whose file was just made
  pub new_draft_there : (draft : FolderDraft F) (folder target path : List ℕ) (port : ℕ) (writer : DiskWriter F)
      (file : DiskFile F) (before log : List DiskEvent) → string_bytes draft.draft ≡ path
      → string_bytes draft.target ≡ target → draft.writer ≡ writer → writer.file ≡ file
      → IsMadeFor folder port path file.trace.events before log → IsThere draft log
  new_draft_there draft folder target path port writer file before log is_path is_target wrote opened made = record {
    apart = λ same. draft_apart folder target port path made.own (sym is_path ∙ same ∙ ap (λ t. lock_of t) is_target);
    still = subst (λ p. IsStillAt p (made_when (calls_of draft.writer)) log) (sym is_path) (subst (λ w. IsStillAt path w
        log) (sym (ap (λ w. made_when (calls_of w)) wrote ∙ ap (λ f. made_when f.trace.events) opened)) (made_there path
        file.trace.events made.cleared log made.new));
  }
