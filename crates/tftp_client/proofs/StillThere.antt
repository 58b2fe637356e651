-- A file that was made is still what has its path.
use Rattle.std.proofs.lemmas.Grind.{common_steps}
use Rattle.tftp_client.proofs.Common.{◌≡◌, ℕ, List, [], ◌∷◌, length, Option, Some, None, Result, Ok, Err, inl, refl, ap}
use Rattle.tftp_client.proofs.Common.{◌∙◌, subst, ∥∥₁_map, Error, DiskEvent, FileState, made_when, Folder_synced}
use Rattle.tftp_client.proofs.Common.{Linked, Made, Removed, calls_of, handed, IsStillAt, Written, Paths, IsLeftIn}
use Rattle.std.proofs.Common.{OnErr, arith, rules}
use Rattle.tftp_disk.specs.DiskTrace.{Done, state_of}
use Rattle.tftp_disk.specs.DiskTrace.DiskEvent.{Renamed}
use Rattle.tftp_disk.specs.Still.{LeavesPath}
use Rattle.tftp_client.specs.Fetched.{LosesName}
use Rattle.tftp_client.specs.Written.{IsDone, IsLeftAs, IsStillIn, SameFile, SameIn}

-- it was made just now
pub just_made : (path : List ℕ) (calls : Option ℕ) (before after : List DiskEvent) → after ≡ Made path (Ok tt) ∷ before
    → calls ≡ Some (length before) → IsStillAt path calls after
just_made path calls before after is when =
    record { since = []; before = before; made = is; when = when; left = tt }

-- a call left it there
pub left_there : (path : List ℕ) (calls : Option ℕ) (event : DiskEvent) (before after : List DiskEvent)
    → LeavesPath path event → after ≡ event ∷ before → ∥ IsStillAt path calls before ∥₁ → ∥ IsStillAt path calls after ∥₁
left_there path calls event before after leaves is still =
    ∥∥₁_map still
    (λ still. record {
      since = event ∷ still.since;
      before = still.before;
      made = is ∙ ap (λ (events : List DiskEvent). event ∷ events) still.made;
      when = still.when;
      left = (leaves, still.left);
    })

-- the same file
pub same_there : (path : List ℕ) (calls calls' : Option ℕ) (log : List DiskEvent) → calls ≡ calls'
    → ∥ IsStillAt path calls log ∥₁ → ∥ IsStillAt path calls' log ∥₁
same_there path calls calls' log same still =
    subst (λ (n : Option ℕ). ∥ IsStillAt path n log ∥₁) same still

-- for a last call whose result is returned as it is
pub on_err : {T E : Type 0} (r : Result T E) {P Q : Type 0} → (P → Q) → OnErr r P → OnErr r Q
on_err (Ok value) weaker p = tt
on_err (Err error) weaker p = weaker p

-- for one that is known to be so
pub err_so : {T E : Type 0} (r : Result T E) {P : Type 0} → P → OnErr r P
err_so (Ok value) p = tt
err_so (Err error) p = p

-- a removal of the name leaves the other
removal_leaves : (paths : Paths) (removal : Done) → (paths.part ≡ paths.local → ⊥)
    → LeavesPath paths.part (Removed paths.local removal)
removal_leaves paths (Ok done) apart = apart
removal_leaves paths (Err error) apart = tt

-- a link that was removed again leaves the file under its first name
pub lost_there : (paths : Paths) (calls : Option ℕ) (file : FileState) (before mid after : List DiskEvent)
    → (paths.part ≡ paths.local → ⊥) → mid ≡ Linked file paths.part paths.local (Ok tt) ∷ before
    → LosesName paths mid after → ∥ IsStillAt paths.part calls before ∥₁ → ∥ IsStillAt paths.part calls after ∥₁
lost_there paths calls file before mid after apart is lost still =
    let unsynced = Folder_synced lost.0 (Err lost.1) ∷ mid in
    left_there _ _ _ _ _ (removal_leaves paths lost.2 apart) lost.3 (left_there _ _ _ _ _ tt refl (left_there _ _ _ _ _
    apart is still))

module _ {F : Type 0} where
  -- a call left it there, and its file is what it was
  pub call_leaves : (part : List ℕ) (old new : Written F) (event : DiskEvent) (before after : List DiskEvent)
      → LeavesPath part event → made_when (calls_of new.writer) ≡ made_when (calls_of old.writer) → after ≡ event ∷ before
      → ∥ IsStillAt part (made_when (calls_of old.writer)) before ∥₁
      → ∥ IsStillAt part (made_when (calls_of new.writer)) after ∥₁
  call_leaves part old new event before after leaves same is still =
      search (rules, same_there, made_when, calls_of, left_there)

  -- it still has its first name
  pub left_as : (paths : Paths) (written : Written F) (log : List DiskEvent)
      → ∥ IsStillAt paths.part (made_when (calls_of written.writer)) log ∥₁ → ∥ IsLeftAs paths written log ∥₁
  left_as paths written log still = ∥∥₁_map still (λ at. inl at)

  -- it was renamed, and the folder could not be synced
  pub moved_as : (paths : Paths) (written : Written F) (before after : List DiskEvent) (folder : Option (List ℕ))
      (error : Error) → IsDone paths.part (handed written.writer) written
      → ∥ IsStillAt paths.part (made_when (calls_of written.writer)) before ∥₁
      → after ≡ Folder_synced folder (Err error)
      ∷ Renamed (state_of (calls_of written.writer)) paths.part paths.local (Ok tt) ∷ before
      → ∥ IsLeftAs paths written after ∥₁
  moved_as paths written before after folder error whole still is = grind (arith, common_steps)

  -- the same file is left as it was
  as_left : (paths : Paths) (old new : Written F) (log : List DiskEvent) → SameFile old new → IsLeftAs paths old log
      → IsLeftAs paths new log
  as_left paths old new log same h5 = search rules

  pub in_left : (paths : Paths) (old new : Option (Written F)) (log : List DiskEvent) → SameIn old new
      → ∥ IsLeftIn paths old log ∥₁ → ∥ IsLeftIn paths new log ∥₁
  in_left paths None new log same left = rw (same) left
  in_left paths (Some old) None log same left = absurd same
  in_left paths (Some old) (Some new) log same left = ∥∥₁_map left (λ at. as_left paths old new log same at)

  -- of a file that is made
  pub still_some : (part : List ℕ) (written : Option (Written F)) (file : Written F) (log : List DiskEvent)
      → written ≡ Some file → ∥ IsStillIn part written log ∥₁
      → ∥ IsStillAt part (made_when (calls_of file.writer)) log ∥₁
  still_some part written file log is still =
      subst (λ (w : Option (Written F)). ∥ IsStillIn part w log ∥₁) is still

  -- a file whose name was not tried has its first name
  pub still_left : (paths : Paths) (written : Option (Written F)) (log : List DiskEvent)
      → ∥ IsStillIn paths.part written log ∥₁ → ∥ IsLeftIn paths written log ∥₁
  still_left paths None log still = still
  still_left paths (Some written) log still = ∥∥₁_map still (λ at. inl at)
