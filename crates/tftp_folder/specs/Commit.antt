-- The calls by which a store over a folder gives a draft its name (ours).
use Rattle.std.specs.Prelude.{ℕ, ◌≡◌, ◌⊎◌, Bool, true, false, List, ◌∷◌, ◌++◌, Ok, Err, codes}
use Rattle.std.specs.IoError.{error_kind}
use Rattle.std.specs.declared.io.Error.{Error}
use Rattle.std.specs.declared.io.ErrorKind.TheVariants as kinds
use Rattle.tftp_disk.specs.Changes.{renames}
use Rattle.tftp_disk.specs.DiskTrace.{DiskEvent, Done, FileState}
use Rattle.tftp_disk.specs.DiskTrace.DiskEvent.{Made, Linked, Renamed, Removed, Looked, Tried}
use Rattle.tftp_disk.specs.declared.found.Found.{Found}
use Rattle.tftp_disk.specs.declared.found.Kind.TheVariants.{Regular}

-- the lock of a name, which a file gets without a hard link: `~` is in no name that a client can
-- spell
abbrev pub lock_of : List ℕ → List ℕ
lock_of target = target ++ codes "~tftp"

-- the changes by which a draft, with this file, was renamed under the lock of its name: that was
-- made, by a call that fails if it is there, and at the end removed
abbrev pub RenamesLocked : FileState → (draft target : List ℕ) → List DiskEvent → List DiskEvent
    → Type 0
RenamesLocked file draft target before after =
    (removal : Done)
    × (after ≡ Removed (lock_of target) removal ∷ Renamed file draft target (Ok tt)
    ∷ Made (lock_of target) (Ok tt) ∷ before)

-- the draft was not renamed: nothing changed; or the lock was not made; or the system was not asked
-- for the rename, or refused it, and the lock was removed
abbrev pub RefusesLocked : FileState → (draft target : List ℕ) → List DiskEvent → List DiskEvent
    → Type 0
RefusesLocked file draft target before after =
    (after ≡ before)
    ⊎ ((failure : Error) × (after ≡ Made (lock_of target) (Err failure) ∷ before))
    ⊎ ((removal : Done)
    × (after ≡ Removed (lock_of target) removal ∷ Made (lock_of target) (Ok tt) ∷ before))
    ⊎ ((failure : Error) × (removal : Done)
    × (after ≡ Removed (lock_of target) removal ∷ Renamed file draft target (Err failure)
    ∷ Made (lock_of target) (Ok tt) ∷ before))

-- the changes by which a draft, with this file, got its name: where it may replace a file, by a
-- rename; else by a link, which never replaces one, or, if the system refused that, by a rename
-- under the lock of the name
abbrev pub Names : FileState → (draft target : List ℕ) → List DiskEvent → Bool → List DiskEvent
    → Type 0
Names file draft target before true after = after ≡ Renamed file draft target (Ok tt) ∷ before
Names file draft target before false after =
    (after ≡ Linked file draft target (Ok tt) ∷ before)
    ⊎ ((refusal : Error)
    × RenamesLocked file draft target (Linked file draft target (Err refusal) ∷ before) after)

-- the system refused the draft its name, whose file was so: the link or the rename, or it was not
-- asked for the rename
abbrev pub RefusesName : FileState → (draft target : List ℕ) → List DiskEvent → Bool
    → List DiskEvent → Type 0
RefusesName file draft target before true after =
    (after ≡ before)
    ⊎ ((refusal : Error) × (after ≡ Renamed file draft target (Err refusal) ∷ before))
RefusesName file draft target before false after =
    (refusal : Error)
    × RefusesLocked file draft target (Linked file draft target (Err refusal) ∷ before) after

-- the newest of these changes is a link that was made
abbrev pub is_linked : List DiskEvent → Bool
is_linked (Linked file from to (Ok done) ∷ before) = true
is_linked changes = false

-- a draft that got its name by a link lost its own path at the end; any other has none left
abbrev pub ClearsDraft : Bool → List ℕ → List DiskEvent → List DiskEvent → Type 0
ClearsDraft true draft before after = (removal : Done) × (after ≡ Removed draft removal ∷ before)
ClearsDraft false draft before after = after ≡ before

-- the name is left, or was removed
abbrev pub MayRemove : List ℕ → List DiskEvent → List DiskEvent → Type 0
MayRemove target before after =
    (after ≡ before) ⊎ ((removal : Done) × (after ≡ Removed target removal ∷ before))

-- the name is left if it replaced a file, and else may be removed
abbrev pub MayRemoveNew : List ℕ → List DiskEvent → Bool → List DiskEvent → Type 0
MayRemoveNew target before true after = after ≡ before
MayRemoveNew target before false after = MayRemove target before after

-- the newest call is a look at a path: no file was there
abbrev pub IsFree : List ℕ → List DiskEvent → Type 0
IsFree path after =
    (before : List DiskEvent) × (error : Error) × (error_kind error ≡ kinds.NotFound)
    × (after ≡ Looked path (Err error) ∷ before)

-- the newest calls are looks at a path: no file was there, or a regular one, which may be written
abbrev pub MayBeReplaced : List ℕ → List DiskEvent → Type 0
MayBeReplaced path after =
    IsFree path after
    ⊎ ((before : List DiskEvent) × (found : Found) × (found.kind ≡ Regular)
    × (after ≡ Tried path (Ok tt) ∷ Looked path (Ok found) ∷ before))

-- the newest call is a look at a path, just after its lock was made: no file was there
abbrev pub IsFreeLocked : List ℕ → List DiskEvent → Type 0
IsFreeLocked path after =
    (before : List DiskEvent) × (error : Error) × (error_kind error ≡ kinds.NotFound)
    × (after ≡ Looked path (Err error) ∷ Made (lock_of path) (Ok tt) ∷ before)

-- a rename to the path may follow these calls: what has the name was looked at just before. No file
-- had it, which was then locked, or, if one may be replaced, a regular one had it, or none
abbrev pub MayRename : Bool → List ℕ → List DiskEvent → Type 0
MayRename true path after = MayBeReplaced path after
MayRename false path after = IsFreeLocked path after

-- the newest call is a rename to this path that may follow those before it
pub record RenamesSeen (replaces : Bool) (path : List ℕ) (after : List DiskEvent) : Type 0 where
  pub before : List DiskEvent
  pub may : MayRename replaces path before
  pub file : FileState
  pub from : List ℕ
  pub answer : Done
  pub newest : after ≡ Renamed file from path answer ∷ before

-- between these calls nothing was renamed, or one file to this path, just after a look at that
abbrev pub LooksThenRenames : Bool → List ℕ → List DiskEvent → List DiskEvent → Type 0
LooksThenRenames replaces path before after =
    (renames after ≡ renames before)
    ⊎ ((renamed : List DiskEvent) × RenamesSeen replaces path renamed
    × (renames after ≡ renamed ∷ renames before))
