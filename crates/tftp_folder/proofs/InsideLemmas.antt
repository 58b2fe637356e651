-- Which paths are inside the root, and the calls on them.
use Rattle.std.proofs.Common.{◌≡◌, ◌≤◌, ◌<◌, ◌∙◌, ℕ, zero, suc, List, [], ◌∷◌, ◌++◌, Option, Some, None, Result, length}
use Rattle.std.proofs.Common.{take, max, refl, sym, ap, subst, inl, inr, arith, rules}
use Rattle.std.specs.Prelude.{IfSome}
use Rattle.std.specs.String.{string_bytes}
use Rattle.std.specs.declared.io.Error.{Error}
use Rattle.std.proofs.lemmas.List.{append_assoc, get_or_at, length-append, take_all}
use Rattle.tftp_disk.specs.DiskTrace.{DiskEvent, Done, FileState}
use Rattle.tftp_disk.specs.DiskTrace.DiskEvent.{Looked, Renamed}
use Rattle.tftp_disk.specs.Folder.{HasNoSlash, IsFolderOf, folder_or_root}
use Rattle.tftp_disk.specs.Folder.IsFolderOf.{Before, Here}
use Rattle.tftp_disk.specs.NamedFolder.{IsFolderFor, OpensAlone, SyncsAlone, path_in}
use Rattle.tftp_disk.specs.declared.disk_file.DiskFolder.{DiskFolder}
use Rattle.tftp_disk.specs.declared.found.Found.{Found}
use Rattle.tftp_folder.specs.Commit.{lock_of}
use Rattle.tftp_folder.specs.Draft.{IsDraftBelow, SameNames}
use Rattle.tftp_folder.specs.Inside.{AreInside, IsInside, StaysInside}
use Rattle.tftp_folder.specs.Uploads.{IsBelow}
use Rattle.tftp_folder.specs.declared.folder_draft.FolderDraft.{FolderDraft}

no_slash : (before after : List ℕ) → HasNoSlash (before ++ (47 ∷ after)) → ⊥
no_slash before after none =
    none (length before) (omega (arith, length-append before (47 ∷ after)))
    (get_or_at before 47 after 0 (length before) refl)

grows : (first byte : ℕ) (root path : List ℕ) → byte ≡ first → IsInside root path
    → IsInside (first ∷ root) (byte ∷ path)
grows first byte root path same (inl is) = inl (cc)
grows first byte root path same (inr (rest, is)) = inr (rest, cc)

-- what is before a slash of a path below the root, if none follows
before_slash : (root front name rest : List ℕ) → front ++ (47 ∷ name) ≡ root ++ (47 ∷ rest) → HasNoSlash name
    → IsInside root front
before_slash [] [] name rest same none = inl refl
before_slash [] (byte ∷ front) name rest same none = inr (front, cc)
before_slash (first ∷ root) [] name rest same none =
    let is : name ≡ root ++ (47 ∷ rest) = cc in absurd (no_slash root rest (subst HasNoSlash is none))
before_slash (first ∷ root) (byte ∷ front) name rest same none =
    let is : front ++ (47 ∷ name) ≡ root ++ (47 ∷ rest) = cc in
    grows first byte root front (cc) (before_slash root front name rest is none)

-- the folder of the root or of one below it, as a path of the system
pub folder_inside : (root path : List ℕ) → IsInside root path → IsInside root (folder_or_root path)
folder_inside root [] (inl same) = inr ([], ap (λ (r : List ℕ). r ++ (47 ∷ [])) same)
folder_inside root [] (inr (rest, is)) = absurd (omega (arith, length-append root (47 ∷ rest), ap length is))
folder_inside root (byte ∷ path) is = is

-- the folder of a path below the root
pub above_inside : (root path text above : List ℕ) → text ≡ path → IsBelow root path → IsFolderOf text above
    → IsInside root above
above_inside root path text _ same below (Before front name is none) =
    folder_inside root front (before_slash root front name below.0 (sym is ∙ same ∙ below.1) none)
above_inside root path text _ same below (Here none) =
    absurd (no_slash root below.0 (subst HasNoSlash (same ∙ below.1) none))

-- a path below a folder that is inside the root
pub in_folder : (root folder path : List ℕ) → IsInside root folder → IsBelow folder path → IsBelow root path
in_folder root folder path inside below = search (rules, append_assoc)

-- the lock of a name below the root
pub lock_inside : (root target at : List ℕ) → at ≡ lock_of target → IsBelow root target → IsInside root at
lock_inside root target at is below = search (rules, append_assoc)

-- a path that is longer than the root is below it
pub longer_below : (root path : List ℕ) → IsInside root path → max (length root) 1 < length path
    → IsBelow root path
longer_below root path inside long = search rules

front_below : (root rest : List ℕ) (n : ℕ) → length root ≤ n → IsInside root (take n (root ++ (47 ∷ rest)))
front_below [] rest zero long = inl refl
front_below [] rest (suc n) long = inr (take n rest, refl)
front_below (first ∷ root) rest zero long = absurd (omega arith)
front_below (first ∷ root) rest (suc n) long =
    grows first first root (take n (root ++ (47 ∷ rest))) refl (front_below root rest n (omega arith))

-- the front of a path inside the root, if it is as long as that
pub front_inside : (root path : List ℕ) (n : ℕ) → IsInside root path → length root ≤ n → IsInside root (take n path)
front_inside root path n inside long = search (rules, take_all, front_below)

-- a path inside the root is looked at
pub look_inside : (root path : List ℕ) (answer : Result Found Error) (before after : List DiskEvent)
    → after ≡ Looked path answer ∷ before → IsInside root path → StaysInside root before after
look_inside root path answer before after is inside all = subst (AreInside root) (sym is) (inside, all)

-- the folder of a path below the root, and those above it, are looked at, by another text of the root
pub folders_inside : (by root path above : List ℕ) (before after : List DiskEvent) → by ≡ root → IsBelow root path
    → IsFolderOf path above → (IsInside by above → StaysInside by before after) → StaysInside root before after
folders_inside by root path above before after same below is_folder calls =
    subst (λ r. IsInside r above → StaysInside r before after) same calls (above_inside _ _ _ _ refl below is_folder)

-- the folder of a path below the root is opened
pub opens_inside : (root path text : List ℕ) (before after : List DiskEvent) → text ≡ path → IsBelow root path
    → OpensAlone text before after → StaysInside root before after
opens_inside root path text before after same below (at, answer, is_folder, is) =
    λ all. subst (AreInside root) (sym is) (above_inside root path text at same below is_folder, all)

module _ {F : Type 0} where
  -- that folder is inside the root, if it is open
  pub folder_fits : (root path text : List ℕ) (folder : Option (DiskFolder F)) → text ≡ path → IsBelow root path
      → (calls : List DiskEvent) → IsFolderFor text folder calls → IfSome (path_in folder) (IsInside root)
  folder_fits root path text None same below calls fits = tt
  folder_fits root path text (Some folder) same below calls (at, is_folder, told) =
      rw (told) (above_inside root path text at same below is_folder)

  -- it is synced
  pub syncs_inside : (root : List ℕ) (folder : Option (DiskFolder F)) (before after : List DiskEvent)
      → IfSome (path_in folder) (IsInside root) → SyncsAlone folder before after → StaysInside root before after
  syncs_inside root folder before after fits syncs = search rules

  -- a draft with the same names is below the root
  pub stays_below : (root : List ℕ) (a b : FolderDraft F) → SameNames a b → IsDraftBelow root a → IsDraftBelow root b
  stays_below root a b names below = search rules

  -- calls on a draft with the same names, by another text of the root
  pub names_inside : (a b : FolderDraft F) (by root : List ℕ) (before after : List DiskEvent) → SameNames a b
      → by ≡ root → (IsDraftBelow by b → StaysInside by before after) → IsDraftBelow root a
      → StaysInside root before after
  names_inside a b by root before after names same calls below = search rules

  -- it is renamed
  pub rename_inside : (root : List ℕ) (draft : FolderDraft F) (file : FileState) (from to : List ℕ) (answer : Done)
      (before after : List DiskEvent) → from ≡ string_bytes draft.draft → to ≡ string_bytes draft.target
      → after ≡ Renamed file from to answer ∷ before → IsDraftBelow root draft → StaysInside root before after
  rename_inside root draft file from to answer before after path target is below all = search rules
