-- A fetched file got its name, and the folder of that was synced.
use Rattle.std.proofs.Common.{rules}
use Rattle.tftp_client.proofs.Common.{◌≡◌, ℕ, Bool, false, List, ◌∷◌, Option, Some, None, Result, Ok, Err, OnOk, length}
use Rattle.tftp_client.proofs.Common.{arith, inl, inr, sym, ap, ◌∙◌, ∥∥₁_map, Error, DiskEvent, FileState}
use Rattle.tftp_client.proofs.Common.{Folder_synced, Linked, SyncsFolder, path_in, IsStillAt, Keeps, NamesBytes, Paths}
use Rattle.tftp_client.proofs.Common.{WasNamed}
use Rattle.tftp_disk.specs.Changes.{changes}
use Rattle.tftp_disk.specs.NamedFolder.{SyncsAlone}
use Rattle.tftp_disk.specs.declared.disk_file.DiskFolder.{DiskFolder}
use Rattle.tftp_client.specs.Fetched.{IsWholeAt, KeepsOne, NamesFile, SyncsIn}
use Rattle.tftp_client.specs.Written.{IsFolderIn}

-- for a last call whose result is returned as it is
pub on_ok : {T E : Type 0} (r : Result T E) {P Q : Type 0} → (P → Q) → OnOk r P → OnOk r Q
on_ok (Ok value) weaker p = weaker p
on_ok (Err error) weaker p = tt

-- a folder that may not be read stays so
pub folder_later : {F : Type 0} (folder : Option (DiskFolder F)) (paths : Paths) (before after : List DiskEvent)
    → Keeps paths before after → ∥ IsFolderIn paths.local folder before ∥₁ → ∥ IsFolderIn paths.local folder after ∥₁
folder_later (Some folder) paths before after keeps fits = fits
folder_later None paths before after keeps fits = ∥∥₁_map fits keeps.barred

synced_in : {F : Type 0} (folder : Option (DiskFolder F)) (path : List ℕ) (all : List DiskEvent)
    → IsFolderIn path folder all → (before after : List DiskEvent) → SyncsFolder folder before after
    → SyncsIn path all before after
synced_in folder path all fits before after syncs = search rules

-- a sync by the calls that it may have made
no_longer : (event : DiskEvent) (before after : List DiskEvent) → after ≡ event ∷ before → after ≡ before → ⊥
no_longer event before after longer same =
    absurd (omega (arith, ap length (sym longer ∙ same)))

pub synced_all : {F : Type 0} (folder : Option (DiskFolder F)) (before after : List DiskEvent)
    → SyncsAlone folder before after → SyncsFolder folder (changes before) (changes after)
    → SyncsFolder folder before after
synced_all (Some folder) before after (inl same) syncs = absurd (no_longer _ _ _ syncs.2 (ap changes same))
synced_all (Some folder) before after (inr (answer, noted)) syncs = search rules
synced_all None before after (inl same) syncs = same
synced_all None before after (inr (answer, noted)) syncs = absurd (no_longer _ _ _ (ap changes noted) syncs)

pub unsynced_all : {F : Type 0} (folder : Option (DiskFolder F)) (before after : List DiskEvent) (error : Error)
    → SyncsAlone folder before after
    → changes after ≡ Folder_synced (path_in folder) (Err error) ∷ changes before
    → after ≡ Folder_synced (path_in folder) (Err error) ∷ before
unsynced_all folder before after error (inl same) unsynced = absurd (no_longer _ _ _ unsynced (ap changes same))
unsynced_all folder before after error (inr (answer, noted)) unsynced = search rules

module _ (Syncs Other : List DiskEvent → List DiskEvent → Type 0)
    (weaker : (before after : List DiskEvent) → Syncs before after → Other before after) where
  names_file : (replaces : Bool) (paths : Paths) (file : FileState) (before after : List DiskEvent)
      → NamesFile Syncs replaces paths file before after → NamesFile Other replaces paths file before after
  names_file replaces paths file before after h5 = search rules

pub was_named : {F : Type 0} (folder : Option (DiskFolder F)) (paths : Paths) (bytes : List ℕ) (after : List DiskEvent)
    → IsFolderIn paths.local folder after → NamesBytes (SyncsFolder folder) paths bytes after → WasNamed paths bytes after
was_named folder paths bytes after fits named = search (rules, names_file, synced_in)

pub linked_named : (Syncs : List DiskEvent → List DiskEvent → Type 0) (paths : Paths) (bytes : List ℕ) (file : FileState)
    (before mid after : List DiskEvent) → IsWholeAt paths.part bytes file → ∥ IsStillAt paths.part file.made_when before ∥₁
    → mid ≡ Linked file paths.part paths.local (Ok tt) ∷ before → KeepsOne Syncs paths mid after
    → (f : FileState) × (b : List DiskEvent) × IsWholeAt paths.part bytes f × ∥ IsStillAt paths.part f.made_when b ∥₁
    × NamesFile Syncs false paths f b after
linked_named Syncs paths bytes file before mid after whole still is kept = search rules
