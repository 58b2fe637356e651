-- A run stays within the limits of its store.
use Rattle.std.proofs.Common.{◌≡◌, ◌∙◌, ℕ, true, List, [], ◌∷◌, Option, Some, None, refl, sym, ap, subst, inl, inr}
use Rattle.std.specs.Prelude.{◌⊎◌, ◌++◌, codes, Ok, IfSome, All}
use Rattle.std.specs.Map.{values_of}
use Rattle.std.specs.String.{string_bytes}
use Rattle.std.proofs.lemmas.List.Elements.{All-cons, All-nil}
use Rattle.std.proofs.lemmas.List.{append_assoc}
use Rattle.tftp_file.specs.Source.{SourceMeaning}
use Rattle.tftp_disk.specs.Changes.{changes}
use Rattle.tftp_disk.specs.DiskTrace.{DiskEvent}
use Rattle.tftp_disk.specs.DiskTrace.DiskEvent.{Looked, Followed, Resolved, Opened, Tried, Created, Made, Locked, Linked}
use Rattle.tftp_disk.specs.DiskTrace.DiskEvent.{Renamed, Removed, Folder_opened, Folder_synced, Examined, Given, Not_given}
use Rattle.tftp_disk.specs.DiskTrace.DiskEvent.{Sought, Written, Not_written, Synced, Mode_set}
use Rattle.tftp_store.specs.Store.{StoreMeaning}
use Rattle.tftp_server.specs.State.{TransferState, draft_of}
use Rattle.tftp_folder.specs.Changing.{AreChanges, IsChange, IsDraftIn, IsLock, IsTarget, KeepsWithin, Limits, ReadOnlyChangesNothing}
use Rattle.tftp_folder.specs.Changing.{IsWithin, limits_of}
use Rattle.tftp_folder.specs.Effects.{changes_of}
use Rattle.tftp_folder.specs.Inside.{IsInside}
use Rattle.tftp_folder.specs.Placed.{placed}
use Rattle.tftp_folder.specs.Reached.{AreReached}
use Rattle.tftp_folder.specs.Uploads.{IsBelow, path_below, path_of_folder}
use Rattle.tftp_folder.specs.declared.folder_draft.FolderDraft.{FolderDraft}
use Rattle.tftp_folder.specs.declared.folder_store.FolderStore.{FolderStore}
use Rattle.tftp_daemon.specs.Changes.{IsChangeBelow, IsOwnDraft, ReadOnlyRunChangesNothing, RunStaysWithin}
use Rattle.tftp_daemon.specs.Changes.{UploadsRunChangesBelow}
use Rattle.tftp_daemon.specs.CommandLine.{is_on}
use Rattle.tftp_daemon.specs.Configured.{IsUploads, drafts_in}
use Rattle.tftp_daemon.proofs.Keeping.{run_keeps}

-- ---- what lies in the folder of uploads

-- a draft there
draft_below : (folder path : List ℕ) → IsDraftIn folder path → IsBelow folder path
draft_below folder path (port, inl is) = (_, is)
draft_below folder path (port, inr (turn, is)) = (_, is)

-- a place of the root that is below the folder
target_below : (limits : Limits) (folder target : List ℕ) → limits.uploads ≡ Some folder → IsTarget limits target
    → IsBelow (path_below limits.root folder) target
target_below limits folder target uploads is =
    let below : IsBelow folder is.path =
    subst (λ (u : Option (List ℕ)). IfSome u (λ (f : List ℕ). IsBelow f is.path)) uploads is.uploads in (
      below.0,
      is.place ∙ ap (λ (p : List ℕ). path_below limits.root p) below.1
          ∙ sym (append_assoc limits.root (47 ∷ folder) (47 ∷ below.0)),
    )

module _ (limits : Limits) (folder : List ℕ) (uploads : limits.uploads ≡ Some folder)
    (drafts : limits.drafts ≡ path_below limits.root folder) where
  target_in : (target : List ℕ) → IsTarget limits target → IsBelow limits.drafts target
  target_in target is =
      subst (λ (f : List ℕ). IsBelow f target) (sym drafts) (target_below limits folder target uploads is)

  lock_in : (path : List ℕ) → IsLock limits path → IsBelow limits.drafts path
  lock_in path (target, is_target, is) =
      let below = target_in target is_target in (
        below.0 ++ codes "~tftp",
        is ∙ ap (λ (t : List ℕ). t ++ codes "~tftp") below.1 ∙ append_assoc limits.drafts (47 ∷ below.0) (codes "~tftp"),
      )

  made_in : (path : List ℕ) → (IsDraftIn limits.drafts path) ⊎ IsLock limits path → IsBelow limits.drafts path
  made_in path (inl is) = draft_below limits.drafts path is
  made_in path (inr is) = lock_in path is

  either_in : (path : List ℕ) {MayBe WasGiven WasMade : Type 0}
      → (IsDraftIn limits.drafts path × MayBe) ⊎ (IsTarget limits path × WasGiven) ⊎ (IsLock limits path × WasMade)
      → IsBelow limits.drafts path
  either_in path (inl is) = draft_below limits.drafts path is.0
  either_in path (inr (inl is)) = target_in path is.0
  either_in path (inr (inr is)) = lock_in path is.0

  change_below : (event : DiskEvent) (before : List DiskEvent) → IsChange limits event before
      → IsChangeBelow limits.drafts event
  change_below (Made path answer) before is = made_in path is.change
  change_below (Created path calls) before is = tt
  change_below (Removed path answer) before is = either_in path is.change
  change_below (Linked file from to answer) before is =
      (draft_below limits.drafts from is.change.0, target_in to is.change.1)
  change_below (Renamed file from to answer) before is =
      (draft_below limits.drafts from is.change.0, target_in to is.change.1)
  change_below (Looked path answer) before is = tt
  change_below (Followed path answer) before is = tt
  change_below (Resolved path answer) before is = tt
  change_below (Opened path answer) before is = tt
  change_below (Tried path answer) before is = tt
  change_below (Locked path answer) before is = tt
  change_below (Folder_opened path answer) before is = tt
  change_below (Folder_synced path answer) before is = tt
  change_below (Examined answer) before is = tt
  change_below (Given bytes) before is = tt
  change_below (Not_given error) before is = tt
  change_below (Sought to answer) before is = tt
  change_below (Written bytes) before is = tt
  change_below (Not_written error) before is = tt
  change_below (Synced answer) before is = tt
  change_below (Mode_set mode answer) before is = tt

  changes_below : (events : List DiskEvent) → AreChanges limits events → All (IsChangeBelow limits.drafts) events
  changes_below [] are = All-nil (IsChangeBelow limits.drafts)
  changes_below (event ∷ events) are =
      All-cons (IsChangeBelow limits.drafts) event events (change_below event events are.0)
      (changes_below events are.1)

-- ---- what a run keeps

-- calls that changed nothing gave no file a name
none_placed : (events : List DiskEvent) → changes events ≡ [] → placed events ≡ []
none_placed [] none = refl
none_placed (Made path answer ∷ events) none = absurd (let f : Made path answer ∷ changes events ≡ [] = none in cc)
none_placed (Locked path answer ∷ events) none = absurd (let f : Locked path answer ∷ changes events ≡ [] = none in cc)
none_placed (Linked file from to answer ∷ events) none =
    absurd (let f : Linked file from to answer ∷ changes events ≡ [] = none in cc)
none_placed (Renamed file from to answer ∷ events) none =
    absurd (let f : Renamed file from to answer ∷ changes events ≡ [] = none in cc)
none_placed (Removed path answer ∷ events) none = absurd (let f : Removed path answer ∷ changes events ≡ [] = none in cc)
none_placed (Folder_opened path answer ∷ events) none =
    absurd (let f : Folder_opened path answer ∷ changes events ≡ [] = none in cc)
none_placed (Folder_synced path answer ∷ events) none =
    absurd (let f : Folder_synced path answer ∷ changes events ≡ [] = none in cc)
none_placed (Looked path answer ∷ events) none = none_placed events none
none_placed (Followed path answer ∷ events) none = none_placed events none
none_placed (Resolved path answer ∷ events) none = none_placed events none
none_placed (Opened path answer ∷ events) none = none_placed events none
none_placed (Tried path answer ∷ events) none = none_placed events none
none_placed (Created path calls ∷ events) none = none_placed events none
none_placed (Examined answer ∷ events) none = none_placed events none
none_placed (Given bytes ∷ events) none = none_placed events none
none_placed (Not_given error ∷ events) none = none_placed events none
none_placed (Sought to answer ∷ events) none = none_placed events none
none_placed (Written bytes ∷ events) none = none_placed events none
none_placed (Not_written error ∷ events) none = none_placed events none
none_placed (Synced answer ∷ events) none = none_placed events none
none_placed (Mode_set mode answer ∷ events) none = none_placed events none

drafts_inside : (root drafts : List ℕ) (uploads : Option (List ℕ)) → drafts ≡ drafts_in root uploads
    → IsInside root drafts
drafts_inside root drafts None is = inl is
drafts_inside root drafts (Some folder) is = inr (folder, is)

module _ {D G H W F E : Type 0} (log : D → List DiskEvent) (meaning : StoreMeaning (FolderStore D G H W) (FolderDraft E))
    (sources : SourceMeaning F) where
  pub stays_within : KeepsWithin log meaning → RunStaysWithin log meaning sources
  stays_within keeps config first last runs =
      let limits = limits_of first.server.store in
      run_keeps (IsWithin log limits) (IsOwnDraft limits) meaning sources (keeps limits) first last runs.run
      (record {
        store = record {
          has = refl;
          changed = subst (AreChanges limits) (sym runs.is_server.unchanged) tt;
          drafts = drafts_inside limits.root limits.drafts limits.uploads runs.is_server.drafts;
          inside = runs.is_server.inside tt;
          reached =
              subst (AreReached limits.root) (sym (none_placed (log first.server.store.disk) runs.is_server.unchanged)) tt;
        };
        drafts =
            none_held (λ transfer. IfSome (draft_of transfer.files) (IsOwnDraft limits)) first.server.held
            runs.is_server.empty;
      })
    where
      none_held : (P : TransferState F (FolderDraft E) → Type 0) (held : List (ℕ × TransferState F (FolderDraft E)))
          → held ≡ [] → All P (values_of held)
      none_held P held none =
          subst (λ (h : List (ℕ × TransferState F (FolderDraft E))). All P (values_of h))
          (sym none) (All-nil P)

  pub read_only_changes_nothing : RunStaysWithin log meaning sources → ReadOnlyChangesNothing
      → ReadOnlyRunChangesNothing log meaning sources
  read_only_changes_nothing stays nothing words config first last named asks runs =
      let refuses : first.server.store.is_read_only ≡ true =
      runs.is_server.read_only
      ∙ (named.named.read_only ∙ ap (λ (text : Option (List ℕ)). is_on text) asks) in
      nothing (limits_of first.server.store) (log last.server.store.disk) refuses
      (stays config first last runs).store.changed

  -- the folder of uploads that the words name
  uploads_of : (uploads named : Option (List ℕ)) (folder path : List ℕ) → Some folder ≡ named
      → IsUploads named uploads → path_of_folder folder ≡ Ok path → uploads ≡ Some path
  uploads_of uploads None folder path is takes names = absurd (let bad : Some folder ≡ None = is in cc)
  uploads_of uploads (Some other) folder path is takes names =
      let same : other ≡ folder = cc in
      let path_is : Ok takes.0 ≡ path_of_folder folder =
      subst (λ (n : List ℕ). Ok takes.0 ≡ path_of_folder n) same (sym takes.1) in
      cc

  pub uploads_change_below : RunStaysWithin log meaning sources → UploadsRunChangesBelow log meaning sources
  uploads_change_below stays words config folder path first last named asks names runs =
      let store = first.server.store in
      let uploads : store.uploads ≡ Some path =
      uploads_of store.uploads _ folder path (sym asks ∙ named.named.uploads) runs.is_server.uploads names in
      let drafts : string_bytes store.folder.drafts ≡ path_below (string_bytes store.folder.root) path =
      runs.is_server.drafts
      ∙ ap (λ (u : Option (List ℕ)). drafts_in (string_bytes store.folder.root) u) uploads in
      subst (λ (f : List ℕ). All (IsChangeBelow f) (changes_of log last.server.store)) drafts
      (changes_below (limits_of store) path uploads drafts (changes_of log last.server.store)
      (stays config first last runs).store.changed)
