-- The calls of a store stay within its limits.
use Rattle.std.proofs.Common.{◌≡◌, ◌∙◌, ℕ, Bool, true, false, List, [], ◌∷◌, Option, Some, None, Result, Ok, Err, IfOk, refl, sym, ap, subst, inl, inr}
use Rattle.std.proofs.Common.{rules}
use Rattle.std.specs.String.{string_bytes}
use Rattle.tftp_disk.specs.Changes.{changes}
use Rattle.tftp_disk.specs.DiskTrace.{DiskEvent, Done, FileState, folder_at, state_of}
use Rattle.tftp_disk.specs.DiskTrace.DiskEvent.{Looked, Followed, Resolved, Opened, Tried, Created, Made, Locked, Linked, Renamed, Removed}
use Rattle.tftp_disk.specs.DiskTrace.DiskEvent.{Folder_opened, Folder_synced, Examined, Given, Not_given, Sought}
use Rattle.tftp_disk.specs.DiskTrace.DiskEvent.{Written, Not_written, Synced, Mode_set}
use Rattle.tftp_disk.specs.DiskWriter.{calls_of}
use Rattle.tftp_disk.specs.NamedFolder.{OpensFolder, SyncsFolder}
use Rattle.tftp_disk.specs.Still.{LeavesPath}
use Rattle.tftp_disk.specs.declared.disk_file.DiskFolder.{DiskFolder}
use Rattle.tftp_folder.specs.Begin.{MakesDraft, TriesDraft}
use Rattle.tftp_folder.specs.Begin.TriesDraft.{Nothing, Locks, Removes, Makes}
use Rattle.tftp_folder.specs.Changing.{limits_of, Admits, AreChanges, BeginStaysWithin, BeginsOwn, CommitStaysWithin, HoldsLock, IsGiven}
use Rattle.tftp_folder.specs.Changing.{IsOwn, IsWithin, KeepsRoot, KeepsWithin, Limits, MayGo, ReadOnlyChangesNothing}
use Rattle.tftp_folder.specs.Changing.MayGo.{Is_linked, Is_locked, Is_synced}
use Rattle.tftp_folder.specs.Commit.{is_linked, lock_of, ClearsDraft, Names, RefusesLocked, RefusesName}
use Rattle.tftp_folder.specs.Draft.{IsDraftBelow, LosesName, NamesNothingIn, SameNames}
use Rattle.tftp_folder.specs.Effects.{changes_of, drafts_of, folder_meaning, HasBegun, HasCommitted}
use Rattle.tftp_folder.specs.Inside.{AreInside, IsInside, StaysInside}
use Rattle.tftp_folder.specs.Reached.{ReachesNames}
use Rattle.tftp_folder.specs.Settings.{AsksNothing, SameSettings}
use Rattle.tftp_folder.specs.declared.folder_draft.FolderDraft.{FolderDraft}
use Rattle.tftp_folder.specs.declared.folder_store.FolderStore.{FolderStore}
use Rattle.tftp_file.specs.declared.fault.StoreFault.{StoreFault}
use Rattle.tftp_folder.proofs.ApartLemmas.{draft_apart, lock_apart}
use Rattle.tftp_folder.proofs.InsideLemmas.{in_folder}
use Rattle.tftp_folder.proofs.MakingLemmas.{draft_in_folder}
use Rattle.tftp_folder.proofs.ReachedLemmas.{still_reached}

along : (limits : Limits) (before after : List DiskEvent) → after ≡ before → AreChanges limits before
    → AreChanges limits after
along limits before after same changes = subst (AreChanges limits) (sym same) changes

tries_within : (limits : Limits) (port : ℕ) (before after : List DiskEvent) → limits.read_only ≡ false
    → TriesDraft limits.drafts port before after → AreChanges limits before → AreChanges limits after
tries_within limits port before _ admitted Nothing changes = changes
tries_within limits port before _ admitted (Locks answer is tries) changes =
    (record { admitted = admitted; change = (port, is) }, tries_within limits port before _ admitted tries changes)
tries_within limits port before _ admitted (Removes removal is tries) changes = (
  record { admitted = admitted; change = inl ((port, is), Is_locked) },
  (record { admitted = admitted; change = (port, is) }, tries_within limits port before _ admitted tries changes),
)
tries_within limits port before _ admitted (Makes answer is tries) changes =
    (record { admitted = admitted; change = inl (port, is) }, tries_within limits port before _ admitted tries changes)

begins_by : (limits : Limits) (port : ℕ) (before after : List DiskEvent) (read_only : Bool)
    → limits.read_only ≡ read_only → (limits.read_only ≡ true → after ≡ before)
    → TriesDraft limits.drafts port before after → AreChanges limits before → AreChanges limits after
begins_by limits port before after read_only is untouched tries changes =
    search (rules, along, tries_within)

pub begin_stays_within : BeginStaysWithin
begin_stays_within limits port before after untouched tries changes = search (rules, begins_by)

-- a draft that was made, was made by such calls
makes_by : (folder : List ℕ) (port : ℕ) (path : List ℕ) (before after : List DiskEvent)
    → MakesDraft folder port path before after → TriesDraft folder port before after
makes_by folder port path before after made =
    subst (TriesDraft folder port before) (sym made.made) (Makes (Ok tt) made.own made.tries)

-- a draft is linked or renamed to its name
links_within : (limits : Limits) (file : FileState) (draft target : List ℕ) (answer : Done) (before : List DiskEvent)
    → IsOwn limits draft target → AreChanges limits before
    → AreChanges limits (Linked file draft target answer ∷ before)
links_within limits file draft target answer before own changes = search rules

renames_within : (limits : Limits) (file : FileState) (draft target : List ℕ) (answer : Done)
    (before : List DiskEvent) → IsOwn limits draft target → AreChanges limits before
    → AreChanges limits (Renamed file draft target answer ∷ before)
renames_within limits file draft target answer before own changes = search rules

-- the lock of a name is made, and is removed once it was made
locks_within : (limits : Limits) (draft target : List ℕ) (answer : Done) (before : List DiskEvent)
    → IsOwn limits draft target → AreChanges limits before → AreChanges limits (Made (lock_of target) answer ∷ before)
locks_within limits draft target answer before own changes = search rules

-- the lock that was just made is there, also once the draft was renamed
holds_new : (path : List ℕ) (before : List DiskEvent) → HoldsLock path (Made path (Ok tt) ∷ before)
holds_new path before = record { since = []; before = before; made = refl; left = tt }

leaves_lock : (limits : Limits) (file : FileState) (draft target : List ℕ) (answer : Done)
    → IsOwn limits draft target → LeavesPath (lock_of target) (Renamed file draft target answer)
leaves_lock limits file draft target (Ok done) own = (
  λ same. draft_apart limits.drafts target own.is_draft.0 draft own.is_draft.1 (sym same),
  lock_apart target,
)
leaves_lock limits file draft target (Err error) own = tt

holds_renamed : (limits : Limits) (file : FileState) (draft target : List ℕ) (answer : Done) (before : List DiskEvent)
    → IsOwn limits draft target
    → HoldsLock (lock_of target) (Renamed file draft target answer ∷ Made (lock_of target) (Ok tt) ∷ before)
holds_renamed limits file draft target answer before own = record {
  since = Renamed file draft target answer ∷ [];
  before = before;
  made = refl;
  left = (leaves_lock limits file draft target answer own, tt);
}

unlocks_within : (limits : Limits) (draft target : List ℕ) (answer : Done) (before : List DiskEvent)
    → IsOwn limits draft target → HoldsLock (lock_of target) before → AreChanges limits before
    → AreChanges limits (Removed (lock_of target) answer ∷ before)
unlocks_within limits draft target answer before own holds changes = search rules

names_within : (limits : Limits) (file : FileState) (draft target : List ℕ) (before : List DiskEvent)
    (replaces : Bool) (after : List DiskEvent) → IsOwn limits draft target
    → Names file draft target before replaces after → AreChanges limits before
    → IsGiven target after × AreChanges limits after
names_within limits file draft target before replaces after own names changes =
    search (rules, along, unlocks_within, holds_renamed, renames_within, locks_within, links_within)

locked_within : (limits : Limits) (file : FileState) (draft target : List ℕ) (before after : List DiskEvent)
    → IsOwn limits draft target → RefusesLocked file draft target before after → AreChanges limits before
    → AreChanges limits after
locked_within limits file draft target before after own locked changes =
    search (rules, along, locks_within, unlocks_within, holds_new, holds_renamed, renames_within)

refuses_within : (limits : Limits) (file : FileState) (draft target : List ℕ) (before : List DiskEvent)
    (replaces : Bool) (after : List DiskEvent) → IsOwn limits draft target
    → RefusesName file draft target before replaces after → AreChanges limits before → AreChanges limits after
refuses_within limits file draft target before true after own (inl same) changes = along _ _ _ same changes
refuses_within limits file draft target before true after own (inr (refusal, refused)) changes =
    along _ _ _ refused (record { admitted = own.admitted; change = (own.is_draft, own.is_target) }, changes)
refuses_within limits file draft target before false after own (refusal, refuses) changes =
    locked_within _ _ _ _ _ _ own refuses (links_within _ file _ _ (Err refusal) _ own changes)

module _ {F : Type 0} where
  pub begins_own : (draft : FolderDraft F) → BeginsOwn draft
  begins_own draft limits port path before after is_path admitted below begun = search rules

  opens_within : (limits : Limits) (path : List ℕ) (folder : Option (DiskFolder F)) (before after : List DiskEvent)
      → limits.read_only ≡ false → OpensFolder path folder before after → AreChanges limits before
      → AreChanges limits after
  opens_within limits path folder before after admitted opens changes = search rules

  syncs_within : (limits : Limits) (folder : Option (DiskFolder F)) (before after : List DiskEvent)
      → limits.read_only ≡ false → SyncsFolder folder before after → AreChanges limits before
      → AreChanges limits after
  syncs_within limits folder before after admitted syncs changes = search rules

  loses_within : (limits : Limits) (draft : FolderDraft F) (folder : Option (DiskFolder F)) (named : List DiskEvent)
      (replaces : Bool) (after : List DiskEvent)
      → IsOwn limits (string_bytes draft.draft) (string_bytes draft.target)
      → LosesName draft folder named replaces after → IsGiven (string_bytes draft.target) named
      → AreChanges limits named → AreChanges limits after
  loses_within limits draft folder named replaces after own loses given changes = search rules

  nothing_in : (limits : Limits) (draft : FolderDraft F) (folder : Option (DiskFolder F)) (before : List DiskEvent)
      (replaces : Bool) (after : List DiskEvent)
      → IsOwn limits (string_bytes draft.draft) (string_bytes draft.target)
      → NamesNothingIn draft folder before replaces after → AreChanges limits before → AreChanges limits after
  nothing_in limits draft folder before replaces after own (inl refuses) changes =
      search (rules, refuses_within)
  nothing_in limits draft folder before replaces after own (inr (named, names, loses)) changes =
      let both =
      names_within limits (state_of (calls_of draft.writer)) (string_bytes draft.draft) (string_bytes draft.target)
      before replaces named own names changes in
      loses_within limits draft folder named replaces after own loses both.0 both.1

  may_go : (draft : List ℕ) (file : FileState) (target : List ℕ) (folder : Option (DiskFolder F))
      (before named synced : List DiskEvent) → named ≡ Linked file draft target (Ok tt) ∷ before
      → SyncsFolder folder named synced → MayGo draft synced
  may_go draft file target (Some folder) before named synced names (answer, done, syncs) =
      subst (MayGo draft) (sym (syncs ∙ ap (λ (n : List DiskEvent). Folder_synced (folder_at folder.trace.events) answer ∷ n) names))
      Is_synced
  may_go draft file target None before named synced names syncs =
      subst (MayGo draft) (sym (syncs ∙ names)) Is_linked

  -- the draft loses its own path, if it was linked just before, or before the folder was synced
  goes_within : (limits : Limits) (file : FileState) (draft target : List ℕ) (folder : Option (DiskFolder F))
      (before named synced after : List DiskEvent) (replaces : Bool) → IsOwn limits draft target
      → Names file draft target before replaces named → SyncsFolder folder named synced
      → ClearsDraft (is_linked named) draft synced after → AreChanges limits synced → AreChanges limits after
  goes_within limits file draft target folder before named synced after true own names syncs clears changes =
      along _ _ _ (rw (names) at clears) changes
  goes_within limits file draft target folder before named synced after false own (inr (refusal, (removal, names)))
      syncs clears changes = search rules
  goes_within limits file draft target folder before named synced after false own (inl names) syncs clears changes =
      let gone = rw (names) at clears in
      along _ _ _ gone.1 (
        record {
          admitted = own.admitted;
          change = inl (own.is_draft, may_go _ _ _ _ _ _ _ names syncs);
        },
        changes,
      )

  pub commit_stays_within : (draft : FolderDraft F) → CommitStaysWithin draft
  commit_stays_within draft limits replaces before after own (inl (
    folder,
    opened,
    opens,
    (
      named,
      synced,
      names,
      syncs,
      clears,
    ),
  )) changes =
      let ready = opens_within _ _ _ _ _ own.admitted opens changes in
      let both = names_within _ _ _ _ _ _ _ own names ready in
      goes_within _ _ _ _ _ _ _ _ _ _ own names syncs clears (syncs_within _ _ _ _ own.admitted syncs both.1)
  commit_stays_within draft limits replaces before after own (inr (inl same)) changes = along _ _ _ same changes
  commit_stays_within draft limits replaces before after own (inr (inr (inl opens))) changes =
      along _ _ _ opens.3 (record { admitted = own.admitted; change = tt }, changes)
  commit_stays_within draft limits replaces before after own (inr (inr (inr (folder, opened, opens, nothing)))) changes
      =
      nothing_in limits draft folder opened replaces after own nothing (opens_within limits (string_bytes draft.target)
      folder before opened own.admitted opens changes)

module _ {D G H K : Type 0} where
  same_limits : (before after : FolderStore D G H K) → SameSettings before after → limits_of after ≡ limits_of before
  same_limits before after same = search rules

module _ {D G H K : Type 0} (log : D → List DiskEvent) where
  asks_within : (limits : Limits) (before after : FolderStore D G H K) → IsWithin log limits before
      → AsksNothing log before after → IsWithin log limits after
  asks_within limits before after within asks = search rules

module _ {D G H K F : Type 0} (log : D → List DiskEvent) where
  pub keeps_root : KeepsRoot log (folder_meaning {D = D} {G = G} {H = H} {K = K} {F = F} log)
  keeps_root path root first = search rules

module _ {F : Type 0} where
  own_stays : (limits : Limits) (draft draft' : FolderDraft F) → SameNames draft draft'
      → IsOwn limits (string_bytes draft.draft) (string_bytes draft.target)
      → IsOwn limits (string_bytes draft'.draft) (string_bytes draft'.target)
  own_stays limits draft draft' names own = search rules

  -- the store's drafts and their places are below the root, if its folder of drafts is inside it
  own_below : (limits : Limits) (draft : FolderDraft F) → IsInside limits.root limits.drafts
      → IsOwn limits (string_bytes draft.draft) (string_bytes draft.target) → IsDraftBelow limits.root draft
  own_below limits draft inside own = search (rules, in_folder, draft_in_folder)

  abbrev IsOwnDraft : Limits → FolderDraft F → Type 0
  IsOwnDraft limits draft = IsOwn limits (string_bytes draft.draft) (string_bytes draft.target)

module _ {D G H K F : Type 0} (log : D → List DiskEvent) where
  -- a store that began a draft does not refuse writes
  pub writes_admitted : (path : List ℕ) (before after : FolderStore D G H K) (draft : FolderDraft F)
      → HasBegun log path before after (Ok draft) → before.is_read_only ≡ false
  writes_admitted path before after draft begun = search rules

  begun_within : (path : List ℕ) (before after : FolderStore D G H K) (result : Result (FolderDraft F) StoreFault)
      → IsWithin log (limits_of before) before → HasBegun log path before after result
      → IsWithin log (limits_of before) after × IfOk result (IsOwnDraft (limits_of before))
  begun_within path before after (Ok draft) within begun = (
    search (
      same_limits before after begun.settings,
      begin_stays_within (limits_of before) before.port (changes_of log
          before) (changes_of log after) begun.untouched (makes_by (drafts_of before) before.port (string_bytes
          draft.draft) (changes_of log before) (changes_of log after) begun.made.made) within.changed,
      begun.inside
          within.drafts within.inside,
      still_reached (string_bytes before.folder.root) (log before.disk) (log
          after.disk) begun.reaches within.reached,
    ),
    begins_own draft (limits_of before) before.port path (changes_of log before) (changes_of log after) begun.is_path
        (writes_admitted path before after draft begun) begun.uploads begun.made,
  )
  begun_within path before after (Err fault) within begun = (
    search (
      same_limits before after begun.settings,
      begin_stays_within (limits_of before) before.port (changes_of log
          before) (changes_of log after) begun.untouched begun.not_made within.changed,
      begun.inside within.drafts
          within.inside,
      still_reached (string_bytes before.folder.root) (log before.disk) (log after.disk)
          begun.reaches within.reached,
    ),
    tt,
  )

  committed_within : (limits : Limits) (before after : FolderStore D G H K) (draft draft' : FolderDraft F)
      (replaces : Bool) (fault : Option StoreFault) → IsOwnDraft limits draft'
      → HasCommitted log before draft replaces after draft' fault → AreChanges limits (changes_of log before)
      → AreChanges limits (changes_of log after)
  committed_within limits before after draft draft' replaces None own does changed =
      commit_stays_within draft' limits replaces (changes_of log before) (changes_of log after) own (inl does.named) changed
  committed_within limits before after draft draft' replaces (Some fault) own does changed =
      commit_stays_within draft' limits replaces (changes_of log before) (changes_of log after) own (inr does.not_named) changed

  commits_inside : (limits : Limits) (before after : FolderStore D G H K) (draft draft' : FolderDraft F)
      (replaces : Bool) (fault : Option StoreFault) → IsWithin log limits before → IsOwnDraft limits draft
      → HasCommitted log before draft replaces after draft' fault → AreInside limits.root (log after.disk)
  commits_inside limits before after draft draft' replaces fault within own does =
      let same : string_bytes before.folder.root ≡ limits.root = ap (λ (l : Limits). l.root) within.has in
      subst (λ (r : List ℕ). IsDraftBelow r draft → StaysInside r (log before.disk) (log after.disk)) same
      does.inside (own_below limits draft within.drafts own) within.inside

  pub keeps_within : KeepsWithin log (folder_meaning {D = D} {G = G} {H = H} {K = K} {F = F} log)
  keeps_within limits = record {
    begun = search (rules, begun_within);
    appended = search rules;
    committed = λ path replace before after draft draft' fault within own does.
        let own' = own_stays limits draft draft' does.names own in (
          search (
            same_limits before after does.settings ∙ within.has,
            committed_within limits before after draft
                draft' replace fault own' does within.changed,
            commits_inside limits before after draft draft' replace
                fault within own does,
            still_reached limits.root (log before.disk) (log after.disk) (subst (λ (r :
                List ℕ). ReachesNames r (log before.disk) (log after.disk)) (ap (λ (l : Limits). l.root)
                within.has) does.reaches) within.reached,
          ),
          own',
        );
    behind = λ before after within asks. asks_within log limits before after within asks;
    drafts_behind = λ draft draft' own writes. own_stays limits draft draft' writes.names own;
  }

refuses : (limits : Limits) (Change : Type 0) (kept : List DiskEvent) → limits.read_only ≡ true
    → Admits limits Change → kept ≡ []
refuses limits Change kept only admits = absurd (let differ : true ≡ false = sym only ∙ admits.admitted in cc)

pub read_only_changes_nothing : ReadOnlyChangesNothing
read_only_changes_nothing limits [] only changed = refl
read_only_changes_nothing limits (Made path answer ∷ calls) only changed = refuses limits _ _ only changed.0
read_only_changes_nothing limits (Locked path answer ∷ calls) only changed = refuses limits _ _ only changed.0
read_only_changes_nothing limits (Linked file from to answer ∷ calls) only changed = refuses limits _ _ only changed.0
read_only_changes_nothing limits (Renamed file from to answer ∷ calls) only changed = refuses limits _ _ only changed.0
read_only_changes_nothing limits (Removed path answer ∷ calls) only changed = refuses limits _ _ only changed.0
read_only_changes_nothing limits (Folder_opened path answer ∷ calls) only changed = refuses limits _ _ only changed.0
read_only_changes_nothing limits (Folder_synced path answer ∷ calls) only changed = refuses limits _ _ only changed.0
read_only_changes_nothing limits (Looked path answer ∷ calls) only changed = read_only_changes_nothing limits calls only changed
read_only_changes_nothing limits (Followed path answer ∷ calls) only changed = read_only_changes_nothing limits calls only changed
read_only_changes_nothing limits (Resolved path answer ∷ calls) only changed = read_only_changes_nothing limits calls only changed
read_only_changes_nothing limits (Opened path answer ∷ calls) only changed = read_only_changes_nothing limits calls only changed
read_only_changes_nothing limits (Tried path answer ∷ calls) only changed = read_only_changes_nothing limits calls only changed
read_only_changes_nothing limits (Created path length ∷ calls) only changed = read_only_changes_nothing limits calls only changed
read_only_changes_nothing limits (Examined answer ∷ calls) only changed = read_only_changes_nothing limits calls only changed
read_only_changes_nothing limits (Given bytes ∷ calls) only changed = read_only_changes_nothing limits calls only changed
read_only_changes_nothing limits (Not_given error ∷ calls) only changed = read_only_changes_nothing limits calls only changed
read_only_changes_nothing limits (Sought to answer ∷ calls) only changed = read_only_changes_nothing limits calls only changed
read_only_changes_nothing limits (Written bytes ∷ calls) only changed = read_only_changes_nothing limits calls only changed
read_only_changes_nothing limits (Not_written error ∷ calls) only changed = read_only_changes_nothing limits calls only changed
read_only_changes_nothing limits (Synced answer ∷ calls) only changed = read_only_changes_nothing limits calls only changed
read_only_changes_nothing limits (Mode_set mode answer ∷ calls) only changed = read_only_changes_nothing limits calls only changed
