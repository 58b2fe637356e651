-- The effect of each call of a store over a folder on the store and on a draft (ours).
use Rattle.std.specs.Prelude.{ℕ, ◌≡◌, Bool, true, List, ◌++◌, Option, None, IfSome, IfNone}
use Rattle.std.specs.Prelude.{OnSome, Result, Err, IfOk, OnErr}
use Rattle.std.specs.String.{string_bytes}
use Rattle.tftp_file.specs.Path.{IsPath}
use Rattle.tftp_file.specs.declared.fault.StoreFault.{StoreFault}
use Rattle.tftp_file.specs.declared.fault.StoreFault.TheVariants.{Io}
use Rattle.tftp_disk.specs.Changes.{changes}
use Rattle.tftp_disk.specs.DiskFault.{MayNotBegin, MayNotName, MayNotOpen, MayNotStore}
use Rattle.tftp_disk.specs.DiskTrace.{DiskEvent}
use Rattle.tftp_store.specs.Store.{StoreMeaning}
use Rattle.tftp_folder.specs.Begin.{TriesDraft}
use Rattle.tftp_folder.specs.Commit.{LooksThenRenames}
use Rattle.tftp_folder.specs.Draft.{bytes_of, BeginsAt, GivesName, IsDraftBelow, IsThere, IsWhole}
use Rattle.tftp_folder.specs.Draft.{NamesNothing, SameNames}
use Rattle.tftp_folder.specs.Inside.{IsInside, StaysInside}
use Rattle.tftp_folder.specs.Opened.{follows}
use Rattle.tftp_folder.specs.Placed.{LeavesOthers, StaysThere}
use Rattle.tftp_folder.specs.Reached.{ReachesNames}
use Rattle.tftp_folder.specs.Settings.{AsksNothing, SameSettings}
use Rattle.tftp_folder.specs.Uploads.{IsBelow, path_below}
use Rattle.tftp_folder.specs.declared.folder_draft.FolderDraft.{FolderDraft}
use Rattle.tftp_folder.specs.declared.folder_store.FolderStore.{FolderStore}

module _ {D G H K : Type 0} where
  -- the folder of the drafts of a store
  abbrev pub drafts_of : FolderStore D G H K → List ℕ
  drafts_of store = string_bytes store.folder.drafts

module _ {D G H K : Type 0} (log : D → List DiskEvent) where
  -- the calls of a store that change something
  abbrev pub changes_of : FolderStore D G H K → List DiskEvent
  changes_of store = changes (log store.disk)

module _ {F : Type 0} where
  -- a draft was written back: it has its names, and what it was handed
  pub record HasWritten (draft draft' : FolderDraft F) : Type 0 where
    pub names : SameNames draft draft'
    pub handed : bytes_of draft' ≡ bytes_of draft

module _ {D G H K F : Type 0} (log : D → List DiskEvent) where
  -- a draft of the path was begun, or refused: the settings stay, a store that refuses all writes
  -- has refused it, and changed nothing; it was begun only for a path that a client can name, below
  -- the folder of uploads, if there is one. It was made at a path of the port that was set last,
  -- for that place of the root, and is empty; if it was refused, nothing else changed. Its file is
  -- at its path, and what was still at the path of no draft of that port is there. No file got a
  -- name by a link or a rename. No path outside the root was passed to the system, if the folder of
  -- the drafts is inside it
  pub record HasBegun (path : List ℕ) (before after : FolderStore D G H K)
      (result : Result (FolderDraft F) StoreFault) : Type 0 where
    pub settings : SameSettings before after
    pub read_only : before.is_read_only ≡ true → result ≡ Err Io
    pub untouched : before.is_read_only ≡ true → changes_of log after ≡ changes_of log before
    pub is_path : IfOk result (λ draft. IsPath path)
    pub uploads : IfOk result (λ draft. IfSome before.uploads (λ folder. IsBelow folder path))
    pub made : IfOk result (λ draft. BeginsAt (drafts_of before) before.port
        (path_below (string_bytes before.folder.root) path) draft (changes_of log before)
        (changes_of log after))
    pub not_made : OnErr result (TriesDraft (drafts_of before) before.port (changes_of log before)
        (changes_of log after))
    pub there : IfOk result (λ draft. IsThere draft (log after.disk))
    pub others : LeavesOthers (drafts_of before) before.port (log before.disk) (log after.disk)
    pub reaches : ReachesNames (string_bytes before.folder.root) (log before.disk) (log after.disk)
    pub follows : follows (log after.disk) ≡ follows (log before.disk)
    pub inside : IsInside (string_bytes before.folder.root) (string_bytes before.folder.drafts)
        → StaysInside (string_bytes before.folder.root) (log before.disk)
        (log after.disk)

  -- bytes were appended to a draft, or refused: it was handed them after all earlier ones, or none
  -- of them, and has its names; the store asked nothing of the disk on a path
  pub record HasAppended (before : FolderStore D G H K) (draft : FolderDraft F) (bytes : List ℕ)
      (after : FolderStore D G H K) (draft' : FolderDraft F) (fault : Option StoreFault)
      : Type 0 where
    pub store : AsksNothing log before after
    pub names : SameNames draft draft'
    pub handed : IfNone fault (bytes_of draft' ≡ bytes_of draft ++ bytes)
    pub kept : OnSome fault (bytes_of draft' ≡ bytes_of draft)

  -- a draft was committed: by then all that it was handed was in its file and synced, and then it
  -- got its name; or that was refused, and it got none, or lost it. If its file was still at its
  -- path before, it was so when it was to get the name. A rename to the name came just after a look
  -- at what had it, and each call that was to give the name just after looks at the folders on the
  -- way to it: each was a folder, and no link. The settings stay. No path outside the root was passed
  -- to the system, if those of the draft are below it
  pub record HasCommitted (before : FolderStore D G H K) (draft : FolderDraft F) (replaces : Bool)
      (after : FolderStore D G H K) (draft' : FolderDraft F) (fault : Option StoreFault)
      : Type 0 where
    pub settings : SameSettings before after
    pub names : SameNames draft draft'
    pub whole : IfNone fault (IsWhole draft' (bytes_of draft))
    pub named : IfNone fault
        (GivesName draft' (changes_of log before) replaces (changes_of log after))
    pub not_named : OnSome fault
        (NamesNothing draft' (changes_of log before) replaces (changes_of log after))
    pub over : LooksThenRenames replaces (string_bytes draft.target) (log before.disk)
        (log after.disk)
    pub there : IsThere draft (log before.disk) → StaysThere (log before.disk) (log after.disk)
    pub reaches : ReachesNames (string_bytes before.folder.root) (log before.disk) (log after.disk)
    pub follows : follows (log after.disk) ≡ follows (log before.disk)
    pub inside : IsDraftBelow (string_bytes before.folder.root) draft
        → StaysInside (string_bytes before.folder.root) (log before.disk)
        (log after.disk)

  -- the model of a store over a folder: what its calls return, and their effect. Of what its files
  -- have in them it says nothing
  abbrev pub folder_meaning : StoreMeaning (FolderStore D G H K) (FolderDraft F)
  folder_meaning =
      record {
        root = λ store. string_bytes store.folder.root;
        is_set_to = λ store port. store.port ≡ port;
        stored = λ store. None;
        drafted = λ draft. None;
        may_refuse_open = λ store path fault. MayNotOpen fault;
        may_refuse_begin = λ store path replaces fault. MayNotBegin replaces fault;
        must_refuse_open = λ store path fault. ⊥;
        must_fail = λ store path want. ⊥;
        begun = λ path replaces before after result. HasBegun path before after result;
        after_append = HasAppended;
        after_commit = λ before path draft replaces after draft' fault.
            HasCommitted before draft replaces after draft' fault;
        after_write_behind = AsksNothing log;
        writes_behind = HasWritten;
        may_refuse_append = λ store draft bytes fault. MayNotStore fault;
        may_refuse_commit = λ store path draft replaces fault. MayNotName replaces fault;
      }
