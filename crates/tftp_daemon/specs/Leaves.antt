-- What a run leaves of its store, by what the calls of the store leave of it (ours).
use Rattle.std.specs.Prelude.{ℕ, ◌≡◌, true, List, All, Some, None, IfSome}
use Rattle.std.specs.Map.{values_of}
use Rattle.tftp_file.specs.Source.{SourceMeaning}
use Rattle.tftp_server.specs.State.{ServerState, TransferState, draft_of}
use Rattle.tftp_store.specs.Store.{StoreMeaning}
use Rattle.tftp_loop.specs.Run.{Run}
use Rattle.tftp_loop.specs.Steps.{LoopStep, LoopState}
use Rattle.tftp_folder.specs.Settings.{SameSettings}
use Rattle.tftp_folder.specs.Uploads.{IsBelow}
use Rattle.tftp_folder.specs.declared.folder_store.FolderStore.{FolderStore}

-- the store of a server has this, and each draft of its transfers that
pub record HasOfServer {S F D : Type 0} (OfStore : S → Type 0) (OfDraft : D → Type 0)
    (server : ServerState S F D) : Type 0 where
  pub store : OfStore server.store
  pub drafts : All (λ (transfer : TransferState F D). IfSome (draft_of transfer.files) OfDraft)
      (values_of server.held)

module _ {S F D : Type 0} (OfStore : S → Type 0) (OfDraft : D → Type 0) (meaning : StoreMeaning S D)
    (sources : SourceMeaning F) where
  -- a run keeps this of the store and of each draft of the transfers
  abbrev pub RunKeeps : Type 0
  RunKeeps =
      (old new : LoopState S F D) → Run (LoopStep meaning sources) old new
      → HasOfServer OfStore OfDraft old.server → HasOfServer OfStore OfDraft new.server

module _ {S F D : Type 0} (Same : S → S → Type 0) (meaning : StoreMeaning S D)
    (sources : SourceMeaning F) where
  -- a run leaves the store so
  abbrev pub RunLeaves : Type 0
  RunLeaves =
      (old new : LoopState S F D) → Run (LoopStep meaning sources) old new
      → Same old.server.store new.server.store

-- a run leaves the settings of its store
abbrev pub RunKeepsSettings : {B G H W F D : Type 0} → StoreMeaning (FolderStore B G H W) D
    → SourceMeaning F → Type 0
RunKeepsSettings meaning sources = RunLeaves SameSettings meaning sources

-- none of the held transfers stores
abbrev pub NoneStores : {F D : Type 0} → List (ℕ × TransferState F D) → Type 0
NoneStores {F} {D} held =
    All (λ (transfer : TransferState F D). draft_of transfer.files ≡ None) (values_of held)

-- the held transfers store only under such paths
abbrev pub StoresOnly : {F D : Type 0} → (List ℕ → Type 0) → List (ℕ × TransferState F D) → Type 0
StoresOnly {F} {D} May held =
    All (λ (transfer : TransferState F D). IfSome (draft_of transfer.files) (λ _.
    May transfer.path)) (values_of held)

module _ {S F D : Type 0} (Admits : S → Type 0) (meaning : StoreMeaning S D)
    (sources : SourceMeaning F) where
  -- what a run keeps of its transfers, over a store that is so at its beginning
  abbrev pub RunKeepsHeld : (List (ℕ × TransferState F D) → Type 0) → Type 0
  RunKeepsHeld Holds =
      (old new : LoopState S F D) → Run (LoopStep meaning sources) old new
      → Admits old.server.store → Holds old.server.held → Holds new.server.held

-- a run over a store that refuses writes never has a transfer that stores, if it began with none
abbrev pub ReadOnlyRunStoresNothing : {B G H W F D : Type 0} → StoreMeaning (FolderStore B G H W) D
    → SourceMeaning F → Type 0
ReadOnlyRunStoresNothing meaning sources =
    RunKeepsHeld (λ store. store.is_read_only ≡ true) meaning sources NoneStores

-- a run over a store that takes writes below a folder alone never has a transfer that stores
-- elsewhere, if it began with none
abbrev pub UploadsStayInTheirFolder : {B G H W F D : Type 0} → StoreMeaning (FolderStore B G H W) D
    → SourceMeaning F → Type 0
UploadsStayInTheirFolder meaning sources =
    (folder : List ℕ) → RunKeepsHeld (λ store. store.uploads ≡ Some folder) meaning sources
    (StoresOnly (IsBelow folder))
