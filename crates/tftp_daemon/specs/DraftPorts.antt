-- Which temporary file each transfer of a server stores in (own).
use Rattle.std.specs.Prelude.{ℕ, ◌≡◌, ◌<◌, ◌^◌, List, [], Some, IfSome}
use Rattle.std.specs.String.{string_bytes}
use Rattle.tftp_file.specs.Source.{SourceMeaning}
use Rattle.tftp_store.specs.Store.{StoreMeaning}
use Rattle.tftp_server.specs.State.{TransferState, at, draft_of}
use Rattle.tftp_loop.specs.Run.{Run}
use Rattle.tftp_loop.specs.Steps.{LoopStep, LoopState}
use Rattle.tftp_folder.specs.Begin.{IsDraftOf}
use Rattle.tftp_folder.specs.declared.folder_draft.FolderDraft.{FolderDraft}
use Rattle.tftp_folder.specs.declared.folder_store.FolderStore.{FolderStore}

module _ {D G H W F E : Type 0} (meaning : StoreMeaning (FolderStore D G H W) (FolderDraft E))
    (sources : SourceMeaning F) where
  -- a run of a server that began without transfers, and in which the transfer at this port is held
  pub record HoldsAt (start now : LoopState (FolderStore D G H W) F (FolderDraft E)) (port : ℕ)
      (transfer : TransferState F (FolderDraft E)) : Type 0 where
    pub empty : start.server.held ≡ []
    pub run : Run (LoopStep meaning sources) start now
    pub found : at port now.server.held ≡ Some transfer

  -- if it stores, then in a file of the folder of drafts whose name has its port
  abbrev pub EachDraftHasItsPort : Type 0
  EachDraftHasItsPort =
      (start now : LoopState (FolderStore D G H W) F (FolderDraft E)) (port : ℕ)
      (transfer : TransferState F (FolderDraft E)) → HoldsAt start now port transfer
      → IfSome (draft_of transfer.files) (λ draft.
      IsDraftOf (string_bytes start.server.store.folder.drafts) port (string_bytes draft.draft))

  -- no two of them store in one file: ports are numbers of 16 bits
  abbrev pub NoTwoShareADraft : Type 0
  NoTwoShareADraft =
      (start now : LoopState (FolderStore D G H W) F (FolderDraft E)) (one other : ℕ)
      (first second : TransferState F (FolderDraft E)) (a b : FolderDraft E)
      → one < 2 ^ 16 → other < 2 ^ 16 → HoldsAt start now one first → HoldsAt start now other second
      → draft_of first.files ≡ Some a → draft_of second.files ≡ Some b
      → string_bytes a.draft ≡ string_bytes b.draft → one ≡ other
