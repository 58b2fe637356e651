-- The file work of a transfer while its peer is busy.
use Rattle.std.specs.Prelude.{ℕ, ◌≡◌, Option, Some, None}
use Rattle.tftp_file.specs.Source.{SourceMeaning, ReadsAhead}
use Rattle.tftp_file.specs.declared.files.Files.{Files}
use Rattle.tftp_file.specs.declared.files.Files.TheVariants.{Source, Sink}
use Rattle.tftp_store.specs.Store.{StoreMeaning, WritesBehind}
use Rattle.tftp_server.specs.State.{TransferState, ServerState, with_next}

module _ {S F D : Type 0} (meaning : StoreMeaning S D) (sources : SourceMeaning F) where
  -- a source reads ahead, and the store is unchanged; or a draft is written back
  abbrev pub FilesWork : S → S → Files F D → Files F D → Type 0
  FilesWork store store' (Source source) (Source source') =
      (store' ≡ store) × ReadsAhead sources source source'
  FilesWork store store' (Sink draft) (Sink draft') =
      WritesBehind meaning store store' draft draft'
  FilesWork store store' files files' = ⊥

  -- the file of a transfer works, and nothing else of the transfer changes
  pub record Works (store store' : S) (transfer next : TransferState F D) : Type 0 where
    pub files : FilesWork store store' transfer.files next.files
    pub rest : next ≡ record transfer { files = next.files }

  -- the file of the transfer at the identifier works, if one is held; every other transfer is
  -- unchanged
  abbrev pub WorksAt : ℕ → Option (TransferState F D) → ServerState S F D → ServerState S F D
      → Type 0
  WorksAt tid None old new = new ≡ old
  WorksAt tid (Some transfer) old new =
      (next : TransferState F D) × Works old.store new.store transfer next
      × (new.held ≡ with_next tid next old.held)
