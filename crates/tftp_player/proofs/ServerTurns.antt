-- A turn of a transfer, in the words of the world's ends, and the server's files after one was added. For DraftLemmas
-- and ServedLemmas.
use Rattle.tftp_player.proofs.Common.{◌≡◌, ℕ, Bool, true, false, List, Option, Some, None, refl, ◌&&◌, not, is_some}
use Rattle.tftp_player.proofs.Common.{true≢false, FileList, file_at, in_the_way, with_file, is_taken, IsStored, rules}
use Rattle.tftp_player.proofs.Common.{memory_source, Holding, Files, Source, Sink, EndState, Turn, files_in}
use Rattle.tftp_player.proofs.Common.{drafting_sink, memory_meaning, StepIn, Stored, Drafted, Endpoint, EndStep}
use Rattle.tftp_player.proofs.Common.{may_refuse_commit, world_sink, SourcesModel, SinksModel, step_as}
use Rattle.tftp_rules.proofs.Entries.{lookup-insert_other, lookup-insert_same, texts}
use Rattle.tftp_server.specs.Draft.{Drafting}

-- no file is in the way of a free path, and one is in the way of a taken one
free_by : (replace : Bool) (o : Option (List ℕ)) → (not replace && is_some o) ≡ false → in_the_way replace o ≡ None
free_by true o e = refl
free_by false None e = refl
free_by false (Some file) e = absurd (true≢false e)

-- a path that is not taken has no file in the way
pub not_taken : (replace : Bool) (path : List ℕ) (files : FileList) → is_taken replace path files ≡ false →
    in_the_way replace (file_at files path) ≡ None
not_taken replace path files e = free_by replace (file_at files path) e

-- a file that was added is stored, if its path was free
pub stored_so : (replace : Bool) (path bytes : List ℕ) (files : FileList) → is_taken replace path files ≡ false →
    IsStored replace path bytes files (with_file files path bytes)
stored_so replace path bytes files free =
    record {
      free = not_taken replace path files free;
      here = lookup-insert_same texts path bytes files;
      others = λ q n. lookup-insert_other texts path q bytes files n;
    }

-- ---- a datagram, at a transfer of the server: its draft and the store are a sink of the world
-- a draft and the store of its server
abbrev pub Drafts : Type 0
Drafts = Drafting Stored Drafted

-- a draft as the world has it
abbrev pub seen : Drafts → Holding
seen d = record { bytes = d.draft.bytes; committed = d.draft.committed; refuses = d.store.refuses }

-- a draft for this path, if these are the server's files
abbrev IsFor : Bool → List ℕ → FileList → Drafts → Type 0
IsFor replace path files d = (d.path ≡ path) × (d.replace ≡ replace) × (d.store.files ≡ files)

module _ (replace : Bool) (path : List ℕ) (files : FileList) where
  sinks : SinksModel seen (IsFor replace path files) (drafting_sink memory_meaning)
      (world_sink (may_refuse_commit false (in_the_way replace (file_at files path))))
  sinks = search rules

sources : SourcesModel (λ (s : List ℕ). s) memory_source memory_source
sources = search rules

-- the files of a transfer, as its end in the world has them
abbrev pub held_files : Bool → Files (List ℕ) Drafted → Files (List ℕ) Holding
held_files refuses (Source left) = Source left
held_files refuses (Sink draft) = Sink (record { bytes = draft.bytes; committed = draft.committed; refuses = refuses })

-- a step of the transfer is a step of the end
module _ (from : Endpoint) (bytes : List ℕ) (e : EndState) (store store' : Stored) (path path' : List ℕ)
    (replace : Bool) (turn : Turn) where
  -- a step of a server's transfer is one of its end
  pub end_step : (files files' : Files (List ℕ) Drafted) →
      StepIn memory_meaning memory_source from bytes e (files_in store path replace files) turn
      (files_in store' path' replace files') →
      EndStep false (in_the_way replace (file_at store.files path)) from bytes e (held_files store.refuses files) turn
      (held_files store'.refuses files')
  end_step (Source left) (Source left') h =
      step_as _ _ _ _ (λ (s : List ℕ). s) seen (IsFor replace path store.files) sources (sinks replace path store.files)
      from bytes e _ turn _ tt h
  end_step (Sink draft) (Sink draft') h =
      step_as _ _ _ _ (λ (s : List ℕ). s) seen (IsFor replace path store.files) sources (sinks replace path store.files)
      from bytes e _ turn _ (refl, refl, refl) h
  end_step (Source left) (Sink draft') h =
      step_as _ _ _ _ (λ (s : List ℕ). s) seen (IsFor replace path store.files) sources (sinks replace path store.files)
      from bytes e _ turn _ tt h
  end_step (Sink draft) (Source left') h =
      step_as _ _ _ _ (λ (s : List ℕ). s) seen (IsFor replace path store.files) sources (sinks replace path store.files)
      from bytes e _ turn _ (refl, refl, refl) h
