-- A run over a store that begins drafts of some paths alone, or none, has no transfer that stores
-- elsewhere.
use Rattle.std.proofs.Common.{◌≡◌, ℕ, Bool, List, Option, Some, None, refl, sym, ap, subst, inl, inr}
use Rattle.std.specs.Prelude.{◌⊎◌, Result, Ok, Err, IfSome, All, ⊤}
use Rattle.std.specs.Map.{values_of}
use Rattle.std.proofs.lemmas.List.Elements.{All-weaker}
use Rattle.tftp_wire.specs.declared.mode.Mode.{Mode}
use Rattle.tftp_negotiate.specs.declared.known.Known.{Known}
use Rattle.tftp_file.specs.Source.{SourceMeaning}
use Rattle.tftp_file.specs.declared.fault.StoreFault.{StoreFault}
use Rattle.tftp_file.specs.declared.files.Files.{Files}
use Rattle.tftp_file.specs.declared.files.Files.TheVariants.{Source, Sink}
use Rattle.tftp_ends.specs.declared.endpoint.Endpoint.{Endpoint}
use Rattle.tftp_ends.specs.Files.{AreSame, KeepsFiles}
use Rattle.tftp_store.specs.Store.{StoreMeaning}
use Rattle.tftp_store.specs.declared.store.Opening.{Opening}
use Rattle.tftp_server.specs.Draft.{drafting_sink, files_in}
use Rattle.tftp_server.specs.Port.{Ask, Ignores, Refuses, Reads, Writes, Service, Silent, Refused, Sends, Takes}
use Rattle.tftp_server.specs.Port.{by_draft}
use Rattle.tftp_server.specs.Request.{Came, Goes, Left, Sent, Taken, left_by}
use Rattle.tftp_server.specs.State.{TransferState, ServerState, at, draft_of}
use Rattle.tftp_server.specs.Steps.{KeepsHeld, with_end}
use Rattle.tftp_server.specs.Work.{FilesWork, WorksAt}
use Rattle.tftp_loop.specs.Run.{Start, Then}
use Rattle.tftp_loop.specs.Steps.{PortStep, LoopStep, LoopState, PortState}
use Rattle.tftp_loop.specs.Steps.PortStep.{A_datagram, A_lost_datagram, A_timeout, Work}
use Rattle.tftp_loop.specs.Steps.LoopStep.{At_port, Request_answered, Transfer_closed}
use Rattle.tftp_daemon.specs.Leaves.{NoneStores, RunKeepsHeld, RunLeaves, StoresOnly}
use Rattle.tftp_loop.proofs.HeldLemmas.{held_at, held_new, held_next, held_without}
use Rattle.tftp_loop.proofs.NewStates.{state_is, server_is}

module _ {F D : Type 0} where
  -- ---- of the files of one transfer
  same_so : (files files' : Files F D) → AreSame (λ (a b : F). ⊤) (λ (a b : D). ⊤) files files'
      → draft_of files ≡ None → draft_of files' ≡ None
  same_so (Source a) (Source b) same reads = refl
  same_so (Source a) (Sink b) same reads = absurd same
  same_so (Sink a) files' same reads = absurd (let bad : Some a ≡ None = reads in cc)

  kept_so : {S : Type 0} (meaning : StoreMeaning S D) (sources : SourceMeaning F) (store store' : S)
      (path path' : List ℕ) (replace : Bool) (files files' : Files F D)
      → KeepsFiles sources (drafting_sink meaning) (files_in store path replace files)
      (files_in store' path' replace files') → draft_of files ≡ None → draft_of files' ≡ None
  kept_so meaning sources store store' path path' replace (Source a) (Source b) kept reads = refl
  kept_so meaning sources store store' path path' replace (Source a) (Sink b) kept reads = absurd kept
  kept_so meaning sources store store' path path' replace (Sink a) files' kept reads =
      absurd (let bad : Some a ≡ None = reads in cc)

  work_so : {S : Type 0} (meaning : StoreMeaning S D) (sources : SourceMeaning F) (store store' : S)
      (files files' : Files F D) → FilesWork meaning sources store store' files files'
      → draft_of files ≡ None → draft_of files' ≡ None
  work_so meaning sources store store' (Source a) (Source b) works reads = refl
  work_so meaning sources store store' (Source a) (Sink b) works reads = absurd works
  work_so meaning sources store store' (Sink a) files' works reads = absurd (let bad : Some a ≡ None = reads in cc)

  -- ---- that store only under such paths
  module _ (May : List ℕ → Type 0) where
    -- a transfer that stores nothing, or under such a path
    abbrev IsFine : TransferState F D → Type 0
    IsFine transfer = (draft_of transfer.files ≡ None) ⊎ May transfer.path

    abbrev AreFine : List (ℕ × TransferState F D) → Type 0
    AreFine held = All IsFine (values_of held)

    -- the next one, which stores only if this one does, and has its path
    still_fine : (transfer next : TransferState F D)
        → (draft_of transfer.files ≡ None → draft_of next.files ≡ None) → next.path ≡ transfer.path
        → IsFine transfer → IsFine next
    still_fine transfer next reads path (inl none) = inl (reads none)
    still_fine transfer next reads path (inr may) = inr (subst May (sym path) may)

module _ {S F D : Type 0} (Admits : S → Type 0) (May : List ℕ → Type 0) (meaning : StoreMeaning S D)
    (sources : SourceMeaning F)
    (begins : (path : List ℕ) (replace : Bool) (a b : S) (draft : D) → Admits a
    → meaning.begun path replace a b (Ok draft) → May path) where
  abbrev FineIn : ServerState S F D → Type 0
  FineIn server = AreFine May server.held

  same_fine : (old new : ServerState S F D) → new ≡ old → FineIn old → FineIn new
  same_fine old new is fine = subst FineIn (sym is) fine

  -- ---- at the port of a transfer
  held_fine : (tid : ℕ) (transfer : Option (TransferState F D)) (old new : ServerState S F D)
      → at tid old.held ≡ transfer → KeepsHeld meaning sources tid transfer old new → FineIn old → FineIn new
  held_fine tid None old new found kept fine = same_fine old new kept fine
  held_fine tid (Some transfer) old new found kept fine =
      held_next (IsFine May) tid old.held new.held kept.0 fine
      (still_fine May transfer kept.0
      (kept_so meaning sources old.store new.store transfer.path kept.0.path old.config.overwrite transfer.files
      kept.0.files kept.1.files)
      kept.1.path (held_at (IsFine May) tid old.held fine found))
      kept.2

  works_fine : (tid : ℕ) (transfer : Option (TransferState F D)) (old new : ServerState S F D)
      → at tid old.held ≡ transfer → WorksAt meaning sources tid transfer old new → FineIn old → FineIn new
  works_fine tid None old new found works fine = same_fine old new works fine
  works_fine tid (Some transfer) old new found works fine =
      held_next (IsFine May) tid old.held new.held works.0 fine
      (still_fine May transfer works.0 (work_so meaning sources old.store new.store transfer.files works.0.files works.1.files)
      (ap (λ (t : TransferState F D). t.path) works.1.rest) (held_at (IsFine May) tid old.held fine found))
      works.2

  port_fine : (now : ℕ) (old new : PortState S F D) → PortStep meaning sources now old new → FineIn old.server
      → FineIn new.server
  port_fine now old new (A_datagram d) fine =
      let t = d.handles.takes in
      held_next (IsFine May) old.timer.port old.server.held new.server.held t.next fine
      (still_fine May t.transfer t.next (same_so t.transfer.files t.next.files t.takes.kind) t.takes.path
      (held_at (IsFine May) old.timer.port old.server.held fine t.found))
      t.held
  port_fine now old new (A_lost_datagram d) fine =
      held_fine old.timer.port _ old.server new.server refl d.loses.keeps fine
  port_fine now old new (A_timeout d) fine =
      let t = d.times_out.times_out in
      held_next (IsFine May) old.timer.port old.server.held new.server.held (with_end t.end t.transfer) fine
      (held_at (IsFine May) old.timer.port old.server.held fine t.found)
      t.held
  port_fine now old new (Work d) fine = works_fine old.timer.port _ old.server new.server refl d.works.works fine
  port_fine now old new does fine = same_fine old.server new.server (server_is does) fine

  -- ---- at the request port
  module _ (old : ServerState S F D) (from : Endpoint) (bytes : List ℕ) (tid : ℕ) (fine : FineIn old)
      (admits : Admits old.store) where
    abbrev Left_fine : Came S F D → Type 0
    Left_fine came = FineIn (left_by came old from tid).new

    sent_fine : (service : Service) (file : Result (Opening F) StoreFault) (came : Came S F D)
        → Sent meaning sources old from bytes service file came → Left_fine came
    sent_fine Silent file came h = absurd h
    sent_fine (Refused reply) file came h = subst Left_fine (sym h) fine
    sent_fine (Sends path mode length agreed) (Err fault) came h = absurd h
    sent_fine (Sends path mode length agreed) (Ok file) came (inl s) =
        subst Left_fine (sym s.opens) (held_new (IsFine May) tid old.held _ fine (inl refl))
    sent_fine (Sends path mode length agreed) (Ok file) came (inr x) = subst Left_fine (sym x.2) fine
    sent_fine (Takes path mode agreed) file came h = absurd h

    taken_fine : (path : List ℕ) (mode : Mode) (agreed : List Known) (replace : Bool) (draft : Result D StoreFault)
        (store : S) (came : Came S F D) → meaning.begun path replace old.store store draft
        → Taken meaning sources old from bytes (by_draft path mode agreed draft) draft store came
        → Left_fine came
    taken_fine path mode agreed replace (Err fault) store came begun h = subst Left_fine (sym h) fine
    taken_fine path mode agreed replace (Ok draft) store came begun h =
        subst Left_fine (sym h)
        (held_new (IsFine May) tid old.held _ fine (inr (begins path replace old.store store draft admits begun)))

    goes_fine : (ask : Ask) (came : Came S F D) → Goes meaning sources old from bytes ask came → Left_fine came
    goes_fine Ignores came h = subst Left_fine (sym h) fine
    goes_fine (Refuses reply) came h = subst Left_fine (sym h) fine
    goes_fine (Reads path mode options) came h = sent_fine _ h.file came h.goes_on
    goes_fine (Writes path mode agreed) came h = taken_fine path mode agreed _ h.draft h.store came h.begun h.goes_on

  -- ---- in a run
  abbrev held_in : LoopState S F D → List (ℕ × TransferState F D)
  held_in s = s.server.held

  does_fine : (old new : LoopState S F D) → LoopStep meaning sources old new → Admits old.server.store
      → FineIn old.server → FineIn new.server
  does_fine old new (At_port d) admits fine =
      subst (AreFine May) (sym (ap held_in d.is)) (port_fine old.now _ d.next d.does fine)
  does_fine old new (Request_answered d) admits fine =
      let answered = goes_fine old.server d.from d.bytes d.tid fine admits _ d.steps.came d.steps.goes in
      let left = subst (λ (l : Left S F D). FineIn l.new) (sym d.steps.left) answered in
      subst (AreFine May) (sym (ap held_in d.is)) left
  does_fine old new (Transfer_closed d) admits fine =
      subst (AreFine May) (sym (ap held_in d.is))
      (held_without (IsFine May) d.timer.port old.server.held fine)
  does_fine old new does admits fine = subst (AreFine May) (sym (ap held_in (state_is does))) fine

  module _ {Same : S → S → Type 0} (leaves : RunLeaves Same meaning sources)
      (keeps : (a b : S) → Same a b → Admits a → Admits b) where
    -- such a store stays one
    run_fine : RunKeepsHeld Admits meaning sources (AreFine May)
    run_fine old new Start admits fine = fine
    run_fine old new (Then {middle} run does) admits fine =
        does_fine middle new does (keeps old.server.store middle.server.store (leaves old middle run) admits)
        (run_fine old middle run admits fine)

-- ---- the two laws

module _ {F D : Type 0} (May : List ℕ → Type 0) where
  to_fine : (transfer : TransferState F D) → IfSome (draft_of transfer.files) (λ _. May transfer.path)
      → IsFine May transfer
  to_fine transfer only = by transfer.files only
    where
      by : (files : Files F D) → IfSome (draft_of files) (λ _. May transfer.path)
          → (draft_of files ≡ None) ⊎ May transfer.path
      by (Source source) only = inl refl
      by (Sink draft) only = inr only

  from_fine : (transfer : TransferState F D) → IsFine May transfer
      → IfSome (draft_of transfer.files) (λ _. May transfer.path)
  from_fine transfer (inl none) = rw none tt
  from_fine transfer (inr may) = by (draft_of transfer.files)
    where
      by : (draft : Option D) → IfSome draft (λ _. May transfer.path)
      by None = tt
      by (Some draft) = may

  fine_reads : (transfer : TransferState F D) → ((path : List ℕ) → May path → ⊥) → IsFine May transfer
      → draft_of transfer.files ≡ None
  fine_reads transfer never (inl none) = none
  fine_reads transfer never (inr may) = absurd (never transfer.path may)

module _ {S F D : Type 0} {Same : S → S → Type 0} (Admits : S → Type 0) (meaning : StoreMeaning S D)
    (sources : SourceMeaning F) (leaves : RunLeaves Same meaning sources)
    (keeps : (a b : S) → Same a b → Admits a → Admits b) where
  -- over a store that begins drafts of such paths alone
  pub stores_only : (May : List ℕ → Type 0)
      → ((path : List ℕ) (replace : Bool) (a b : S) (draft : D) → Admits a
      → meaning.begun path replace a b (Ok draft) → May path)
      → RunKeepsHeld Admits meaning sources (StoresOnly May)
  stores_only May begins old new run admits only =
      All-weaker (IsFine May) _ (from_fine May) (values_of new.server.held)
      (run_fine Admits May meaning sources begins leaves keeps old new run admits
      (All-weaker _ (IsFine May) (to_fine May) (values_of old.server.held) only))

  -- over one that begins none
  pub stores_nothing : ((path : List ℕ) (replace : Bool) (a b : S) (draft : D) → Admits a
      → meaning.begun path replace a b (Ok draft) → ⊥)
      → RunKeepsHeld Admits meaning sources NoneStores
  stores_nothing begins old new run admits none =
      All-weaker (IsFine (λ _. ⊥)) _ (λ transfer. fine_reads (λ _. ⊥) transfer (λ path never. never))
      (values_of new.server.held)
      (run_fine Admits (λ _. ⊥) meaning sources begins leaves keeps old new run admits
      (All-weaker _ (IsFine (λ _. ⊥)) (λ transfer reads. inl reads) (values_of old.server.held) none))
