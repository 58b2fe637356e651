-- What each call of a store keeps of it and of its drafts is kept by a run.
use Rattle.std.proofs.Common.{◌≡◌, ℕ, Bool, true, false, List, [], ◌∷◌, Option, Some, None, refl, sym, ap, subst, inl}
use Rattle.std.proofs.Common.{inr}
use Rattle.std.specs.Prelude.{Result, Ok, Err, IfOk, IfSome, ⊤}
use Rattle.tftp_wire.specs.declared.mode.Mode.{Mode}
use Rattle.tftp_negotiate.specs.declared.known.Known.{Known}
use Rattle.tftp_file.specs.Source.{SourceMeaning}
use Rattle.tftp_file.specs.declared.fault.StoreFault.{StoreFault}
use Rattle.tftp_file.specs.declared.files.Files.{Files}
use Rattle.tftp_file.specs.declared.files.Files.TheVariants.{Source, Sink}
use Rattle.tftp_ends.specs.End.{EndState}
use Rattle.tftp_ends.specs.Files.{AreSame, KeepsFiles}
use Rattle.tftp_ends.specs.Step.{Acts, Appended, Done, GoesOn, Turn}
use Rattle.tftp_ends.specs.declared.action.Action.{Action}
use Rattle.tftp_ends.specs.declared.action.Action.TheVariants.{Respond, Send, Store}
use Rattle.tftp_ends.specs.declared.endpoint.Endpoint.{Endpoint}
use Rattle.tftp_ends.specs.declared.phase.Terms.{Terms}
use Rattle.tftp_store.specs.Drafts.{CallsKeep}
use Rattle.tftp_store.specs.Store.{StoreMeaning}
use Rattle.tftp_store.specs.declared.store.Opening.{Opening}
use Rattle.tftp_server.specs.Draft.{Drafting, KeepsDraft, KeepsStore, drafting_sink, files_in}
use Rattle.tftp_server.specs.Port.{Ask, Ignores, Refuses, Reads, Writes, Service, Silent, Refused, Sends, Takes}
use Rattle.tftp_server.specs.Port.{by_draft}
use Rattle.tftp_server.specs.Request.{Came, Goes, Left, Sent, Taken, left_by}
use Rattle.tftp_server.specs.State.{TransferState, ServerState, at, draft_of, with_new, with_next}
use Rattle.tftp_server.specs.Steps.{KeepsHeld, StepIn, with_end}
use Rattle.tftp_server.specs.Work.{FilesWork, WorksAt}
use Rattle.tftp_loop.specs.Run.{Run, Start, Then}
use Rattle.tftp_loop.specs.Steps.{PortStep, LoopStep, LoopState, PortState}
use Rattle.tftp_loop.specs.Steps.PortStep.{A_datagram, A_lost_datagram, A_timeout, Work}
use Rattle.tftp_loop.specs.Steps.LoopStep.{At_port, Request_answered, Store_set, Transfer_closed}
use Rattle.tftp_daemon.specs.Leaves.{RunKeeps, RunLeaves}
use Rattle.tftp_loop.proofs.HeldLemmas.{held_any}
use Rattle.tftp_daemon.proofs.HeldAtPorts.{AllAt, from_ports, new_at, next_at, one_at, to_ports, without_at}
use Rattle.tftp_loop.proofs.NewStates.{state_is, server_is}

-- each call of a store, refused or not, keeps a fact of the store and one of each of its drafts, which
-- may depend on the port of its transfer: a draft is begun with it if the store is set to that port
pub record CallsKeepAt {S D : Type 0} (OfStore : S → Type 0) (OfDraft : ℕ → D → Type 0) (stores : StoreMeaning S D)
    : Type 0 where
  pub begun : (tid : ℕ) (path : List ℕ) (replace : Bool) (before after : S) (result : Result D StoreFault)
      → OfStore before → stores.begun path replace before after result
      → OfStore after × (stores.is_set_to before tid → IfOk result (OfDraft tid))
  pub appended : (tid : ℕ) (bytes : List ℕ) (before after : S) (draft draft' : D) (fault : Option StoreFault)
      → OfStore before → OfDraft tid draft → stores.after_append before draft bytes after draft' fault
      → OfStore after × OfDraft tid draft'
  pub committed : (tid : ℕ) (path : List ℕ) (replace : Bool) (before after : S) (draft draft' : D)
      (fault : Option StoreFault) → OfStore before → OfDraft tid draft
      → stores.after_commit before path draft replace after draft' fault
      → OfStore after × OfDraft tid draft'
  pub behind : (before after : S) → OfStore before → stores.after_write_behind before after → OfStore after
  pub drafts_behind : (tid : ℕ) (draft draft' : D) → OfDraft tid draft → stores.writes_behind draft draft'
      → OfDraft tid draft'

module _ {S F D : Type 0} (OfStore : S → Type 0) (OfDraft : ℕ → D → Type 0) (meaning : StoreMeaning S D)
    (sources : SourceMeaning F) (keeps : CallsKeepAt OfStore OfDraft meaning) where
  -- ---- of a store and the file of one transfer
  same_store : {a b : S} → b ≡ a → OfStore a → OfStore b
  same_store {a} {b} is has = subst OfStore (sym is) has

  -- of the transfer at this port
  module _ (tid : ℕ) where
    -- the file is a source, or a draft that has this
    abbrev OfFiles : Files F D → Type 0
    OfFiles files = IfSome (draft_of files) (OfDraft tid)

    abbrev OfBoth : Drafting S D → Type 0
    OfBoth k = OfStore k.store × OfDraft tid k.draft

    same_both : {k m : Drafting S D} → m ≡ k → OfBoth k → OfBoth m
    same_both {k} {m} is has = subst OfBoth (sym is) has

    abbrev sink_in : Drafting S D → Files F (Drafting S D) → Drafting S D
    sink_in k (Source source) = k
    sink_in k (Sink sink) = sink

    appended_so : (bytes : List ℕ) (k m : Drafting S D) (answer : Result Done StoreFault)
        → Appended (drafting_sink meaning) bytes k m answer → OfBoth k → OfBoth m
    appended_so [] k m answer h has = same_both h.1 has
    appended_so (b ∷ bytes) k m answer h has =
        keeps.appended tid (b ∷ bytes) k.store m.store k.draft m.draft _ has.0 has.1 h.3.0

    goes_on_so : (terms : Terms) (number : ℕ) (from : Endpoint) (e : EndState) (last : Bool) (after : List ℕ)
        (m : Drafting S D) (answer : Result Done StoreFault) (turn : Turn) (k : Drafting S D)
        → GoesOn (drafting_sink meaning) terms number from e last after m answer turn k → OfBoth m → OfBoth k
    goes_on_so terms number from e true after m (Err fault) turn k h has = same_both h.1 has
    goes_on_so terms number from e false after m (Err fault) turn k h has = same_both h.1 has
    goes_on_so terms number from e true after m (Ok done) turn k h has =
        keeps.committed tid m.path m.replace m.store k.store m.draft k.draft _ has.0 has.1 h.effect
    goes_on_so terms number from e false after m (Ok done) turn k h has = same_both h.1 has

    acts_so : (action : Action) (from : Endpoint) (bytes : List ℕ) (e : EndState) (k : Drafting S D) (turn : Turn)
        (k' : Drafting S D)
        → Acts sources (drafting_sink meaning) action from bytes e (Sink k) turn (Sink k') → OfBoth k → OfBoth k'
    acts_so (Respond response) from bytes e k turn k' h has = same_both (ap (sink_in k) h.1) has
    acts_so (Send terms number) from bytes e k turn k' h has = absurd h
    acts_so (Store terms number) from bytes e k turn k' h has =
        let s = h.2 in
        goes_on_so terms number from e _ s.after s.mid s.answer turn k' s.rest
        (appended_so s.bytes k s.mid s.answer s.appended has)

    step_so : (from : Endpoint) (bytes : List ℕ) (e : EndState) (turn : Turn) (a b : S) (path path' : List ℕ)
        (replace : Bool) (files files' : Files F D)
        → StepIn meaning sources from bytes e (files_in a path replace files) turn (files_in b path' replace files')
        → KeepsStore files a b → AreSame (λ (x y : F). ⊤) (λ (x y : D). ⊤) files files'
        → OfStore a → OfFiles files → OfStore b × OfFiles files'
    step_so from bytes e turn a b path path' replace (Source source) (Source source') steps same kind has of =
        (same_store same has, tt)
    step_so from bytes e turn a b path path' replace (Source source) (Sink draft) steps same kind has of = absurd kind
    step_so from bytes e turn a b path path' replace (Sink draft) (Source source) steps same kind has of = absurd kind
    step_so from bytes e turn a b path path' replace (Sink draft) (Sink draft') steps same kind has of =
        acts_so _ from bytes e _ turn _ steps.acts (has, of)

    work_so : (a b : S) (files files' : Files F D) → FilesWork meaning sources a b files files' → OfStore a
        → OfFiles files → OfStore b × OfFiles files'
    work_so a b (Source source) (Source source') h has of = (same_store h.0 has, tt)
    work_so a b (Sink draft) (Sink draft') h has of =
        (keeps.behind a b has h.behind, keeps.drafts_behind tid draft draft' of h.drafts_behind)
    work_so a b (Source source) (Sink draft) h has of = absurd h
    work_so a b (Sink draft) (Source source) h has of = absurd h

    kept_so : (a b : S) (path path' : List ℕ) (replace : Bool) (files files' : Files F D) → KeepsStore files a b
        → KeepsDraft files files' a b
        → KeepsFiles sources (drafting_sink meaning) (files_in a path replace files) (files_in b path' replace files')
        → OfStore a → OfFiles files → OfStore b × OfFiles files'
    kept_so a b path path' replace (Source source) (Source source') same draft kept has of = (same_store same has, tt)
    kept_so a b path path' replace (Source source) (Sink draft) same alike kept has of = absurd kept
    kept_so a b path path' replace (Sink draft) files' same kept files has of =
        (same_store kept.0 has, subst OfFiles (sym kept.1) of)

  -- ---- of those that are held
  abbrev OfTransfer : ℕ → TransferState F D → Type 0
  OfTransfer tid transfer = OfFiles tid transfer.files

  pub record OfServer (server : ServerState S F D) : Type 0 where
    pub store : OfStore server.store
    pub drafts : AllAt OfTransfer server.held

  -- the server with another transfer at an identifier
  next_so : (tid : ℕ) (old new : ServerState S F D) (next : TransferState F D) → OfServer old
      → OfStore new.store × OfTransfer tid next → new.held ≡ with_next tid next old.held → OfServer new
  next_so tid old new next has both is = record {
    store = both.0;
    drafts = next_at OfTransfer tid old.held new.held next has.drafts both.1 is;
  }

  same_server : (old new : ServerState S F D) → new ≡ old → OfServer old → OfServer new
  same_server old new is has = subst OfServer (sym is) has

  -- ---- at the port of a transfer
  held_so : (tid : ℕ) (transfer : Option (TransferState F D)) (old new : ServerState S F D)
      → at tid old.held ≡ transfer → KeepsHeld meaning sources tid transfer old new → OfServer old → OfServer new
  held_so tid None old new found kept has = same_server old new kept has
  held_so tid (Some transfer) old new found kept has =
      next_so tid old new kept.0 has
      (kept_so tid old.store new.store transfer.path kept.0.path old.config.overwrite transfer.files kept.0.files
      kept.1.stays kept.1.draft kept.1.files has.store (one_at OfTransfer tid old.held has.drafts found))
      kept.2

  works_so : (tid : ℕ) (transfer : Option (TransferState F D)) (old new : ServerState S F D)
      → at tid old.held ≡ transfer → WorksAt meaning sources tid transfer old new → OfServer old → OfServer new
  works_so tid None old new found works has = same_server old new works has
  works_so tid (Some transfer) old new found works has =
      next_so tid old new works.0 has
      (work_so tid old.store new.store transfer.files works.0.files works.1.files has.store
      (one_at OfTransfer tid old.held has.drafts found))
      works.2

  port_so : (now : ℕ) (old new : PortState S F D) → PortStep meaning sources now old new → OfServer old.server
      → OfServer new.server
  port_so now old new (A_datagram d) has =
      let t = d.handles.takes in
      next_so old.timer.port old.server new.server t.next has
      (step_so old.timer.port d.from d.bytes t.transfer.end t.takes.turn old.server.store new.server.store
      t.transfer.path t.next.path old.server.config.overwrite t.transfer.files t.next.files t.takes.steps
      t.takes.stays t.takes.kind has.store
      (one_at OfTransfer old.timer.port old.server.held has.drafts t.found))
      t.held
  port_so now old new (A_lost_datagram d) has =
      held_so old.timer.port _ old.server new.server refl d.loses.keeps has
  port_so now old new (A_timeout d) has =
      let t = d.times_out.times_out in
      next_so old.timer.port old.server new.server (with_end t.end t.transfer) has (
        same_store (ap (λ (s : ServerState S F D). s.store) d.times_out.rest) has.store,
        one_at OfTransfer old.timer.port old.server.held has.drafts t.found,
      )
      t.held
  port_so now old new (Work d) has = works_so old.timer.port _ old.server new.server refl d.works.works has
  port_so now old new does has = same_server old.server new.server (server_is does) has

  -- ---- at the request port
  module _ (old : ServerState S F D) (from : Endpoint) (bytes : List ℕ) (tid : ℕ) (has : OfServer old) where
    abbrev left_in : Came S F D → Left S F D
    left_in came = left_by came old from tid

    -- if a transfer was opened the store was set to its port
    abbrev Left_so : Came S F D → Type 0
    Left_so came =
        IfSome (left_in came).opened.tid (λ _. meaning.is_set_to old.store tid) → OfServer (left_in came).new

    -- an ERROR was sent, and the store has it
    refused_so : (store : S) → OfStore store → OfServer (record old { store = store })
    refused_so store of = record { store = of; drafts = has.drafts }

    -- a transfer was opened
    opened_so : (store : S) (new : TransferState F D) → OfStore store → OfTransfer tid new
        → OfServer (record old { store = store; held = with_new tid new old.held })
    opened_so store new of is = record {
      store = of;
      drafts = new_at OfTransfer tid old.held new has.drafts is;
    }

    sent_so : (service : Service) (file : Result (Opening F) StoreFault) (came : Came S F D)
        → Sent meaning sources old from bytes service file came → Left_so came
    sent_so Silent file came h = absurd h
    sent_so (Refused reply) file came h = subst Left_so (sym h) (λ set. refused_so old.store has.store)
    sent_so (Sends path mode length agreed) (Err fault) came h = absurd h
    sent_so (Sends path mode length agreed) (Ok file) came (inl s) =
        subst Left_so (sym s.opens) (λ set. opened_so old.store _ has.store tt)
    sent_so (Sends path mode length agreed) (Ok file) came (inr x) =
        subst Left_so (sym x.2) (λ set. refused_so old.store has.store)
    sent_so (Takes path mode agreed) file came h = absurd h

    taken_so : (path : List ℕ) (mode : Mode) (agreed : List Known) (draft : Result D StoreFault) (store : S)
        (came : Came S F D) → OfStore store × (meaning.is_set_to old.store tid → IfOk draft (OfDraft tid))
        → Taken meaning sources old from bytes (by_draft path mode agreed draft) draft store came
        → Left_so came
    taken_so path mode agreed (Err fault) store came of h =
        subst Left_so (sym h) (λ set. refused_so store of.0)
    taken_so path mode agreed (Ok draft) store came of h =
        subst Left_so (sym h) (λ set. opened_so store _ of.0 (of.1 set))

    goes_so : (ask : Ask) (came : Came S F D) → Goes meaning sources old from bytes ask came → Left_so came
    goes_so Ignores came h = subst Left_so (sym h) (λ set. has)
    goes_so (Refuses reply) came h = subst Left_so (sym h) (λ set. refused_so old.store has.store)
    goes_so (Reads path mode options) came h = sent_so _ h.file came h.goes_on
    goes_so (Writes path mode agreed) came h =
        taken_so path mode agreed h.draft h.store came
        (keeps.begun tid path old.config.overwrite old.store h.store h.draft has.store h.begun) h.goes_on

  -- ---- in a run
  abbrev server_of : LoopState S F D → ServerState S F D
  server_of s = s.server

  does_so : (old new : LoopState S F D) → LoopStep meaning sources old new → OfServer old.server
      → OfServer new.server
  does_so old new (At_port d) has =
      subst OfServer (sym (ap server_of d.is)) (port_so old.now _ d.next d.does has)
  does_so old new (Request_answered d) has =
      let answered = goes_so old.server d.from d.bytes d.tid has _ d.steps.came d.steps.goes in
      let Set : Left S F D → Type 0 = λ l. IfSome l.opened.tid (λ _. meaning.is_set_to old.server.store d.tid) in
      let left = subst (λ (l : Left S F D). OfServer l.new) (sym d.steps.left)
      (answered (subst Set d.steps.left d.set)) in
      subst OfServer (sym (ap server_of d.is)) left
  does_so old new (Store_set d) has =
      subst OfServer (sym (ap server_of d.is))
      (record {
        store =
            keeps.behind d.behind.between d.store
            (keeps.behind old.server.store d.behind.between has.store d.behind.port) d.behind.longest;
        drafts = has.drafts;
      })
  does_so old new (Transfer_closed d) has =
      subst OfServer (sym (ap server_of d.is))
      (record {
        store = has.store;
        drafts = without_at OfTransfer d.timer.port old.server.held has.drafts;
      })
  does_so old new does has = same_server old.server new.server (ap server_of (state_is does)) has

  pub run_keeps_at : (old new : LoopState S F D) → Run (LoopStep meaning sources) old new → OfServer old.server
      → OfServer new.server
  run_keeps_at old new Start has = has
  run_keeps_at old new (Then {middle} run does) has = does_so middle new does (run_keeps_at old middle run has)

-- the same of facts that do not depend on the port
module _ {S F D : Type 0} (OfStore : S → Type 0) (OfDraft : D → Type 0) (meaning : StoreMeaning S D)
    (sources : SourceMeaning F) (keeps : CallsKeep OfStore OfDraft meaning) where
  abbrev OfOne : TransferState F D → Type 0
  OfOne transfer = IfSome (draft_of transfer.files) OfDraft

  at_any_port : CallsKeepAt OfStore (λ _. OfDraft) meaning
  at_any_port = record {
    begun = λ tid path replace before after result has begun.
        let kept = keeps.begun path replace before after result has begun in (kept.0, λ set. kept.1);
    appended = λ tid. keeps.appended;
    committed = λ tid. keeps.committed;
    behind = keeps.behind;
    drafts_behind = λ tid. keeps.drafts_behind;
  }

  pub run_keeps : RunKeeps OfStore OfDraft meaning sources
  run_keeps old new run has =
      let kept =
      run_keeps_at OfStore (λ _. OfDraft) meaning sources at_any_port old new run
      (record { store = has.store; drafts = to_ports OfOne old.server.held has.drafts }) in
      record { store = kept.store; drafts = from_ports OfOne new.server.held kept.drafts }

-- a relation from the first store on, which each call keeps, holds at the end
pub run_leaves : {S F D : Type 0} (Same : S → S → Type 0) (meaning : StoreMeaning S D) (sources : SourceMeaning F)
    → ((start : S) → Same start start) → ((start : S) → CallsKeep (Same start) (λ (draft : D). ⊤) meaning)
    → RunLeaves Same meaning sources
run_leaves {S} {F} {D} Same meaning sources itself keeps old new run =
    let any : (transfer : TransferState F D) → IfSome (draft_of transfer.files) (λ (draft : D). ⊤) =
    λ transfer. trivial (draft_of transfer.files) in
    (run_keeps (Same old.server.store) (λ draft. ⊤) meaning sources (keeps old.server.store) old new run
    (record { store = itself old.server.store; drafts = held_any _ any old.server.held })).store
  where
    trivial : (draft : Option D) → IfSome draft (λ (d : D). ⊤)
    trivial None = tt
    trivial (Some draft) = tt
