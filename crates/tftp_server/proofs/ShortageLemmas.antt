-- The end of a transfer lacks memory over a draft of the store, which is then unchanged. For
-- `Transfer::handle_datagram` and `Transfer::on_datagram`.
use Rattle.std.proofs.Common.{◌≡◌, ℕ, Bool, List, Result, Ok, Err, OnErr, refl, sym, ap, ◌∙◌, rules}
use Rattle.std.specs.Prelude.{IsErrOf}
use Rattle.tftp_file.specs.Source.{SourceMeaning}
use Rattle.tftp_file.specs.Sink.{SinkMeaning, sink_through}
use Rattle.tftp_file.specs.declared.files.Files.TheVariants.{Sink}
use Rattle.tftp_ends.specs.declared.action.Action.{Action}
use Rattle.tftp_ends.specs.declared.endpoint.Endpoint.{Endpoint}
use Rattle.tftp_ends.specs.declared.fault.EndFault.{EndFault}
use Rattle.tftp_ends.specs.declared.fault.EndFault.TheVariants as ends
use Rattle.tftp_ends.specs.End.{EndState}
use Rattle.tftp_ends.specs.Files.{KeepsSink}
use Rattle.tftp_ends.specs.OneFile.{ReceiverActLacksMemory, ReceiverLacksMemory, receiver_lacks}
use Rattle.tftp_ends.specs.Shortage.{LacksMemory}
use Rattle.tftp_server.specs.declared.draft_sink.DraftSink.{DraftSink}
use Rattle.tftp_server.specs.Draft.{Drafting, drafting_sink}
use Rattle.tftp_server.specs.Steps.{StaysAs}
use Rattle.tftp_store.specs.Store.{StoreMeaning}
use Rattle.tftp_server.proofs.StepsLemmas.{drafting_of}

-- ---- a receiver over a sink that stands for another
module _ {K L : Type 0} (sinks : SinkMeaning L) (g : K → L) where
  act_as : (action : Action) (bytes : List ℕ) (e : EndState) (k k' : K) →
      ReceiverActLacksMemory (sink_through sinks g) action bytes e k k' →
      ReceiverActLacksMemory sinks action bytes e (g k) (g k')
  act_as action bytes e k k' h = search rules

  lacks_as : (too_full : ℕ → Type 0) (from : Endpoint) (bytes : List ℕ) (e : EndState) (k k' : K) →
      ReceiverLacksMemory (sink_through sinks g) too_full from bytes e k k' →
      ReceiverLacksMemory sinks too_full from bytes e (g k) (g k')
  lacks_as too_full from bytes e k k' h = search (rules, act_as)

-- ---- over a draft
-- the drafts of a store, as sinks
abbrev draft_sinks : {S F D : Type 0} → StoreMeaning S D → SinkMeaning (DraftSink S F D)
draft_sinks meaning = sink_through (drafting_sink meaning) drafting_of

-- out of memory the store and the draft are unchanged
module _ {S D : Type 0} (meaning : StoreMeaning S D) where
  act_stays : (action : Action) (bytes : List ℕ) (e : EndState) (d d' : Drafting S D) →
      ReceiverActLacksMemory (drafting_sink meaning) action bytes e d d' → d' ≡ d
  act_stays action bytes e d d' h = search rules

  lacks_stays : (too_full : ℕ → Type 0) (from : Endpoint) (bytes : List ℕ) (e : EndState) (d d' : Drafting S D) →
      ReceiverLacksMemory (drafting_sink meaning) too_full from bytes e d d' → d' ≡ d
  lacks_stays too_full from bytes e d d' h = search (rules, act_stays)

module _ {S F D : Type 0} (meaning : StoreMeaning S D) (sources : SourceMeaning F) (too_full : ℕ → Type 0)
    {from : Endpoint} {bytes : List ℕ} {e : EndState} (k k' : DraftSink S F D) {replace : Bool} {store store' : S}
    {draft draft' : D} {path : List ℕ}
    (was : drafting_of k ≡ record { store = store; draft = draft; path = path; replace = replace })
    (now : drafting_of k' ≡ record { store = store'; draft = draft'; path = path; replace = replace }) where
  -- an end lacks memory over the store and its draft
  pub draft_lacked : ReceiverLacksMemory (draft_sinks meaning) too_full from bytes e k k' →
      LacksMemory sources (drafting_sink meaning) too_full from bytes e
      (Sink (record { store = store; draft = draft; path = path; replace = replace }))
      (Sink (record { store = store'; draft = draft'; path = path; replace = replace }))
  draft_lacked h =
      rw (← was, ← now)
      (receiver_lacks sources (drafting_sink meaning) too_full from bytes e (drafting_of k) (drafting_of k')
      (lacks_as (drafting_sink meaning) drafting_of too_full from bytes e k k' h))

  -- a fault of an end over a draft changes neither the draft nor the store
  fault_stays : {R : Type 0} (fault : EndFault) → (IsErrOf {T = R} (Err fault) ends.Closed → k' ≡ k) →
      (IsErrOf {T = R} (Err fault) ends.Memory →
      ReceiverLacksMemory (draft_sinks meaning) too_full from bytes e k k') → drafting_of k' ≡ drafting_of k
  fault_stays ends.Closed unmoved why = ap drafting_of (unmoved refl)
  fault_stays ends.Memory unmoved why =
      lacks_stays meaning too_full from bytes e (drafting_of k) (drafting_of k')
      (lacks_as (drafting_sink meaning) drafting_of too_full from bytes e k k' (why refl))

  -- so the transfer, the draft and the store stay
  pub draft_stays : {R A B : Type 0} {e' : EndState} {request : List ℕ} (result : Result R EndFault) →
      (IsErrOf result ends.Closed → k' ≡ k) →
      (IsErrOf result ends.Memory → ReceiverLacksMemory (draft_sinks meaning) too_full from bytes e k k') →
      (A → (e' ≡ e) × KeepsSink (draft_sinks meaning) k k') →
      (A → StaysAs meaning sources replace store store'
      (record { end = e; files = Sink draft; path = path; request = request })
      (record { end = e'; files = Sink draft'; path = path; request = request }) → B) → OnErr result A →
      OnErr result B
  draft_stays (Ok r) unmoved why keeps then h = tt
  draft_stays {R = R} (Err fault) unmoved why keeps then h =
      let first : Drafting S D = record { store = store; draft = draft; path = path; replace = replace } in
      let last : Drafting S D = record { store = store'; draft = draft'; path = path; replace = replace } in
      let back : last ≡ first = sym now ∙ (fault_stays {R = R} fault unmoved why ∙ was) in
      search rules
