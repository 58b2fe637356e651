-- What happens at the request port. For three functions, Opened, Receipts and Reserving.
use Rattle.tftp_loop.proofs.Common.{◌≡◌, ◌⊎◌, ℕ, Bool, true, false, List, [], ◌∷◌, ◌++◌, Option, Some, None, IsSome}
use Rattle.tftp_loop.proofs.Common.{refl, ap, subst, ◌∙◌, inl, inr, Ok, Err, IfSome, true≢false, SourceMeaning}
use Rattle.tftp_loop.proofs.Common.{Endpoint, StoreMeaning, ServerState, at, CarriesOut, Left, Goes, Came, left_by}
use Rattle.tftp_loop.proofs.Common.{Nothing, Ask, Ignores, Refuses, Reads, Writes, SocketEvent}
use Rattle.tftp_loop.proofs.Common.{replied, Received, Quiet, IsOneOf, TriesPorts, Run, Start, Then, LoopState}
use Rattle.tftp_loop.proofs.Common.{AnswersRequest, LosesRequest, RequestNote, Found_no_port, Found_port}
use Rattle.tftp_loop.proofs.Common.{Found_no_memory, after_request, note_event, with_timer, answering_port, is_draining}
use Rattle.tftp_loop.proofs.Common.{Request_noted, Request_received, Request_answered, Request_lost, Store_set, Work_by}
use Rattle.tftp_loop.proofs.Common.{Concludes}
use Rattle.std.proofs.Common.{◌≢◌, rules}
use Rattle.std.specs.Prelude.{is_ok, ◌&&◌, not}
use Rattle.tftp_server.specs.Request.{Admits, AdmissionState, RequestStep}
use Rattle.tftp_server.specs.Port.{asks_store}
use Rattle.tftp_server.specs.CallersFiles.{refusal}
use Rattle.tftp_server.specs.declared.opened.Opened.{Opened}
use Rattle.tftp_sockets.specs.Trace.QuietEvent.{Out_of_memory}
use Rattle.tftp_loop.specs.OnlyRequests.{IsHandledBy, begins_as_request}
use Rattle.tftp_loop.specs.PortPool.{Binds, TriesInVain}
use Rattle.tftp_loop.specs.RequestActions.{refused_bytes, refused_to}
use Rattle.tftp_loop.specs.MayOpen.{LacksMemoryToOpen, MayOpen}
use Rattle.tftp_loop.specs.Steps.{IsSet, RequestLoss, No_answer, No_request}
use Rattle.tftp_loop.specs.Steps.{No_memory_to_open, No_port}
use Rattle.tftp_loop.specs.Steps.{Same_port, SetsStore, Too_many, has_most, is_taken}
use Rattle.tftp_loop.specs.LoopStates.{IsAdmission}
use Rattle.tftp_loop.specs.MayWait.{Prepares, Notes_it, Sets_store}
use Rattle.tftp_loop.proofs.RunLemmas.{once, onward}
use Rattle.tftp_loop.proofs.LoopRuns.{Runs}
use Rattle.tftp_loop.proofs.Tables.{free_identifier}

-- the one holds, and the other does not
and_not : (one other : Bool) → (one && not other) ≡ true → (one ≡ true) × (other ≡ false)
and_not one other h = search rules

-- what holds holds of what an option has
if_some : {A P : Type 0} (o : Option A) → P → IfSome o (λ _. P)
if_some None holds = tt
if_some (Some x) holds = holds

module _ {S F D : Type 0} (meaning : StoreMeaning S D) (sources : SourceMeaning F) where
  -- a datagram was received
  pub receives_as : (s t : LoopState S F D) (from : Endpoint) (bytes : List ℕ) → s.pending ≡ None
      → s.asked ≡ false → is_draining s.drain ≡ false → t ≡ record s {
        pending = Some (from, bytes);
        marked = true;
        asked = true;
        events = Received s.requests from bytes ∷ s.events;
      } → Runs meaning sources s t
  receives_as s t from bytes none first on is = once (Work_by (Request_received (search)) tt)

  set_as : (s : LoopState S F D) (server : ServerState S F D) → server ≡ record s.server { store = server.store } →
      meaning.stored server.store ≡ meaning.stored s.server.store
      → IsSet meaning s.server.store server.store → SetsStore meaning sources s (record s { server = server })
  set_as s server rest same behind = search rules

  -- an admission is one of the server whose store was set
  pub admits_set : (old new : ServerState S F D) (from : Endpoint) (bytes : List ℕ) (ask : Ask) →
      new ≡ record old { store = new.store } → Admits old from bytes ask → Admits new from bytes ask
  admits_set old new from bytes ask rest a = rw rest (search)

  -- an admission that is carried out is the step of the request port
  pub request_step : (old : ServerState S F D) (from : Endpoint) (bytes : List ℕ) (ask : Ask) (tid : ℕ)
      (left : Left S F D)
      → Admits old from bytes ask → CarriesOut meaning sources old from bytes ask tid left →
      RequestStep meaning sources old from bytes tid left
  request_step old from bytes ask tid left a o = search rules

  -- an admission of a server before its store was set
  pub may_open : (before server : ServerState S F D) (from : Endpoint) (bytes : List ℕ) (admission : AdmissionState) →
      server ≡ record before { store = server.store }
      → IsAdmission before from bytes admission → asks_store admission.ask ≡ true → MayOpen server from bytes
  may_open before server from bytes admission rest admitted asks = search (rules, admits_set)

  -- ---- what is done first
  -- what prepares an answer and then concludes it concludes
  pub prepares_first : (s m t : LoopState S F D) → Run (Prepares meaning sources) s m → Concludes meaning sources m t
      → Concludes meaning sources s t
  prepares_first s m t run c =
      record { middle = c.middle; prepares = onward run c.prepares; ends = c.ends }

  -- a note
  noted_as : (s t : LoopState S F D) (from : Endpoint) (bytes : List ℕ) → s.pending ≡ Some (from, bytes)
      → (note : RequestNote meaning sources s from bytes) → t ≡ record s { events = Quiet (note_event note) ∷ s.events }
      → Prepares meaning sources s t
  noted_as s t from bytes pending note is = Notes_it (search)

  -- ports were tried for the datagram
  module _ (s : LoopState S F D) (from : Endpoint) (bytes : List ℕ) (pending : s.pending ≡ Some (from, bytes))
      (opens : MayOpen s.server from bytes) where
    pub tried_as : {es fs : List SocketEvent} → TriesPorts s.range es fs →
        Run (Prepares meaning sources) (record s { events = es }) (record s { events = fs })
    tried_as Start = Start
    tried_as (Then {middle} {last} run tries) =
        Then (tried_as run)
        (noted_as (record s { events = middle }) (record s { events = last }) from bytes pending
        (Found_no_port opens tries.port tries.within)
        (ap (λ (es : List SocketEvent). record s { events = es }) tries.is))

    -- and a new socket is bound
    pub bound_as : (es fs : List SocketEvent) (port : ℕ) → IsOneOf s.range port → Binds s.range es fs port →
        Run (Prepares meaning sources) (record s { events = es }) (record s { events = fs })
    bound_as es fs port within binds =
        Then (tried_as binds.earlier) (noted_as (record s { events = binds.between }) (record s { events = fs }) from
        bytes pending (Found_port opens port within) (ap (λ gs. record s { events = gs }) binds.is))

  -- the datagram was lost, and nothing changed
  pub loses_as : (s t : LoopState S F D) (from : Endpoint) (bytes : List ℕ) → s.pending ≡ Some (from, bytes) →
      RequestLoss meaning sources s from bytes → t ≡ record s { pending = None }
      → Concludes meaning sources s t
  loses_as s t from bytes pending why is = record {
    middle = s;
    prepares = Start;
    ends = inr (record { from = from; bytes = bytes; pending = pending; why = why; is = is });
  }

  -- no answer can come there, or only requests are handled and it is none, and the datagram was lost
  pub ignores_as : (s t : LoopState S F D) (from : Endpoint) (bytes : List ℕ) → s.pending ≡ Some (from, bytes)
      → (from.port ≡ 0) ⊎ ((s.requests_only && not (begins_as_request bytes)) ≡ true)
      → t ≡ record s { pending = None } → Concludes meaning sources s t
  ignores_as s t from bytes pending (inl none) is = loses_as s t from bytes pending (No_answer none) is
  ignores_as s t from bytes pending (inr drops) is =
      let both = and_not s.requests_only (begins_as_request bytes) drops in
      loses_as s t from bytes pending (No_request both.0 both.1) is

  -- its sender's address has as many transfers open as one may have, and the datagram was lost
  pub loses_too_many : (s t : LoopState S F D) (from : Endpoint) (bytes : List ℕ) → s.pending ≡ Some (from, bytes) →
      MayOpen s.server from bytes → has_most s.per_client from s.timers ≡ true → t ≡ record s { pending = None }
      → Concludes meaning sources s t
  loses_too_many s t from bytes pending opens most is = loses_as s t from bytes pending (Too_many opens most) is

  -- memory was refused, and the datagram was lost
  pub loses_for_memory : (s t : LoopState S F D) (from : Endpoint) (bytes : List ℕ) → s.pending ≡ Some (from, bytes) →
      LacksMemoryToOpen meaning sources s.server from bytes
      → t ≡ record s { pending = None; events = Quiet Out_of_memory ∷ s.events } → Concludes meaning sources s t
  loses_for_memory s t from bytes pending lacks is =
      let m : LoopState S F D = record s { events = Quiet Out_of_memory ∷ s.events } in
      prepares_first s m t
      (once (noted_as s m from bytes pending (Found_no_memory lacks) refl))
      (loses_as m t from bytes pending (No_memory_to_open lacks (record { earlier = s.events; is = refl })) is)

  -- no port was found, and the datagram was lost
  pub tries_in_vain : (s t : LoopState S F D) (from : Endpoint) (bytes : List ℕ) (fs : List SocketEvent) →
      s.pending ≡ Some (from, bytes) → MayOpen s.server from bytes
      → TriesInVain s.range s.events fs → t ≡ record s { pending = None; events = fs } → Concludes meaning sources s t
  tries_in_vain s t from bytes fs pending opens vain is =
      prepares_first s _ t (tried_as s _ _ pending opens (Then vain.earlier vain.last)) (loses_as _ t _ _ pending
      (No_port opens vain.last.port (record { earlier = vain.between; is = vain.last.is }) vain.missed) is)

  -- a new socket is at a port that is taken, and the datagram was lost
  pub binds_in_vain : (s t : LoopState S F D) (from : Endpoint) (bytes : List ℕ) (fs : List SocketEvent) (port : ℕ) →
      s.pending ≡ Some (from, bytes) → MayOpen s.server from bytes → IsOneOf s.range port
      → Binds s.range s.events fs port → is_taken s port ≡ true
      → t ≡ record s { pending = None; events = fs } → Concludes meaning sources s t
  binds_in_vain s t from bytes fs port pending opens within binds taken is =
      prepares_first s _ t (bound_as s _ _ pending opens _ _ _ within binds) (loses_as _ t _ _ pending (Same_port opens
      port (record { earlier = binds.between; is = binds.is }) taken) is)

  -- the store was set, memory was refused, and the datagram was lost
  pub sets_and_loses : (s t : LoopState S F D) (from : Endpoint) (bytes : List ℕ) (set : ServerState S F D) →
      s.pending ≡ Some (from, bytes)
      → set ≡ record s.server { store = set.store } → meaning.stored set.store ≡ meaning.stored s.server.store →
      IsSet meaning s.server.store set.store
      → LacksMemoryToOpen meaning sources set from bytes →
      t ≡ record s { server = set; pending = None; events = Quiet Out_of_memory ∷ s.events }
      → Concludes meaning sources s t
  sets_and_loses s t from bytes set pending rest same behind lacks is =
      prepares_first s _ t (once (Sets_store (set_as s _ rest same behind))) (loses_for_memory _ t _ _ pending lacks is)

  -- the store was set, and an admission was carried out and answered
  pub sets_and_answers : (s t : LoopState S F D) (from : Endpoint) (bytes : List ℕ) (tid : ℕ)
      (set new : ServerState S F D) (admission : AdmissionState) (cleared out : List ℕ) (opened : Opened)
      → s.pending ≡ Some (from, bytes) → IsAdmission s.server from bytes admission → IsHandledBy s.requests_only bytes
      → set ≡ record s.server { store = set.store } → meaning.stored set.store ≡ meaning.stored s.server.store →
      IsSet meaning s.server.store set.store
      → (sent : List ℕ) × (out ≡ cleared ++ sent) × CarriesOut meaning sources set admission.from admission.bytes
      admission.ask tid (record { new = new; opened = opened; sent = sent })
      → at tid set.held ≡ None → IfSome opened.tid (IsOneOf s.range)
      → IfSome opened.tid (λ port. port ≢ s.requests) → meaning.is_set_to set.store tid
      → has_most s.per_client from s.timers ≡ false → cleared ≡ []
      → t ≡ record s {
        server = new;
        pending = None;
        timers = with_timer s.now s.longest s.backoff from opened.tid new.held s.timers;
        events = replied (answering_port s.requests opened.tid) opened.to out s.events;
      }
      → Concludes meaning sources s t
  sets_and_answers s t from bytes tid set new admission cleared out opened pending admitted handled rest same behind
      carried
      free port own set_to few empty is =
      let sent = carried.0 in
      let left : Left S F D = record { new = new; opened = opened; sent = sent } in
      let At : Endpoint → Type 0 = λ e. CarriesOut meaning sources set e admission.bytes admission.ask tid left in
      let Of : List ℕ → Type 0 = λ bs. CarriesOut meaning sources set from bs admission.ask tid left in
      let carries = subst Of admitted.same_bytes (subst At admitted.same_from carried.2) in
      let steps = request_step _ _ _ _ _ _ (admits_set _ _ _ _ _ rest admitted.admits) carries in
      let put = carried.1 ∙ ap (λ (bs : List ℕ). bs ++ sent) empty in
      record {
        middle = record s { server = set };
        prepares = once (Sets_store (set_as s _ rest same behind));
        ends = inl (search (
          if_some opened.tid set_to,
          if_some opened.tid few,
          is ∙ ap (λ (bs : List ℕ). record s {
            server = new;
            pending = None;
            timers = with_timer s.now s.longest s.backoff from opened.tid new.held
                s.timers;
            events = replied (answering_port s.requests opened.tid) opened.to bs s.events;
          }) put,
        ));
      }

  -- what was concluded is work
  prepared_run : (s t : LoopState S F D) → Run (Prepares meaning sources) s t → Runs meaning sources s t
  prepared_run s t Start = Start
  prepared_run s t (Then {middle} run (Notes_it d)) =
      Then (prepared_run s middle run) (Work_by (Request_noted d) tt)
  prepared_run s t (Then {middle} run (Sets_store d)) =
      Then (prepared_run s middle run) (Work_by (Store_set d) tt)

  ends_run : (s t : LoopState S F D) → AnswersRequest meaning sources s t ⊎ LosesRequest meaning sources s t →
      Runs meaning sources s t
  ends_run s t (inl d) = once (Work_by (Request_answered d) tt)
  ends_run s t (inr d) = once (Work_by (Request_lost d) tt)

  -- the end of a request's handling is a run of the loop
  pub concludes_run : (s t : LoopState S F D) → Concludes meaning sources s t → Runs meaning sources s t
  concludes_run s t c = onward (prepared_run s c.middle c.prepares) (ends_run c.middle t c.ends)

  -- ---- a datagram for which no store is asked
  -- it is answered by an ERROR, or not at all
  refused_step : (s t : LoopState S F D) (from : Endpoint) (bytes : List ℕ) (ask : Ask) (tid : ℕ) (came : Came S F D)
      → s.pending ≡ Some (from, bytes) → IsHandledBy s.requests_only bytes → Admits s.server from bytes ask
      → Goes meaning sources s.server from bytes ask came
      → at tid s.server.held ≡ None → (left_by came s.server from tid).opened.tid ≡ None
      → t ≡ after_request s from (left_by came s.server from tid) → Concludes meaning sources s t
  refused_step s t from bytes ask tid came pending handled admits goes free none is =
      record {
        middle = s;
        prepares = Start;
        ends = inl (record {
          from = from;
          bytes = bytes;
          pending = pending;
          handled = handled;
          tid = tid;
          free = free;
          left = left_by came s.server from tid;
          port = rw none tt;
          own = rw none tt;
          set = rw none tt;
          few = rw none tt;
          steps = search rules;
          is = is;
        });
      }

  -- a request that may not open is refused by one step
  pub refuses_as : (s t : LoopState S F D) (from : Endpoint) (bytes : List ℕ) (ask : Ask)
      → s.pending ≡ Some (from, bytes) → IsHandledBy s.requests_only bytes → Admits s.server from bytes ask
      → asks_store ask ≡ false
      → t ≡ record s {
        pending = None;
        events = replied s.requests (refused_to from (refusal ask)) (refused_bytes (refusal ask)) s.events;
      }
      → Concludes meaning sources s t
  refuses_as s t from bytes Ignores pending handled admits none is =
      let unused = free_identifier s.server.held in
      refused_step s t from bytes Ignores unused.0 Nothing pending handled admits refl unused.1 refl is
  refuses_as s t from bytes (Refuses reply) pending handled admits none is =
      let unused = free_identifier s.server.held in
      refused_step s t _ _ _ _ _ pending handled admits refl unused.1 refl is
  refuses_as s t from bytes (Reads path mode options) pending handled admits none is = absurd (true≢false none)
  refuses_as s t from bytes (Writes path mode agreed) pending handled admits none is = absurd (true≢false none)

-- an empty option
pub is_free : {T : Type 0} (o : Option T) → (IsSome o → ⊥) → o ≡ None
is_free None h = refl
is_free (Some x) h = absurd (h refl)

-- an answer is no fault
pub ok-err : {T E : Type 0} (x : T) (e : E) → Ok x ≡ Err e → ⊥
ok-err x e h = true≢false (ap is_ok h)
