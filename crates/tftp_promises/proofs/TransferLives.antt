-- What a step of a server does at a port: to the transfer there, and in the trace. So each transfer that it holds has
-- lived as the run tells: what it handled and sent since it opened is that of the run, and is a life of its end.
use Rattle.std.proofs.Common.{rules as std_rules}
use Rattle.tftp_promises.proofs.Common.{List, ℕ, ◌≡◌, rules, sym, refl, ◌∙◌, ap, Some, inl, inr, ◌∷◌, false, true, None}
use Rattle.tftp_promises.proofs.Common.{◌++◌, Bool, Option, arith, ◌<◌, ◌*◌, true≢false, cases_eq, eq-eqb, ne_eqb}
use Rattle.tftp_promises.proofs.Common.{same_Some, AllByRecursion, ◌⊎◌, ◌≢◌, if◌then◌else◌, ◌==◌, IfSome, Mode, Packet}
use Rattle.tftp_promises.proofs.Common.{size, IsBlockSize, Known, SourceMeaning, StoreMeaning, EndState, serving_read}
use Rattle.tftp_promises.proofs.Common.{serving_write, Reply, timeout_turn, Act, Took, Lost, Timed, with_reply, newest}
use Rattle.tftp_promises.proofs.Common.{Life, Times, Opens, Hears, Begins, drafting_sink, A_transfer, Came, left_by}
use Rattle.tftp_promises.proofs.Common.{Nothing, Error_reply, TransferState, at, ServerState, is_closed, is_open}
use Rattle.tftp_promises.proofs.Common.{without, KeepsHeld, with_end, WorksAt, numbers, lookup-insert_other}
use Rattle.tftp_promises.proofs.Common.{lookup-remove_other, lookup-set_same, lookup-insert_same, AreGranted, Endpoint}
use Rattle.tftp_promises.proofs.Common.{SocketEvent, answered, Sent, Received, Elapsed, state_is, server_is, trace_is}
use Rattle.tftp_promises.proofs.Common.{stays_at, Run, Then, Start, LoopState, LoopStep, PortStep, PortState}
use Rattle.tftp_promises.proofs.Common.{port_state, after_request, At_port, Transfer_closed, Request_lost, Waited}
use Rattle.tftp_promises.proofs.Common.{Store_set, A_datagram, Work, A_timeout, A_lost_datagram, A_late_datagram}
use Rattle.tftp_promises.proofs.Common.{acts_at, IsNoActAt, IsLiving, first_act, port_acts, came_if, IsEventOf, []}
use Rattle.tftp_lives.specs.Lives.{Loses}
use Rattle.tftp_lives.specs.Unanswered.{MayAgree, To_serve_read, To_serve_write}
use Rattle.tftp_loop.specs.Steps.LoopStep.{Request_answered}
use Rattle.tftp_loop.specs.Steps.PortStep.{A_missed_timeout}
use Rattle.tftp_promises.proofs.Identifiers.{at-without}
use Rattle.tftp_promises.proofs.OneTimerEach.{AreKeyedOnce, keyed_once, was_there}
use Rattle.tftp_promises.proofs.Requested.{Begins_to_send, Begins_to_store, IsFirst, PortAnswers, Says_error, Silent}
use Rattle.tftp_promises.proofs.Requested.{port_answers}

-- ---- a transfer and what is at its port then
module _ {F D : Type 0} where
  -- its end is the same, or there is none before and after
  abbrev pub HaveSameEnd : Option (TransferState F D) → Option (TransferState F D) → Type 0
  HaveSameEnd None None = Unit {0}
  HaveSameEnd (Some was) (Some now) = now.end ≡ was.end
  HaveSameEnd was now = ⊥

  same_self : (o : Option (TransferState F D)) → HaveSameEnd o o
  same_self None = tt
  same_self (Some transfer) = refl

  same_found : (o other : Option (TransferState F D)) → other ≡ o → HaveSameEnd o other
  same_found o other is = rw is (same_self o)

  -- one that is open then was open before
  pub same_open : (was now : Option (TransferState F D)) → HaveSameEnd was now → is_open now ≡ true → is_open was ≡ true
  same_open was now same still = search std_rules

module _ {S F D : Type 0} (stores : StoreMeaning S D) (sources : SourceMeaning F) where
  abbrev Lives : List Act → TransferState F D → Type 0
  Lives acts transfer = IsLiving stores sources acts transfer

  -- what a step of a server does at the port q, of which the transfer before and after is known, the trace, and what
  -- was done before
  pub data DoesAt (q requests : ℕ) (was now : Option (TransferState F D)) (before after : List SocketEvent)
      (acts : List Act) : List Act → Type 0 where
    -- the end there is as it was, or is gone, and while it is open what is noted is no act of it
    Leaves : (more : List SocketEvent) → HaveSameEnd was now ⊎ (now ≡ None) → after ≡ more ++ before →
        (is_open was ≡ true → AllByRecursion (IsNoActAt q) more) → DoesAt q requests was now before after acts acts
    -- it acts, and answers
    Acts : (transfer next : TransferState F D) (e : SocketEvent) (act : Act) (reply : Option Reply) →
        was ≡ Some transfer → is_closed transfer ≡ false → now ≡ Some next → IsEventOf q e act →
        after ≡ answered q reply (e ∷ before) → (Lives acts transfer → Lives (with_reply reply (act ∷ acts)) next) →
        DoesAt q requests was now before after acts (with_reply reply (act ∷ acts))
    -- one opens
    Opens_there : (transfer : TransferState F D) → now ≡ Some transfer → q ≢ requests → Begins transfer.end →
        after ≡ Sent q transfer.end.position.last_sent_to transfer.end.position.last_sent ∷ before →
        DoesAt q requests was now before after acts (newest transfer.end ∷ [])

  lives_on : {acts more : List Act} {transfer next : TransferState F D} {e : EndState} (h : Lives acts transfer) →
      Life sources (drafting_sink stores) h.first more e → next.end ≡ e → Lives more next
  lives_on h life is = record { first = h.first; begins = h.begins; life = rw is life }

  -- ---- at the port of a transfer
  kept : (port : ℕ) (o : Option (TransferState F D)) (old new : ServerState S F D) → at port old.held ≡ o →
      KeepsHeld stores sources port o old new → HaveSameEnd o (at port new.held)
  kept port None old new found keeps = search std_rules
  kept port (Some transfer) old new found keeps =
      rw (ap (at port) keeps.2 ∙ lookup-set_same numbers port transfer keeps.0 old.held found) keeps.1.end

  worked : (port : ℕ) (o : Option (TransferState F D)) (old new : ServerState S F D) → at port old.held ≡ o →
      WorksAt stores sources port o old new → HaveSameEnd o (at port new.held)
  worked port None old new found works = search std_rules
  worked port (Some transfer) old new found works =
      rw (ap (at port) works.2 ∙ lookup-set_same numbers port transfer works.0 old.held found)
      (ap (λ (t : TransferState F D). t.end) works.1.rest)

  -- a datagram is lost there: an act, while the transfer is open
  loses : (q requests : ℕ) (was now : Option (TransferState F D)) (from : Endpoint) (bytes : List ℕ)
      (before after : List SocketEvent) (acts : List Act) (b : Bool) → is_open was ≡ b → HaveSameEnd was now →
      after ≡ Received q from bytes ∷ before →
      DoesAt q requests was now before after acts (if b then Lost from bytes ∷ acts else acts)
  loses q requests (Some t) (Some u) from bytes before after acts true still same is =
      let opened : is_closed t ≡ false = search rules in
      Acts t u (Received q from bytes) (Lost from bytes) None refl opened refl refl is
      (λ h. lives_on h (Loses h.life opened from bytes) same)
  loses q requests None now from bytes before after acts true still same is = absurd (cc)
  loses q requests (Some t) None from bytes before after acts true still same is = absurd same
  loses q requests was now from bytes before after acts false still same is =
      Leaves (Received q from bytes ∷ []) (inl same) is (λ on. absurd (true≢false (sym on ∙ still)))

  own_does : (requests now : ℕ) (old new : PortState S F D) (does : PortStep stores sources now old new)
      (acts : List Act) → DoesAt old.timer.port requests (at old.timer.port old.server.held)
      (at old.timer.port new.server.held) old.events new.events acts (port_acts does acts)
  own_does requests now old new (A_datagram d) acts =
      let t = d.handles.takes in
      Acts t.transfer t.next (Received old.timer.port d.from d.bytes) (Took d.from d.bytes) t.takes.turn.reply t.found t.still
      (ap (at old.timer.port) t.held ∙ lookup-set_same numbers old.timer.port t.transfer t.next old.server.held t.found)
      refl d.handles.events (λ h. lives_on h (Hears h.life t.still d.from d.bytes t.takes.steps) t.takes.carries.state)
  own_does requests now old new (A_timeout d) acts =
      let t = d.times_out.times_out in
      let next = with_end t.end t.transfer in
      Acts t.transfer next (Elapsed old.timer.port now) Timed (timeout_turn t.transfer.end).reply t.found t.still
      (ap (at old.timer.port) t.held ∙ lookup-set_same numbers old.timer.port t.transfer next old.server.held t.found)
      (now, refl) d.times_out.events (λ h. lives_on h (Times h.life t.still) t.carries.state)
  own_does requests now old new (A_lost_datagram d) acts =
      loses old.timer.port requests (at old.timer.port old.server.held) _ d.from d.bytes old.events new.events acts _ refl
      (kept old.timer.port (at old.timer.port old.server.held) old.server new.server refl d.loses.keeps) d.events
  own_does requests now old new (A_late_datagram d) acts =
      loses old.timer.port requests (at old.timer.port old.server.held) _ d.from d.bytes old.events new.events acts _ refl
      (same_found _ _ (ap (λ (s : ServerState S F D). at old.timer.port s.held) d.server)) d.events
  own_does requests now old new (A_missed_timeout d) acts =
      Leaves (Elapsed old.timer.port now ∷ [])
      (inl (same_found _ _ (ap (λ (s : ServerState S F D). at old.timer.port s.held) d.server))) d.events
      (λ still. absurd (true≢false (sym still ∙ d.closed)))
  own_does requests now old new (Work d) acts =
      Leaves [] (inl (worked old.timer.port (at old.timer.port old.server.held) old.server new.server refl d.works.works))
      d.events (λ still. tt)
  own_does requests now old new does acts =
      Leaves (_ ∷ []) (inl (same_found _ _ (ap (λ (s : ServerState S F D). at old.timer.port s.held) (server_is does))))
      (trace_is does) (λ still. (tt, tt))

  -- what is noted there is no act of another
  answered_apart : (q port : ℕ) (e : SocketEvent) (reply : Option Reply) (before : List SocketEvent) → port ≢ q →
      IsNoActAt q e → (more : List SocketEvent) × (answered port reply (e ∷ before) ≡ more ++ before)
      × AllByRecursion (IsNoActAt q) more
  answered_apart q port e None before apart other = (e ∷ [], refl, (other, tt))
  answered_apart q port e (Some reply) before apart other =
      (Sent port reply.to reply.bytes ∷ e ∷ [], refl, (apart, (other, tt)))

  noted_apart : (q now : ℕ) (old new : PortState S F D) → PortStep stores sources now old new → old.timer.port ≢ q →
      (more : List SocketEvent) × (new.events ≡ more ++ old.events) × AllByRecursion (IsNoActAt q) more
  noted_apart q now old new (A_datagram d) apart =
      rw d.handles.events (answered_apart q old.timer.port (Received old.timer.port d.from d.bytes)
      d.handles.takes.takes.turn.reply old.events apart apart)
  noted_apart q now old new (A_timeout d) apart =
      rw d.times_out.events (answered_apart q old.timer.port (Elapsed old.timer.port now)
      (timeout_turn d.times_out.times_out.transfer.end).reply old.events apart apart)
  noted_apart q now old new (Work d) apart = ([], d.events, tt)
  noted_apart q now old new does apart = (_ ∷ [], trace_is does, (search (rules, apart), tt))

  port_does : (q requests now : ℕ) (old new : PortState S F D) (does : PortStep stores sources now old new)
      (acts : List Act) → DoesAt q requests (at q old.server.held) (at q new.server.held) old.events new.events acts
      (if old.timer.port == q then port_acts does acts else acts)
  port_does q requests now old new does acts = elim (cases_eq old.timer.port q) [
    | inl same ↦
        rw (eq-eqb old.timer.port q same, ← same) (own_does requests now old new does acts)
    | inr apart ↦
        let noted = noted_apart q now old new does apart in
        rw (ne_eqb old.timer.port q apart) (Leaves noted.0 (inl (same_found _ _
        ((stays_at stores sources now old new does).held.others q (λ same. apart (sym same))))) noted.1 (λ still. noted.2))
  ]

  -- ---- a transfer that opens
  may_agree : (agreed : List Known) → AreGranted agreed → MayAgree agreed
  may_agree agreed granted = record { sized = granted.small; oack = granted.oack }

  -- DATA 1 is no longer than a block without options
  read_begins : (agreed : List Known) (peer : Endpoint) (mode : Mode) (measured retries : ℕ) (piece : List ℕ)
      (e : EndState) → AreGranted agreed → measured < 65535 * size agreed → IsFirst agreed measured piece →
      e ≡ serving_read agreed peer mode measured retries piece → Begins e
  read_begins [] peer mode measured retries piece e granted fits first is =
      To_serve_read [] peer mode measured retries piece (may_agree [] granted) fits (omega (arith, first)) is
  read_begins (known ∷ others) peer mode measured retries piece e granted fits first is =
      To_serve_read (known ∷ others) peer mode measured retries [] (may_agree _ granted) fits (omega arith) is

  sends_there : (agreed : List Known) (peer : Endpoint) (mode : Mode) (measured retries : ℕ) (piece : List ℕ) →
      (serving_read agreed peer mode measured retries piece).position.last_sent_to ≡ peer
  sends_there agreed peer mode measured retries piece = search rules

  stores_there : (agreed : List Known) (peer : Endpoint) (mode : Mode) (retries : ℕ) →
      (serving_write agreed peer mode retries).position.last_sent_to ≡ peer
  stores_there agreed peer mode retries = search rules

  same_end : (transfer held : TransferState F D) (store other : S) →
      A_transfer transfer store ≡ A_transfer held other → transfer.end ≡ held.end
  same_end transfer held store other e = let same : transfer ≡ held = cc in ap (λ (t : TransferState F D). t.end) same

  -- it begins, and its first datagram goes to the endpoint that asked
  opened_begins : (old : ServerState S F D) (from : Endpoint) (bytes : List ℕ) (decoded : Option Packet)
      (repeated : Bool) (transfer : TransferState F D) (store : S) →
      PortAnswers stores sources old from bytes decoded repeated (A_transfer transfer store) →
      Begins transfer.end × (transfer.end.position.last_sent_to ≡ from)
  opened_begins old from bytes decoded repeated transfer store (Silent none why) = absurd (cc)
  opened_begins old from bytes decoded repeated transfer store (Says_error refused) = absurd (cc refused.is)
  opened_begins old from bytes decoded repeated transfer store (Begins_to_send path mode options asked o) =
      let is = same_end transfer _ store _ o.is in (
        read_begins o.agreed from mode o.measured old.config.retries o.piece transfer.end o.granted o.fits o.first is,
        ap (λ (e : EndState). e.position.last_sent_to) is ∙ sends_there o.agreed from mode o.measured _ o.piece,
      )
  opened_begins old from bytes decoded repeated transfer store (Begins_to_store path mode options asked o) =
      let is = same_end transfer _ store _ o.is in (
        To_serve_write o.agreed from mode old.config.retries (may_agree o.agreed o.granted) is,
        ap (λ (e : EndState). e.position.last_sent_to) is ∙ stores_there o.agreed from mode _,
      )

  came_does : (q tid : ℕ) (s : LoopState S F D) (from : Endpoint) (bytes : List ℕ) (decoded : Option Packet)
      (repeated : Bool) (came : Came S F D) → PortAnswers stores sources s.server from bytes decoded repeated came →
      IfSome (left_by came s.server from tid).opened.tid (λ port. port ≢ s.requests) →
      (is_open (at q s.server.held) ≡ true → q ≢ s.requests) → (acts : List Act) →
      DoesAt q s.requests (at q s.server.held) (at q (left_by came s.server from tid).new.held) s.events
      (after_request s from (left_by came s.server from tid)).events acts (first_act (came_if (tid == q) came) acts)
  came_does q tid s from bytes decoded repeated Nothing answers own apart acts =
      Leaves [] (inl (same_self (at q s.server.held))) refl (λ still. tt)
  came_does q tid s from bytes decoded repeated (Error_reply reply store) answers own apart acts =
      Leaves (_ ∷ []) (inl (same_self (at q s.server.held))) refl (λ still. ((λ same. apart still (sym same)), tt))
  came_does q tid s from bytes decoded repeated (A_transfer transfer store) answers own apart acts =
      elim (cases_eq tid q) [
        | inl same ↦
            let opens = opened_begins s.server from bytes decoded repeated transfer store answers in
            rw (eq-eqb tid q same, ← same) (Opens_there transfer (lookup-insert_same numbers tid transfer s.server.held)
            own opens.0 (rw opens.1))
        | inr other ↦
            rw (ne_eqb tid q other) (Leaves (Sent tid from transfer.end.position.last_sent ∷ []) (inl (same_found _ _
            (lookup-insert_other numbers tid q transfer s.server.held (λ same. other (sym same))))) refl
            (λ still. (other, tt)))
      ]

  -- ---- each step
  does_at : (q : ℕ) {start old new : LoopState S F D} (run : Run (LoopStep stores sources) start old)
      (does : LoopStep stores sources old new) → IsBlockSize old.server.config.limits.max_block →
      AreKeyedOnce old.server.held → (is_open (at q old.server.held) ≡ true → q ≢ old.requests) →
      DoesAt q old.requests (at q old.server.held) (at q new.server.held) old.events new.events (acts_at q run)
      (acts_at q (Then run does))
  does_at q {old = old} run (At_port d) max once apart =
      rw d.is (port_does q old.requests old.now (port_state old d.timer) d.next d.does (acts_at q run))
  does_at q {old = old} run (Request_answered d) max once apart =
      rw (d.is, d.steps.left) (came_does q d.tid old d.from d.bytes d.steps.decoded d.steps.repeated d.steps.came
      (port_answers stores sources old.server d.from d.bytes max d.tid d.left d.steps) (rw d.steps.left at d.own) apart
      (acts_at q run))
  does_at q {old = old} run (Transfer_closed d) max once apart = rw d.is (Leaves (_ ∷ []) (gone (cases_eq q d.timer.port)) refl (λ still. (tt, tt))) where
    gone : (q ≡ d.timer.port) ⊎ (q ≢ d.timer.port) →
        HaveSameEnd (at q old.server.held) (at q (without d.timer.port old.server.held))
        ⊎ (at q (without d.timer.port old.server.held) ≡ None)
    gone (inl same) =
        inr (rw same (at-without d.timer.port old.server.held once
        (was_there (at d.timer.port old.server.held) d.taken d.is_taken)))
    gone (inr other) = inl (same_found _ _ (lookup-remove_other numbers d.timer.port q old.server.held other))
  does_at q {old = old} run (Waited d) max once apart =
      rw d.is (Leaves (_ ∷ _ ∷ _ ∷ []) (inl (same_self (at q old.server.held))) refl (λ still. (tt, (tt, (tt, tt)))))
  does_at q {old = old} run (Request_lost d) max once apart =
      rw d.is (Leaves [] (inl (same_self (at q old.server.held))) refl (λ still. tt))
  does_at q {old = old} run (Store_set d) max once apart =
      rw d.is (Leaves [] (inl (same_self (at q old.server.held))) refl (λ still. tt))
  does_at q {old = old} run does max once apart =
      let beside : is_open (at q old.server.held) ≡ true → old.requests ≢ q = λ still same. apart still (sym same) in
      rw (state_is does)
      (Leaves (_ ∷ []) (inl (same_self (at q old.server.held))) refl (λ still. (search (rules, beside still), tt)))

  -- ---- along a run
  -- the configuration and the request port never change
  step_config : {old new : LoopState S F D} → LoopStep stores sources old new →
      (new.server.config ≡ old.server.config) × (new.requests ≡ old.requests)
  step_config h0 = search rules

  module _ {start : LoopState S F D} where
    pub run_config : {now : LoopState S F D} → Run (LoopStep stores sources) start now →
        now.server.config ≡ start.server.config
    run_config Start = refl
    run_config (Then run does) = (step_config does).0 ∙ run_config run

  module _ {q requests : ℕ} {was now : Option (TransferState F D)} {before after : List SocketEvent} {acts : List Act}
    where
      -- one that is open was open before, or opens at another port than that of the requests
      pub open_before : {more : List Act} → DoesAt q requests was now before after acts more → is_open now ≡ true →
          (is_open was ≡ true) ⊎ (q ≢ requests)
      open_before h0 still = search std_rules

      lives_after : {more : List Act} → DoesAt q requests was now before after acts more →
          ((transfer : TransferState F D) → was ≡ Some transfer → Lives acts transfer) → (next : TransferState F D) →
          now ≡ Some next → Lives more next
      lives_after (Leaves noted (inl same) is others) h next there = by_end was now same h there where
        by_end : (o other : Option (TransferState F D)) → HaveSameEnd o other →
            ((transfer : TransferState F D) → o ≡ Some transfer → Lives acts transfer) → other ≡ Some next → Lives acts next
        by_end (Some t) (Some u) one lives there =
            lives_on (lives t refl) (lives t refl).life (ap (λ (v : TransferState F D). v.end) (sym (same_Some u next there)) ∙ one)
        by_end None None one lives there = absurd (cc)
        by_end None (Some u) one lives there = absurd one
        by_end (Some t) None one lives there = absurd one
      lives_after (Leaves noted (inr none) is others) h next there = absurd (cc)
      lives_after (Acts transfer other e act reply found opened is_now event is lives) h next there =
          rw (same_Some next other (sym there ∙ is_now)) (lives (h transfer found))
      lives_after (Opens_there transfer is_now apart begins is) h next there =
          rw (same_Some next transfer (sym there ∙ is_now)) (record { first = transfer.end; begins = begins; life = Opens })

  -- what holds of a port without a transfer, and still does after what a step does there, holds along a run
  module _ {start : LoopState S F D} (none : start.server.held ≡ []) (max : IsBlockSize start.server.config.limits.max_block)
      (q : ℕ) (P : Option (TransferState F D) → List SocketEvent → List Act → Type 0) (first : P None start.events [])
      (step : (requests : ℕ) (was now : Option (TransferState F D)) (before after : List SocketEvent) (acts more : List Act) →
      DoesAt q requests was now before after acts more → P was before acts → P now after more) where
    record IsSoAt {now : LoopState S F D} (run : Run (LoopStep stores sources) start now) : Type 0 where
      apart : is_open (at q now.server.held) ≡ true → q ≢ now.requests
      holds : P (at q now.server.held) now.events (acts_at q run)

    so_at : {now : LoopState S F D} (run : Run (LoopStep stores sources) start now) → IsSoAt run
    so_at Start = search std_rules
    so_at (Then run does) =
        let h = so_at run in
        let d = does_at q run does (rw (run_config run) max) (keyed_once _ _ run none) h.apart in
        search (std_rules, step_config, open_before)

    pub along : {now : LoopState S F D} (run : Run (LoopStep stores sources) start now) →
        P (at q now.server.held) now.events (acts_at q run)
    along run = (so_at run).holds

  -- so each transfer lives that is held at some time of a run
  pub transfers_live : {start now : LoopState S F D} (run : Run (LoopStep stores sources) start now) →
      start.server.held ≡ [] → IsBlockSize start.server.config.limits.max_block → (port : ℕ)
      (transfer : TransferState F D) → at port now.server.held ≡ Some transfer →
      IsLiving stores sources (acts_at port run) transfer
  transfers_live run none max port transfer there =
      along none max port (λ o events acts. (t : TransferState F D) → o ≡ Some t → Lives acts t) (λ t e. absurd (cc))
      (λ requests was now before after acts more. lives_after) run transfer there
