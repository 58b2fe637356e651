-- What a client notes, step by step.
use Rattle.std.proofs.Common.{rules as std_rules}
use Rattle.tftp_promises.proofs.Common.{List, ℕ, ◌≡◌, rules, sym, Endpoint, refl, ◌∙◌, ap, SourceMeaning, Some, inl}
use Rattle.tftp_promises.proofs.Common.{inr, ◌∷◌, SinkMeaning, false, None, ◌++◌, EndState, ◌⊎◌, Contains, Files}
use Rattle.tftp_promises.proofs.Common.{SocketEvent, Option, arith, Sent, outcome_of, Received, State, Reply}
use Rattle.tftp_promises.proofs.Common.{Receives_one, append_cancel_right, Outcome, ClientDoes, Watched, Quiet, Act}
use Rattle.tftp_promises.proofs.Common.{answered, Answers, ClientOpens, common_steps, Waits_until, Goes_on, ClientRun}
use Rattle.tftp_promises.proofs.Common.{Starts, begun, Times_out, acts_in, HandlesReceived, Loses, is_some, To_read}
use Rattle.tftp_promises.proofs.Common.{Took, File_works, Said, ClientProgram, Elapses, To_write, Lost, Timed}
use Rattle.tftp_promises.proofs.Common.{AllByRecursion, Slept, MayElapse, Stays, with_reply, Backoff, IsSome, IsOpen}
use Rattle.tftp_promises.proofs.Common.{newest, Life, IsNoActAt, IsEventOf, Begins_so, Tells, wait_at, Begins, Times}
use Rattle.tftp_promises.proofs.Common.{Opens, Hears, Empty, Sends, AreNoted, QuietEvent, []}
use Rattle.tftp_sockets.specs.Trace.QuietEvent.{Failed}
use Rattle.tftp_lives.specs.Lives.{Loses as Loses_it}
use Rattle.tftp_lives.specs.Unanswered.{To_get, To_put}
use Rattle.tftp_promises.specs.Lived.{Elapses_then, Passes, Receives, Misses, client_acts, elapsing_acts, handling_acts}
use Rattle.tftp_promises.specs.Traces.{IsOfPort, IsQuietAt, AsksFirst}

-- ---- a trace that goes on
module _ (port : ℕ) (before : List SocketEvent) where
  abbrev pub Noted : List SocketEvent → List Act → Type 0
  Noted events acts = AreNoted port before events acts

  -- by an event that is no act
  pub noted_on : (events : List SocketEvent) (acts : List Act) (e : SocketEvent) → IsNoActAt port e → Noted events acts →
      Noted (e ∷ events) acts
  noted_on events acts e other h =
      search (e ∷ h.noted, ap (λ (es : List SocketEvent). e ∷ es) h.is, Passes e other h.tells)

  -- by an act
  act_told : {events : List SocketEvent} {acts : List Act} (e : SocketEvent) (act : Act) → IsEventOf port e act →
      Tells port events acts → Tells port (e ∷ events) (act ∷ acts)
  act_told e (Took from bytes) is t = rw is (Receives from bytes t)
  act_told e (Lost from bytes) is t = rw is (Misses from bytes t)
  act_told e (Said to bytes) is t = rw is (Sends to bytes t)
  act_told e Timed is t = rw is.1 (Elapses_then is.0 t)

  pub noted_act : (events : List SocketEvent) (acts : List Act) (e : SocketEvent) (act : Act) → IsEventOf port e act →
      Noted events acts → Noted (e ∷ events) (act ∷ acts)
  noted_act events acts e act is h = search (rules, act_told)

  pub noted_reply : (events : List SocketEvent) (acts : List Act) (reply : Option Reply) → Noted events acts →
      Noted (answered port reply events) (with_reply reply acts)
  noted_reply events acts reply h = search (rules, noted_act)

-- ---- along a run of a client
-- a receive at the port without a datagram
at_port : (port : ℕ) (event : QuietEvent) → (event ≡ Empty port) ⊎ (event ≡ Failed port) → IsQuietAt port event
at_port port event which = search rules

-- what events of the port that are no acts keep, and acts of it, a run keeps
module _ {port : ℕ} (P : List SocketEvent → List Act → Type 0)
    (also : (events : List SocketEvent) (acts : List Act) (e : SocketEvent) → IsOfPort port e → IsNoActAt port e →
    P events acts → P (e ∷ events) acts)
    (acted : (events : List SocketEvent) (acts : List Act) (e : SocketEvent) (act : Act) → IsOfPort port e →
    IsEventOf port e act → P events acts → P (e ∷ events) (act ∷ acts)) where
  replied : (events : List SocketEvent) (acts : List Act) (reply : Option Reply) → P events acts →
      P (answered port reply events) (with_reply reply acts)
  replied events acts reply h = search std_rules

  elapsed_so : {s next : State} (acts : List Act) (elapses : MayElapse port s next) → P s.events acts →
      P next.events (elapsing_acts elapses acts)
  elapsed_so acts (Stays why) h = h
  elapsed_so {s} acts (Elapses due still) h = search std_rules

  module _ {G K : Type 0} {inputs : SourceMeaning G} {outputs : SinkMeaning K} where
    handled_so : {from : Endpoint} {bytes : List ℕ} {s next : State} {files files' : Files G K} (acts : List Act)
        (handles : HandlesReceived inputs outputs port from bytes s files next files') →
        P s.events (Took from bytes ∷ acts) → P s.events (Lost from bytes ∷ acts) →
        P next.events (handling_acts handles acts)
    handled_so {from} {bytes} {s} acts (Answers {turn} still step) took lost =
        replied s.events (Took from bytes ∷ acts) turn.reply took
    handled_so acts (Loses why keeps) took lost = lost

    does_so : {s s' : State} {files files' : Files G K} (acts : List Act)
        (does : ClientDoes inputs outputs port s files s' files') → P s.events acts → P s'.events (client_acts does acts)
    does_so {s} acts (Receives_one {from = from} {bytes = bytes} {watch = watch} may later handles) h =
        let slept = also s.events acts (Quiet (Slept (wait_at s))) tt tt h in
        handled_so acts handles
        (also _ _ (Watched watch) tt tt (acted _ acts (Received port from bytes) (Took from bytes) refl refl slept))
        (also _ _ (Watched watch) tt tt (acted _ acts (Received port from bytes) (Lost from bytes) refl refl slept))
    does_so {s} acts (Waits_until {event = event} {watch = watch} may which later) h =
        also _ acts (Watched watch) tt tt (also _ acts (Quiet event) (at_port port event which) tt
        (also s.events acts (Quiet (Slept (wait_at s))) tt tt h))
    does_so acts (Times_out elapses) h = elapsed_so acts elapses h
    does_so acts (File_works works) h = h
    does_so {s} acts does h = also s.events acts _ tt tt h

    run_so : {first : State} {file : Files G K} {s : State} {files : Files G K}
        (run : ClientRun inputs outputs port first file s files) → P first.events (newest first.end ∷ []) →
        P s.events (acts_in run)
    run_so Starts h = h
    run_so (Goes_on run does) h = does_so (acts_in run) does (run_so run h)

-- the events since `first` are of this port
abbrev pub Since : ℕ → List SocketEvent → List SocketEvent → Type 0
Since port first events = (more : List SocketEvent) × (events ≡ more ++ first) × AllByRecursion (IsOfPort port) more

one_more : {port : ℕ} {first events : List SocketEvent} (e : SocketEvent) → IsOfPort port e → Since port first events →
    Since port first (e ∷ events)
one_more e own since = (e ∷ since.0, ap (λ (es : List SocketEvent). e ∷ es) since.1, (own, since.2))

module _ {G K : Type 0} {inputs : SourceMeaning G} {outputs : SinkMeaning K} where
  pub converse : {port : ℕ} {first : State} {file : Files G K} {s : State} {files : Files G K} →
      ClientRun inputs outputs port first file s files → Since port first.events s.events
  converse {port} {first} run =
      run_so (λ events acts. Since port first.events events) (λ events acts e own other. one_more e own)
      (λ events acts e act own is. one_more e own) run ([], refl, tt)

  -- the trace of a client tells of what it did
  pub client_noted : (before : List SocketEvent) {port : ℕ} {backoff : Backoff} {reading : ℕ} {end : EndState}
      {file : Files G K} {s : State} {files : Files G K}
      (run : ClientRun inputs outputs port (begun backoff port reading end before) file s files) →
      AreNoted port before s.events (acts_in run)
  client_noted before {port} {end = end} run =
      run_so _ (λ events acts e own. noted_on port before events acts e) (λ events acts e act own. noted_act port before
      events acts e act) run (noted_act _ before _ _ _ _ refl (record { noted = []; is = refl; tells = Begins_so }))

  -- the request goes to the server
  pub asks_there : {to : Endpoint} {first : EndState} {file : Files G K} → ClientOpens inputs outputs to first file →
      first.position.last_sent_to ≡ to
  asks_there h0 = search rules

  pub asks_first : (to : Endpoint) (client : ClientProgram inputs outputs to) → AsksFirst client
  asks_first to client =
      let since = converse client.runs in
      let request = client.first.position.last_sent in
      let asked : Endpoint → List SocketEvent = λ a. Sent client.port a request ∷ [] in
      let there = asks_there client.opens in
      let all : client.noted ++ client.before ≡ (since.0 ++ asked client.first.position.last_sent_to) ++ client.before =
      grind (arith, common_steps) in
      let noted =
      append_cancel_right client.noted (since.0 ++ asked client.first.position.last_sent_to) client.before all in
      record { more = since.0; is = noted ∙ ap (λ (a : Endpoint). since.0 ++ asked a) there; own = since.2 }

  -- a client notes events of its own port only
  module _ {to : Endpoint} (client : ClientProgram inputs outputs to) where
    own_event : (e : SocketEvent) → Contains client.noted e →
        IsOfPort client.port e ⊎ (Sent client.port to client.first.position.last_sent ≡ e)
    own_event e h =
        let asks = asks_first to client in
        grind (arith, common_steps)

    pub sent_own : (port : ℕ) (a : Endpoint) (bytes : List ℕ) → Contains client.noted (Sent port a bytes) →
        port ≡ client.port
    sent_own port a bytes h = elim (own_event (Sent port a bytes) h) [
      | inl own ↦ own
      | inr request ↦ cc
    ]

    pub received_own : (port : ℕ) (from : Endpoint) (bytes : List ℕ) →
        Contains client.noted (Received port from bytes) → port ≡ client.port
    received_own port from bytes h = elim (own_event (Received port from bytes) h) [
      | inl own ↦ own
      | inr request ↦ absurd (no_request to client.first.position.last_sent request)
    ] where
      no_request : (a : Endpoint) (b : List ℕ) → Sent client.port a b ≡ Received port from bytes → ⊥
      no_request a b e = cc

-- The end of a client keeps its role.

module _ {G K : Type 0} {inputs : SourceMeaning G} {outputs : SinkMeaning K} {port : ℕ} where
  step_role : {s s' : State} {files files' : Files G K} → ClientDoes inputs outputs port s files s' files' →
      s'.end.role ≡ s.end.role
  step_role h0 = search rules

  pub run_role : {first : State} {file : Files G K} {s : State} {files : Files G K} →
      ClientRun inputs outputs port first file s files → s.end.role ≡ first.end.role
  run_role Starts = refl
  run_role (Goes_on run does) = step_role does ∙ run_role run

-- The run of a client is a life of its end.

-- an end that is not closed is open
is_open : (o : Option Outcome) → (IsSome o → ⊥) → is_some o ≡ false
is_open None h = refl
is_open (Some outcome) h = absurd (h refl)

module _ {G K : Type 0} {inputs : SourceMeaning G} {outputs : SinkMeaning K} {port : ℕ} where
  handling_lives : {from : Endpoint} {bytes : List ℕ} {s next : State} {files files' : Files G K} {first : EndState}
      (acts : List Act) (handles : HandlesReceived inputs outputs port from bytes s files next files') →
      IsOpen s.end → Life inputs outputs first acts s.end →
      Life inputs outputs first (handling_acts handles acts) next.end
  handling_lives {from = from} {bytes = bytes} {s = s} acts (Answers still step) opened life =
      Hears life (is_open (outcome_of s.end.position.phase) still) from bytes step
  handling_lives {from = from} {bytes = bytes} {s = s} acts (Loses lost keeps) opened life =
      Loses_it life (is_open (outcome_of s.end.position.phase) opened) from bytes

  elapsing_lives : {s next : State} {first : EndState} (acts : List Act) (elapses : MayElapse port s next) →
      Life inputs outputs first acts s.end → Life inputs outputs first (elapsing_acts elapses acts) next.end
  elapsing_lives acts (Stays why) life = life
  elapsing_lives {s = s} acts (Elapses due still) life =
      Times life (is_open (outcome_of s.end.position.phase) still)

  does_live : {s s' : State} {files files' : Files G K} {first : EndState} (acts : List Act)
      (does : ClientDoes inputs outputs port s files s' files') → Life inputs outputs first acts s.end →
      Life inputs outputs first (client_acts does acts) s'.end
  does_live acts (Receives_one may later handles) life = handling_lives acts handles may.not_closed life
  does_live acts (Times_out elapses) life = elapsing_lives acts elapses life
  does_live acts does life = life

  -- so it is
  pub client_lives : {first : State} {file : Files G K} {s : State} {files : Files G K}
      (run : ClientRun inputs outputs port first file s files) → Life inputs outputs first.end (acts_in run) s.end
  client_lives Starts = Opens
  client_lives (Goes_on run does) = does_live (acts_in run) does (client_lives run)

-- a client's end opens
pub client_opening : {G K : Type 0} {inputs : SourceMeaning G} {outputs : SinkMeaning K} {to : Endpoint}
    {first : EndState} {file : Files G K} → ClientOpens inputs outputs to first file → Begins first
client_opening {to = to} (To_read opens) =
    To_get to opens.name opens.mode opens.asked opens.limit opens.retries opens.may.options.askable opens.is
client_opening {to = to} (To_write opens) =
    To_put to opens.name opens.mode opens.asked opens.length opens.limit opens.retries opens.may.options.askable
    opens.is

-- so what it did is just what its program noted
pub client_tells : {G K : Type 0} {inputs : SourceMeaning G} {outputs : SinkMeaning K} {to : Endpoint}
    (client : ClientProgram inputs outputs to) → Tells client.port client.noted (acts_in client.runs)
client_tells client =
    let h = client_noted client.before client.runs in
    rw (append_cancel_right client.noted h.noted client.before (sym client.is_noted ∙ h.is)) h.tells
