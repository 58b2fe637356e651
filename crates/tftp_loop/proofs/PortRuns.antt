-- What happens at the port of a transfer, call by call. For `PortVisit::answer`, `PortVisit::take_datagrams`,
-- `PortVisit::time_out_if_due` and LoopRuns.
use Rattle.std.proofs.Common.{rules}
use Rattle.tftp_loop.proofs.Common.{◌≡◌, ◌≤◌, ◌<◌, ◌⊎◌, ℕ, true, false, List, ◌∷◌, Option, Some, None, inl, inr, refl}
use Rattle.tftp_loop.proofs.Common.{ap, SourceMeaning, Endpoint, Step, StoreMeaning, ServerState, at, SocketEvent}
use Rattle.tftp_loop.proofs.Common.{Received, Elapsed, Quiet, Empty, Failed, was_tried, Run, Then, Timer, PortState}
use Rattle.tftp_loop.proofs.Common.{PortStep, WorksAtPort, marked_as, most_in_round, restarted, timer_after, A_datagram}
use Rattle.tftp_loop.proofs.Common.{Work}
use Rattle.std.specs.Prelude.{MatchOption}
use Rattle.tftp_server.specs.State.{is_open}
use Rattle.tftp_loop.specs.Steps.{AnswersDatagram, LosesDatagram}
use Rattle.tftp_loop.specs.Steps.{AnswersTimeout, sends_again}
use Rattle.tftp_loop.proofs.RunLemmas.{once, idle, onward}

module _ {S F D : Type 0} (meaning : StoreMeaning S D) (sources : SourceMeaning F) (now : ℕ) where
  -- the state at a port of these parts
  abbrev pub here : ServerState S F D → Timer → List SocketEvent → PortState S F D
  here server timer events = record { server = server; timer = timer; events = events }

  abbrev Runs : PortState S F D → PortState S F D → Type 0
  Runs = Run (PortStep meaning sources now)

  -- nothing was received
  pub finds_nothing : (server : ServerState S F D) (timer timer' : Timer) (es es' : List SocketEvent) →
      es' ≡ Quiet (Empty timer.port) ∷ es → timer' ≡ marked_as false timer
      → Runs (here server timer es) (here server timer' es')
  finds_nothing server timer timer' es es' noted timed = search (rules, once)

  -- a receive failed
  pub fails_to_receive : (server : ServerState S F D) (timer timer' : Timer) (es es' : List SocketEvent) →
      es' ≡ Quiet (Failed timer.port) ∷ es → timer' ≡ marked_as true timer
      → Runs (here server timer es) (here server timer' es')
  fails_to_receive server timer timer' es es' noted timed = search (rules, once)

  -- a datagram was received, handled and answered
  pub receives : (old new : ServerState S F D) (timer timer' : Timer) (es before es' : List SocketEvent) (from : Endpoint)
      (bytes : List ℕ) (step : Step)
      → now ≤ timer.age_limit → timer.received < most_in_round → before ≡ Received timer.port from bytes ∷ es →
      AnswersDatagram meaning sources timer.port from bytes old new before es' step
      → timer' ≡ timer_after now step.progress timer → Runs (here old timer es) (here new timer' es')
  receives old new timer timer' es before es' from bytes step in_time few noted handles timed =
      once (A_datagram (record {
        few = few;
        in_time = in_time;
        from = from;
        bytes = bytes;
        step = step;
        handles = rw noted at handles;
        timer = timed;
      }))

  -- a datagram was received and lost
  pub receives_lost : (old new : ServerState S F D) (timer timer' : Timer) (es before es' : List SocketEvent)
      (from : Endpoint) (bytes : List ℕ)
      → now ≤ timer.age_limit → timer.received < most_in_round → before ≡ Received timer.port from bytes ∷ es → LosesDatagram meaning sources timer.port from bytes old new →
      es' ≡ before → timer' ≡ timer_after now false timer
      → Runs (here old timer es) (here new timer' es')
  receives_lost old new timer timer' es before es' from bytes in_time few noted loses same timed =
      search (rules, once)

  -- a datagram was received too late, and dropped
  pub receives_late : (server : ServerState S F D) (timer timer' : Timer) (es before : List SocketEvent) (from : Endpoint)
      (bytes : List ℕ) → timer.age_limit < now → timer.received < most_in_round
      → before ≡ Received timer.port from bytes ∷ es → timer' ≡ timer_after now false timer
      → Runs (here server timer es) (here server timer' before)
  receives_late server timer timer' es before from bytes late few noted timed = search (rules, once)

  -- the file of the transfer worked, or did not
  pub then_works : (start : PortState S F D) (old new : ServerState S F D) (timer : Timer) (es : List SocketEvent) (tid : ℕ)
      → Runs start (here old timer es) → tid ≡ timer.port → (new ≡ old) ⊎ WorksAtPort meaning sources tid old new →
      Runs start (here new timer es)
  then_works start old new timer es tid r same (inl e) =
      onward r (idle (ap (λ (s : ServerState S F D). here s timer es) e))
  then_works start old new timer es tid r same (inr w) =
      Then r (Work (record { works = rw same at w; timer = refl; events = refl }))

  -- a due timeout was delivered, whether or not a transfer is open
  pub elapses_either : (old new : ServerState S F D) (timer timer' : Timer) (es before es' : List SocketEvent) (tid : ℕ)
      (made : Option Step) (port : ℕ)
      → timer.deadline ≤ now → was_tried timer.port es ≡ true → timer.look_at ≡ timer.deadline
      → before ≡ Elapsed tid now ∷ es → tid ≡ timer.port → port ≡ timer.port
      → MatchOption made ((is_open (at port old.held) ≡ false) × (new ≡ old) × (es' ≡ before))
      (λ step. AnswersTimeout port old new before es' step)
      → timer' ≡ restarted now (sends_again made) timer → Runs (here old timer es) (here new timer' es')
  elapses_either old new timer timer' es before es' tid None port due tried looked noted same here_too steps timed =
      search (rules, once, at)
  elapses_either old new timer timer' es before es' tid
      (Some step) port due tried looked noted same here_too steps timed = search (rules, once, at)
