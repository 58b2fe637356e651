-- A server sends to an endpoint at most one datagram more than its retries for each that it received from there.
-- For the law a_server_reflects_few.
use Rattle.std.proofs.Common.{rules, arith as std_arith}
use Rattle.std.proofs.lemmas.Grind.{common_steps}
use Rattle.tftp_loop.proofs.Common.{arith, ◌≡◌, ◌≤◌, ◌+◌, ◌*◌, ◌-◌, ℕ, Bool, true, false, List, [], ◌∷◌, Option}
use Rattle.tftp_loop.proofs.Common.{Position, Some, None, refl, sym, ap, subst, ◌∙◌, if◌then◌else◌, All, is_at}
use Rattle.tftp_loop.proofs.Common.{values_of, nat_cmp, SinkMeaning, SourceMeaning, Files, EndState, DatagramStep}
use Rattle.tftp_loop.proofs.Common.{Reply, Turn, after_turn, response_turn, timeout_turn, Response, Endpoint, Outcome}
use Rattle.tftp_loop.proofs.Common.{Phase, StoreMeaning, Came, Nothing, Error_reply, A_transfer, left_by, TransferState}
use Rattle.tftp_loop.proofs.Common.{ServerState, at, with_next, KeepsHeld, with_end, WorksAt, Ask, Config, SocketEvent}
use Rattle.tftp_loop.proofs.Common.{answered, Received, Elapsed, Run, Start, Then, PortState, LoopState, PortStep}
use Rattle.tftp_loop.proofs.Common.{LoopStep, after_request, port_state, A_datagram, A_lost_datagram, A_timeout, Work}
use Rattle.tftp_loop.proofs.Common.{At_port, Request_received, Request_answered, Transfer_closed}
use Rattle.std.proofs.lemmas.List.Sums.{sum_by-cons}
use Rattle.std.proofs.lemmas.Map.Entries.{sum_by-remove_entry, sum_by-set_value}
use Rattle.std.specs.BTreeMap.{insert_entry}
use Rattle.std.specs.List.{sum_by}
use Rattle.tftp_ends.specs.Action.{same_endpoint, timeout_response}
use Rattle.tftp_loop.specs.Reflected.{ReflectsFew, received_from, sent_to}
use Rattle.tftp_loop.proofs.AnsweringEnds.{AnswersOne, IsAt, NoBlock, SendsTo, To_other, To_peer, datagram_answers}
use Rattle.tftp_loop.proofs.AnsweringEnds.{timeout_answers}
use Rattle.tftp_loop.proofs.EndSteps.{datagram_moves, timeout_spends}
use Rattle.tftp_loop.proofs.HeldLemmas.{held_at, held_new, held_next, held_without}
use Rattle.tftp_loop.proofs.OpenedEnds.{Any, AnySize, OpensIn, opens_begins, opens_for}
use Rattle.tftp_loop.proofs.PortEnds.{HasLimit, limit_moves, same_config}
use Rattle.tftp_loop.proofs.NewStates.{answer_is, answered_same, state_is, trace_is, server_is}
use Rattle.tftp_ends.specs.declared.outcome.Outcome.TheVariants as outcomes

-- ---- the sum over a table
-- with one more
insert_sum : {T : Type 0} (weight : T → ℕ) (held : List (ℕ × T)) (k : ℕ) (v : T)
    → sum_by weight (values_of (insert_entry nat_cmp held k v)) ≤ sum_by weight (values_of held) + weight v
insert_sum weight [] k v = omega (arith, sum_by-cons weight v [])
insert_sum {T} weight (e ∷ held) k v =
    grind (std_arith, common_steps, nat_cmp, values_of, sum_by-cons, insert_sum weight held k v)

-- ---- at an end
-- the end of a server with so many retries
pub record IsServing (retries : ℕ) (e : EndState) : Type 0 where
  pub limit : HasLimit retries e
  pub at : IsAt AnySize Any e.position.last_sent_to e.position

-- one, if it is this endpoint
abbrev one_to : Endpoint → Endpoint → ℕ
one_to peer to = if same_endpoint peer to then 1 else 0

-- how many datagrams may yet be sent to the endpoint though none comes
abbrev owed : Endpoint → EndState → ℕ
owed peer e = if same_endpoint peer e.position.last_sent_to then e.position.retries_left else 0

-- how many datagrams this answer is, to the endpoint
abbrev answer_to : Endpoint → Option Reply → ℕ
answer_to peer None = 0
answer_to peer (Some reply) = one_to peer reply.to

answer_once : (IsGiven : List ℕ → Type 0) (peer from : Endpoint) (reply : Option Reply) → SendsTo IsGiven from reply
    → answer_to peer reply ≤ one_to peer from
answer_once IsGiven peer from reply sends = search rules

left_counts : (b : Bool) (retries left : ℕ) → left ≤ retries
    → (if b then left else 0) ≤ retries * (if b then 1 else 0)
left_counts true retries left h = omega (arith, h)
left_counts false retries left h = omega arith

-- an end handled a datagram: it serves still, and what is sent and may yet be sent is counted
pub record Spends (retries : ℕ) (from : Endpoint) (e e' : EndState) (reply : Option Reply) : Type 0 where
  pub serves : IsServing retries e'
  pub costs : (peer : Endpoint)
      → answer_to peer reply + owed peer e' ≤ owed peer e + (1 + retries) * one_to peer from

at_own : {from : Endpoint} {position : Position} → IsAt AnySize Any from position
    → IsAt AnySize Any position.last_sent_to position
at_own {position = position} at = subst (λ (p : Endpoint). IsAt AnySize Any p position) (sym at.to) at

one_spends : {retries : ℕ} {from : Endpoint} {e : EndState} {turn : Turn} → IsServing retries e
    → HasLimit retries (after_turn e turn) → AnswersOne AnySize Any from e turn
    → Spends retries from e (after_turn e turn) turn.reply
one_spends {retries} {from} {e} {turn} serving limit (To_other same sends) =
    let stays : after_turn e turn ≡ e = ap (λ p. record e { position = p }) same in
    record {
      serves = rw stays serving;
      costs = λ peer. omega (arith, ap (owed peer) stays, answer_once NoBlock peer from turn.reply sends);
    }
one_spends {retries} {from} {e} {turn} serving limit (To_peer is answers) = record {
  serves = record { limit = limit; at = at_own answers.position };
  costs = search rules;
}

datagram_spends : {S K : Type 0} {sources : SourceMeaning S} {sinks : SinkMeaning K} {retries : ℕ} {from : Endpoint}
    {bytes : List ℕ} {e : EndState} {turn : Turn} {files files' : Files S K} → IsServing retries e
    → DatagramStep sources sinks from bytes e files turn files' → Spends retries from e (after_turn e turn) turn.reply
datagram_spends {retries = retries} {e = e} {turn = turn} serving steps =
    search (rules, one_spends, limit_moves, after_turn, datagram_moves, datagram_answers)

module _ (peer : Endpoint) (e : EndState) where
  -- what a response at a timeout sends was owed
  abbrev Costs : Response → Type 0
  Costs response =
      let turn = response_turn response e.position.last_sent_to e in
      answer_to peer turn.reply + owed peer (after_turn e turn) ≤ owed peer e

  timeout_costs : (phase : Phase) → Costs (timeout_response e.position.retries_left phase)
  timeout_costs phase = search rules

timeout_serves : (retries : ℕ) (e : EndState) → IsServing retries e → IsServing retries (after_turn e (timeout_turn e))
timeout_serves retries e serving = assumption (
  limit_moves retries e (after_turn e (timeout_turn e)) refl
      (timeout_spends e).moves serving.limit,
  at_own (timeout_answers AnySize Any e serving.at).position,
)

-- ---- at the port of a transfer
module _ {S F D : Type 0} (meaning : StoreMeaning S D) (sources : SourceMeaning F) (retries : ℕ) where
  abbrev Serves : TransferState F D → Type 0
  Serves transfer = IsServing retries transfer.end

  abbrev AllServe : List (ℕ × TransferState F D) → Type 0
  AllServe held = All Serves (values_of held)

  -- what may yet be sent to the endpoint by these transfers, though nothing comes
  abbrev owed_by : Endpoint → List (ℕ × TransferState F D) → ℕ
  owed_by peer held = sum_by (λ (transfer : TransferState F D). owed peer transfer.end) (values_of held)

  -- what may be sent to the endpoint for what came from there
  abbrev allowed : Endpoint → List SocketEvent → ℕ
  allowed peer events = (1 + retries) * received_from peer events

  -- the transfers serve still, and what was sent, and may yet be sent, rises by no more than what is allowed
  record Fair (held : List (ℕ × TransferState F D)) (before : List SocketEvent)
      (held' : List (ℕ × TransferState F D)) (after : List SocketEvent) : Type 0 where
    serve : AllServe held'
    balance : (peer : Endpoint) → sent_to peer after + owed_by peer held' + allowed peer before
        ≤ sent_to peer before + owed_by peer held + allowed peer after

  -- the end of one changed
  fair_next : (port : ℕ) (held held' : List (ℕ × TransferState F D)) (before noted after : List SocketEvent)
      (transfer next : TransferState F D) (reply : Option Reply)
      → at port held ≡ Some transfer → held' ≡ with_next port next held → AllServe held → Serves next
      → after ≡ answered port reply noted → ((peer : Endpoint) → sent_to peer noted ≡ sent_to peer before)
      → ((peer : Endpoint) → answer_to peer reply + owed peer next.end + allowed peer before
      ≤ owed peer transfer.end + allowed peer noted)
      → Fair held before held' after
  fair_next port held held' before noted after transfer next reply found is serve own answers quiet costs = record {
    serve = held_next Serves port held held' next serve own is;
    balance = search (rules, sum_by-set_value, is_at, nat_cmp, answered_same);
  }
    where
      answered_sent : (peer : Endpoint) (port : ℕ) (reply : Option Reply) (es : List SocketEvent)
          → sent_to peer (answered port reply es) ≡ answer_to peer reply + sent_to peer es
      answered_sent peer port None es = omega arith
      answered_sent peer port (Some reply) es = refl

  -- the transfers serve still, and owe as much as before
  record Keeps (held held' : List (ℕ × TransferState F D)) : Type 0 where
    serve : AllServe held'
    owes : (peer : Endpoint) → owed_by peer held' ≡ owed_by peer held

  -- one whose end is the same takes the place of another
  kept_next : (port : ℕ) (held held' : List (ℕ × TransferState F D)) (transfer next : TransferState F D)
      → at port held ≡ Some transfer → held' ≡ with_next port next held → next.end ≡ transfer.end → AllServe held
      → Keeps held held'
  kept_next port held held' transfer next found is same serve = record {
    serve = held_next Serves port held held' next serve (rw same (held_at Serves port held serve found)) is;
    owes = search (rules, sum_by-set_value, is_at, nat_cmp);
  }

  kept_same : (old new : ServerState S F D) → new ≡ old → AllServe old.held → Keeps old.held new.held
  kept_same old new is serve = rw is (record { serve = serve; owes = λ peer. refl })

  lost : (port : ℕ) (o : Option (TransferState F D)) (old new : ServerState S F D)
      → at port old.held ≡ o → KeepsHeld meaning sources port o old new → AllServe old.held → Keeps old.held new.held
  lost port None old new found keeps serve = kept_same old new keeps serve
  lost port (Some transfer) old new found keeps serve =
      kept_next port old.held new.held transfer keeps.0 found keeps.2 keeps.1.end serve

  worked : (port : ℕ) (o : Option (TransferState F D)) (old new : ServerState S F D)
      → at port old.held ≡ o → WorksAt meaning sources port o old new → AllServe old.held → Keeps old.held new.held
  worked port None old new found works serve = kept_same old new works serve
  worked port (Some transfer) old new found works serve =
      kept_next _ _ _ _ _ found works.2 (ap (λ (t : TransferState F D). t.end) works.1.rest) serve

  -- nothing is sent, and no less received
  fair_kept : (held held' : List (ℕ × TransferState F D)) (before after : List SocketEvent) → Keeps held held'
      → ((peer : Endpoint) → sent_to peer after ≡ sent_to peer before)
      → ((peer : Endpoint) → allowed peer before ≤ allowed peer after) → Fair held before held' after
  fair_kept held held' before after keeps sent received = search rules

  port_fair : (now : ℕ) (s t : PortState S F D) → PortStep meaning sources now s t → AllServe s.server.held
      → Fair s.server.held s.events t.server.held t.events
  port_fair now s t (A_datagram d) serve =
      let takes = d.handles.takes in
      let step = takes.takes in
      let port = s.timer.port in
      let spends = datagram_spends (held_at Serves port s.server.held serve takes.found) step.steps in
      fair_next port s.server.held t.server.held s.events (Received port d.from d.bytes ∷ s.events) t.events
      takes.transfer takes.next step.turn.reply takes.found takes.held serve (rw (step.carries.state) spends.serves)
      d.handles.events (λ peer. refl) (λ peer. omega (arith, spends.costs peer, ap (owed peer) step.carries.state))
  port_fair now s t (A_lost_datagram d) serve =
      fair_kept s.server.held t.server.held s.events t.events
      (lost s.timer.port (at s.timer.port s.server.held) s.server t.server refl d.loses.keeps serve)
      (λ peer. ap (sent_to peer) d.events) (λ peer. omega (arith, ap (allowed peer) d.events))
  port_fair now s t (A_timeout d) serve =
      let times_out = d.times_out.times_out in
      let transfer = times_out.transfer in
      let port = s.timer.port in
      let own = held_at Serves port s.server.held serve times_out.found in
      fair_next port s.server.held t.server.held s.events (Elapsed port now ∷ s.events) t.events transfer
      (with_end times_out.end transfer) (timeout_turn transfer.end).reply times_out.found times_out.held serve
      (rw (times_out.carries.state) (timeout_serves retries transfer.end own)) d.times_out.events (λ peer. refl)
      (λ peer. omega (
        arith,
        timeout_costs peer transfer.end transfer.end.position.phase,
        ap (owed peer) times_out.carries.state,
      ))
  port_fair now s t (Work d) serve =
      fair_kept s.server.held t.server.held s.events t.events
      (worked s.timer.port (at s.timer.port s.server.held) s.server t.server refl d.works.works serve)
      (λ peer. ap (sent_to peer) d.events) (λ peer. omega (arith, ap (allowed peer) d.events))
  port_fair now s t does serve =
      fair_kept s.server.held t.server.held s.events t.events (kept_same s.server t.server (server_is does) serve)
      (λ peer. ap (sent_to peer) (trace_is does)) (λ peer. omega (arith, ap (allowed peer) (trace_is does)))

  -- ---- at all ports
  -- what a pending datagram may bring
  abbrev awaited : Endpoint → Option (Endpoint × List ℕ) → ℕ
  awaited peer None = 0
  awaited peer (Some pending) = (1 + retries) * one_to peer pending.0

  abbrev spent : Endpoint → LoopState S F D → ℕ
  spent peer s = sent_to peer s.events + owed_by peer s.server.held + awaited peer s.pending

  record AreServing (s : LoopState S F D) : Type 0 where
    config : s.server.config.retries ≡ retries
    serve : AllServe s.server.held

  record IsFair (s t : LoopState S F D) : Type 0 where
    serving : AreServing t
    balance : (peer : Endpoint) → spent peer t + allowed peer s.events ≤ spent peer s + allowed peer t.events

  module _ (s : LoopState S F D) (serving : AreServing s) (from : Endpoint) (bytes : List ℕ) (tid : ℕ)
      (pending : s.pending ≡ Some (from, bytes)) (ask : Ask) where
    awaits : (peer : Endpoint) → awaited peer s.pending ≡ (1 + retries) * one_to peer from
    awaits peer = ap (awaited peer) pending

    by_came : (came : Came S F D) → OpensIn meaning sources s.server from bytes ask came
        → IsFair s (after_request s from (left_by came s.server from tid))
    by_came Nothing opened = record {
      serving = record { config = serving.config; serve = serving.serve };
      balance = λ peer. omega arith;
    }
    by_came (Error_reply reply store) opened = record {
      serving = record { config = serving.config; serve = serving.serve };
      balance = λ peer. omega (arith, awaits peer);
    }
    by_came (A_transfer transfer store) opened =
        let begins = opens_begins meaning sources s.server from bytes opened in
        let limit : HasLimit retries transfer.end =
        subst (λ (n : ℕ). HasLimit n transfer.end) serving.config begins.limit in
        record {
          serving = record {
            config = serving.config;
            serve = held_new Serves tid s.server.held transfer serving.serve (record {
              limit = limit;
              at = at_own
                  begins.at;
            });
          };
          balance = search (rules, awaits, insert_sum, left_counts);
        }

  step_fair : (s t : LoopState S F D) → LoopStep meaning sources s t → AreServing s → IsFair s t
  step_fair s t (At_port d) serving =
      let fair = port_fair s.now (port_state s d.timer) d.next d.does serving.serve in
      subst (IsFair s) (sym d.is) (record {
        serving = record {
          config = ap (λ (c : Config). c.retries) (same_config d.does) ∙ serving.config;
          serve = fair.serve;
        };
        balance = λ peer. omega (arith, fair.balance peer);
      })
  step_fair s t (Request_received d) serving =
      subst (IsFair s) (sym d.is) (record {
        serving = record { config = serving.config; serve = serving.serve };
        balance = λ peer. omega (arith, ap (awaited peer) d.none);
      })
  step_fair s t (Request_answered d) serving =
      subst (IsFair s) (sym (answer_is d)) (by_came s serving d.from d.bytes d.tid d.pending _ d.steps.came
      (opens_for meaning sources s.server d.from d.bytes _ d.steps.came d.steps.goes))
  step_fair s t (Transfer_closed d) serving =
      subst (IsFair s) (sym d.is) (record {
        serving = record {
          config = serving.config;
          serve = held_without Serves d.timer.port s.server.held serving.serve;
        };
        balance = λ peer. omega (
          arith,
          sum_by-remove_entry (λ (t : TransferState F D). owed peer t.end) (is_at (nat_cmp d.timer.port)) s.server.held,
        );
      })
  step_fair s t does serving =
      subst (IsFair s) (sym (state_is does)) (record {
        serving = record { config = serving.config; serve = serving.serve };
        balance = λ peer. omega arith;
      })

  -- ---- along a run
  fair_along : (s t : LoopState S F D) → AreServing s → Run (LoopStep meaning sources) s t → IsFair s t
  fair_along s t serving Start = record { serving = serving; balance = λ peer. omega arith }
  fair_along s t serving (Then {middle} run does) =
      let was = fair_along s middle serving run in
      let now = step_fair middle t does was.serving in
      record { serving = now.serving; balance = λ peer. omega (arith, was.balance peer, now.balance peer) }

-- the law
pub reflects_few : {S F D : Type 0} (meaning : StoreMeaning S D) (sources : SourceMeaning F)
    → ReflectsFew meaning sources
reflects_few meaning sources start now none idle run peer = search (rules, fair_along)
