-- The effect of a timeout and of a refusing store on the world, and what a world returns of the end at a port. For six
-- functions and ArrivalLemmas.
use Rattle.tftp_player.proofs.Common.{◌≡◌, ℕ, ◌+◌, ◌<◌, ◌≤◌, false, List, ◌++◌, length, Option, Some, None, refl, sym}
use Rattle.tftp_player.proofs.Common.{ap, ◌∙◌, subst, rules, ◌⊎◌, option_map, slice_get, slice_set, append-nil, Record}
use Rattle.tftp_player.proofs.Common.{Turn, Reply, reply_bytes, timeout_turn, Config, Endpoint, OpenEnd, files_of}
use Rattle.tftp_player.proofs.Common.{said_by, report_by, records_from, PlayedServer, ArePartsConsistent, world_of}
use Rattle.tftp_player.proofs.Common.{WorldState, WorldEnd, Open_end, Closed_end, end_address, end_record, replied}
use Rattle.tftp_player.proofs.Common.{world_after, report_of, no_report, WorldStep, armed_end, Datagram, Effect}
use Rattle.tftp_player.proofs.Common.{Timeout, RefuseStore, Report, slice_get_past, EndTimesOut, end_committed}
use Rattle.tftp_player.proofs.Common.{IsAtPort}
use Rattle.std.proofs.Common.{option_and_then}
use Rattle.std.proofs.lemmas.Bool.Decides.{nat_tests}
use Rattle.tftp_player.specs.Effect.{effect_of}
use Rattle.tftp_player.specs.Simulation.{EndsTimeOut, opened_at, stored_in, stored_at, committed_at}
use Rattle.tftp_player.proofs.HostEnds.{records_set, same_set}
use Rattle.tftp_player.proofs.StepLemmas.{timeout_step, timeout_stays}
use Rattle.tftp_player.proofs.WorldTurns.{ports_set}
use Rattle.tftp_player.proofs.Changes.{armed_has}

-- the datagram to send is the world's, and so is the report
pub said_is : (at : Endpoint) (reply : Option Reply) →
    said_by at (option_map (λ (q : Reply). q.to) reply) (reply_bytes reply) ≡ replied at reply
said_is at None = refl
said_is at (Some reply) = refl

-- the report of a turn is what its effect reports
pub report_is : (w : WorldState) (x : OpenEnd) (turn : Turn) (effect : Effect) → effect ≡ effect_of x.address turn →
    report_by w.sent effect ≡ report_of w x turn
report_is w x turn effect e = search rules

-- ---- a timeout
timed_by :
    (config : Config) (sent : List Datagram) (index : ℕ) (server : PlayedServer) (ends ends' : List WorldEnd)
    (effect : Effect) (port : ℕ) (x y : WorldEnd) →
    IsAtPort (world_of config sent server ends) port index x → EndTimesOut x y effect → ends' ≡ slice_set ends index y →
    WorldStep (world_of config sent server ends) (Timeout port) (report_by sent effect)
    (world_of config (sent ++ said_by effect.from effect.to effect.bytes) server ends')
timed_by config sent index server ends ends' effect port (Closed_end x) y at t is =
    search (rules, append-nil, same_set, timeout_stays)
timed_by config sent index server ends ends' effect port (Open_end x) y at t is =
    let w = world_of config sent server ends in
    let turn = timeout_turn x.state in
    let same : world_of config (sent ++ said_by effect.from effect.to effect.bytes) server ends'
    ≡ world_after w index x turn (files_of x) w.files =
    ap (λ (e : Effect). world_of config (sent ++ said_by e.from e.to e.bytes) server ends') t.effects
    ∙ (ap (λ (ds : List Datagram). world_of config (sent ++ ds) server ends') (said_is x.address turn.reply)
    ∙ ap (world_of config (sent ++ replied x.address turn.reply) server) (is ∙ ap (slice_set ends index) t.next)) in
    subst
    (λ (r : Report).
    WorldStep w (Timeout port) r (world_of config (sent ++ said_by effect.from effect.to effect.bytes) server ends'))
    (sym (report_is w x turn effect t.effects))
    (subst (λ (v : WorldState). WorldStep w (Timeout port) (report_of w x turn) v) (sym same)
    (timeout_step w port index x at))

-- a timeout on the world, with what was sent given by equations
pub timeout_result :
    (config : Config) (sent : List Datagram) (index : ℕ) (before after : PlayedServer) (ends ends' : List WorldEnd)
    (effect : Effect) (port : ℕ) (old : WorldState) (sent0 sent1 : List Datagram) (report : Report) →
    world_of config sent before ends ≡ old → port ≡ 1024 + index → EndsTimeOut index ends ends' effect →
    after ≡ before → sent0 ≡ sent → sent1 ≡ sent0 ++ said_by effect.from effect.to effect.bytes →
    report ≡ report_by sent0 effect →
    WorldStep old (Timeout port) report (world_of config sent1 after ends')
timeout_result config sent index before after ends ends' effect port old sent0 sent1 report view is t server same more
    reports =
    let said = sent ++ said_by effect.from effect.to effect.bytes in
    subst (λ w. WorldStep w (Timeout port) report (world_of config sent1 after ends')) view (subst (λ r. WorldStep
    (world_of config sent before ends) (Timeout port) r (world_of config sent1 after ends')) (sym (reports ∙ ap (λ ds.
    report_by ds effect) same)) (subst (λ v. WorldStep (world_of config sent before ends) (Timeout port) (report_by sent
    effect) v) (sym (ap (λ s. world_of config sent1 s ends') server ∙ ap (λ ds. world_of config ds before ends') (more ∙
    ap (λ ds. ds ++ said_by effect.from effect.to effect.bytes) same))) (timed_by config sent index before ends ends'
    effect port t.end t.next (record { is = is; there = t.found }) t.times_out t.is)))

-- ---- a store that is to refuse: the record of the end and its address stay
same_armed : (x : WorldEnd) → (end_record (armed_end x) ≡ end_record x) × (end_address (armed_end x) ≡ end_address x)
same_armed x =
    armed_has (λ z. (end_record z ≡ end_record x) × (end_address z ≡ end_address x)) (λ z h. h) x (refl, refl)

module _ (config : Config) (sent : List Datagram) (server : PlayedServer) (ends : List WorldEnd) (old : WorldState)
    (view : world_of config sent server ends ≡ old) (port index : ℕ) (x : WorldEnd)
    (there : slice_get ends index ≡ Some x) where
  -- the ends are consistent
  pub armed_consistent : (records : List (ℕ × Record)) → ArePartsConsistent server ends records →
      ArePartsConsistent server (slice_set ends index (armed_end x)) records
  armed_consistent records consistent =
      search (
        consistent.recorded ∙ sym (records_set 1024 ends index (armed_end x) ∙ (ap (λ (r : Record). slice_set (records_from 1024 ends) index (
          1024 + index,
          r,
        )) (same_armed x).0 ∙ (sym (records_set 1024 ends index x) ∙ ap (records_from 1024) (same_set ends index x there)))),
        ports_set (world_of config sent server ends) index x (armed_end x) consistent.ports there (same_armed x).1,
      )

  -- and it is a step of the world
  pub armed_step : port ≡ 1024 + index →
      WorldStep old (RefuseStore port) no_report (world_of config sent server (slice_set ends index (armed_end x)))
  armed_step is =
      rw (← view) (index, x, record { is = is; there = there }, refl, refl)

-- ---- the end at a port
pub there_is : (ends : List WorldEnd) (port index : ℕ) → port ≡ 1024 + index →
    opened_at ends port ≡ slice_get ends index
there_is ends port index e = search rules

none_is : (ends : List WorldEnd) (port : ℕ) → (port < 1024) ⊎ (1024 + length ends ≤ port) → opened_at ends port ≡ None
none_is ends port h2 = search (rules, nat_tests, slice_get_past)

module _ (config : Config) (sent : List Datagram) (server : PlayedServer) (ends : List WorldEnd) (old : WorldState)
    (view : world_of config sent server ends ≡ old) (port : ℕ) where
  -- what is returned if there is an end
  module _ (index : ℕ) (x : WorldEnd) (is : port ≡ 1024 + index) (here : slice_get ends index ≡ Some x) where
    found : opened_at ends port ≡ Some x
    found = there_is ends port index is ∙ here

    pub stored_here : stored_in x ≡ stored_at old.ends port
    stored_here = sym (ap (option_and_then stored_in) found) ∙ ap (λ (w : WorldState). stored_at w.ends port) view

    pub committed_here : end_committed x ≡ committed_at old.ends port
    committed_here = search rules

  -- and if there is none
  module _ (none : (port < 1024) ⊎ (1024 + length ends ≤ port)) where
    pub stored_nowhere : None ≡ stored_at old.ends port
    stored_nowhere = search (rules, none_is)

    pub committed_nowhere : false ≡ committed_at old.ends port
    committed_nowhere = search (rules, none_is)
