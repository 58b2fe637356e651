-- The effect of a datagram on a world, from its effect on the ends. For `Ends::take`, `Simulation::arrive` and
-- `Simulation::deliver`.
use Rattle.tftp_player.proofs.Common.{◌≡◌, ◌≢◌, ℕ, ◌+◌, ◌<◌, ◌≤◌, List, ◌++◌, length, Some, sym, ap, ◌∙◌, subst, inl}
use Rattle.tftp_player.proofs.Common.{inr, rules, ◌⊎◌, slice_get, slice_set, slice_index_or, slice_get_within, Config}
use Rattle.tftp_player.proofs.Common.{request_port, Endpoint, OpenEnd, said_by, report_by, PlayedServer, world_of}
use Rattle.tftp_player.proofs.Common.{ClosedEnd, WorldState, report_of, no_report, WorldEnd, Open_end, Closed_end}
use Rattle.tftp_player.proofs.Common.{end_address, world_after, Datagram, Delivery, WorldRefuses, WorldStep, Deliver}
use Rattle.tftp_player.proofs.Common.{WorldFault, Effect, Report, EndHandles, refl, At_open_end, At_closed_end}
use Rattle.tftp_player.specs.Effect.{no_effect}
use Rattle.tftp_player.specs.Simulation.{EndsTake, EndTakesAt, LostAt}
use Rattle.tftp_player.specs.Arriving.{ArrivalRefuses, EndsDelivery, EndsRefuse}
use Rattle.tftp_player.proofs.HostEnds.{list_get, same_set}
use Rattle.tftp_player.proofs.PlayLemmas.{report_is}
use Rattle.tftp_player.proofs.StepLemmas.{none_arrives, other_arrives}

-- an arrival, with the report and the world replaced by equal ones
landed : (w v v' : WorldState) (from to : Endpoint) (bytes : List ℕ) (r r' : Report) → r' ≡ r → v' ≡ v →
    Delivery w from to bytes r v → Delivery w from to bytes r' v'
landed w v v' from to bytes r r' e f a = search rules

module _ (from to : Endpoint) (bytes : List ℕ) (before after : PlayedServer) (ends ends' : List WorldEnd)
    (effect : Effect) (away : to ≢ request_port)
    (ports : (k : ℕ) (x : WorldEnd) → slice_get ends k ≡ Some x → (end_address x).port ≡ 1024 + k) where
  abbrev old : List Datagram → WorldState
  old sent = world_of before.config sent before ends

  abbrev new : List Datagram → WorldState
  new sent = world_of before.config (sent ++ said_by effect.from effect.to effect.bytes) after ends'

  abbrev Lost : Type 0
  Lost = LostAt to before after ends ends' effect

  -- the datagram was lost
  still : (sent : List Datagram) → Lost → new sent ≡ old sent
  still sent lost = search rules

  lost_report : (sent : List Datagram) → Lost → report_by sent effect ≡ no_report
  lost_report sent lost = ap (report_by sent) lost.effects

  -- an open end made a turn
  turned_as : (sent : List Datagram) (index : ℕ) (x : OpenEnd) (y : WorldEnd)
      (h : EndHandles before.config.overwrite from bytes x y before.store.files after.store.files effect) →
      ends' ≡ slice_set ends index y → new sent ≡ world_after (old sent) index x h.turn h.held after.store.files
  turned_as sent index x y h is = search rules

  -- at a closed end a datagram is lost
  lost_there : (index : ℕ) (x : ClosedEnd) → slice_get ends index ≡ Some (Closed_end x) → x.address ≡ to →
      EndTakesAt index (Closed_end x) from bytes before after ends ends' effect → Lost
  lost_there index x found same h = search (rules, same_set)

  -- a datagram for an end that is there arrives by that end's step
  pub step_arrives : (index : ℕ) → to.port ≡ 1024 + index → EndsTake index from to bytes before after ends ends' effect →
      EndsDelivery from to bytes before after ends ends' effect
  step_arrives index port t sent = by_case t.end t.found t.comes where
    lands : (v : WorldState) (report : Report) → report_by sent effect ≡ report → new sent ≡ v →
        Delivery (old sent) from to bytes report v → Delivery (old sent) from to bytes (report_by sent effect) (new sent)
    lands v report e f a = landed (old sent) v (new sent) from to bytes report (report_by sent effect) e f a

    by_case : (x : WorldEnd) → slice_get ends index ≡ Some x →
        ((end_address x ≢ to) × Lost)
        ⊎ ((end_address x ≡ to) × EndTakesAt index x from bytes before after ends ends' effect) →
        Delivery (old sent) from to bytes (report_by sent effect) (new sent)
    by_case x found (inl (differs, lost)) =
        lands (old sent) no_report (lost_report sent lost) (still sent lost)
        (other_arrives (old sent) from to bytes index x ports away found port differs)
    by_case (Closed_end x) found (inr (same, h)) =
        let lost = lost_there index x found same h in
        lands (old sent) no_report (lost_report sent lost) (still sent lost)
        (subst (λ (a : Endpoint). Delivery (old sent) from a bytes no_report (old sent)) same
        (At_closed_end index x found refl (record { reports = refl; is = refl })))
    by_case (Open_end x) found (inr (same, h)) =
        let t = h.takes in
        let v = world_after (old sent) index x t.turn t.held after.store.files in
        lands v (report_of (old sent) x t.turn) (report_is (old sent) x t.turn effect t.turns.effects)
        (turned_as sent index x h.next t h.is)
        (subst (λ (a : Endpoint). Delivery (old sent) from a bytes (report_of (old sent) x t.turn) v) same
        (At_open_end index x found refl (record {
          turn = t.turn;
          held = t.held;
          steps = t.steps;
          turns = record { files = after.store.files; stored = t.commits; reports = refl; is = refl };
        })))

  -- a datagram for a port that nobody has is lost
  pub nobody_arrives : (to.port < 1024) ⊎ (1024 + length ends ≤ to.port) → after ≡ before → ends' ≡ ends →
      effect ≡ no_effect to → EndsDelivery from to bytes before after ends ends' effect
  nobody_arrives none e f nothing sent =
      let lost : Lost = search rules in
      landed (old sent) (old sent) (new sent) from to bytes no_report (report_by sent effect) (lost_report sent lost)
      (still sent lost) (none_arrives (old sent) from to bytes ports away none)

-- the same, with what was sent given by equations
pub arrives_reported :
    (config : Config) (sent : List Datagram) (from to : Endpoint) (bytes : List ℕ) (before after : PlayedServer)
    (ends ends' : List WorldEnd) (effect : Effect) (old : WorldState) (sent0 sent1 : List Datagram) (report : Report) →
    before.config ≡ config → world_of config sent before ends ≡ old →
    EndsDelivery from to bytes before after ends ends' effect →
    sent0 ≡ sent → sent1 ≡ sent0 ++ said_by effect.from effect.to effect.bytes → report ≡ report_by sent0 effect →
    Delivery old from to bytes report (world_of config sent1 after ends')
arrives_reported config sent from to bytes before after ends ends' effect old sent0 sent1 report set view a same more
    reports =
    subst (λ w. Delivery w from to bytes report (world_of config sent1 after ends')) view (subst (λ k. Delivery
    (world_of k sent before ends) from to bytes report (world_of k sent1 after ends')) set (subst (λ r.
    Delivery (world_of before.config sent before ends) from to bytes r (world_of before.config sent1 after ends')) (sym
    (reports ∙ ap (λ ds. report_by ds effect) same)) (subst (λ ds.
    Delivery (world_of before.config sent before ends) from to bytes (report_by sent effect) (world_of before.config ds
    after ends')) (sym (more ∙ ap (λ ds. ds ++ said_by effect.from effect.to effect.bytes) same)) (a sent))))

-- a delivery is a step of the world, with its report
pub delivers_reported :
    (config : Config) (sent : List Datagram) (i : ℕ) (d : Datagram) (bytes : List ℕ) (before after : PlayedServer)
    (ends ends' : List WorldEnd) (effect : Effect) (old : WorldState) (sent0 sent1 : List Datagram) (report : Report) →
    i < length sent0 → d ≡ slice_index_or sent0 i d → bytes ≡ d.bytes → before.config ≡ config →
    world_of config sent before ends ≡ old → EndsDelivery d.from d.to bytes before after ends ends' effect →
    sent0 ≡ sent → sent1 ≡ sent0 ++ said_by effect.from effect.to effect.bytes → report ≡ report_by sent0 effect →
    WorldStep old (Deliver i) report (world_of config sent1 after ends')
delivers_reported config sent i d bytes before after ends ends' effect old sent0 sent1 report within reads own set view a same more reports =
    search (rules, list_get, arrives_reported)

-- and why an arrival is refused
pub arrival_refused :
    (config : Config) (sent : List Datagram) (to : Endpoint) (before : PlayedServer) (ends : List WorldEnd)
    (old : WorldState) (fault : WorldFault) → world_of config sent before ends ≡ old → EndsRefuse to ends fault →
    ArrivalRefuses old to fault
arrival_refused config sent to before ends old fault view r = search rules

-- a delivery is refused as its datagram's arrival is
pub delivery_refused : (old : WorldState) (i : ℕ) (d : Datagram) (fault : WorldFault) → slice_get old.sent i ≡ Some d →
    ArrivalRefuses old d.to fault → WorldRefuses old (Deliver i) fault
delivery_refused old i d fault e h = search (rules, slice_get_within)

-- and so is one whose datagram the ends refuse
pub delivery_fault :
    (config : Config) (sent sent0 : List Datagram) (i : ℕ) (d : Datagram) (before : PlayedServer) (ends : List WorldEnd)
    (old : WorldState) (fault : WorldFault) →
    i < length sent0 → d ≡ slice_index_or sent0 i d → sent0 ≡ sent → world_of config sent before ends ≡ old →
    EndsRefuse d.to ends fault → WorldRefuses old (Deliver i) fault
delivery_fault config sent sent0 i d before ends old fault within reads same view r =
    search (rules, delivery_refused, list_get, arrival_refused)
