-- How an event changes a world: not at all, by an answer of the request port, by an end that opens, by a turn of an
-- end, or by an end that is set to refuse.
use Rattle.tftp_player.proofs.Common.{◌≡◌, ℕ, zero, suc, Bool, true, false, List, [], ◌∷◌, Some, None, refl, sym, ap}
use Rattle.tftp_player.proofs.Common.{◌∙◌, subst, inl, inr, datagram, arith, slice_get, slice_set, ◌⊎◌}
use Rattle.tftp_player.proofs.Common.{Contains-append_left, same_Some, Contains, Mode, Asked, Known, Holding, Files}
use Rattle.tftp_player.proofs.Common.{Turn, timeout_turn, error_bytes, Service, Sends, Takes, Refused, Silent}
use Rattle.tftp_player.proofs.Common.{slice_get-push_cases, slice_get-push_old, slice_get-set_cases, request_port}
use Rattle.tftp_player.proofs.Common.{Endpoint, Elsewhere, OpenEnd, end_after, files_of, receiving_end, sending_end}
use Rattle.tftp_player.proofs.Common.{reading_client, writing_client, WorldState, WorldEnd, Open_end, Closed_end}
use Rattle.tftp_player.proofs.Common.{no_report, sent_report, said_in, WorldStep, Delivery, ServiceStep, At_open_end}
use Rattle.tftp_player.proofs.Common.{At_request_port, OpeningStep, armed_end, At_closed_end, At_nobody, Stays}
use Rattle.tftp_player.proofs.Common.{TimeoutStep, Turns, Datagram, Event, Deliver, Timeout, Get, Put, RefuseStore}
use Rattle.tftp_player.proofs.Common.{Stray, Report, Contains-append_right, Contains-push, slice_get_past, host_of}
use Rattle.tftp_player.proofs.Common.{StepAt, standing, if◌then◌else◌, is_sender}

-- a list contains what is at an index
pub contains_at : {X : Type 0} (xs : List X) (k : ℕ) (x : X) → slice_get xs k ≡ Some x → Contains xs x
contains_at {X = X} [] k x e = absurd (let f : None ≡ Some x = e in cc)
contains_at {X = X} (y ∷ ys) zero x e =
    subst (λ (z : X). Contains (y ∷ ys) z) (same_Some y x e) (Contains-append_left (y ∷ []) ys y (Contains-push [] y))
contains_at {X = X} (y ∷ ys) (suc k) x e = Contains-append_right (y ∷ []) ys x (contains_at ys k x e)

-- after a write an index has an element still
set_there : {X : Type 0} (xs : List X) (k j : ℕ) (x y : X) → slice_get xs k ≡ Some x →
    (z : X) × (slice_get (slice_set xs j y) k ≡ Some z)
set_there [] k j x y e = absurd (let f : None ≡ Some x = e in cc)
set_there (a ∷ xs) zero zero x y e = (y, refl)
set_there (a ∷ xs) zero (suc j) x y e = (a, refl)
set_there (a ∷ xs) (suc k) zero x y e = (x, e)
set_there (a ∷ xs) (suc k) (suc j) x y e = set_there xs k j x y e

-- what does not depend on the flag holds of an end that is set to refuse
pub armed_has : (P : WorldEnd → Type 0) →
    ((x : OpenEnd) → P (Open_end x) → P (Open_end (record x { refuses = true }))) → (z : WorldEnd) → P z →
    P (armed_end z)
armed_has P keeps (Closed_end x) h = h
armed_has P keeps (Open_end x) h = by (is_sender x.state.role.side) where
  by : (b : Bool) → P (Open_end (if b then x else record x { refuses = true }))
  by true = h
  by false = keeps x h

-- ---- what an event does
-- an end as it opens at the next port
pub data IsOpening (w : WorldState) : OpenEnd → Type 0 where
  Reads : (name : List ℕ) (mode : Mode) (asked : Asked) → IsOpening w (reading_client w name mode asked)
  Writes : (name : List ℕ) (mode : Mode) (asked : Asked) (file : List ℕ) →
      IsOpening w (writing_client w name mode asked file)
  Serves_read : (peer : Endpoint) (request : List ℕ) (mode : Mode) (path file : List ℕ) (agreed : List Known) →
      IsOpening w (sending_end w peer request mode path file agreed)
  Serves_write : (peer : Endpoint) (request : List ℕ) (mode : Mode) (path : List ℕ) (agreed : List Known) →
      IsOpening w (receiving_end w peer request mode path agreed)

-- a datagram of the world, or of a stranger
abbrev pub Arrives : WorldState → Endpoint → Endpoint → List ℕ → Type 0
Arrives w from to bytes = Contains w.sent (datagram from to bytes) ⊎ (host_of from ≡ Elsewhere)

-- a turn of an end of the world, with its file after it: at a timeout, or at a datagram
pub data IsTurn (w : WorldState) (x : OpenEnd) : Turn → Files (List ℕ) Holding → Type 0 where
  At_timeout : IsTurn w x (timeout_turn x.state) (files_of x)
  At_datagram : (from : Endpoint) (bytes : List ℕ) (turn : Turn) (held : Files (List ℕ) Holding) →
      Arrives w from x.address bytes → StepAt w x from bytes turn held → IsTurn w x turn held

-- what happened to a world, if ends make these turns
pub data Changes (Happens : OpenEnd → Turn → Files (List ℕ) Holding → Type 0) (w : WorldState) (report : Report)
    (v : WorldState) : Type 0 where
  Stayed : Stays w report v → Changes Happens w report v
  Answered : (d : Datagram) → d.from ≡ request_port → report ≡ sent_report w → v ≡ said_in w d →
      Changes Happens w report v
  Opened : (x : OpenEnd) → IsOpening w x → OpeningStep w x report v → Changes Happens w report v
  Turned : (k : ℕ) (x : OpenEnd) (turn : Turn) (held : Files (List ℕ) Holding) →
      slice_get w.ends k ≡ Some (Open_end x) → Happens x turn held → Turns w k x turn held report v →
      Changes Happens w report v
  Armed : (k : ℕ) (x : WorldEnd) → slice_get w.ends k ≡ Some x → report ≡ no_report →
      v ≡ record w { ends = slice_set w.ends k (armed_end x) } → Changes Happens w report v

module _ (Happens : OpenEnd → Turn → Files (List ℕ) Holding → Type 0) (w v : WorldState) (report : Report) where
  service_changes : (service : Service) (from : Endpoint) (bytes : List ℕ) →
      ServiceStep service w from bytes report v → Changes Happens w report v
  service_changes Silent from bytes s = Stayed s
  service_changes (Refused reply) from bytes s =
      Answered (datagram request_port from (error_bytes reply)) refl s.0 s.1
  service_changes (Sends path mode count agreed) from bytes s =
      Opened _ (Serves_read from bytes mode path s.0 agreed) s.2
  service_changes (Takes path mode agreed) from bytes s = Opened _ (Serves_write from bytes mode path agreed) s

  -- a datagram that arrives changes it so
  pub arrival : (from to : Endpoint) (bytes : List ℕ) → Delivery w from to bytes report v →
      ((x : OpenEnd) (turn : Turn) (held : Files (List ℕ) Holding) → to ≡ x.address → StepAt w x from bytes turn held →
      Happens x turn held) → Changes Happens w report v
  arrival from to bytes (At_request_port here port decoded says repeated same served) happens =
      service_changes _ from bytes served
  arrival from to bytes (At_open_end k x there here h) happens =
      Turned k x h.turn h.held there (happens x h.turn h.held (sym here) h.steps) h.turns
  arrival from to bytes (At_closed_end k x there here s) happens = Stayed s
  arrival from to bytes (At_nobody away nobody s) happens = Stayed s

timeout_changes : (w v : WorldState) (k : ℕ) (x : WorldEnd) (report : Report) → slice_get w.ends k ≡ Some x →
    TimeoutStep w k x report v → Changes (IsTurn w) w report v
timeout_changes w v k (Closed_end x) report there s = Stayed s
timeout_changes w v k (Open_end x) report there t = Turned k x _ _ there At_timeout t

arrival_changes : (w v : WorldState) (from to : Endpoint) (bytes : List ℕ) (report : Report) →
    Arrives w from to bytes → Delivery w from to bytes report v → Changes (IsTurn w) w report v
arrival_changes w v from to bytes report a d = arrival (IsTurn w) w v report from to bytes d
    (λ x turn held here s. At_datagram from bytes turn held (subst (λ (p : Endpoint). Arrives w from p bytes) here a) s)

-- so does each event
pub changes : (w v : WorldState) (event : Event) (report : Report) → WorldStep w event report v →
    Changes (IsTurn w) w report v
changes w v (Get name mode asked) report s = Opened _ (Reads name mode asked) s.2
changes w v (Put name mode asked bytes) report s = Opened _ (Writes name mode asked bytes) s.2
changes w v (Deliver i) report s =
    arrival_changes w v s.0.from s.0.to s.0.bytes report (inl (contains_at w.sent i s.0 s.1)) s.2
changes w v (Timeout port) report s = timeout_changes w v s.0 s.1 report s.2.there s.3
changes w v (RefuseStore port) report s = Armed s.0 s.1 s.2.there s.3 s.4
changes w v (Stray from to bytes) report s = arrival_changes w v from to bytes report (inr s.0) s.1

-- ---- what became of the ends
-- an end was there before, opened, was set to refuse, or made a turn
pub data Came (Happens : OpenEnd → Turn → Files (List ℕ) Holding → Type 0) (w : WorldState) (j : ℕ) :
    WorldEnd → Type 0 where
  Was : (z : WorldEnd) → slice_get w.ends j ≡ Some z → Came Happens w j z
  Began : (x : OpenEnd) → slice_get w.ends j ≡ None → IsOpening w x → Came Happens w j (Open_end x)
  Was_armed : (z : WorldEnd) → slice_get w.ends j ≡ Some z → Came Happens w j (armed_end z)
  Moved : (x : OpenEnd) (turn : Turn) (held : Files (List ℕ) Holding) → slice_get w.ends j ≡ Some (Open_end x) →
      Happens x turn held → Came Happens w j (standing (end_after x turn held))

module _ (Happens : OpenEnd → Turn → Files (List ℕ) Holding → Type 0) (w v : WorldState) (report : Report) where
  at_index : (j : ℕ) (ends : List WorldEnd) → v.ends ≡ ends → slice_get v.ends j ≡ slice_get ends j
  at_index j ends e = ap (λ (zs : List WorldEnd). slice_get zs j) e

  same_came : v.ends ≡ w.ends → (j : ℕ) (z : WorldEnd) → slice_get v.ends j ≡ Some z → Came Happens w j z
  same_came e j z i = Was z (sym (at_index j w.ends e) ∙ i)

  set_came : (k : ℕ) (y : WorldEnd) → v.ends ≡ slice_set w.ends k y → Came Happens w k y → (j : ℕ) (z : WorldEnd) →
      slice_get v.ends j ≡ Some z → Came Happens w j z
  set_came k y e c j z i = elim (slice_get-set_cases w.ends k j y z (sym (at_index j _ e) ∙ i)) [
    | inl h ↦ subst (λ (u : WorldEnd). Came Happens w j u) (sym h.1) (subst (λ (n : ℕ). Came Happens w n y) (sym h.0) c)
    | inr h ↦ Was z h.1
  ]

  -- each end came so
  pub came : Changes Happens w report v → (j : ℕ) (z : WorldEnd) → slice_get v.ends j ≡ Some z → Came Happens w j z
  came (Stayed s) j z i = same_came (ap (λ (u : WorldState). u.ends) s.is) j z i
  came (Answered d from reports is) j z i = same_came (ap (λ (u : WorldState). u.ends) is) j z i
  came (Opened x o s) j z i = elim
      (slice_get-push_cases w.ends j (Open_end x) z (sym (at_index j _ (ap (λ (u : WorldState). u.ends) s.is)) ∙ i)) [
        | inl h ↦ Was z h
        | inr h ↦ let past = h.0 in
            subst (λ (u : WorldEnd). Came Happens w j u) (sym h.1)
            (Began x (slice_get_past w.ends j (omega (arith, past))) o)
      ]
  came (Turned k x turn held there h t) j z i =
      set_came k _ (ap (λ (u : WorldState). u.ends) t.is) (Moved x turn held there h) j z i
  came (Armed k x there reports is) j z i =
      set_came k _ (ap (λ (u : WorldState). u.ends) is) (Was_armed x there) j z i

  -- and where an end was there is one
  pub lasts : Changes Happens w report v → (j : ℕ) (x : WorldEnd) → slice_get w.ends j ≡ Some x →
      (z : WorldEnd) × (slice_get v.ends j ≡ Some z)
  lasts (Stayed s) j x i = (x, at_index j _ (ap (λ (u : WorldState). u.ends) s.is) ∙ i)
  lasts (Answered d from reports is) j x i = (x, at_index j _ (ap (λ (u : WorldState). u.ends) is) ∙ i)
  lasts (Opened y o s) j x i =
      (x, at_index j _ (ap (λ (u : WorldState). u.ends) s.is) ∙ slice_get-push_old w.ends j (Open_end y) x i)
  lasts (Turned k y turn held there h t) j x i =
      let z = set_there w.ends j k x (standing (end_after y turn held)) i in
      (z.0, at_index j _ (ap (λ (u : WorldState). u.ends) t.is) ∙ z.1)
  lasts (Armed k y there reports is) j x i =
      let z = set_there w.ends j k x (armed_end y) i in (z.0, at_index j _ (ap (λ (u : WorldState). u.ends) is) ∙ z.1)

-- so did each end after an event
pub event_came : (w v : WorldState) (event : Event) (report : Report) → WorldStep w event report v → (j : ℕ)
    (z : WorldEnd) → slice_get v.ends j ≡ Some z → Came (IsTurn w) w j z
event_came w v event report s = came (IsTurn w) w v report (changes w v event report s)
