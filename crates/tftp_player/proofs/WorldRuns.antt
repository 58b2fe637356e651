-- Each event keeps a world, and so does every run. For `World::new`, `a_step_keeps_a_world` and 24 other files.
use Rattle.tftp_player.proofs.Common.{common_steps, ◌≡◌, ℕ, Bool, true, false, List, [], ◌∷◌, ◌++◌, map, set, Option}
use Rattle.tftp_player.proofs.Common.{Some, None, sym, refl, ap, ◌∙◌, subst, inl, inr, length, arith, rules, ◌≤◌}
use Rattle.tftp_player.proofs.Common.{is_some, slice_get, Contains, true≢false, append-nil, Contains-append_cases}
use Rattle.tftp_player.proofs.Common.{Contains-append_left, Spells, one_meaning, Config, IsBlockSize, is_client}
use Rattle.tftp_player.proofs.Common.{Decodes, timeout_turn, two_hosts, Endpoint, Elsewhere, Message, Rule, message}
use Rattle.tftp_player.proofs.Common.{said, OpenEnd, files_of, EndView, IsShownWithin, WorldState, WorldEnd, Open_end}
use Rattle.tftp_player.proofs.Common.{Closed_end, StoredFile, file_at, in_the_way, datagram, new_world, view_of_end}
use Rattle.tftp_player.proofs.Common.{may_refuse_commit, OnDatagram, Delivery, At_request_port, At_open_end}
use Rattle.tftp_player.proofs.Common.{At_closed_end, At_nobody, TimeoutStep, armed_end, WorldStep, HasAsker, IsKeptIn}
use Rattle.tftp_player.proofs.Common.{RefinesAt, RefinesWithin, Refines, PlaysAll, MayHappen, Datagram, Event, Get, Put}
use Rattle.tftp_player.proofs.Common.{Deliver, Timeout, RefuseStore, Stray, Report, slice_get-set_cases, map-set}
use Rattle.tftp_player.proofs.Common.{Contains-push, WirePacket, spelled_has_no_fault, host_of, open_view, IsThere}
use Rattle.tftp_player.proofs.Common.{says_spelled, IsShownAt, HasPeersAtHome}
use Rattle.tftp_rules.specs.EndShown.{Stands, IsOpenAt}
use Rattle.tftp_rules.proofs.Actions.{strays}
use Rattle.tftp_rules.proofs.EndTurns.{datagram_goes, timeout_goes}
use Rattle.tftp_rules.specs.Shows.{IsShown}
use Rattle.tftp_player.specs.WorldRuns.{MayAllHappen, StepsKeep, StepsAreRules, most_rules}
use Rattle.tftp_player.proofs.Standing.{open_is}
use Rattle.tftp_rules.proofs.Refines.{shown_start}
use Rattle.tftp_rules.proofs.ViewSafe.{shown_at_home}
use Rattle.tftp_rules.proofs.EndMoves.{end_armed as kept_armed}
use Rattle.tftp_player.proofs.KnownSteps.{from_server, known_step}
use Rattle.tftp_player.proofs.TermsKept.{step_has, timeout_has}
use Rattle.tftp_player.proofs.WorldTurns.{ports_set, nothing_in, one_in, turn_keeps, view_at}
use Rattle.tftp_player.proofs.WorldKeeps.{reading_keeps, writing_keeps, serving_keeps, asked_so, stays_ok, none_more}
use Rattle.tftp_player.proofs.WorldKeeps.{shown_as}
use Rattle.tftp_player.proofs.Changes.{contains_at, armed_has}
use Rattle.tftp_player.proofs.HostEnds.{same_set}

-- what a datagram of the list says is there
pub come_from : (first : List Rule) (strangers : Bool) (w : WorldState) (ok : RefinesAt first strangers w)
    (d : Datagram) →
    Contains w.sent d → (p : WirePacket) → Spells p d.bytes → Contains ok.messages (message d.from d.to (said p))
come_from first strangers w ok d i p s =
    let h = ok.sent d i in
    let same : h.1.packet ≡ p = one_meaning h.1.packet p d.bytes h.1.spells s in
    subst (λ (q : WirePacket). Contains ok.messages (message d.from d.to (said q))) same
    (subst (λ (m : Message). Contains ok.messages m) h.1.says h.2)

there_now :
    (first : List Rule) (strangers : Bool) (w : WorldState) (ok : RefinesAt first strangers w) (from to : Endpoint)
    (bytes : List ℕ) → Contains w.sent (datagram from to bytes) → IsThere ok.messages from to bytes
there_now first strangers w ok from to bytes i =
    let h = ok.sent (datagram from to bytes) i in
    (h.1.packet, h.1.spells, subst (λ (m : Message). Contains ok.messages m) h.1.says h.2)

module _ (first : List Rule) (strangers : Bool) (w v : WorldState) (ok : RefinesAt first strangers w)
    (report : Report) where
  -- an open end is among all that is shown
  stands : (k : ℕ) (x : OpenEnd) → slice_get w.ends k ≡ Some (Open_end x) →
      Stands two_hosts first (map view_of_end w.ends) ok.messages k (open_view x)
  stands k x at = record {
    shown = ok.shown;
    viewed =
        view_at w.ends k (Open_end x) at
        ∙ ap (λ (v : EndView). Some v) (open_is x (ap is_some (ok.ends k (Open_end x) at).stands.still));
  }

  -- with what holds of it
  open_now : (k : ℕ) (x : OpenEnd) → slice_get w.ends k ≡ Some (Open_end x) →
      IsOpenAt two_hosts first (map view_of_end w.ends) ok.messages k x
  open_now k x at =
      let here = (ok.ends k (Open_end x) at).stands in
      record {
        stands = stands k x at;
        kept = here.kept;
        still = ap is_some here.still;
        last_sent =
            there_now first strangers w ok x.address x.state.position.last_sent_to x.state.position.last_sent
            here.last_sent;
      }

  -- how an end handled a datagram keeps the world
  datagram_keeps : (k : ℕ) (x : OpenEnd) (from : Endpoint) (bytes : List ℕ) → slice_get w.ends k ≡ Some (Open_end x) →
      ((p : WirePacket) → Spells p bytes → Contains ok.messages (message from x.address (said p))) →
      OnDatagram w k x from bytes report v → RefinesWithin 3 first strangers v
  datagram_keeps k x from bytes at come h =
      let may_commit =
      may_refuse_commit (is_client x.state.role.side) (in_the_way w.overwrite (file_at w.files x.path)) in
      let goes_now =
      datagram_goes two_hosts first (map view_of_end w.ends) ok.messages k x from bytes h.turn h.held (open_now k x at)
      come (from_server x from bytes)
      (known_step may_commit from bytes x.state (files_of x) h.turn h.held h.steps) in
      turn_keeps first strangers w v ok k x h.turn h.held report at goes_now
      (λ agreed e. step_has agreed may_commit from bytes x.state (files_of x) h.held h.turn e h.steps) h.turns

  -- a datagram that arrived keeps the world
  pub arrives_keeps : (from to : Endpoint) (bytes : List ℕ) →
      ((p : WirePacket) → Spells p bytes → Contains ok.messages (message from to (said p))) →
      Delivery w from to bytes report v → RefinesWithin 3 first strangers v
  arrives_keeps from to bytes come (At_request_port here port decoded says repeated same served) =
      let spelled = says_spelled bytes decoded says in
      serving_keeps first strangers w ok v from bytes report repeated decoded
      (asked_so ok.messages w.ends from bytes repeated decoded
      (λ p e. subst (λ (a : Endpoint). Contains ok.messages (message from a (said p))) here (come p (spelled p e)))
      spelled same) served
  arrives_keeps from to bytes come (At_open_end k x at here h) =
      datagram_keeps k x from bytes at
      (λ p s. subst (λ (a : Endpoint). Contains ok.messages (message from a (said p))) (sym here) (come p s)) h
  arrives_keeps from to bytes come (At_closed_end k x at here s) = stays_ok first strangers w ok v report s
  arrives_keeps from to bytes come (At_nobody away nobody_there s) = stays_ok first strangers w ok v report s

  -- a timeout keeps the world
  timeout_keeps : (k : ℕ) (x : WorldEnd) → slice_get w.ends k ≡ Some x → TimeoutStep w k x report v →
      RefinesWithin 3 first strangers v
  timeout_keeps k (Closed_end x) at s = stays_ok first strangers w ok v report s
  timeout_keeps k (Open_end x) at t =
      turn_keeps first strangers w v ok k x (timeout_turn x.state) (files_of x) report at
      (timeout_goes two_hosts first (map view_of_end w.ends) ok.messages k x (open_now k x at))
      (λ agreed e. timeout_has agreed x.state e) t

-- what is to be refused is not shown of an end
armed_view : (x : WorldEnd) → view_of_end (armed_end x) ≡ view_of_end x
armed_view x = armed_has (λ z. view_of_end z ≡ view_of_end x) (λ z h. h) x refl

armed_asked : (w : WorldState) (x : OpenEnd) → HasAsker w (Open_end x) →
    HasAsker w (Open_end (record x { refuses = true }))
armed_asked w x h = search rules

end_armed : (w : WorldState) (x : WorldEnd) → IsKeptIn w x → IsKeptIn w (armed_end x)
end_armed w x h = armed_has (IsKeptIn w) (λ z k. record {
  stands = record {
    still = k.stands.still;
    kept = kept_armed two_hosts z true k.stands.kept;
    last_sent = k.stands.last_sent;
  };
  asked = λ server. armed_asked w z (k.asked server);
  sends = k.sends;
  stored = k.stored;
  text = k.text;
}) x h

same_kept : (w : WorldState) (ends : List WorldEnd) (x : WorldEnd) → IsKeptIn w x →
    IsKeptIn (record w { ends = ends }) x
same_kept w ends x h = search rules

-- an end that is set to refuse keeps the world
armed_keeps :
    (first : List Rule) (strangers : Bool) (w : WorldState) (ok : RefinesAt first strangers w) (k : ℕ) (x : WorldEnd) →
    slice_get w.ends k ≡ Some x →
    RefinesWithin 3 first strangers (record w { ends = set w.ends k (armed_end x) })
armed_keeps first strangers w ok k x at =
    let y = armed_end x in
    let v = record w { ends = set w.ends k y } in
    let same : map view_of_end (set w.ends k y) ≡ map view_of_end w.ends =
    map-set view_of_end w.ends k y ∙ (ap (λ (e : EndView). set (map view_of_end w.ends) k e) (armed_view x)
    ∙ same_set (map view_of_end w.ends) k (view_of_end x) (view_at w.ends k x at)) in
    record {
      messages = ok.messages;
      shown =
          subst (λ (vs : List EndView). IsShownWithin two_hosts 3 first vs ok.messages) (sym same)
          (none_more first (map view_of_end w.ends) ok.messages ok.shown);
      sent = ok.sent;
      only = ok.only;
      speakers = ok.speakers;
      ports = ports_set w k x y ok.ports at (ap (λ (e : EndView). e.address) (armed_view x));
      max_block = ok.max_block;
      ends = λ j z i. elim (slice_get-set_cases w.ends k j y z i) [
        | inl h ↦
            subst (λ (u : WorldEnd). IsKeptIn v u) (sym h.1) (same_kept w v.ends y (end_armed w x (ok.ends k x at)))
        | inr h ↦ same_kept w v.ends z (ok.ends j z h.1)
      ];
    }

-- a stranger has sent
stray_ok : (first : List Rule) (w : WorldState) (ok : RefinesAt first true w) (from to : Endpoint) (p : WirePacket) →
    host_of from ≡ Elsewhere → RefinesWithin 1 first true w
stray_ok first w ok from to p far =
    let m = message from to (said p) in
    record {
      messages = ok.messages ++ m ∷ [];
      shown = strays two_hosts first (map view_of_end w.ends) ok.messages ok.shown m far;
      sent = λ d i. let h = ok.sent d i in (h.0, h.1, Contains-append_left ok.messages (m ∷ []) h.0 h.2);
      only = λ n i. elim (Contains-append_cases ok.messages (m ∷ []) n i) [
        | inl o ↦ ok.only n o
        | inr e ↦ inr (subst (λ (z : Message). host_of z.from ≡ Elsewhere) (one_in n m e) far)
      ];
      speakers = λ n i e. absurd (true≢false e);
      ports = ok.ports;
      max_block = ok.max_block;
      ends = ok.ends;
    }

-- the world with a stranger's message
pub record Strayed (first : List Rule) (w : WorldState) (from to : Endpoint) (bytes : List ℕ) : Type 0 where
  pub more : List Rule
  pub few : length more ≤ 1
  pub ok : RefinesAt (first ++ more) true w
  pub come : (p : WirePacket) → Spells p bytes → Contains ok.messages (message from to (said p))

-- a datagram of neither host is a step of the rules, whatever it spells
pub with_decoded :
    (first : List Rule) (w : WorldState) (ok : RefinesAt first true w) (from to : Endpoint) (bytes : List ℕ)
    (decoded : Option WirePacket) → host_of from ≡ Elsewhere → Decodes bytes decoded →
    Strayed first w from to bytes
unfolding stray_ok shown_as
with_decoded first w ok from to bytes (Some q) far says =
    let h = stray_ok first w ok from to q far in record {
      more = h.shown.0;
      few = h.shown.1;
      ok = shown_as (IsShownWithin two_hosts 1 first) (IsShownAt two_hosts (first ++ h.shown.0)) true w h h.shown.2;
      come = λ p s. let e = one_meaning q p bytes says s in
          subst (λ (z : WirePacket). Contains (ok.messages ++ message from to (said q) ∷ []) (message from to (said z)))
          e (Contains-push ok.messages (message from to (said q)));
    }
with_decoded first w ok from to bytes None far says = record {
  more = [];
  few = omega arith;
  ok = subst (λ (rs : List Rule). RefinesAt rs true w) (sym (append-nil first)) ok;
  come = λ p s. absurd (let f : None ≡ Some says.0 = sym (spelled_has_no_fault p bytes s) ∙ says.1 in cc);
}

-- one rule, and a few
within_four : (first more : List Rule) (strangers : Bool) (v : WorldState) → length more ≤ 1 →
    RefinesWithin 3 (first ++ more) strangers v → RefinesWithin 4 first strangers v
within_four first more strangers v few ok = grind (arith, common_steps)

-- no more than three are no more than four
three_or_four : (first : List Rule) (strangers : Bool) (v : WorldState) → RefinesWithin 3 first strangers v →
    RefinesWithin 4 first strangers v
three_or_four first strangers v ok = search rules

-- its arrival keeps a world
pub stray_keeps :
    (first : List Rule) (w v : WorldState) (ok : RefinesAt first true w) (report : Report) (from to : Endpoint)
    (bytes : List ℕ) → host_of from ≡ Elsewhere → Delivery w from to bytes report v → RefinesWithin 4 first true v
stray_keeps first w v ok report from to bytes far (At_request_port here port decoded says repeated same served) =
    let h = with_decoded first w ok from to bytes decoded far says in
    within_four first h.more true v h.few
    (arrives_keeps (first ++ h.more) true w v h.ok report from to bytes h.come
    (At_request_port here port decoded says repeated same served))
stray_keeps first w v ok report from to bytes far (At_open_end k x at here g) =
    let h = with_decoded first w ok from to bytes g.steps.decoded far g.steps.says in
    within_four first h.more true v h.few
    (arrives_keeps (first ++ h.more) true w v h.ok report from to bytes h.come (At_open_end k x at here g))
stray_keeps first w v ok report from to bytes far (At_closed_end k x at here s) =
    three_or_four first true v (stays_ok first true w ok v report s)
stray_keeps first w v ok report from to bytes far (At_nobody away nobody_there s) =
    three_or_four first true v (stays_ok first true w ok v report s)

-- each step keeps the world, by more rules
step_after : (first : List Rule) (strangers : Bool) (w v : WorldState) (event : Event) (report : Report) →
    MayHappen strangers event → RefinesAt first strangers w → WorldStep w event report v →
    RefinesWithin (most_rules event) first strangers v
step_after first strangers w v (Get name mode asked) report may ok s =
    reading_keeps first strangers w ok v name mode asked report s.1 s.2
step_after first strangers w v (Put name mode asked bytes) report may ok s =
    writing_keeps first strangers w ok v name mode asked bytes report s.1 s.2
step_after first strangers w v (Deliver i) report may ok s =
    arrives_keeps first strangers w v ok report s.0.from s.0.to s.0.bytes
    (come_from first strangers w ok s.0 (contains_at w.sent i s.0 s.1)) s.2
step_after first strangers w v (Timeout port) report may ok s =
    timeout_keeps first strangers w v ok report s.0 s.1 s.2.there s.3
step_after first strangers w v (RefuseStore port) report may ok s =
    subst (λ (z : WorldState). RefinesWithin 3 first strangers z) (sym s.4)
    (armed_keeps first strangers w ok s.0 s.1 s.2.there)
step_after first true w v (Stray from to bytes) report may ok s = stray_keeps first w v ok report from to bytes s.0 s.1
step_after first false w v (Stray from to bytes) report may ok s = absurd may

-- every step of a world is one of at most so many rules
pub steps_are_rules : StepsAreRules
steps_are_rules strangers w v event report may ok s = search (rules, step_after, shown_as)

-- every step keeps a world
pub step_keeps : StepsKeep
step_keeps strangers w v event report may ok s =
    let next = steps_are_rules strangers w v event report may ok s in
    shown_as (IsShownWithin two_hosts (most_rules event) ok.shown.0) (IsShown two_hosts) strangers v next (
      ok.shown.0 ++ next.shown.0,
      next.shown.2,
    )

-- so do all of them
pub run_keeps : (strangers : Bool) (events : List Event) (w v : WorldState) → MayAllHappen strangers events →
    Refines strangers w → PlaysAll w events v → Refines strangers v
run_keeps strangers [] w v may ok r = subst (λ (z : WorldState). Refines strangers z) (sym r) ok
run_keeps strangers (event ∷ events) w v may ok r =
    run_keeps strangers events r.0 v may.1 (step_keeps strangers w r.0 event r.1 may.0 ok r.2) r.3

-- a world begins
pub new_ok : (strangers : Bool) (files : List StoredFile) (config : Config) → IsBlockSize config.limits.max_block →
    Refines strangers (new_world files config)
new_ok strangers files config ok = search (rules, shown_start, nothing_in)

-- with strangers any events may happen
pub any_may : (events : List Event) → MayAllHappen true events
any_may [] = tt
any_may (event ∷ events) = (tt, any_may events)

-- a world without strangers has its peers at home
pub ok_at_home : (w : WorldState) → Refines false w → HasPeersAtHome w
ok_at_home w ok x p i e =
    shown_at_home two_hosts (map view_of_end w.ends) ok.messages ok.shown (λ d c. ok.speakers d c refl) (view_of_end x)
    p (i.0, view_at w.ends i.0 x i.1) e
