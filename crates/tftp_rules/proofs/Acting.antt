-- Rules that act in sequence at one end, by the view of that end. For Actions and Refines.
use Rattle.tftp_rules.proofs.Common.{◌≡◌, List, refl, sym, true, [], false, rules, ◌∷◌, arith, ◌∙◌, Bool, ◌++◌, ap}
use Rattle.tftp_rules.proofs.Common.{subst, std_rules, common_steps, Contains-append_left, Contains, ◌≢◌, Endpoint}
use Rattle.tftp_rules.proofs.Common.{Network, Message, Machine, Party, Rule, after, Asks, run, Opens_with, IsLegal}
use Rattle.tftp_rules.proofs.Common.{Opens_plainly, party_after, actor, MayAct, packets, OpensNoDuplicate, ActInTurn}
use Rattle.tftp_rules.proofs.Common.{party_then, sent_by, WireRequest}
use Rattle.tftp_rules.proofs.Grows.{with_at, with_other}

-- what the view of an end does not have
pub record Unshown : Type 0 where
  pub plain : Bool
  pub request : WireRequest

-- x, with these
abbrev pub with_unshown : Unshown → Party → Party
with_unshown b x = record x { plain = b.plain; request = b.request }

same_after : (b : Unshown) (r : Rule) (x : Party) →
    (c : Unshown) × (party_after r (with_unshown b x) ≡ with_unshown c (party_after r x))
same_after b (Asks at write request text) x = (record { plain = false; request = request }, refl)
same_after b (Opens_plainly at peer write request text) x = (record { plain = true; request = request }, refl)
same_after b (Opens_with at peer write request text size) x = (record { plain = false; request = request }, refl)
same_after b r x = (b, refl)

-- only rules of the end at this endpoint, which is now x, have acted in the machine
pub record WentOn (m : Machine) (a : Endpoint) (all : List Message) (x : Party) (n : Machine) : Type 0 where
  pub sent : n.sent ≡ all
  pub here : (b : Unshown) × (n.party a ≡ with_unshown b x)
  pub others : (q : Endpoint) → q ≢ a → n.party q ≡ m.party q

module _ (network : Network) where
  -- no rule depends on `plain` or on the request of the acting end
  may_act : (b : Unshown) (r : Rule) (sent : List Message) (x : Party) → MayAct network r sent x →
      MayAct network r sent (with_unshown b x)
  may_act b r sent x h = search rules

  same_packets : (b : Unshown) (r : Rule) (x : Party) → packets network r (with_unshown b x) ≡ packets network r x
  same_packets b r x = search rules

  -- no rule takes back that an end is open
  still_open : (r : Rule) (sent : List Message) (x : Party) → x.is_open ≡ true → MayAct network r sent x →
      (party_after r x).is_open ≡ true
  still_open r sent x o h = search rules

  -- no rule opens an end that is open
  opens_none : (r : Rule) (sent : List Message) (x : Party) (m : Machine) → x.is_open ≡ true → MayAct network r sent x →
      OpensNoDuplicate r m
  opens_none r sent x m o h = search rules

  -- a rule that may act may still act after more datagrams were sent
  may_act_still : (r : Rule) (sent more : List Message) (x : Party) →
      ((d : Message) → Contains sent d → Contains more d) → MayAct network r sent x → MayAct network r more x
  may_act_still r sent more x f h = search rules

  -- the view of one end and the datagrams sent decide whether its rules may act, and with what result
  pub act_in_turn : (rs : List Rule) (a : Endpoint) (before : List Message) (m : Machine) (b : Unshown) (x : Party) →
      (m.party a).is_open ≡ true → m.party a ≡ with_unshown b x →
      ((d : Message) → Contains before d → Contains m.sent d) → ActInTurn network rs a before x →
      IsLegal network rs m × WentOn m a (m.sent ++ sent_by network rs x) (party_then rs x) (run network rs m)
  act_in_turn [] a before m b x o e f t = search std_rules
  act_in_turn (r ∷ rs) a before m b x o e f t =
      let at = actor r in
      let same = ap m.party t.0 in
      let here = same ∙ e in
      let open_there = ap (λ (y : Party). y.is_open) same ∙ o in
      let guard =
      subst (λ (y : Party). MayAct network r m.sent y) (sym here) (may_act_still r before m.sent (with_unshown b x) f
      (may_act b r before x t.1)) in
      let said = ap (packets network r) here ∙ same_packets b r x in
      let next = after network r m in
      let c = same_after b r x in
      let now = ap next.party (sym t.0) ∙ with_at m.party at (party_after r (m.party at)) in
      let moved = now ∙ (ap (party_after r) here ∙ c.1) in
      let open_now = ap (λ (y : Party). y.is_open) now ∙ still_open r m.sent (m.party at) open_there guard in
      let sent = ap (λ (ds : List Message). m.sent ++ ds) said in
      let rest = act_in_turn rs a before next c.0 (party_after r x) open_now moved (λ d i. Contains-append_left m.sent
      (packets network r (m.party at)) d (f d i)) t.2 in
      let w = rest.1 in grind (arith, common_steps, opens_none, with_other)

  -- rules that act in sequence at an open end leave it open
  pub stays_open : (rs : List Rule) (a : Endpoint) (before : List Message) (x : Party) → x.is_open ≡ true →
      ActInTurn network rs a before x → (party_then rs x).is_open ≡ true
  stays_open [] a before x o t = o
  stays_open (r ∷ rs) a before x o t = stays_open rs a before (party_after r x) (still_open r before x o t.1) t.2
