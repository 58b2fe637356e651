-- An open end of the machine continues: what does not change, and what its datagrams imply stays true. For twelve
-- other files and the crate tftp_player.
use Rattle.tftp_rules.proofs.Common.{◌≡◌, List, sym, true, [], rules, ◌∷◌, Some, ◌++◌, subst, ◌≤◌, inl, inr, not}
use Rattle.tftp_rules.proofs.Common.{std_rules, cond-true, Contains-append_cases, Contains, ◌≢◌, Holds, Attests}
use Rattle.tftp_rules.proofs.Common.{HasReceived, IsSoundParty, Endpoint, Network, Message, Machine, Party, Elsewhere}
use Rattle.tftp_rules.proofs.Common.{with_end, Packet, is_same, message}
use Rattle.std.proofs.lemmas.Bool.{cond-false}
use Rattle.tftp_rules.proofs.Endpoints.{same_self, same_other}
use Rattle.tftp_rules.proofs.Steps.{none_sent}

-- an open end x became y
pub record Grows (x y : Party) : Type 0 where
  pub is_open : y.is_open ≡ true
  pub client : y.client ≡ x.client
  pub sender : y.sender ≡ x.sender
  pub plain : y.plain ≡ x.plain
  pub mode : y.mode ≡ x.mode
  pub request : y.request ≡ x.request
  pub peer : (p : Endpoint) → x.peer ≡ Some p → y.peer ≡ Some p
  pub size : (p : Endpoint) → x.peer ≡ Some p → y.size ≡ x.size
  pub number : x.number ≤ y.number
  pub complete : x.complete ≡ true → y.complete ≡ true
  pub text : x.sender ≡ true → y.text ≡ x.text

-- an open end that does not change goes on
pub Grows-same : (x : Party) → x.is_open ≡ true → Grows x x
Grows-same x o = search rules

-- the end that was put at an endpoint is there
pub with_at : (ends : Endpoint → Party) (a : Endpoint) (x : Party) → with_end ends a x a ≡ x
with_at ends a x = cond-true (is_same a a) x (ends a) (same_self a)

-- every other endpoint keeps its end
pub with_other : (ends : Endpoint → Party) (a : Endpoint) (x : Party) (q : Endpoint) → q ≢ a →
    with_end ends a x q ≡ ends q
with_other ends a x q n = cond-false (is_same q a) x (ends q) (same_other q a n)

-- what holds of each open end still does once this holds of one that changed
pub with_each : (P : Endpoint → Party → Type 0) (ends : Endpoint → Party) (a : Endpoint) (x : Party) →
    (x.is_open ≡ true → P a x) → ((q : Endpoint) → (ends q).is_open ≡ true → P q (ends q)) → (q : Endpoint) →
    (with_end ends a x q).is_open ≡ true → P q (with_end ends a x q)
with_each P ends a x now old q o = search std_rules

-- every open end of the first continues in the second
pub record AllGrow (ends new : Endpoint → Party) : Type 0 where
  pub grows : (q : Endpoint) → (ends q).is_open ≡ true → Grows (ends q) (new q)

-- if one end goes on and no other changes, all go on
pub AllGrow-with : (ends : Endpoint → Party) (a : Endpoint) (x : Party) → ((ends a).is_open ≡ true → Grows (ends a) x) →
    AllGrow ends (with_end ends a x)
AllGrow-with ends a x g = search rules

-- what an end's datagram implies stays true as the end goes on
pub Attests-grows : (x y : Party) → (x.is_open ≡ true → Grows x y) → (to : Endpoint) (k : Packet) → Attests x to k →
    Attests y to k
Attests-grows x y f to k h = search rules

-- what a receiver has is still the beginning of its sender's text as the sender goes on
pub HasReceived-grows : (x y z : Party) → Grows y z → y.sender ≡ true → HasReceived x y → HasReceived x z
HasReceived-grows x y z g s h = search rules

-- the facts on an end's peer, unless it is elsewhere
pub record HasPeer (x y : Party) : Type 0 where
  pub is_open : y.is_open ≡ true
  pub client : y.client ≡ not x.client
  pub mode : y.mode ≡ x.mode
  pub sender : y.sender ≡ not x.sender

-- what is true of an end's datagram stays true where that end is put into the machine
pub attested_at : (ends : Endpoint → Party) (a : Endpoint) (x : Party) (to : Endpoint) (k : Packet) → Attests x to k →
    Attests (with_end ends a x a) to k
attested_at ends a x to k t = subst (λ (y : Party). Attests y to k) (sym (with_at ends a x)) t

module _ (network : Network) where
  -- the peer of a consistent end is an end of the other host that has it for its peer
  pub peer_of : (ends : Endpoint → Party) (a : Endpoint) (x : Party) → IsSoundParty network ends a x → (p : Endpoint) →
      x.peer ≡ Some p → network.host_of p ≢ Elsewhere → HasPeer x (ends p)
  peer_of ends a x h p e o = search rules

  -- a consistent end stays so while all ends go on
  pub IsSound-grows : (ends new : Endpoint → Party) → AllGrow ends new → (a : Endpoint) (x : Party) →
      IsSoundParty network ends a x → IsSoundParty network new a x
  IsSound-grows ends new g a x h = search rules

  -- the end at a became x, and these messages were added
  pub kept : (m : Machine) (a : Endpoint) (x : Party) (added : List Message) → Holds network m →
      ((m.party a).is_open ≡ true → Grows (m.party a) x) →
      (x.is_open ≡ true → IsSoundParty network (with_end m.party a x) a x) →
      ((d : Message) → Contains added d → network.host_of d.from ≢ Elsewhere →
      Attests (with_end m.party a x d.from) d.to d.packet) →
      Holds network (record { sent = m.sent ++ added; party = with_end m.party a x })
  kept m a x added h g s t =
      let all = AllGrow-with m.party a x g in
      let new = with_end m.party a x in
      record {
        ends = with_each (IsSoundParty network new) m.party a x s (λ q o.
            IsSound-grows m.party new all q (m.party q) (h.ends q o));
        attested = λ d i o. elim (Contains-append_cases m.sent added d i) [
          | inl old ↦ Attests-grows (m.party d.from) (new d.from) (all.grows d.from) d.to d.packet (h.attested d old o)
          | inr fresh ↦ t d fresh o
        ];
      }

  -- the datagram that an end at a, which is now x, sends
  pub attested_one : (ends : Endpoint → Party) (a : Endpoint) (x : Party) (to : Endpoint) (k : Packet) →
      Attests x to k → (d : Message) → Contains (message a to k ∷ []) d → network.host_of d.from ≢ Elsewhere →
      Attests (with_end ends a x d.from) d.to d.packet
  attested_one ends a x to k t = search rules

  -- a rule that sends nothing sends nothing untrue
  pub attested_none : (ends : Endpoint → Party) (d : Message) → Contains [] d → network.host_of d.from ≢ Elsewhere →
      Attests (ends d.from) d.to d.packet
  attested_none ends = none_sent (λ d. network.host_of d.from ≢ Elsewhere → Attests (ends d.from) d.to d.packet)
