-- An end of the server was opened without options exactly if the first of its datagrams is no OACK.
-- For BlamelessActions, and for the laws on blame of worlds (tftp_player) and of programs (tftp_promises).
use Rattle.tftp_rules.proofs.Common.{◌≡◌, List, refl, sym, true, [], false, ◌∷◌, Some, Bool, ◌++◌, None, Option}
use Rattle.tftp_rules.proofs.Common.{std_rules, true≢false, Contains, ◌≢◌, if◌then◌else◌, Terms, Holds, Attests}
use Rattle.tftp_rules.proofs.Common.{Endpoint, Network, Message, Machine, Party, Elsewhere, with_end, start, Data}
use Rattle.tftp_rules.proofs.Common.{Packet, Ack, Error, At_server, Request, is_same, Rule, message, after, run, Guard}
use Rattle.tftp_rules.proofs.Common.{IsLegal, said, WirePacket}
use Rattle.std.proofs.lemmas.List.Elements.{Contains-append_right}
use Rattle.tftp_rules.specs.Machine.{Oack}
use Rattle.tftp_rules.proofs.ActionCases.{IsPlainAnswer}
use Rattle.tftp_rules.proofs.Endpoints.{cases_same, same_other}
use Rattle.tftp_rules.proofs.Grows.{with_at, with_other}
use Rattle.tftp_rules.proofs.Keeps.{keeps}
use Rattle.tftp_rules.proofs.Steps.{own_server}

-- whether a datagram of a server's end says that it was opened without options, or with some
abbrev pub opens_as : Packet → Option Bool
opens_as (Request write request) = None
opens_as (Data n bytes) = Some true
opens_as (Ack n) = Some true
opens_as (Oack size) = Some false
opens_as Error = None

-- the first of both
abbrev pub or_later : Option Bool → Option Bool → Option Bool
or_later (Some plain) later = Some plain
or_later None later = later

-- what the first datagram from there says of it
abbrev pub opened_as : Endpoint → List Message → Option Bool
opened_as a [] = None
opened_as a (d ∷ ds) = if is_same d.from a then or_later (opens_as d.packet) (opened_as a ds) else opened_as a ds

either_still : (b : Bool) (first later later' : Option Bool) (plain : Bool) →
    (later ≡ Some plain → later' ≡ Some plain) → (if b then or_later first later else later) ≡ Some plain →
    (if b then or_later first later' else later') ≡ Some plain
either_still b first later later' plain h e = search std_rules

-- more datagrams leave it
pub opened_still : (a : Endpoint) (sent more : List Message) (plain : Bool) → opened_as a sent ≡ Some plain →
    opened_as a (sent ++ more) ≡ Some plain
opened_still a [] more plain e = absurd (let f : None ≡ Some plain = e in cc)
opened_still a (d ∷ ds) more plain e = either_still _ _ _ _ _ (opened_still a ds more plain) e

later_none : (first later : Option Bool) → first ≡ None → later ≡ None → or_later first later ≡ None
later_none (Some b) later e f = absurd (let z : Some b ≡ None = e in cc)
later_none None later e f = f

first_after : (b : Bool) (first later later' : Option Bool) (plain : Bool) →
    (later ≡ None → later' ≡ Some plain) → (if b then or_later first later else later) ≡ None →
    (if b then or_later first later' else later') ≡ Some plain
first_after b first later later' plain h e = search std_rules

-- the first one, if none was before
first_one : (a : Endpoint) (sent : List Message) (d : Message) (plain : Bool) → opened_as a sent ≡ None → d.from ≡ a →
    opens_as d.packet ≡ Some plain → opened_as a (sent ++ d ∷ []) ≡ Some plain
first_one a [] d plain none from says = search std_rules
first_one a (c ∷ cs) d plain none from says = first_after _ _ _ _ _ (λ rest. first_one a cs d plain rest from says) none

module _ (network : Network) where
  -- ---- what is true of its sender is no first datagram of an end that is not open
  unopened : (x : Party) (to : Endpoint) (p : Packet) → x.is_open ≡ false → Attests x to p → opens_as p ≡ None
  unopened x to p closed t = search std_rules

  both_none : (b : Bool) (one two : Option Bool) → (b ≡ true → one ≡ None) → two ≡ None →
      (if b then one else two) ≡ None
  both_none true one two h k = h refl
  both_none false one two h k = k

  none_before : (ends : Endpoint → Party) (a : Endpoint) → network.host_of a ≢ Elsewhere →
      (ends a).is_open ≡ false → (sent : List Message) →
      ((d : Message) → Contains sent d → network.host_of d.from ≢ Elsewhere → Attests (ends d.from) d.to d.packet) →
      opened_as a sent ≡ None
  none_before ends a own closed [] h = refl
  none_before ends a own closed (d ∷ ds) h =
      let rest = none_before ends a own closed ds (λ c i. h c (Contains-append_right (d ∷ []) ds c i)) in
      search (std_rules, both_none, cases_same, later_none, unopened, true≢false, same_other)

  -- ---- so it is of all ends of the server
  -- the first datagram of each end says how it was opened
  abbrev pub AreOpenedAs : List Message → (Endpoint → Party) → Type 0
  AreOpenedAs sent ends =
      (a : Endpoint) → (ends a).is_open ≡ true → (ends a).client ≡ false → opened_as a sent ≡ Some (ends a).plain

  kept_as : (sent more : List Message) (ends : Endpoint → Party) (a : Endpoint) (x : Party) → AreOpenedAs sent ends →
      (x.is_open ≡ true → x.client ≡ false → opened_as a (sent ++ more) ≡ Some x.plain) →
      AreOpenedAs (sent ++ more) (with_end ends a x)
  kept_as sent more ends a x h now q o c =
      search (std_rules, cases_same, with_at, with_other, opened_still)

  -- an end that was open
  stays_as : (m : Machine) (more : List Message) (a : Endpoint) (x : Party) → AreOpenedAs m.sent m.party →
      (x.is_open ≡ true → (m.party a).is_open ≡ true) → x.client ≡ (m.party a).client →
      x.plain ≡ (m.party a).plain → AreOpenedAs (m.sent ++ more) (with_end m.party a x)
  stays_as m more a x h was_open client plain = search (std_rules, kept_as, opened_still)

  -- an end that opens
  opens_now : (m : Machine) (a peer : Endpoint) (p : Packet) (x : Party) → Holds network m →
      AreOpenedAs m.sent m.party → (m.party a).is_open ≡ false → network.host_of a ≡ At_server →
      opens_as p ≡ Some x.plain → AreOpenedAs (m.sent ++ message a peer p ∷ []) (with_end m.party a x)
  opens_now m a peer p x holds h closed here says =
      kept_as m.sent (message a peer p ∷ []) m.party a x h (λ o c.
      first_one a _ _ _ (none_before m.party a (own_server network a here) closed m.sent holds.attested) refl says)

  plain_if : (b : Bool) (one two : Packet) → opens_as one ≡ Some true → opens_as two ≡ Some true →
      opens_as (if b then one else two) ≡ Some true
  plain_if true one two h k = h
  plain_if false one two h k = k

  rule_opens : (r : Rule) (m : Machine) → Holds network m → AreOpenedAs m.sent m.party → Guard network r m →
      AreOpenedAs (after network r m).sent (after network r m).party
  rule_opens r m holds h g = search (std_rules, kept_as, true≢false, opens_now, plain_if, stays_as)

  -- rules keep that
  pub run_opens : (rules : List Rule) (m : Machine) → Holds network m → AreOpenedAs m.sent m.party →
      IsLegal network rules m → AreOpenedAs (run network rules m).sent (run network rules m).party
  run_opens [] m holds h g = h
  run_opens (r ∷ rules) m holds h g =
      run_opens rules (after network r m) (keeps network r m holds g.0) (rule_opens r m holds h g.0) g.2

  -- no end is open at the start
  pub start_opens : AreOpenedAs start.sent start.party
  start_opens a o c = absurd (true≢false (sym o))

-- ---- a client that took no OACK has a peer that was opened without options
-- without an OACK an end's peer was opened without options
abbrev pub HasPlainPeer : (Endpoint → Party) → Terms → Type 0
HasPlainPeer ends t = t.by_oack ≡ false → ((ends t.peer).is_open ≡ true) × ((ends t.peer).plain ≡ true)

-- so is an end of the server of which a client without a peer takes an answer that is no OACK
pub plain_answer : (network : Network) (m : Machine) → Holds network m → (a from : Endpoint) →
    network.host_of a ≢ Elsewhere → (m.party a).peer ≡ None → network.host_of from ≡ At_server →
    (p : WirePacket) → Attests (m.party from) a (said p) → IsPlainAnswer (Some p) →
    ((m.party from).is_open ≡ true) × ((m.party from).plain ≡ true)
plain_answer network m holds a from own nobody here p t plain = search std_rules
