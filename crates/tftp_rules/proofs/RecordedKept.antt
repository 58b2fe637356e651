-- Each rule of the machine preserves the record of the datagrams sent. For `every_run_is_safe` and Refines.
use Rattle.tftp_rules.proofs.Common.{◌≡◌, List, sym, true, [], ℕ, ◌∷◌, arith, ◌∙◌, Some, Bool, ◌++◌, subst, ◌+◌, inl}
use Rattle.tftp_rules.proofs.Common.{inr, not, std_rules, std_arith, true≢false, cases_eq, common_steps}
use Rattle.tftp_rules.proofs.Common.{std_common_steps, Contains-append_cases, Contains-append_left, Contains, ◌≢◌}
use Rattle.tftp_rules.proofs.Common.{if◌then◌else◌, block, Holds, Endpoint, Network, Message, Machine, Party, Elsewhere}
use Rattle.tftp_rules.proofs.Common.{with_end, start, Data, Packet, Ack, Request, Rule, message, after, Asks, run}
use Rattle.tftp_rules.proofs.Common.{Opens_with, Guard, IsLegal, Opens_plainly, Takes_oack, Appends, Sends_next}
use Rattle.tftp_rules.proofs.Common.{Completes, Fails, Repeats, Takes_ack, Takes_data, Fails_with, Fails_to_begin}
use Rattle.tftp_rules.proofs.Common.{Strays, party_after, actor, taken, Waits, packets, WireRequest, AreRecorded}
use Rattle.std.proofs.lemmas.List.Elements.{Contains-push}
use Rattle.tftp_rules.specs.Machine.{Oack}
use Rattle.tftp_rules.specs.Recorded.{IsRecorded, IsFirstAck}
use Rattle.tftp_rules.proofs.Grows.{Grows, AllGrow-with, with_at, with_each}
use Rattle.tftp_rules.proofs.Keeps.{accepting, keeps, rule_grows}

module _ (network : Network) where
  -- with more datagrams sent
  more : (sent added : List Message) (a : Endpoint) (x : Party) → IsRecorded network sent a x →
      IsRecorded network (sent ++ added) a x
  more sent added a x h = grind (arith, common_steps)

  -- of the datagrams that are added the first ACKs are recorded
  abbrev FirstAcks : List Message → (Endpoint → Party) → List Message → Type 0
  FirstAcks all ends added =
      (y p : Endpoint) → network.host_of y ≢ Elsewhere → Contains added (message y p (Ack 0)) → IsFirstAck all y (ends y) p

  -- an end goes on, these datagrams were added, and the new ones are recorded
  kept : (m : Machine) (a : Endpoint) (x : Party) (added : List Message) → Holds network m → AreRecorded network m →
      ((m.party a).is_open ≡ true → Grows (m.party a) x) →
      (x.is_open ≡ true → IsRecorded network (m.sent ++ added) a x) →
      FirstAcks (m.sent ++ added) (with_end m.party a x) added →
      AreRecorded network (record { sent = m.sent ++ added; party = with_end m.party a x })
  kept m a x added h r grows now first =
      let all = m.sent ++ added in
      record {
        ends = with_each (IsRecorded network all) m.party a x now (λ q o. more m.sent added q (m.party q) (r.ends q o));
        first = λ y p own i. elim (Contains-append_cases m.sent added (message y p (Ack 0)) i) [
          | inl old ↦ let f = r.first y p own old in
              let t = h.attested (message y p (Ack 0)) old own in
              let s = (AllGrow-with m.party a x grows).grows y t.is_open in (
                λ c. s.plain ∙ f.0 (sym s.client ∙ c),
                λ c. rw (s.size p t.peer) (Contains-append_left m.sent added (message p y (Oack (m.party y).size)) (f.1
                    (sym s.client ∙ c))),
              )
          | inr fresh ↦ first y p own fresh
        ];
      }

  -- a request that opened an end is recorded
  asked : (sent added : List Message) (peer p : Endpoint) (write : Bool) (request : WireRequest) → peer ≡ p →
      Contains sent (message peer network.request_port (Request write request)) →
      Contains (sent ++ added) (message p network.request_port (Request (not (not write)) request))
  asked sent added peer p write request same come = grind (std_arith, std_common_steps)

  -- a client that has accepted a peer has no such record
  waits : (sent : List Message) (a : Endpoint) (x : Party) (peer : Endpoint) (size number : ℕ) (failed : Bool) →
      Waits network x peer → IsRecorded network sent a (accepting x peer size number failed)
  waits sent a x peer size number failed w = search std_rules

  -- the acting end of a rule, after it
  now_recorded : (r : Rule) (m : Machine) → AreRecorded network m → Guard network r m →
      (party_after r (m.party (actor r))).is_open ≡ true →
      IsRecorded network (after network r m).sent (actor r) (party_after r (m.party (actor r)))
  now_recorded (Asks at write request text) m r g o =
      record { requested = λ c p e. cc; oack = λ c f p e. cc; begun = λ c s f n p e. cc; ended = λ s d p e. cc }
  now_recorded (Opens_plainly at peer write request text) m r g o = record {
    requested = λ c p e. asked m.sent _ peer p write request (let z = e in cc) g.2;
    oack = λ c f p e. cc;
    begun = λ c s f n p e. cc;
    ended = λ s d p e. cc;
  }
  now_recorded (Opens_with at peer write request text size) m r g o = record {
    requested = λ c p e. asked m.sent _ peer p write request (let z = e in cc) g.2;
    oack = λ c f p e. let same : peer ≡ p = (let z = e in cc) in
        rw (← same) (Contains-push m.sent (message at peer (Oack size)));
    begun = λ c s f n p e. absurd (let z = n in omega arith);
    ended = λ s d p e. cc;
  }
  now_recorded (Takes_oack at peer size) m r g o = waits _ at (m.party at) peer _ _ _ g.0
  now_recorded (Takes_ack at peer) m r g o = waits _ at (m.party at) peer _ _ _ g.0
  now_recorded (Takes_data at peer bytes) m r g o = waits _ at (m.party at) peer _ _ _ g.0
  now_recorded (Fails_to_begin at peer size) m r g o = waits _ at (m.party at) peer _ _ _ g.0
  now_recorded (Appends at peer bytes) m r g o =
      let b = more m.sent (message at peer (Ack ((m.party at).number + 1)) ∷ []) at (m.party at) (r.ends at g.0.0) in
      search (std_rules, true≢false)
  now_recorded (Fails_with at peer bytes) m r g o =
      let b = more m.sent [] at (m.party at) (r.ends at g.0.0) in search (std_rules, true≢false)
  now_recorded (Fails at) m r g o = let b = more m.sent [] at (m.party at) (r.ends at g.0) in search std_rules
  now_recorded (Completes at peer) m r g o = search std_rules
  now_recorded (Sends_next at peer) m r g o =
      let old = m.party at in
      let b = more m.sent _ at old (r.ends at g.0.0.0) in record {
        requested = b.requested;
        oack = b.oack;
        begun = λ c s f n p e. elim (cases_eq old.number 0) [
          | inl z ↦ let same : peer ≡ p = (let v : Some peer ≡ Some p = sym g.0.2 ∙ e in cc) in
              Contains-append_left m.sent _ (message p at (Ack 0)) (rw (← same, ← z) g.0.3)
          | inr z ↦ b.begun c s f (let w = z in omega arith) p e
        ];
        ended = λ s d p e. absurd (true≢false (sym d ∙ g.0.0.1));
      }
  now_recorded rule m r g o = more m.sent _ (actor rule) (m.party (actor rule)) (r.ends (actor rule) o)

  -- an ACK 0 that is added alone
  first_one : (P : Endpoint → Endpoint → Type 0) (d : Message) →
      (d.packet ≡ Ack 0 → network.host_of d.from ≢ Elsewhere → P d.from d.to) → (y p : Endpoint) →
      network.host_of y ≢ Elsewhere → Contains (d ∷ []) (message y p (Ack 0)) → P y p
  first_one P d f y p own i = search std_rules

  -- what a rule sends
  first_recorded : (r : Rule) (m : Machine) → AreRecorded network m → Guard network r m →
      FirstAcks (after network r m).sent (after network r m).party (packets network r (m.party (actor r)))
  first_recorded (Opens_plainly at peer write request text) m r g = search std_rules
  first_recorded (Takes_oack at peer size) m r g =
      let x = m.party at in
      let next = after network (Takes_oack at peer size) m in
      let d = message at peer (if x.sender then Data 1 (block x.text size 1) else Ack 0) in
      first_one (λ y p. IsFirstAck next.sent y (next.party y) p) d (λ z own.
      rw (with_at m.party at (taken x peer size)) (
        λ c. absurd (true≢false (sym g.0.1 ∙ c)),
        λ c. Contains-append_left m.sent (d ∷ []) (message peer at (Oack size)) g.1,
      ))
  first_recorded (Repeats old) m r g =
      let x = m.party old.from in
      let next = after network (Repeats old) m in
      first_one (λ y p. IsFirstAck next.sent y (next.party y) p) old (λ z own.
      let b = r.first old.from old.to own (subst (λ (k : Packet). Contains m.sent (message old.from old.to k)) z g) in
      rw (with_at m.party old.from x)
      (b.0, λ c. Contains-append_left m.sent (old ∷ []) (message old.to old.from (Oack x.size)) (b.1 c)))
  first_recorded (Strays stray) m r g =
      let next = after network (Strays stray) m in
      first_one (λ y p. IsFirstAck next.sent y (next.party y) p) stray (λ z own. absurd (own g))
  first_recorded rule m r g = λ y p own i. search std_rules

  -- one rule keeps the record
  pub recorded_keeps : (r : Rule) (m : Machine) → Holds network m → AreRecorded network m → Guard network r m →
      AreRecorded network (after network r m)
  recorded_keeps rule m h r g =
      search (std_rules, kept, actor, party_after, rule_grows, now_recorded, first_recorded)

  -- and so does a legal run
  pub recorded_run : (rules : List Rule) (m : Machine) → Holds network m → AreRecorded network m →
      IsLegal network rules m → AreRecorded network (run network rules m)
  recorded_run [] m h r g = r
  recorded_run (x ∷ rules) m h r g =
      recorded_run rules (after network x m) (keeps network x m h g.0) (recorded_keeps x m h r g.0) g.2

  -- at the start nothing was sent, and all of it is recorded
  pub recorded_start : AreRecorded network start
  recorded_start = search std_rules
