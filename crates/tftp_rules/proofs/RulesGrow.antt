-- What each run of the guarded machine keeps: how its ends go on, and where requests are sent.
-- For the laws of worlds on recovery and on blame (tftp_player).
use Rattle.tftp_rules.proofs.Common.{◌≡◌, List, sym, true, [], false, ℕ, ◌∷◌, arith, ◌∙◌, Some, Bool, ◌++◌, ◌≤◌, inl}
use Rattle.tftp_rules.proofs.Common.{inr, not, std_rules, true≢false, Contains-append_cases, Contains, ◌≢◌, ◌⊎◌}
use Rattle.tftp_rules.proofs.Common.{DEFAULT_BLOCK, Fits, Holds, Endpoint, Network, Message, Machine, Party, Elsewhere}
use Rattle.tftp_rules.proofs.Common.{start, Data, Packet, Ack, Error, Request, Rule, after, Asks, run, Opens_with}
use Rattle.tftp_rules.proofs.Common.{Guard, IsLegal, Opens_plainly, Takes_oack, Appends, Sends_next, Completes, Fails}
use Rattle.tftp_rules.proofs.Common.{Takes_ack, Takes_data, Fails_with, Fails_to_begin, party_after, actor, packets}
use Rattle.tftp_rules.proofs.Common.{HasText}
use Rattle.tftp_rules.specs.Machine.{Oack}
use Rattle.tftp_rules.proofs.Grows.{Grows, Grows-same, AllGrow, with_each}
use Rattle.tftp_rules.proofs.Keeps.{keeps, rule_all}
use Rattle.tftp_rules.proofs.Steps.{none_sent, one_sent}

-- ---- ends go on
grows_then : (x y z : Party) → Grows x y → Grows y z → Grows x z
grows_then x y z g h = search std_rules

module _ (network : Network) where
  -- every end that is open goes on
  pub run_grows : (rules : List Rule) (m : Machine) → Holds network m → IsLegal network rules m →
      AllGrow m.party (run network rules m).party
  run_grows [] m h g = record { grows = λ q o. Grows-same (m.party q) o }
  run_grows (r ∷ rules) m h g = record {
    grows = λ q o.
        let first =
        (rule_all network r m h g.0).grows q o in
        let next = after network r m in
        grows_then (m.party q) (next.party q) ((run network rules next).party q) first
        ((run_grows rules next (keeps network r m h g.0) g.2).grows q first.is_open);
  }

  -- ---- requests are sent to the request port alone
  -- the packet is a request
  abbrev pub IsRequest : Packet → Type 0
  IsRequest (Request write request) = Unit {0}
  IsRequest (Data n bytes) = ⊥
  IsRequest (Ack n) = ⊥
  IsRequest (Oack size) = ⊥
  IsRequest Error = ⊥

  -- each request from one of the two hosts went to the request port
  abbrev pub GoToPort : List Message → Type 0
  GoToPort sent = (d : Message) → Contains sent d → network.host_of d.from ≢ Elsewhere → IsRequest d.packet →
      d.to ≡ network.request_port

  more_go : (sent added : List Message) → GoToPort sent → GoToPort added → GoToPort (sent ++ added)
  more_go sent added h n d i own is = elim (Contains-append_cases sent added d i) [
    | inl old ↦ h d old own is
    | inr fresh ↦ n d fresh own is
  ]

  abbrev Goes : Message → Type 0
  Goes d = network.host_of d.from ≢ Elsewhere → IsRequest d.packet → d.to ≡ network.request_port

  none_go : GoToPort []
  none_go d i own is = none_sent Goes d i own is

  one_goes : (a : Message) → Goes a → GoToPort (a ∷ [])
  one_goes a h d i own is = one_sent Goes a h d i own is

  -- so does what a rule sends
  sent_goes : (r : Rule) (m : Machine) → GoToPort m.sent → Guard network r m →
      GoToPort (packets network r (m.party (actor r)))
  sent_goes r m h g = search (std_rules, one_goes, none_go)

  -- rules keep that
  pub run_goes : (rules : List Rule) (m : Machine) → GoToPort m.sent → IsLegal network rules m →
      GoToPort (run network rules m).sent
  run_goes [] m h g = h
  run_goes (r ∷ rules) m h g = run_goes rules (after network r m) (more_go m.sent _ h (sent_goes r m h g.0)) g.2

  -- nothing is sent at the start
  pub start_goes : GoToPort start.sent
  start_goes = none_go

  -- ---- the blocks of a sender that has begun can be numbered
  -- a sender whose first block could not be read has failed
  abbrev pub FitsOnce : Party → Type 0
  FitsOnce x = x.sender ≡ true → (p : Endpoint) → x.peer ≡ Some p → (x.failed ≡ false) ⊎ (1 ≤ x.number) →
      Fits x.text x.size

  -- so can those of all senders
  abbrev pub AreFit : (Endpoint → Party) → Type 0
  AreFit ends = (a : Endpoint) → (ends a).is_open ≡ true → FitsOnce (ends a)

  has_fit : (write : Bool) (text : List ℕ) (size : ℕ) → HasText write text size → not write ≡ true → Fits text size
  has_fit true text size h s = absurd (true≢false (sym s))
  has_fit false text size h s = h

  -- the acting end of a rule, after it
  fit_now : (r : Rule) (m : Machine) → Holds network m → AreFit m.party → Guard network r m →
      (party_after r (m.party (actor r))).is_open ≡ true → FitsOnce (party_after r (m.party (actor r)))
  fit_now (Asks at write request text) m h f g o s p e l = absurd (let z = e in cc)
  fit_now (Opens_plainly at peer write request text) m h f g o s p e l = has_fit write text DEFAULT_BLOCK g.3 s
  fit_now (Opens_with at peer write request text size) m h f g o s p e l = has_fit write text size g.3 s
  fit_now (Takes_oack at peer size) m h f g o s p e l = g.2 s
  fit_now (Takes_ack at peer) m h f g o s p e l = g.3
  fit_now (Takes_data at peer bytes) m h f g o s p e l = absurd (true≢false (sym s ∙ g.1))
  fit_now (Appends at peer bytes) m h f g o s p e l = absurd (true≢false (sym s ∙ g.1))
  fit_now (Sends_next at peer) m h f g o s p e l = f at g.0.0.0 s p e (inl g.0.0.2)
  fit_now (Completes at peer) m h f g o s p e l = f at g.0.0.0 s p e (inl g.0.0.2)
  fit_now (Fails at) m h f g o s p e l = f at g.0 s p e (inl g.2)
  fit_now (Fails_with at peer bytes) m h f g o s p e l = absurd (true≢false (sym s ∙ g.1))
  fit_now (Fails_to_begin at peer size) m h f g o s p e (inl z) = absurd (true≢false z)
  fit_now (Fails_to_begin at peer size) m h f g o s p e (inr z) =
      let none = ((h.ends at g.0.0.0).no_peer g.0.2).0 in absurd (let c = z in omega (arith, c, none))
  fit_now r m h f g o s p e l = f (actor r) o s p e l

  -- rules keep that
  pub run_fit : (rules : List Rule) (m : Machine) → Holds network m → AreFit m.party → IsLegal network rules m →
      AreFit (run network rules m).party
  run_fit [] m h f g = f
  run_fit (r ∷ rules) m h f g =
      run_fit rules (after network r m) (keeps network r m h g.0)
      (with_each (λ (q : Endpoint) (x : Party). FitsOnce x) m.party (actor r) (party_after r (m.party (actor r)))
      (fit_now r m h f g.0) f) g.2

  -- no end is open at the start
  pub start_fit : AreFit start.party
  start_fit a o = absurd (true≢false (sym o))

  -- rules after rules
  pub legal_rest : (rs qs : List Rule) (m : Machine) → IsLegal network (rs ++ qs) m → IsLegal network qs (run network rs m)
  legal_rest [] qs m g = g
  legal_rest (r ∷ rs) qs m g = legal_rest rs qs (after network r m) g.2
