-- Rules of the guarded machine lead to the ends of programs in an honest network, which so keep the promises of a
-- transfer.
use Rattle.std.proofs.Common.{rules as std_rules}
use Rattle.tftp_promises.proofs.Common.{List, ℕ, ◌≡◌, rules, sym, Endpoint, refl, [], ◌∙◌, ap, SourceMeaning, Some}
use Rattle.tftp_promises.proofs.Common.{subst, inl, StoreMeaning, inr, ◌∷◌, SinkMeaning, false, true, None, ◌++◌}
use Rattle.tftp_promises.proofs.Common.{Programs, Bool, ◌⊎◌, Contains, SocketEvent, true≢false, arith, ◌≢◌, length}
use Rattle.tftp_promises.proofs.Common.{slice_get, Sent, if◌then◌else◌, client_at, Received, endpoint, same_Some, suc}
use Rattle.tftp_promises.proofs.Common.{IsStranger, Noted, ◌==◌, cases_Bool, zero, cases_eq, ◌+◌, eq-eqb, map}
use Rattle.tftp_promises.proofs.Common.{AreJoined, events_of, Contains-append_left}
use Rattle.tftp_promises.proofs.Common.{common_steps, TakesOwn, Contains-append_right, MayCome, IsHonest, eqb-true}
use Rattle.tftp_promises.proofs.Common.{ne_eqb, slice_get-map, IsError, heard_with, alone, CanCome, number_of, IsOrder}
use Rattle.tftp_promises.proofs.Common.{ips, ServerProgram, OneClient, IsAtOf, Several, OneServer, WasSent, has_port}
use Rattle.tftp_promises.proofs.Common.{IsHonestOf, CanComeOf, joined}
use Rattle.std.proofs.lemmas.Option.{slice_get_within}
use Rattle.tftp_promises.specs.Joined.{OfJoined, ProgramsKeepAnyFiles}
use Rattle.tftp_promises.specs.Alone.{AreAmong, EachIsJoined, EachTakesOne, OfEachServed}
use Rattle.tftp_promises.specs.Order.{IsStrangerTo}
use Rattle.tftp_promises.specs.Several.{all_sent_from, apart_from, ips_of, known_ports, other_ports, others_sent_from}
use Rattle.tftp_promises.specs.Several.{sent_from}
use Rattle.tftp_promises.proofs.JointRuns.{traces_joint}
use Rattle.tftp_promises.proofs.AnyKept.{any_kept}
use Rattle.tftp_promises.proofs.KeptFresh.{kept_at_last}
use Rattle.tftp_promises.proofs.KeptServes.{server_steps_keep}
use Rattle.tftp_promises.proofs.ClientTraces.{sent_own, received_own}
use Rattle.tftp_promises.proofs.Orders.{first_or_more, nothing_in, first_in, later_in, mapped, noted_in}
use Rattle.tftp_promises.proofs.Places.{port_has, port_in}
use Rattle.tftp_promises.proofs.TakesOne.{takes_none_or_one}

module _ {S F D G K : Type 0} (stores : StoreMeaning S D) (sources : SourceMeaning F) (inputs : SourceMeaning G)
    (outputs : SinkMeaning K) where
  pub programs_keep_any : ProgramsKeepAnyFiles stores sources inputs outputs
  programs_keep_any programs order joined =
      search (rules, any_kept, kept_at_last, traces_joint, server_steps_keep)

-- A server and each of its clients are joined: the other servers and the other clients are strangers then.

-- ---- the events of one server and of one client
-- an event before others: of the server, or of the client
abbrev heard_by : Bool → Bool → Noted → List Noted → List Noted
heard_by server client e order =
    if server then (0, e.1) ∷ order else if client then (1, e.1) ∷ order else order

module _ (s m : ℕ) (apart : s ≢ m) where
  server_by : (server client : Bool) (e : Noted) (order : List Noted) →
      events_of 0 (heard_with s m order) ≡ events_of s order →
      events_of 0 (heard_by server client e (heard_with s m order))
      ≡ (if server then e.1 ∷ events_of s order else events_of s order)
  server_by server client e order rest = search rules

  server_events : (order : List Noted) → events_of 0 (heard_with s m order) ≡ events_of s order
  server_events [] = refl
  server_events (e ∷ order) = server_by (e.0 == s) (e.0 == m) e order (server_events order)

  client_by : (server client : Bool) (e : Noted) (order : List Noted) → (e.0 == s) ≡ server → (e.0 == m) ≡ client →
      events_of 1 (heard_with s m order) ≡ events_of m order →
      events_of 1 (heard_by server client e (heard_with s m order))
      ≡ (if client then e.1 ∷ events_of m order else events_of m order)
  client_by server client e order is at rest = search rules

  client_events : (order : List Noted) → events_of 1 (heard_with s m order) ≡ events_of m order
  client_events [] = refl
  client_events (e ∷ order) = client_by (e.0 == s) (e.0 == m) e order refl refl (client_events order)

  -- each of them is among them
  later_by : (server client : Bool) (e y : Noted) (order : List Noted) → Contains order y →
      Contains (heard_by server client e order) y
  later_by true client e y order c = later_in (0, e.1) order y c
  later_by false true e y order c = later_in (1, e.1) order y c
  later_by false false e y order c = c

  heard_server : (order : List Noted) (x : SocketEvent) → Contains order (s, x) → Contains (heard_with s m order) (0, x)
  heard_server [] x c = absurd (nothing_in (s, x) c)
  heard_server (e ∷ order) x c = elim (first_or_more e (s, x) order c) [
    | inl same ↦ rw (same, eq-eqb s s refl) (first_in (0, x) (heard_with s m order))
    | inr more ↦ later_by (e.0 == s) (e.0 == m) e (0, x) (heard_with s m order) (heard_server order x more)
  ]

  heard_client : (order : List Noted) (x : SocketEvent) → Contains order (m, x) → Contains (heard_with s m order) (1, x)
  heard_client [] x c = absurd (nothing_in (m, x) c)
  heard_client (e ∷ order) x c = elim (first_or_more e (m, x) order c) [
    | inl same ↦
        rw (same, ne_eqb m s (λ e. apart (sym e)), eq-eqb m m refl) (first_in (1, x) (heard_with s m order))
    | inr more ↦ later_by (e.0 == s) (e.0 == m) e (1, x) (heard_with s m order) (heard_client order x more)
  ]

-- ---- ports
-- a port from which a program sent
pub sent_in : (events : List SocketEvent) (port : ℕ) (to : Endpoint) (bytes : List ℕ) → Contains events (Sent port to bytes) →
    Contains (sent_from events) port
sent_in [] port to bytes c = absurd (nothing_in (Sent port to bytes) c)
sent_in (e ∷ events) port to bytes c = elim (first_or_more e (Sent port to bytes) events c) [
  | inl same ↦ rw (same) (first_in port (sent_from events))
  | inr more ↦ after e (sent_in events port to bytes more)
] where
  after : (x : SocketEvent) → Contains (sent_from events) port → Contains (sent_from (x ∷ events)) port
  after (Sent at to b) i = later_in at (sent_from events) port i
  after x i = i

module _ {S F D : Type 0} {stores : StoreMeaning S D} {sources : SourceMeaning F} {to : Endpoint} where
  in_all : (servers : List (ServerProgram stores sources to)) (j : ℕ) (x : ServerProgram stores sources to) →
      slice_get servers j ≡ Some x → (port : ℕ) →
      Contains (sent_from x.noted) port → Contains (all_sent_from servers) port
  in_all [] j x e port c = absurd (let f : None ≡ Some x = e in cc)
  in_all (y ∷ servers) zero x e port c =
      Contains-append_left (sent_from y.noted) (all_sent_from servers) port
      (rw (same_Some y x e) c)
  in_all (y ∷ servers) (suc j) x e port c =
      Contains-append_right (sent_from y.noted) (all_sent_from servers) port (in_all servers j x e port c)

  in_others : (i : ℕ) (servers : List (ServerProgram stores sources to)) (j : ℕ)
      (x : ServerProgram stores sources to) → slice_get servers j ≡ Some x → j ≢ i →
      (port : ℕ) → Contains (sent_from x.noted) port → Contains (others_sent_from i servers) port
  in_others i [] j x e n port c = absurd (let f : None ≡ Some x = e in cc)
  in_others zero (y ∷ servers) zero x e n port c = absurd (n refl)
  in_others zero (y ∷ servers) (suc j) x e n port c = in_all servers j x e port c
  in_others (suc i) (y ∷ servers) zero x e n port c = grind (arith, common_steps)
  in_others (suc i) (y ∷ servers) (suc j) x e n port c =
      Contains-append_right (sent_from y.noted) (others_sent_from i servers) port
      (in_others i servers j x e (λ same. n (ap suc same)) port c)

-- a port that is not among these
in_apart : (own ports : List ℕ) (port : ℕ) → has_port own port ≡ false → Contains ports port →
    Contains (apart_from own ports) port
in_apart own [] port n c = absurd (nothing_in port c)
in_apart own (p ∷ ports) port n c = elim (first_or_more p port ports c) [
  | inl same ↦ rw (same, n) (first_in port (apart_from own ports))
  | inr more ↦ after (has_port own p) (in_apart own ports port n more)
] where
  after : (b : Bool) → Contains (apart_from own ports) port →
      Contains (if b then apart_from own ports else p ∷ apart_from own ports) port
  after true i = i
  after false i = later_in p (apart_from own ports) port i

-- nor is any of these among them
not_in_apart : (own ports : List ℕ) (port : ℕ) → has_port own port ≡ true → Contains (apart_from own ports) port → ⊥
not_in_apart own [] port has c = nothing_in port c
not_in_apart own (p ∷ ports) port has c =
    search (std_rules, has_port, true, false, first_or_more, true≢false, not_in_apart own ports port has)

-- ---- the programs by their numbers
-- a number is that of a server, or of a client
pub number_cases : {X Y : Type 0} (xs : List X) (ip : List ℕ) (f : Y → List ℕ) (ys : List Y) (p : ℕ) (at : List ℕ) →
    slice_get (map (λ (x : X). ip) xs ++ map f ys) p ≡ Some at → ((x : X) × (slice_get xs p ≡ Some x) × (at ≡ ip))
    ⊎ ((k : ℕ) × (y : Y) × (slice_get ys k ≡ Some y) × (p ≡ length xs + k) × (at ≡ f y))
number_cases [] ip f ys p at e = search (rules, mapped, slice_get-map)
number_cases (x ∷ xs) ip f ys zero at e = inl (x, refl, sym (same_Some ip at e))
number_cases (x ∷ xs) ip f ys (suc p) at e = search (std_rules, number_cases xs ip f ys p)

module _ {X Y : Type 0} (ip : List ℕ) (f : Y → List ℕ) (ys : List Y) where
  server_ip : (xs : List X) (i : ℕ) (x : X) → slice_get xs i ≡ Some x →
      slice_get (map (λ (z : X). ip) xs ++ map f ys) i ≡ Some ip
  server_ip [] i x e = absurd (let g : None ≡ Some x = e in cc)
  server_ip (y ∷ xs) zero x e = refl
  server_ip (y ∷ xs) (suc i) x e = server_ip xs i x e

  client_ip : (xs : List X) (p k : ℕ) (y : Y) → p ≡ length xs + k → slice_get ys k ≡ Some y →
      slice_get (map (λ (z : X). ip) xs ++ map f ys) p ≡ Some (f y)
  client_ip [] p k y is e = search (rules, slice_get-map)
  client_ip (x ∷ xs) zero k y is e = absurd (omega (arith, is))
  client_ip (x ∷ xs) (suc p) k y is e = client_ip xs p k y (omega (arith, is)) e

module _ {S F D G K : Type 0} {stores : StoreMeaning S D} {sources : SourceMeaning F} {inputs : SourceMeaning G}
    {outputs : SinkMeaning K}
    (several : Several stores sources inputs outputs) (all : List Noted) (i : ℕ) (server : OneServer several) (k : ℕ)
    (client : OneClient several) (at_i : slice_get several.servers i ≡ Some server)
    (found : slice_get several.clients k ≡ Some client) (among : AreAmong several all i server k client) where
  abbrev Client : Type 0
  Client = OneClient several

  abbrev there : Client → Endpoint
  there client = client_at client

  abbrev m : ℕ
  m = number_of several k

  two_numbers : i ≢ m
  two_numbers same = let l = slice_get_within several.servers i server at_i in omega (arith, l, same)

  own_port : (j : ℕ) (c : Client) → slice_get several.clients j ≡ Some c →
      (port : ℕ) (to : Endpoint) (bytes : List ℕ) → Contains all (number_of several j, Sent port to bytes) →
      port ≡ c.port
  own_port j c at port to bytes h = sent_own c _ _ _ (rw (among.is_order.clients j c at) at (noted_in _ _ _ h))

  abbrev both : Programs stores sources inputs outputs
  both = alone several i server client

  -- it is the only client
  only : (q : ℕ) (x : Client) → slice_get both.clients q ≡ Some x → (q ≡ 0) × (x ≡ client)
  only zero x e = (refl, sym (same_Some client x e))
  only (suc q) x e = absurd (let f : None ≡ Some x = e in cc)

  other_strange : (j : ℕ) (c : Client) → slice_get several.clients j ≡ Some c → j ≢ k → (port : ℕ) → port ≡ c.port →
      IsStranger both (endpoint c.ip port)
  other_strange j c at n port own = search rules

  -- for the server's address, or for the client
  abbrev IsNear : Endpoint → Type 0
  IsNear to = (to.ip ≡ several.ip) ⊎ (to ≡ there client)

  -- what another server sent there is a stranger's, or an ERROR
  by_other : (j : ℕ) (x : OneServer several) → slice_get several.servers j ≡ Some x → j ≢ i →
      (port : ℕ) (to : Endpoint) (bytes : List ℕ) → Contains x.noted (Sent port to bytes) → IsNear to →
      MayCome both (endpoint several.ip port) bytes
  by_other j x at n port to bytes c near = elim (cases_Bool (has_port (known_ports several server client) port)) [
    | inl own ↦
        inr (among.apart j x port to bytes at n c (port_in (known_ports several server client) port own) near)
    | inr out ↦
        let other =
        in_apart (known_ports several server client) (others_sent_from i several.servers) port out
        (in_others i several.servers j x at n port (sent_in x.noted port to bytes c)) in
        inl (record {
          server = λ same. other;
          clients = λ q z e same. among.away port other (ap there (sym (only q z e).1) ∙ same);
        })
  ]

  abbrev Comes : List Noted → Endpoint → Endpoint → List ℕ → Type 0
  Comes earlier from to bytes =
      WasSent both (heard_with i m earlier) from to bytes ⊎ MayCome both from bytes

  -- what a program sent comes from one of both, or may come nevertheless
  module _ (earlier : List Noted) (within : (e : Noted) → Contains earlier e → Contains all e) (p port : ℕ)
      (from to : Endpoint) (bytes : List ℕ) (at : IsAtOf (ips_of several) p port from)
      (c : Contains earlier (p, Sent port to bytes)) (near : IsNear to) where
    source_server : (x : OneServer several) → slice_get several.servers p ≡ Some x → at.0 ≡ several.ip →
        Comes earlier from to bytes
    source_server x is ip = elim (cases_eq p i) [
      | inl same ↦ inl (record {
        program = 0;
        port = port;
        is_at = (several.ip, refl, at.2 ∙ ap (λ (a : List ℕ). endpoint a port) ip);
        sent = heard_server i m two_numbers _ _ (rw (same) at c);
      })
      | inr n ↦
          let noted = rw (among.is_order.servers p x is) at (noted_in p _ _ (within (p, Sent port to bytes) c)) in
          inr (rw (at.2, ip) (by_other p x is n _ _ _ noted near))
    ]

    source_client : (j : ℕ) (y : Client) → slice_get several.clients j ≡ Some y → p ≡ number_of several j →
        at.0 ≡ y.ip → Comes earlier from to bytes
    source_client j y is number ip =
        let sent : Contains earlier (number_of several j, Sent port to bytes) = rw number at c in
        elim (cases_eq j k) [
          | inl same ↦
              inl (record {
                program = 1;
                port = port;
                is_at = search rules;
                sent = heard_client i m two_numbers earlier (Sent port to bytes) (rw same at sent);
              })
          | inr n ↦
              inr (inl (rw (at.2, ip) (other_strange j y is n port (own_port j y is port to bytes (within (
                number_of
                    several j,
                Sent port to bytes,
              ) sent)))))
        ]

    source : Comes earlier from to bytes
    source = elim (number_cases several.servers several.ip (λ (z : Client). z.ip) several.clients p at.0 at.1) [
      | inl h ↦ source_server h.0 h.1 h.2
      | inr h ↦ source_client h.0 h.1 h.2 h.3 h.4
    ]

  -- what a program of both receives
  abbrev ForBoth : List ℕ → SocketEvent → Type 0
  ForBoth ip (Received port from bytes) = IsNear (endpoint ip port)
  ForBoth ip e = Unit {0}

  nevertheless : (from : Endpoint) (bytes : List ℕ) (earlier : List Noted) (to : Endpoint) →
      IsStrangerTo several.ip [] several.clients from ⊎ IsError bytes → Comes earlier from to bytes
  nevertheless from bytes earlier to h4 = search rules

  comes : (p q : ℕ) (ip : List ℕ) → slice_get (ips_of several) p ≡ Some ip → slice_get (ips both) q ≡ Some ip →
      (e : SocketEvent) → ForBoth ip e → (earlier : List Noted) → ((x : Noted) → Contains earlier x → Contains all x) →
      CanComeOf (ips_of several) (IsStrangerTo several.ip [] several.clients) p e earlier →
      CanCome both q e (heard_with i m earlier)
  comes p q ip at_p at_q (Received port from bytes) near earlier within h =
      let same : h.1.0 ≡ ip = same_Some h.1.0 ip (sym h.1.1 ∙ at_p) in
      let to_is : h.0 ≡ endpoint ip port = h.1.2 ∙ ap (λ (a : List ℕ). endpoint a port) same in
      let near_to : IsNear h.0 = subst (λ (a : Endpoint). IsNear a) (sym to_is) near in (
        h.0,
        (ip, at_q, to_is),
        elim h.2 [
          | inl s ↦ source earlier within s.program s.port from h.0 bytes s.is_at s.sent near_to
          | inr other ↦ nevertheless from bytes earlier h.0 other
        ],
      )
  comes p q ip at_p at_q e near earlier within h = tt

  for_server : (e : SocketEvent) → ForBoth several.ip e
  for_server e = search rules

  for_client : (e : SocketEvent) → Contains client.noted e → ForBoth client.ip e
  for_client (Received port from bytes) c =
      inr (ap (λ (q : ℕ). endpoint client.ip q) (received_own client port from bytes c))
  for_client e c = tt

  abbrev Honest : List Noted → Type 0
  Honest order = IsHonest both (heard_with i m order)

  honest_by : (is_server member : Bool) (e : Noted) (earlier : List Noted) →
      ((x : Noted) → Contains (e ∷ earlier) x → Contains all x) → (e.0 == i) ≡ is_server → (e.0 == m) ≡ member →
      CanComeOf (ips_of several) (IsStrangerTo several.ip [] several.clients) e.0 e.1 earlier → Honest earlier →
      IsHonest both (heard_by is_server member e (heard_with i m earlier))
  honest_by true member e earlier within is at h rest =
      let here : slice_get (ips_of several) e.0 ≡ Some several.ip =
      ap (slice_get (ips_of several)) (eqb-true e.0 i is) ∙ server_ip several.ip (λ (z : Client). z.ip) several.clients
      several.servers i server at_i in
      (comes e.0 0 several.ip here refl e.1 (for_server e.1) earlier (λ x c. within x (later_in e earlier x c)) h, rest)
  honest_by false true e earlier within is at h rest =
      let number = eqb-true e.0 m at in
      let here : slice_get (ips_of several) e.0 ≡ Some client.ip =
      client_ip several.ip (λ (z : Client). z.ip) several.clients several.servers e.0 k client number found in
      let noted : Contains client.noted e.1 =
      rw (among.is_order.clients k client found) at (noted_in m e.1 all (rw number at (within e (first_in e earlier)))) in
      search (rules, comes, for_client, later_in)
  honest_by false false e earlier within is at h rest = rest

  honest_heard : (earlier : List Noted) → ((x : Noted) → Contains earlier x → Contains all x) →
      IsHonestOf (ips_of several) (IsStrangerTo several.ip [] several.clients) earlier → Honest earlier
  honest_heard [] within h = tt
  honest_heard (e ∷ earlier) within h =
      honest_by (e.0 == i) (e.0 == m) e earlier within refl refl h.0
      (honest_heard earlier (λ x c. within x (later_in e earlier x c)) h.1)

  pub order_both : IsOrder both (heard_with i m all)
  order_both = search (rules, server_events, two_numbers, only, client_events)

  pub honest_both : IsHonest both (heard_with i m all)
  honest_both = honest_heard all (λ x c. c) among.honest

  pub joined_both : TakesOwn several.ip (other_ports several i server client) client.runs →
      AreJoined both (heard_with i m all)
  joined_both own = search (rules, order_both, honest_both, only)

module _ {S F D G K : Type 0} (stores : StoreMeaning S D) (sources : SourceMeaning F) (inputs : SourceMeaning G)
    (outputs : SinkMeaning K) where
  pub each_joined : EachIsJoined stores sources inputs outputs
  each_joined several order i server k client at_i found served = search (rules, joined_both)

  -- what holds of all programs that are joined holds of a server and each client that it serves
  pub of_each : {Holds : Programs stores sources inputs outputs → Type 0} → OfJoined stores sources inputs outputs Holds →
      OfEachServed stores sources inputs outputs Holds
  of_each holds several order i server k client at_i found served =
      holds (alone several i server client) (heard_with i (number_of several k) order)
      (each_joined several order i server k client at_i found served)

  pub each_takes_one : EachTakesOne stores sources inputs outputs
  each_takes_one several client =
      elim (takes_none_or_one inputs outputs (endpoint several.ip several.port) client) [
        | inl all ↦ inl (λ i server. all (other_ports several i server client))
        | inr one ↦ inr (
          one.0,
          λ i server known.
              one.1 (other_ports several i server client) (not_in_apart (known_ports several server client)
              (others_sent_from i several.servers) one.0 (port_has (known_ports several server client) one.0 known)),
        )
      ]
