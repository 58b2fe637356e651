-- A server that a client passes over: for these two the client has sent its request, and no more.
use Rattle.std.proofs.Common.{rules as std_rules}
use Rattle.tftp_promises.proofs.Common.{List, ℕ, ◌≡◌, rules, sym, Endpoint, refl, [], ◌∙◌, ap, SourceMeaning, Some}
use Rattle.tftp_promises.proofs.Common.{subst, inl, StoreMeaning, inr, ◌∷◌, SinkMeaning, false, true, None, ◌++◌}
use Rattle.tftp_promises.proofs.Common.{Programs, Bool, ◌⊎◌, Contains, SocketEvent, true≢false, arith, ◌≢◌, LoopState}
use Rattle.tftp_promises.proofs.Common.{slice_get, LoopStep, Sent, if◌then◌else◌, is_sender, client_at, Received}
use Rattle.tftp_promises.proofs.Common.{endpoint, same_Some, Run, suc, IsStranger, Noted, ◌==◌, cases_Bool, zero}
use Rattle.tftp_promises.proofs.Common.{our_ports, eq-eqb, is_complete, AreJoined, events_of, client_end, common_steps}
use Rattle.tftp_promises.proofs.Common.{TakesOwn, ArePortsFresh, MayCome, ProgramEnd, IsEnd, IsHonest, heard_with}
use Rattle.tftp_promises.proofs.Common.{alone, CanCome, number_of, AreDistinct, IsOrder, ips, KeepAnyFiles, IsOurs}
use Rattle.tftp_promises.proofs.Common.{OneClient, IsAtOf, Several, OneServer, has_of, WasSent}
use Rattle.tftp_rules.proofs.ViewSafe.{first_of_empty}
use Rattle.tftp_promises.specs.Alone.{HasNothing, IsPassedOver, OthersHaveNothing, just_asking}
use Rattle.tftp_promises.specs.AnyFiles.{peer_of}
use Rattle.tftp_promises.proofs.ClientTraces.{asks_first, asks_there, sent_own}
use Rattle.tftp_promises.proofs.EachAlone.{honest_both, order_both, programs_keep_any}
use Rattle.tftp_promises.proofs.Orders.{first_or_more, nothing_in, first_in, later_in, noted_in}

-- ---- the first event of a client
-- of an order, the events of the server, and the first of the client
abbrev if_first : List SocketEvent → Noted → List Noted → List Noted
if_first [] e order = e ∷ order
if_first (x ∷ events) e order = order

abbrev by_member : Bool → List SocketEvent → Noted → List Noted → List Noted
by_member member events e order = if member then if_first events e order else e ∷ order

abbrev first_only : List Noted → List Noted
first_only [] = []
first_only (e ∷ order) = by_member (e.0 == 1) (events_of 1 order) e (first_only order)

-- the first event of the client is this, if there is one
abbrev Begins : SocketEvent → List SocketEvent → Type 0
Begins x events = (events ≡ []) ⊎ ((more : List SocketEvent) × (events ≡ more ++ x ∷ []))

begins_after : (x y : SocketEvent) (events : List SocketEvent) → Begins x (y ∷ events) → Begins x events
begins_after x y events (inl none) = absurd (let f : y ∷ events ≡ [] = none in cc)
begins_after x y events (inr ([], is)) =
    let f : y ∷ events ≡ x ∷ [] = is in let g : events ≡ [] = cc in inl g
begins_after x y events (inr (z ∷ more, is)) =
    let f : y ∷ events ≡ z ∷ (more ++ x ∷ []) = is in let g : events ≡ more ++ x ∷ [] = cc in inr (more, g)

begins_here : (x y : SocketEvent) → Begins x (y ∷ []) → y ≡ x
begins_here x y h2 = grind (arith, common_steps)

module _ (x : SocketEvent) where
  -- before an event the client's trace begins so, too
  begins_by : (member : Bool) (e : Noted) (order : List Noted) → (e.0 == 1) ≡ member →
      Begins x (events_of 1 (e ∷ order)) → Begins x (events_of 1 order)
  begins_by true e order is h = begins_after x _ _ (rw (is) at h)
  begins_by false e order is h = rw (is) at h

  server_first : (member : Bool) (events : List SocketEvent) (e : Noted) (order rest : List Noted) → (e.0 == 1) ≡ member →
      events_of 0 rest ≡ events_of 0 order → events_of 0 (by_member member events e rest) ≡ events_of 0 (e ∷ order)
  server_first member events e order rest is same = search rules

  pub server_all : (order : List Noted) → events_of 0 (first_only order) ≡ events_of 0 order
  server_all [] = refl
  server_all (e ∷ order) =
      server_first (e.0 == 1) (events_of 1 order) e order (first_only order) refl (server_all order)

  -- of the client its first
  abbrev First : List SocketEvent → List SocketEvent → Type 0
  First events first = (events ≡ [] → first ≡ []) × (events ≢ [] → first ≡ x ∷ [])

  client_by : (member : Bool) (events : List SocketEvent) (e : Noted) (rest : List Noted) → (e.0 == 1) ≡ member →
      Begins x (if member then e.1 ∷ events else events) → First events (events_of 1 rest) →
      First (if member then e.1 ∷ events else events) (events_of 1 (by_member member events e rest))
  client_by member events e rest is begins h = grind (arith, common_steps)

  client_all : (order : List Noted) → Begins x (events_of 1 order) →
      First (events_of 1 order) (events_of 1 (first_only order))
  client_all [] begins = (λ none. refl, λ some. absurd (some refl))
  client_all (e ∷ order) begins =
      client_by (e.0 == 1) (events_of 1 order) e (first_only order) refl begins
      (client_all order (begins_by (e.0 == 1) e order refl begins))

-- what was noted is among the events
in_order : (p : ℕ) (order : List Noted) (x : SocketEvent) → Contains (events_of p order) x → Contains order (p, x)
in_order p [] x c = absurd (nothing_in x c)
in_order p (e ∷ order) x c = by (λ more. in_order p order x more) (e.0 == p) refl c where
  by : (Contains (events_of p order) x → Contains order (p, x)) → (b : Bool) → (e.0 == p) ≡ b →
      Contains (if b then e.1 ∷ events_of p order else events_of p order) x → Contains (e ∷ order) (p, x)
  by rest true is c = elim (first_or_more e.1 x (events_of p order) c) [
    | inl same ↦
        let here : (e.0, e.1) ≡ (p, x) = search std_rules in
        subst (λ (y : Noted). Contains (e ∷ order) y) here (first_in e order)
    | inr more ↦ later_in e order (p, x) (rest more)
  ]
  by rest false is c = later_in e order (p, x) (rest c)

module _ {S F D G K : Type 0} {stores : StoreMeaning S D} {sources : SourceMeaning F} {inputs : SourceMeaning G}
    {outputs : SinkMeaning K}
    (several : Several stores sources inputs outputs) (all : List Noted) (i : ℕ) (server : OneServer several) (k : ℕ)
    (client : OneClient several) (at_i : slice_get several.servers i ≡ Some server)
    (found : slice_get several.clients k ≡ Some client) (over : IsPassedOver several all i server k client) where
  abbrev there : Endpoint
  there = endpoint client.ip client.port

  -- the two, and the two when the client has sent its request
  abbrev both : Programs stores sources inputs outputs
  both = alone several i server client

  abbrev less : Programs stores sources inputs outputs
  less = alone several i server (just_asking several client)

  abbrev heard : List Noted
  heard = heard_with i (number_of several k) all

  abbrev request : SocketEvent
  request = Sent client.port client.first.position.last_sent_to client.first.position.last_sent

  order_is : IsOrder both heard
  order_is = order_both several all i server k client at_i found over.among

  ours_same : {first last : LoopState S F D} (run : Run (LoopStep stores sources) first last) →
      our_ports both run ≡ our_ports less run
  ours_same run = search rules

  only : (q : ℕ) (x : OneClient several) → slice_get less.clients q ≡ Some x →
      (q ≡ 0) × (x ≡ just_asking several client)
  only q x e = search rules

  abbrev at_of : OneClient several → Endpoint
  at_of x = client_at x

  back : (port : ℕ) → Contains (several.port ∷ our_ports less server.run) port →
      Contains (several.port ∷ our_ports both server.run) port
  back port c = subst (λ (ports : List ℕ). Contains (several.port ∷ ports) port) (sym (ours_same server.run)) c

  fresh : ArePortsFresh less
  fresh = record {
    server = subst (λ ports. AreDistinct (several.port ∷ ports)) (ours_same server.run) over.among.fresh.server;
    clients = λ p q x y e f same. (only p x e).0 ∙ sym (only q y f).0;
    apart = λ q port x e known same.
        over.among.fresh.apart 0 port client refl (back port known) (ap at_of (sym (only q x e).1) ∙ same);
    others = λ port known other. over.among.fresh.others port (back port known) other;
  }

  -- ---- the order
  sent_to : client.first.position.last_sent_to ≡ endpoint several.ip several.port
  sent_to = asks_there client.opens

  begins : Begins request (events_of 1 heard)
  begins =
      let asks = asks_first (endpoint several.ip several.port) client in
      inr (
        asks.more,
        order_is.clients 0 client refl ∙ (asks.is
            ∙ ap (λ (a : Endpoint). asks.more ++ Sent client.port a client.first.position.last_sent ∷ [])
            (sym sent_to)),
      )

  order_less : IsOrder less (first_only heard)
  order_less = record {
    server = server_all request heard ∙ order_is.server;
    clients = λ q x e.
        ap (λ (p : ℕ). events_of (suc p) (first_only heard)) (only q x e).0
        ∙ ((client_all request heard begins).1 some ∙ ap (λ (z : OneClient several). z.noted) (sym (only q x e).1));
  } where
    some : events_of 1 heard ≢ []
    some none =
        no_more (asks_first (endpoint several.ip several.port) client).more
        (sym (order_is.clients 0 client refl ∙ (asks_first (endpoint several.ip several.port) client).is) ∙ none) where
          no_more : (more : List SocketEvent) →
              more ++ Sent client.port (endpoint several.ip several.port) client.first.position.last_sent ∷ [] ≡ [] → ⊥
          no_more [] e = cc
          no_more (y ∷ more) e = cc

  -- ---- the network
  strange_less : (a : Endpoint) → IsStranger both a → IsStranger less a
  strange_less a h = record {
    server = h.server;
    clients = λ q x e same. h.clients 0 client refl (ap at_of (sym (only q x e).1) ∙ same);
  }

  nevertheless : (from : Endpoint) (bytes : List ℕ) → MayCome both from bytes → MayCome less from bytes
  nevertheless from bytes h2 = search (rules, strange_less)

  abbrev Comes : List Noted → Endpoint → Endpoint → List ℕ → Type 0
  Comes order from to bytes =
      WasSent less (first_only order) from to bytes ⊎ MayCome less from bytes

  -- what the server receives of the client is its request, or an ERROR
  module _ (order : List Noted) (within : (e : Noted) → Contains order e → Contains heard e)
      (starts : Begins request (events_of 1 order)) (from to : Endpoint) (bytes : List ℕ) (q : ℕ)
      (to_is : to ≡ endpoint several.ip q) (noted : Contains server.noted (Received q from bytes)) where
    request_there : events_of 1 order ≢ [] → Contains (first_only order) (1, request)
    request_there some = in_order 1 _ _ (rw (((client_all request order starts).1 some)) (first_in request []))

    by_client : (port : ℕ) → from ≡ endpoint client.ip port → Contains order (1, Sent port to bytes) →
        Comes order from to bytes
    by_client port at sent =
        let events = noted_in 1 (Sent port to bytes) order sent in
        let some : events_of 1 order ≢ [] = λ none. nothing_in (Sent port to bytes) (rw (none) at events) in
        let own_port : port ≡ client.port =
        sent_own client port to bytes (rw (order_is.clients 0 client refl) at (noted_in 1 (Sent port to bytes) heard
        (within (1, Sent port to bytes) sent))) in
        let here : from ≡ there = at ∙ ap (λ (p : ℕ). endpoint client.ip p) own_port in
        elim (over.refused q bytes (rw (here) at noted)) [
          | inl is ↦
              let to_there : client.first.position.last_sent_to ≡ to =
              sent_to ∙ (ap (λ (p : ℕ). endpoint several.ip p) (sym is.0) ∙ sym to_is) in
              let same : request ≡ Sent client.port to bytes =
              ap (λ (a : Endpoint). Sent client.port a client.first.position.last_sent) to_there ∙ ap (λ (b : List ℕ).
              Sent client.port to b) (sym is.1) in
              inl (record {
                program = 1;
                port = client.port;
                is_at = (client.ip, refl, here);
                sent = rw (same) at (request_there some);
              })
          | inr error ↦ inr (inr error)
        ]

    by_server : (port : ℕ) → from ≡ endpoint several.ip port → Contains order (0, Sent port to bytes) →
        Comes order from to bytes
    by_server port at sent =
        inl (record {
          program = 0;
          port = port;
          is_at = (several.ip, refl, at);
          sent = in_order 0 (first_only order) (Sent port to bytes)
              (subst (λ (es : List SocketEvent). Contains es (Sent port to bytes)) (sym (server_all request order))
              (noted_in 0 (Sent port to bytes) order sent));
        })

    came : (p port : ℕ) → IsAtOf (ips both) p port from →
        Contains order (p, Sent port to bytes) → Comes order from to bytes
    came zero port at sent = by_server _ (at.2 ∙ ap (λ a. endpoint a port) (sym (same_Some several.ip at.0 at.1))) sent
    came (suc zero) port at sent =
        by_client _ (at.2 ∙ ap (λ a. endpoint a port) (sym (same_Some client.ip at.0 at.1))) sent
    came (suc (suc p)) port at sent = absurd (cc)

  comes : (p : ℕ) → p ≢ 1 → (e : SocketEvent) (order : List Noted) →
      ((x : Noted) → Contains ((p, e) ∷ order) x → Contains heard x) → Begins request (events_of 1 order) →
      CanCome both p e order → CanCome less p e (first_only order)
  comes zero n (Received q from bytes) order within starts h =
      let to_is : h.0 ≡ endpoint several.ip q =
      h.1.2 ∙ ap (λ (a : List ℕ). endpoint a q) (sym (same_Some several.ip h.1.0 h.1.1)) in
      let noted : Contains server.noted (Received q from bytes) =
      subst (λ (es : List SocketEvent). Contains es (Received q from bytes)) order_is.server
      (noted_in 0 (Received q from bytes) heard (within (0, Received q from bytes)
      (first_in (0, Received q from bytes) order))) in (
        h.0,
        h.1,
        elim h.2 [
          | inl s ↦
              came order (λ x c. within x (later_in (0, Received q from bytes) order x c)) starts from h.0 bytes q to_is
              noted s.program s.port s.is_at s.sent
          | inr other ↦ inr (nevertheless from bytes other)
        ],
      )
  comes (suc zero) n e order within starts h = absurd (n refl)
  comes (suc (suc p)) n (Received q from bytes) order within starts h =
      absurd (let f : None ≡ Some h.1.0 = h.1.1 in cc)
  comes p n e order within starts h = tt

  abbrev Honest : List Noted → Type 0
  Honest order = IsHonest less order

  honest_by : (member : Bool) (events : List SocketEvent) (e : Noted) (order : List Noted) → (e.0 == 1) ≡ member →
      events_of 1 order ≡ events → ((x : Noted) → Contains (e ∷ order) x → Contains heard x) →
      Begins request (events_of 1 (e ∷ order)) → CanCome both e.0 e.1 order →
      Honest (first_only order) → Honest (by_member member events e (first_only order))
  honest_by member events e order is h5 within begins h rest =
      grind (arith, common_steps, begins_here, comes, true≢false, eq-eqb, begins_by)

  honest_first : (order : List Noted) → ((x : Noted) → Contains order x → Contains heard x) →
      Begins request (events_of 1 order) → IsHonest both order → Honest (first_only order)
  honest_first [] within begins h = tt
  honest_first (e ∷ order) within begins h =
      honest_by (e.0 == 1) (events_of 1 order) e order refl refl within begins h.0
      (honest_first order (λ x c. within x (later_in e order x c)) (begins_by request (e.0 == 1) e order refl begins)
      h.1)

  joined_less : AreJoined less (first_only heard)
  joined_less = record {
    is_order = order_less;
    honest =
        honest_first heard (λ x c. c) begins (honest_both several all i server k client at_i found over.among);
    fresh = fresh;
    own = λ q x e. subst (λ (z : OneClient several). TakesOwn several.ip less.others z.runs) (sym (only q x e).1) tt;
  }

  -- ---- the transfers of the server with this client
  pub kept_less : KeepAnyFiles less
  kept_less = programs_keep_any stores sources inputs outputs less (first_only heard) joined_less

  abbrev its_end : ProgramEnd
  its_end = client_end less (just_asking several client)

  its_own : IsEnd less its_end
  its_own = inl (0, just_asking several client, refl, refl)

  ours : IsOurs less there
  ours h = h.clients 0 (just_asking several client) refl refl

  no_peer : peer_of its_end ≡ None
  no_peer = search rules

  its : (y : ProgramEnd) → IsEnd less y → y.address ≡ there → y ≡ its_end
  its y is_end at = kept_less.unique y its_end is_end its_own at

  no_peers : (y : ProgramEnd) (a : Endpoint) → IsEnd less y → y.address ≡ there → peer_of y ≡ Some a → ⊥
  no_peers y a is_end at peer =
      let none : None ≡ Some a = sym no_peer ∙ (sym (ap peer_of (its y is_end at)) ∙ peer) in cc

  there_is : (p : Endpoint) (x : ProgramEnd) → peer_of x ≡ Some p → peer_of x ≡ Some there → p ≡ there
  there_is p x e f = same_Some p there (sym e ∙ f)

  whole : (x : ProgramEnd) → IsEnd less x → peer_of x ≡ Some there → is_complete x.state.position.phase ≡ true →
      (sends : Bool) → is_sender x.state.role.side ≡ sends → ⊥
  whole x is_end peer complete false sends =
      let h = kept_less.safe.is_whole x is_end sends complete in
      let p_is = there_is h.0 x h.1 peer in
      let y = h.2 (subst (λ (a : Endpoint). IsOurs less a) (sym p_is) ours) in
      no_peers y.0 x.address y.1.is_end (y.1.address ∙ p_is) y.2
  whole x is_end peer complete true sends =
      let h = kept_less.safe.sender_last x is_end sends complete in
      let p_is = there_is h.0 x h.1 peer in
      let y = h.2 (subst (λ (a : Endpoint). IsOurs less a) (sym p_is) ours) in
      no_peers y.0 x.address y.1.is_end (y.1.address ∙ p_is) y.1.peer

  pub has_nothing : HasNothing several client less
  has_nothing = record {
    empty = λ x is_end peer receives.
        let h = kept_less.safe.is_prefix x there is_end receives peer ours in
        first_of_empty (has_of x) (rw (its h.0 h.1.is_end h.1.address) at h.2);
    incomplete = search (std_rules, cases_Bool, is_complete, whole, is_sender);
  }

pub others_nothing : {S F D G K : Type 0} (stores : StoreMeaning S D) (sources : SourceMeaning F)
    (inputs : SourceMeaning G) (outputs : SinkMeaning K) → OthersHaveNothing stores sources inputs outputs
others_nothing stores sources inputs outputs several order i server k client at_i found over =
    search (rules, kept_less, has_nothing)
