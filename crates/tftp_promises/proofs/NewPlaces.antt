-- No two transfers of a run are at one place, and none is at a client's endpoint.
use Rattle.std.proofs.Common.{rules as std_rules}
use Rattle.tftp_promises.proofs.Common.{List, ℕ, ◌≡◌, rules, sym, Endpoint, refl, [], ◌∙◌, ap, SourceMeaning, Some}
use Rattle.tftp_promises.proofs.Common.{subst, inl, StoreMeaning, inr, ◌∷◌, SinkMeaning, false, true, None, Programs}
use Rattle.tftp_promises.proofs.Common.{Bool, ◌⊎◌, Contains, Files, SocketEvent, Option, arith, ◌≢◌, LoopState, length}
use Rattle.tftp_promises.proofs.Common.{slice_get, LoopStep, joined, ClientOf, outcome_of, OpenEnd, if◌then◌else◌}
use Rattle.tftp_promises.proofs.Common.{is_sender, client_at, endpoint, Snapshot, Run, Turn, suc, Mode, Then, Start}
use Rattle.tftp_promises.proofs.Common.{Spells, WirePacket, EndView, zero, ◌≤◌, Contains-push, requests_at, after_turn}
use Rattle.tftp_promises.proofs.Common.{◌<◌, ◌+◌, DatagramStep, server_did, our_ports, Has_asked, map, Came}
use Rattle.tftp_promises.proofs.Common.{Contains-append_cases, IsAmong, opened_at, Request_answered}
use Rattle.tftp_promises.proofs.Common.{Contains-append_left, Elsewhere, left_by, AnswersRequest, Contains-append_right}
use Rattle.tftp_promises.proofs.Common.{Holding, is_ours, opened_ports, ClientProgram, known_sink, known_source}
use Rattle.tftp_promises.proofs.Common.{IsUnblamed, files_of, option_to_list, At_server, place, wire_text, Machine}
use Rattle.tftp_promises.proofs.Common.{Party, AreDistinct, length-append, above, opened_by, slice_get-map, option_map}
use Rattle.tftp_promises.proofs.Common.{slice_get_read, ours_by, run, start, IsFromServer}
use Rattle.tftp_rules.proofs.UnblamedEnds.{datagram_unblamed}
use Rattle.tftp_promises.specs.Openings.{total}
use Rattle.tftp_promises.proofs.Places.{placed_by, places, at_port}
use Rattle.tftp_promises.proofs.Invariant.{IsFreshBy, HasArrived, IsKept, IsOfClient, IsOfTransfer, IsViewed, SendsText}
use Rattle.tftp_promises.proofs.Invariant.{TransferKept, place_text}
use Rattle.tftp_promises.proofs.Orders.{found_in, nothing_in, first_or_more, one_in}

-- no number exceeds a sum of it and others
pub total_most : (ns : List ℕ) (n : ℕ) → Contains ns n → n ≤ total ns
total_most [] n c = absurd (nothing_in n c)
total_most (m ∷ ns) n c = elim (first_or_more m n ns c) [
  | inl same ↦ omega (arith, same)
  | inr more ↦ let l = total_most ns n more in omega (arith, l)
]

-- no port is there twice, element by element
abbrev pub NoneTwice : List ℕ → Type 0
NoneTwice [] = Unit {0}
NoneTwice (x ∷ xs) = (Contains xs x → ⊥) × NoneTwice xs

pub none_twice : (xs : List ℕ) → AreDistinct xs → NoneTwice xs
none_twice [] d = tt
none_twice (x ∷ xs) d = (
  λ c.
      let there : slice_get xs c.0 ≡ Some x = slice_get_read xs (length xs) c.0 x refl c.1 (sym c.2) in
      let one : zero ≡ suc c.0 = d zero (suc c.0) x refl there in
      omega (arith, one),
  none_twice xs (λ j k port e f. let l = d (suc j) (suc k) port e f in omega (arith, l)),
)

-- the port of a client is not above all
client_most : {G K : Type 0} {inputs : SourceMeaning G} {outputs : SinkMeaning K} {to : Endpoint}
    (clients : List (ClientProgram inputs outputs to)) (k : ℕ) (client : ClientProgram inputs outputs to) →
    slice_get clients k ≡ Some client →
    client.port ≤ total (map (λ (c : ClientProgram inputs outputs to). c.port) clients)
client_most {inputs = inputs} {outputs = outputs} {to = to} clients k client e =
    let port_of : ClientProgram inputs outputs to → ℕ = λ c. c.port in
    total_most _ _ (found_in _ k _ (slice_get-map port_of clients k ∙ ap (option_map port_of) e))

-- the port that a request opens is its own
module _ {S F D : Type 0} {stores : StoreMeaning S D} {sources : SourceMeaning F} {old new : LoopState S F D}
    (answers : AnswersRequest stores sources old new) where
  tid_by : (came : Came S F D) (tid : ℕ) → (left_by came old.server answers.from answers.tid).opened.tid ≡ Some tid →
      tid ≡ answers.tid
  tid_by came tid e = search rules

  pub own_tid : (tid : ℕ) → answers.left.opened.tid ≡ Some tid → tid ≡ answers.tid
  own_tid tid is = search (rules, tid_by)

module _ {S F D G K : Type 0} {stores : StoreMeaning S D} {sources : SourceMeaning F} {inputs : SourceMeaning G}
    {outputs : SinkMeaning K} (programs : Programs stores sources inputs outputs) where
  -- a place is at a port of a client's transfer, or above all ports
  pub record OursAt (ports : List ℕ) (a : Endpoint) : Type 0 where
    pub port : ℕ
    pub known : Contains ports port
    pub is : a ≡ endpoint programs.ip port

  pub record AsideAt (count : ℕ) (a : Endpoint) : Type 0 where
    pub number : ℕ
    pub earlier : number < count
    pub is : a ≡ endpoint programs.ip (above programs + number)

  -- of a transfer that a step opens
  abbrev OpensOne : ℕ → List ℕ → List ℕ → Endpoint → Type 0
  OpensOne count ports opened a =
      OursAt ports a ⊎ ((a ≡ endpoint programs.ip (above programs + count)) × (1 ≤ length opened))

  answer_place : (from : Endpoint) (count : ℕ) (o : Option ℕ) (a : Endpoint) →
      Contains (map (place programs count from) (option_to_list o)) a →
      OpensOne count (if is_ours programs from then option_to_list o else []) (option_to_list o) a
  answer_place from count o a c = search rules

  placed_cases : {first old new : LoopState S F D} (run : Run (LoopStep stores sources) first old)
      (does : LoopStep stores sources old new) (a : Endpoint) → Contains (placed_by programs run does) a →
      OpensOne (length (opened_ports run)) (ours_by programs does) (opened_by does) a
  placed_cases run (Request_answered answers) a c = answer_place _ _ _ a c
  placed_cases run does a c = absurd (nothing_in a c)

  -- of all that a run opened
  pub place_cases : {first last : LoopState S F D} (run : Run (LoopStep stores sources) first last) (a : Endpoint) →
      Contains (places programs run) a → OursAt (our_ports programs run) a ⊎ AsideAt (length (opened_ports run)) a
  place_cases Start a c = absurd (nothing_in a c)
  place_cases (Then run does) a c =
      let long = length-append (opened_by does) (opened_ports run) in
      elim (Contains-append_cases (placed_by programs run does) (places programs run) a c) [
        | inl now ↦ elim (placed_cases run does a now) [
          | inl h ↦
              inl (search (Contains-append_left (ours_by programs does) (our_ports programs run) h.port h.known))
          | inr h ↦
              inr (record {
                number = length (opened_ports run);
                earlier = (let l = h.1 in omega (arith, long, l));
                is = h.0;
              })
        ]
        | inr before ↦ elim (place_cases run a before) [
          | inl h ↦
              inl (search (Contains-append_right (ours_by programs does) (our_ports programs run) h.port h.known))
          | inr h ↦
              inr (record { number = h.number; earlier = (let l = h.earlier in omega (arith, long, l)); is = h.is })
        ]
      ]

  abbrev Client : Type 0
  Client = ClientOf programs

  port_of : (a b : Endpoint) → a ≡ b → a.port ≡ b.port
  port_of a b e = ap (λ (z : Endpoint). z.port) e

  -- no client is at such a place, which is at the server
  module _ (snapshot : Snapshot programs) (fresh : IsFreshBy snapshot) (a : Endpoint)
      (known : Contains (places programs snapshot.run) a) where
    pub client_apart : (k : ℕ) (client : Client) → slice_get programs.clients k ≡ Some client → client_at client ≢ a
    client_apart k client found same = elim (place_cases snapshot.run a known) [
      | inl h ↦
          fresh.ends.apart k h.port client found (Contains-append_right (programs.port ∷ []) (our_ports programs
          snapshot.run) h.port h.known) (same ∙ h.is)
      | inr h ↦
          let most = client_most programs.clients k client found in
          let at : client.port ≡ above programs + h.number = port_of _ _ (same ∙ h.is) in
          omega (arith, most, at)
    ]

    pub at_server : (joined programs).host_of a ≡ At_server
    at_server = elim (place_cases snapshot.run a known) [
      | inl h ↦
          there h.port h.is (fresh.ends.others h.port (Contains-append_right (programs.port ∷ []) (our_ports programs
          snapshot.run) h.port h.known))
      | inr h ↦
          there (above programs + h.number) h.is (λ other. let most = total_most _ _ other in omega (arith, most))
    ] where
      there : (port : ℕ) → a ≡ endpoint programs.ip port → (Contains programs.others port → ⊥) →
          (joined programs).host_of a ≡ At_server
      there port is own =
          ap (joined programs).host_of is ∙ at_port programs port (λ k client found same. client_apart k client found
          (same ∙ sym is)) own

  -- a transfer opens where none was before
  module _ (old : Snapshot programs) {new : LoopState S F D} (answers : AnswersRequest stores sources old.state new)
      (opens : option_to_list answers.left.opened.tid ≡ answers.tid ∷ []) (added : List SocketEvent)
      (fresh : IsFreshBy (server_did old (Request_answered answers) added)) where
    abbrev tid : ℕ
    tid = answers.tid

    abbrev count : ℕ
    count = length (opened_ports old.run)

    abbrev now : Snapshot programs
    now = server_did old (Request_answered answers) added

    -- one of a client
    ports_are : is_ours programs answers.from ≡ true → our_ports programs now.run ≡ tid ∷ our_ports programs old.run
    ports_are ours = search rules

    place_before : (a : Endpoint) → Contains (places programs old.run) a → (b : Bool) →
        is_ours programs answers.from ≡ b → a ≢ endpoint programs.ip (if b then tid else above programs + count)
    place_before a c true is same = elim (place_cases old.run a c) [
      | inl h ↦
          (none_twice (programs.port ∷ (tid ∷ our_ports programs old.run)) (rw (← ports_are is) fresh.ends.server)).1.0
          (rw (← port_of (endpoint programs.ip h.port) (endpoint programs.ip tid) (sym h.is ∙ same)) h.known)
      | inr h ↦
          let low =
          fresh.below tid (rw ((ports_are is)) (Contains-append_left (tid ∷ []) (our_ports programs old.run) tid
          (Contains-push [] tid))) in
          let at = port_of _ _ (sym h.is ∙ same) in
          omega (arith, low, at)
    ]
    place_before a c false is same = elim (place_cases old.run a c) [
      | inl h ↦
          let low =
          fresh.below h.port (Contains-append_right (ours_by programs (Request_answered answers)) (our_ports programs
          old.run) h.port h.known) in
          let at = port_of _ _ (sym h.is ∙ same) in
          omega (arith, low, at)
      | inr h ↦
          let less = h.earlier in
          let at = port_of _ _ (sym h.is ∙ same) in
          omega (arith, less, at)
    ]

    pub new_place : (a : Endpoint) → Contains (places programs old.run) a → a ≢ place programs count answers.from tid
    new_place a c = place_before a c (is_ours programs answers.from) refl

  -- ---- ours among all
  ours_here : (b : Bool) (ports : List ℕ) (port : ℕ) → Contains (if b then ports else []) port → Contains ports port
  ours_here b ports port c = search (rules, nothing_in)

  ours_opened : {old new : LoopState S F D} (does : LoopStep stores sources old new) (port : ℕ) →
      Contains (ours_by programs does) port → Contains (opened_by does) port
  ours_opened (Request_answered answers) port c = ours_here _ _ _ c
  ours_opened does port c = c

  pub ours_among : {first last : LoopState S F D} (run : Run (LoopStep stores sources) first last) (port : ℕ) →
      Contains (our_ports programs run) port → Contains (opened_ports run) port
  ours_among Start port c = c
  ours_among (Then run does) port c =
      elim (Contains-append_cases (ours_by programs does) (our_ports programs run) port c) [
        | inl now ↦ Contains-append_left (opened_by does) (opened_ports run) port (ours_opened does port now)
        | inr before ↦ Contains-append_right (opened_by does) (opened_ports run) port (ours_among run port before)
      ]

  -- the ports of the whole run are below the places of strangers' transfers
  pub below_above : (port : ℕ) → Contains (our_ports programs programs.server.run) port → port < above programs
  below_above port c =
      let most = total_most _ _ (ours_among programs.server.run port c) in omega (arith, most)

  -- a place where a transfer was is not taken again
  module _ (old : Snapshot programs) {new : LoopState S F D} where
    answered_again : (answers : AnswersRequest stores sources old.state new) (added : List SocketEvent) →
        IsFreshBy (server_did old (Request_answered answers) added) → (a : Endpoint) →
        Contains (places programs old.run) a → (o : Option ℕ) → answers.left.opened.tid ≡ o →
        Contains (map (place programs (length (opened_ports old.run)) answers.from) (option_to_list o)) a → ⊥
    answered_again answers added fresh a c None is now = nothing_in a now
    answered_again answers added fresh a c (Some tid) is now =
        let own : tid ≡ answers.tid = own_tid answers tid is in
        new_place old answers (ap option_to_list is ∙ ap (λ (t : ℕ). t ∷ []) own) added fresh a c (sym (one_in a _ now)
        ∙ ap (place programs (length (opened_ports old.run)) answers.from) own)

    pub not_again : (does : LoopStep stores sources old.state new) (added : List SocketEvent) →
        IsFreshBy (server_did old does added) → (a : Endpoint) → Contains (places programs old.run) a →
        Contains (placed_by programs old.run does) a → ⊥
    not_again (Request_answered answers) added fresh a c now = answered_again _ _ fresh a c _ refl now
    not_again does added fresh a c now = nothing_in a now

-- What an end of the programs receives makes it blame no peer that is no stranger.
-- For the law no_program_is_blamed.

module _ {S F D G K : Type 0} {stores : StoreMeaning S D} {sources : SourceMeaning F} {inputs : SourceMeaning G}
    {outputs : SinkMeaning K} {programs : Programs stores sources inputs outputs} {pad : ℕ}
    {snapshot : Snapshot programs} (kept : IsKept pad snapshot) (fresh : IsFreshBy snapshot) where
  -- no transfer is at the request port
  pub apart_from_requests : (a : Endpoint) → Contains (places programs snapshot.run) a → a ≢ requests_at programs
  apart_from_requests a known same = elim (place_cases programs snapshot.run a known) [
    | inl h ↦
        (none_twice (programs.port ∷ our_ports programs snapshot.run) fresh.ends.server).0
        (subst (λ (p : ℕ). Contains (our_ports programs snapshot.run) p) (ap (λ (z : Endpoint). z.port) (sym h.is ∙ same))
        h.known)
    | inr h ↦
        let at : above programs + h.number ≡ programs.port = ap (λ (z : Endpoint). z.port) (sym h.is ∙ same) in
        omega (arith, at)
  ]

  abbrev ends : Endpoint → Party
  ends = Machine.party (run (joined programs) kept.shown.0 start)

  -- the text of a view is that of its end
  module _ (from : Endpoint) (mode : Mode) (view : EndView) (among : IsAmong kept.views view)
      (here : view.address ≡ from) (sends : (ends from).sender ≡ true) (text : SendsText programs pad from mode) where
    -- so it is if it is that of an end that sends this
    same_text : (x : OpenEnd) → IsViewed (joined programs) (SendsText programs pad) kept.views kept.messages x →
        from ≡ x.address → (is_sender x.state.role.side ≡ true → wire_text mode text.file ≡ x.text) →
        wire_text mode text.file ≡ (ends from).text
    same_text x viewed at has = search rules

    of_client : IsOfClient programs snapshot.clients view.address → wire_text mode text.file ≡ (ends from).text
    of_client h =
        let own = kept.clients h.k h.client (Has_asked h.s h.files h.noted h.moved) h.found h.is_stage in
        let at = sym here ∙ h.address in
        search std_rules

    of_transfer : IsOfTransfer snapshot view.address → wire_text mode text.file ≡ (ends from).text
    of_transfer h =
        let own : TransferKept pad kept.views kept.messages snapshot h.port h.transfer view.address =
        kept.transfers h.port h.transfer view.address h.is_transfer in
        let at : from ≡ own.end.address = sym here ∙ sym own.address in
        let known = kept.server.opened h.port h.transfer view.address h.is_transfer in
        same_text own.end own.viewed at (λ s.
        let opened : opened_at programs from programs.server.run ≡ Some own.has.opened.opening = search std_rules steps
        300000 in
        text.transfer (λ k client found same. client_apart programs snapshot fresh view.address known k client found
        (sym (here ∙ same))) own.has.opened.opening opened ∙ (ap (place_text programs pad) at ∙ sym (own.has.text s)))

  -- what a peer sends can be read, if it is the text of a file
  readable : (from : Endpoint) (mode : Mode) → SendsText programs pad from mode → (ends from).is_open ≡ true →
      (ends from).sender ≡ true → (file : List ℕ) × (wire_text mode file ≡ (ends from).text)
  readable from mode text is_open sends =
      let there = kept.shown.1.1.only from is_open in
      let among : IsAmong kept.views there.1 = (there.0, there.2) in (
        text.file,
        elim (kept.only there.1 among) [
          | inl h ↦ of_client from mode there.1 among there.3 sends text h
          | inr h ↦ of_transfer from mode there.1 among there.3 sends text h
        ],
      )

  -- so a turn on what has arrived blames nobody
  pub turn_unblamed : (x : OpenEnd) → IsViewed (joined programs) (SendsText programs pad) kept.views kept.messages x →
      outcome_of x.state.position.phase ≡ None → x.address ≢ requests_at programs → (from : Endpoint) (bytes : List ℕ) →
      HasArrived kept.messages from x.address bytes →
      ((joined programs).host_of from ≢ Elsewhere → (p : WirePacket) × Spells p bytes) →
      IsFromServer (joined programs) x from bytes → (turn : Turn) (held : Files (List ℕ) Holding) →
      DatagramStep known_source known_sink from bytes x.state (files_of x) turn held →
      IsUnblamed (joined programs) (SendsText programs pad) kept.messages (after_turn x.state turn)
  turn_unblamed x viewed still apart from bytes come spelled serves turn held steps =
      datagram_unblamed (joined programs) (SendsText programs pad) kept.shown.0 kept.views kept.messages kept.shown.1
      viewed.index x viewed.viewed viewed.kept still viewed.unblamed apart from bytes (λ own. let p = spelled own
      in (p.0, p.1, come p.0 p.1)) serves (λ own text is_open sends. readable _ _ text is_open sends) turn held steps
