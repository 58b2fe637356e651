-- What a program received in an order of an honest network was sent to it by one of the programs, or may come though none
-- sent it. For the law a_client_ends_for_a_reason.
use Rattle.std.proofs.Common.{rules as std_rules}
use Rattle.tftp_promises.proofs.Common.{List, ℕ, ◌≡◌, rules, sym, Endpoint, refl, [], ◌∙◌, ap, SourceMeaning, Some, inl}
use Rattle.tftp_promises.proofs.Common.{StoreMeaning, inr, ◌∷◌, SinkMeaning, Programs, Bool, ◌⊎◌, Contains, SocketEvent}
use Rattle.tftp_promises.proofs.Common.{arith, slice_get, Sent, ClientOf, if◌then◌else◌, client_at, Received, endpoint}
use Rattle.tftp_promises.proofs.Common.{same_Some, suc, moved_in, Noted, ◌==◌, zero, requests_at, all_of, WasSentBefore}
use Rattle.tftp_promises.proofs.Common.{Has_asked, events_of, Contains-append_cases, Has, ClientStage, MayCome}
use Rattle.tftp_promises.proofs.Common.{IsHonest, eqb-true, slice_get-map, CanCome, IsOrder, option_map, IsAt, is_at}
use Rattle.tftp_promises.proofs.Common.{at}
use Rattle.tftp_promises.proofs.ClientTraces.{sent_own}
use Rattle.tftp_promises.proofs.Orders.{later_in, mapped, noted_in, one_in}

-- one of them is among them
pub has_in : {X : Type 0} (x : X) (xs : List X) → Contains xs x → Has x xs
has_in x [] i = absurd (let l = i.1 in omega (arith, l))
has_in x (y ∷ xs) i = elim (Contains-append_cases (y ∷ []) xs x i) [
  | inl here ↦ inl (one_in x y here)
  | inr later ↦ inr (has_in x xs later)
]

module _ {S F D G K : Type 0} {stores : StoreMeaning S D} {sources : SourceMeaning F} {inputs : SourceMeaning G}
    {outputs : SinkMeaning K} (programs : Programs stores sources inputs outputs) where
  abbrev Client : Type 0
  Client = ClientOf programs

  -- what a program noted could come to it, by what was noted before
  record ComesAt (order : List Noted) (program : ℕ) (e : SocketEvent) : Type 0 where
    earlier : List Noted
    comes : CanCome programs program e earlier
    before : (n : Noted) → Contains earlier n → Contains order n

  comes_later : (x : Noted) (order : List Noted) (program : ℕ) (e : SocketEvent) → ComesAt order program e →
      ComesAt (x ∷ order) program e
  comes_later x order program e h = search (rules, later_in)

  comes_head : (x : Noted) (order : List Noted) (program : ℕ) (e : SocketEvent) → CanCome programs x.0 x.1 order →
      (Has e (events_of program order) → ComesAt order program e) → (b : Bool) → (x.0 == program) ≡ b →
      Has e (if b then x.1 ∷ events_of program order else events_of program order) → ComesAt (x ∷ order) program e
  comes_head x order program e comes rest b is h8 = search (rules, eqb-true, later_in, comes_later)

  comes_at : (order : List Noted) → IsHonest programs order → (program : ℕ) (e : SocketEvent) →
      Has e (events_of program order) → ComesAt order program e
  comes_at [] honest program e there = absurd there
  comes_at (x ∷ order) honest program e there =
      comes_head x order program e honest.0 (comes_at order honest.1 program e) (x.0 == program) refl there

  -- the server sent this there, or a client at that endpoint did
  abbrev pub IsOfOne : Endpoint → Endpoint → List ℕ → Type 0
  IsOfOne from to bytes =
      ((port : ℕ) × Has (Sent port to bytes) programs.server.noted)
      ⊎ ((k : ℕ) × (client : Client) × (slice_get programs.clients k ≡ Some client) × (from ≡ client_at client))

  abbrev stage_of : Client → ClientStage G K
  stage_of c = Has_asked c.last c.files c.noted (moved_in c.runs)

  -- what any of them sent
  pub record SentBy (from to : Endpoint) (bytes : List ℕ) : Type 0 where
    pub before : WasSentBefore (all_of programs) from to bytes
    pub by : IsOfOne from to bytes

  -- what a program received at this endpoint
  abbrev pub ComesTo : Endpoint → Endpoint → List ℕ → Type 0
  ComesTo from to bytes = SentBy from to bytes ⊎ MayCome programs from bytes

  module _ (order : List Noted) (is_order : IsOrder programs order) (honest : IsHonest programs order) where
    sent_by : (program port : ℕ) (from to : Endpoint) (bytes : List ℕ) → IsAt programs program port from →
        Contains order (program, Sent port to bytes) → SentBy from to bytes
    sent_by zero port from to bytes at i =
        let there = rw is_order.server at (noted_in 0 _ _ i) in
        let same = same_Some programs.ip at.0 at.1 in
        record {
          before = search std_rules;
          by = inl (port, has_in _ _ there);
        }
    sent_by (suc k) port from to bytes at i =
        let m =
        mapped (λ (c : Client). c.ip) (slice_get programs.clients k) at.0 (sym (slice_get-map (λ (c : Client). c.ip)
        programs.clients k) ∙ at.1) in
        let there = rw (is_order.clients k m.0 m.1) at (noted_in (suc k) (Sent port to bytes) order i) in
        let from_is = at.2 ∙ ap (λ (ip : List ℕ). endpoint ip port) (sym m.2) in
        record {
          before =
              inr (search (stage_of m.0, slice_get-map stage_of programs.clients k ∙ ap (option_map stage_of) m.1));
          by =
              inr (
                k,
                m.0,
                m.1,
                from_is ∙ ap (λ (p : ℕ). endpoint m.0.ip p) (sent_own m.0 port to bytes there),
              );
        }

    came_to : (program port : ℕ) (a from : Endpoint) (bytes : List ℕ) →
        ((to : Endpoint) → IsAt programs program port to → to ≡ a) →
        ComesAt order program (Received port from bytes) → ComesTo from a bytes
    came_to program port a from bytes is_at h =
        elim h.comes.2 [
          | inl sent ↦
              inl (rw (is_at h.comes.0 h.comes.1) at (sent_by sent.program sent.port from h.comes.0 bytes sent.is_at
              (h.before (sent.program, Sent sent.port h.comes.0 bytes) sent.sent)))
          | inr may ↦ inr may
        ]

    -- a client
    pub came_to_client : (k : ℕ) (client : Client) → slice_get programs.clients k ≡ Some client → (from : Endpoint)
        (bytes : List ℕ) → Has (Received client.port from bytes) client.noted → ComesTo from (client_at client) bytes
    came_to_client k client found from bytes there =
        came_to (suc k) client.port (client_at client) from bytes (λ to at.
        let ip_is : Some client.ip ≡ Some at.0 = search (std_rules, slice_get-map, option_map) in
        at.2 ∙ ap (λ (ip : List ℕ). endpoint ip client.port) (sym (same_Some client.ip at.0 ip_is))) (comes_at order
        honest (suc k) (Received client.port from bytes) (rw (is_order.clients k client found) there))

    -- the server, at its request port
    pub came_to_server : (from : Endpoint) (bytes : List ℕ) →
        Has (Received programs.port from bytes) programs.server.noted → ComesTo from (requests_at programs) bytes
    came_to_server from bytes there =
        came_to 0 _ _ _ _ (λ to at. at.2 ∙ ap (λ (ip : List ℕ). endpoint ip programs.port) (sym (same_Some programs.ip
        at.0 at.1))) (comes_at _ honest 0 _ (rw is_order.server there))
