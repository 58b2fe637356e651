-- Where the programs are in their network.
use Rattle.tftp_promises.proofs.Common.{List, ℕ, ◌≡◌, rules, sym, Endpoint, refl, [], ◌∙◌, ap, SourceMeaning, Some}
use Rattle.tftp_promises.proofs.Common.{subst, inl, StoreMeaning, inr, ◌∷◌, SinkMeaning, false, true, None, ◌++◌}
use Rattle.tftp_promises.proofs.Common.{Programs, Bool, Contains, true≢false, arith, ◌≢◌, LoopState, length, slice_get}
use Rattle.tftp_promises.proofs.Common.{LoopStep, joined, ClientOf, if◌then◌else◌, client_at, endpoint, Run, suc}
use Rattle.tftp_promises.proofs.Common.{IsStranger, Then, Start, ◌==◌, cases_Bool, zero, Contains-push, cases_eq}
use Rattle.tftp_promises.proofs.Common.{eq-eqb, map, Contains-append_cases, Request_answered, Contains-append_left}
use Rattle.tftp_promises.proofs.Common.{Elsewhere, Contains-append_right, is_ours, opened_ports, ClientProgram, ne_eqb}
use Rattle.tftp_promises.proofs.Common.{option_to_list, At_server, place, At_client, same_self, is_same, Host, has_port}
use Rattle.tftp_promises.proofs.Common.{same_ip, same_other, cond-true}
use Rattle.std.proofs.lemmas.Bool.{and_parts, cond-false, false_from_ne_true, not-true}
use Rattle.tftp_promises.specs.Hosts.{ClientsAreThere, ServerIsThere, StrangersAreElsewhere}
use Rattle.tftp_promises.specs.Programs.{has_client, is_at_server}
use Rattle.tftp_promises.proofs.Orders.{one_in}

abbrev at_of : Bool → Bool → Host
at_of client server = if client then At_client else if server then At_server else Elsewhere

-- at the server's address nobody is elsewhere, and no client is
at_address : (client : Bool) → at_of client true ≢ Elsewhere
at_address client e = search rules

-- who is neither a client nor at the server's address is elsewhere
elsewhere_by : (client server : Bool) → (if client then true else server) ≡ false → at_of client server ≡ Elsewhere
elsewhere_by client server e = search rules

neither_by : (client server : Bool) → at_of client server ≡ Elsewhere → (if client then true else server) ≡ false
neither_by client server e = search rules

either_way : (b r : Bool) → r ≡ true → (if b then true else r) ≡ true
either_way b r e = search rules

-- whether it is one of the ports
pub port_in : (ports : List ℕ) (port : ℕ) → has_port ports port ≡ true → Contains ports port
port_in [] port e = absurd (let f : false ≡ true = e in cc)
port_in (p ∷ ports) port e = elim (cases_eq port p) [
  | inl same ↦
      subst (λ (q : ℕ). Contains (p ∷ ports) q) (sym same) (Contains-append_left (p ∷ []) ports p (Contains-push [] p))
  | inr n ↦
      Contains-append_right (p ∷ []) ports port (port_in ports port
      (sym (cond-false (port == p) true (has_port ports port) (ne_eqb port p n)) ∙ e))
]

pub port_has : (ports : List ℕ) (port : ℕ) → Contains ports port → has_port ports port ≡ true
port_has [] port c = absurd (let l = c.1 in omega arith)
port_has (p ∷ ports) port c = elim (Contains-append_cases (p ∷ []) ports port c) [
  | inl here ↦
      cond-true (port == p) true (has_port ports port) (eq-eqb port p (sym (one_in port p here)))
  | inr later ↦ either_way (port == p) (has_port ports port) (port_has ports port later)
]

module _ {G K : Type 0} {inputs : SourceMeaning G} {outputs : SinkMeaning K} {to : Endpoint} where
  has_own : (clients : List (ClientProgram inputs outputs to)) (k : ℕ) (client : ClientProgram inputs outputs to) →
      slice_get clients k ≡ Some client → has_client clients (client_at client) ≡ true
  has_own [] k client e = absurd (let f : None ≡ Some client = e in cc)
  has_own (x ∷ clients) zero client e =
      let same : x ≡ client = (let f : Some x ≡ Some client = e in cc) in
      subst (λ (z : ClientProgram inputs outputs to). has_client (x ∷ clients)
      (client_at z) ≡ true) same
      (cond-true (is_same (client_at x) (client_at x)) true
      (has_client clients (client_at x))
      (same_self (client_at x)))
  has_own (x ∷ clients) (suc k) client e =
      either_way (is_same (client_at client) (client_at x))
      (has_client clients (client_at client)) (has_own clients k client e)

  has_none : (clients : List (ClientProgram inputs outputs to)) (a : Endpoint) →
      ((k : ℕ) (client : ClientProgram inputs outputs to) → slice_get clients k ≡ Some client →
      client_at client ≢ a) → has_client clients a ≡ false
  has_none [] a none = refl
  has_none (x ∷ clients) a none =
      cond-false (is_same a (client_at x)) true (has_client clients a)
      (same_other a (client_at x) (λ e. none zero x refl (sym e)))
      ∙ has_none clients a (λ k client i. none (suc k) client i)

-- the request port of a server stays
module _ {S F D : Type 0} {stores : StoreMeaning S D} {sources : SourceMeaning F} where
  pub step_requests : {old new : LoopState S F D} → LoopStep stores sources old new → new.requests ≡ old.requests
  step_requests does = search rules

  pub run_requests : {first last : LoopState S F D} → Run (LoopStep stores sources) first last →
      last.requests ≡ first.requests
  run_requests Start = refl
  run_requests (Then run does) = step_requests does ∙ run_requests run

module _ {S F D G K : Type 0} {stores : StoreMeaning S D} {sources : SourceMeaning F} {inputs : SourceMeaning G}
    {outputs : SinkMeaning K} (programs : Programs stores sources inputs outputs) where
  abbrev has : Endpoint → Bool
  has a = has_client programs.clients a

  abbrev near : Endpoint → Bool
  near a = is_at_server programs.ip programs.others a

  near_by : (a : Endpoint) → a.ip ≡ programs.ip → (Contains programs.others a.port → ⊥) → near a ≡ true
  near_by a same own = search (rules, same_ip, false_from_ne_true, port_in)

  pub clients_there : ClientsAreThere programs
  clients_there k client i = search (rules, has_own)

  -- a port of the server's address that no client and no other server has is at the server
  pub at_port : (port : ℕ) → ((k : ℕ) (client : ClientOf programs) → slice_get programs.clients k ≡ Some client →
      client_at client ≢ endpoint programs.ip port) →
      (Contains programs.others port → ⊥) → (joined programs).host_of (endpoint programs.ip port) ≡ At_server
  at_port port none own = search (rules, has_none, near_by)

  pub server_there : ServerIsThere programs
  server_there fresh port i =
      at_port port (λ k client at. fresh.apart k port client at i) (λ other. fresh.others port i other)

  -- nobody at the server is elsewhere
  pub near_server : (a : Endpoint) → a.ip ≡ programs.ip → (Contains programs.others a.port → ⊥) →
      (joined programs).host_of a ≢ Elsewhere
  near_server a same own e = at_address (has a) (ap (at_of (has a)) (sym (near_by a same own)) ∙ e)

  elsewhere_strange : (a : Endpoint) → (joined programs).host_of a ≡ Elsewhere → IsStranger programs a
  elsewhere_strange a e =
      search (rules, cases_Bool, port_in, near_server, true≢false, port_has, clients_there)

  -- a stranger is not at the server
  far_by : (a : Endpoint) → (a.ip ≡ programs.ip → Contains programs.others a.port) → near a ≡ false
  far_by a h = search (rules, false_from_ne_true, and_parts, true≢false, port_has, not-true)

  strange_elsewhere : (a : Endpoint) → IsStranger programs a → (joined programs).host_of a ≡ Elsewhere
  strange_elsewhere a h = search (rules, has_none, far_by)

  pub strangers_elsewhere : StrangersAreElsewhere programs
  strangers_elsewhere a = (elsewhere_strange a, strange_elsewhere a)

  -- an endpoint that is not ours is a stranger's, and no other is
  pub strange_if : (a : Endpoint) → is_ours programs a ≡ false → IsStranger programs a
  strange_if a e = elsewhere_strange a (elsewhere_by (has a) (near a) e)

  pub not_ours : (a : Endpoint) → IsStranger programs a → is_ours programs a ≡ false
  not_ours a h = neither_by (has a) (near a) (strange_elsewhere a h)

  -- no stranger is at a client's endpoint, or at the server
  pub stranger_no_client : (a : Endpoint) (k : ℕ) (client : ClientOf programs) →
      slice_get programs.clients k ≡ Some client → a ≡ client_at client → IsStranger programs a → ⊥
  stranger_no_client a k client found same h = h.clients k client found (sym same)

  pub stranger_no_port : (a : Endpoint) → (joined programs).host_of a ≡ At_server → IsStranger programs a → ⊥
  stranger_no_port a there h = search (rules, strange_elsewhere)

  -- the request port stays
  pub requests_stay : {last : LoopState S F D} → Run (LoopStep stores sources) programs.server.start last →
      last.requests ≡ programs.port
  requests_stay run = run_requests run ∙ programs.server.requests

  -- Where a run opened its transfers.
  -- by a step
  abbrev pub placed_by : {first old new : LoopState S F D} → Run (LoopStep stores sources) first old →
      LoopStep stores sources old new → List Endpoint
  placed_by run (Request_answered answers) =
      map (place programs (length (opened_ports run)) answers.from) (option_to_list answers.left.opened.tid)
  placed_by run does = []

  -- and by all of them
  abbrev pub places : {first last : LoopState S F D} → Run (LoopStep stores sources) first last → List Endpoint
  places Start = []
  places (Then run does) = placed_by run does ++ places run
