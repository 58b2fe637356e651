-- The effect of a request on a world, from what the server answered. For `Ends::ask`, `answer` and their calls.
use Rattle.tftp_player.proofs.Common.{common_steps, ◌≡◌, ℕ, ◌+◌, ◌<◌, ◌≤◌, List, [], ◌∷◌, ◌++◌, length, Option, Some}
use Rattle.tftp_player.proofs.Common.{None, refl, sym, ap, ◌∙◌, subst, arith, rules, zero, suc, inl, inr, slice_get}
use Rattle.tftp_player.proofs.Common.{Packet, IsBlockSize, memory_source, Decodes, Service, memory_meaning}
use Rattle.tftp_player.proofs.Common.{request_port, Endpoint, EndsAsk, report_by, said_by, served_end, AnyRepeats}
use Rattle.tftp_player.proofs.Common.{IsRepeated, Repeats, open_transfers, service, PlayedServer, world_of, WorldState}
use Rattle.tftp_player.proofs.Common.{WorldEnd, next_port, standing, At_request_port, Delivery, HasPort, ServiceStep}
use Rattle.tftp_player.proofs.Common.{Datagram, Effect, ServerEnd, Limits, at, AnswersAs, ServerEndKept, Answer}
use Rattle.tftp_server.specs.Request.{AdmissionState, AdmitsBeside, CarriesOut}
use Rattle.tftp_server.specs.State.{without}
use Rattle.tftp_server.specs.declared.opened.Opened.{Opened}
use Rattle.tftp_server.specs.declared.server.admission.Occupancy.{Occupancy}
use Rattle.tftp_player.specs.Answer.{AnswersAll}
use Rattle.tftp_player.specs.Clients.{server_at}
use Rattle.tftp_player.proofs.ServerLemmas.{PortAsking, PortLeft, PortDid, port_answers, released, request_did}

-- ---- what `ask_server` left of the server, and its answer
module _ (server : PlayedServer) (occupancy : Occupancy) (from : Endpoint) (bytes : List ℕ) (port : ℕ)
    (empty : server.held ≡ []) (max : IsBlockSize server.config.limits.max_block) (admission : AdmissionState)
    (admits : AdmitsBeside server.config occupancy bytes admission.ask) (from_is : admission.from ≡ from)
    (bytes_is : admission.bytes ≡ bytes) (left : PlayedServer) (opened : Opened) (start out : List ℕ)
    (h : (sent : List ℕ) × (out ≡ start ++ sent)
    × CarriesOut memory_meaning memory_source server admission.from admission.bytes admission.ask port
    (record { new = left; opened = opened; sent = sent })) where
  abbrev asking : PortAsking
  asking = record { old = server; from = from; bytes = bytes; tid = port }

  abbrev result : PortLeft
  result = record { new = left; opened = opened; sent = h.0 }

  carries : CarriesOut memory_meaning memory_source server from bytes admission.ask port result
  carries = search rules

  -- the server is as it was after the release
  pub server_returns : (after : PlayedServer) → after ≡ record left { held = without port left.held } → after ≡ server
  server_returns after rest = grind (arith, common_steps)

  -- and its answer is that of each world of the server
  pub server_answers : (answer : Answer) → answer.to ≡ opened.to → answer.bytes.items ≡ out → start ≡ [] →
      answer.opened ≡ released (at port left.held) server.store.files → AnswersAll server occupancy from bytes answer
  server_answers answer to given none ends w decoded s counts says =
      port_answers w asking result empty answer to (given ∙ (h.1 ∙ ap (λ (b : List ℕ). b ++ h.0) none))
      (ends ∙ ap (released (at port left.held)) s.files) (service w occupancy.is_repeated bytes decoded)
      (subst (PortDid w (service w occupancy.is_repeated bytes decoded) asking) (sym carries.left)
      (request_did w asking carries.came s (subst (λ (l : Limits). IsBlockSize l.max_block) s.limits max)
      occupancy.count occupancy.is_repeated admission.ask admits.0 decoded counts admits.1 says admits.2 carries.goes))

-- ---- whether one of the ends repeats a request
-- none does if none at an index does
pub none_repeats : (from : Endpoint) (packet : Packet) (ends : List WorldEnd) →
    ((k : ℕ) (x : WorldEnd) → slice_get ends k ≡ Some x → Repeats from packet x → ⊥) → AnyRepeats from packet ends → ⊥
none_repeats from packet [] none r = r
none_repeats from packet (y ∷ ends) none (inl r) = none zero y refl r
none_repeats from packet (y ∷ ends) none (inr r) = none_repeats from packet ends (λ k x e. none (suc k) x e) r

-- nor does one up to the next index
pub none_before : (from : Endpoint) (packet : Packet) (ends : List WorldEnd) (index : ℕ) (item : WorldEnd) →
    slice_get ends index ≡ Some item → (Repeats from packet item → ⊥) →
    ((k : ℕ) (x : WorldEnd) → k < index → slice_get ends k ≡ Some x → Repeats from packet x → ⊥) →
    (k : ℕ) (x : WorldEnd) → k < index + 1 → slice_get ends k ≡ Some x → Repeats from packet x → ⊥
none_before from packet ends index item here not_this before k x below there r = search rules

-- ---- what the answer leaves of a world
module _ (w : WorldState) (from : Endpoint) (bytes : List ℕ) (answer : Answer) where
  abbrev StepsTo : Service → Effect → List WorldEnd → Type 0
  StepsTo what effect ends =
      ServiceStep what w from bytes (report_by w.sent effect)
      (record w { sent = w.sent ++ said_by effect.from effect.to effect.bytes; ends = ends })

  -- without an end the datagram is from the request port
  abbrev quiet_effect : Effect
  quiet_effect = record { from = request_port; to = answer.to; bytes = answer.bytes.items; closed = None }

  quietly : (what : Service) → AnswersAs what w from bytes answer → answer.opened ≡ None →
      StepsTo what quiet_effect w.ends
  quietly what h none = search rules

  -- an end that opens sends from its port
  abbrev opened_effect : Effect
  opened_effect =
      record { from = server_at (next_port w); to = answer.to; bytes = answer.bytes.items; closed = None }

  -- the end that opened, and the step
  pub record OpenedStep (what : Service) (s : ServerEnd) : Type 0 where
    pub kept : ServerEndKept s
    pub steps : StepsTo what opened_effect (w.ends ++ standing (served_end (next_port w) s) ∷ [])

  opens : (what : Service) (s : ServerEnd) → AnswersAs what w from bytes answer → answer.opened ≡ Some s →
      OpenedStep what s
  opens what s h some = search rules

-- ---- the request port of the ends of a world
module _ (from : Endpoint) (bytes : List ℕ) (server : PlayedServer) (ends : List WorldEnd) (occupancy : Occupancy)
    (port : ℕ) (is : port ≡ 1024 + length ends) (fits : port < 65536) (listed : List WorldEnd)
    (same_ends : listed ≡ ends) (counted : occupancy.count ≡ open_transfers listed)
    (repeated : (decoded : Option Packet) × Decodes bytes decoded
    × IsRepeated occupancy.is_repeated from decoded listed)
    (answer : Answer) (answers : AnswersAll server occupancy from bytes answer) where
  repeats : (decoded : Option Packet) × Decodes bytes decoded × IsRepeated occupancy.is_repeated from decoded ends
  repeats = rw (← same_ends) repeated

  abbrev w : List Datagram → WorldState
  w sent = world_of server.config sent server ends

  abbrev what : List Datagram → Service
  what sent = service (w sent) occupancy.is_repeated bytes repeats.0

  has : (sent : List Datagram) → HasPort (w sent)
  has sent = let l : 1024 + length ends ≤ 65535 = omega (arith, is, fits) in l

  answered : (sent : List Datagram) → AnswersAs (what sent) (w sent) from bytes answer
  answered sent =
      answers (w sent) repeats.0 (record { files = refl; limits = refl; retries = refl; cap = refl; overwrite = refl })
      (counted ∙ ap open_transfers same_ends) repeats.1

  -- no end opens
  pub not_opened_asks : (after : PlayedServer) (ends0 : List WorldEnd) (given : List ℕ) → after ≡ server →
      answer.opened ≡ None → ends0 ≡ ends → given ≡ answer.bytes.items →
      EndsAsk from bytes server after ends ends0
      (record { from = request_port; to = answer.to; bytes = given; closed = None })
  not_opened_asks after ends0 given kept none same own sent =
      rw (kept, own) (subst (λ (es : List WorldEnd). Delivery (w sent) from request_port bytes (report_by sent
      (quiet_effect (w sent) from bytes answer)) (world_of server.config (sent ++ said_by request_port answer.to
      answer.bytes.items) server es)) (sym same) (At_request_port refl (has sent) repeats.0 repeats.1
      occupancy.is_repeated repeats.2 (quietly (w sent) from bytes answer (what sent) (answered sent) none)))

  opened_so : (s : ServerEnd) → answer.opened ≡ Some s → (sent : List Datagram) →
      OpenedStep (w sent) from bytes answer (what sent) s
  opened_so s some sent = opens (w sent) from bytes answer (what sent) s (answered sent) some

  -- an end opens, and it is kept
  pub opened_kept : (s : ServerEnd) → answer.opened ≡ Some s → ServerEndKept s
  opened_kept s some = (opened_so s some []).kept

  pub opened_asks : (s : ServerEnd) (here : Endpoint) (after : PlayedServer) (ends1 : List WorldEnd) (given : List ℕ) →
      after ≡ server → answer.opened ≡ Some s → here ≡ server_at port →
      ends1 ≡ ends ++ standing (served_end port s) ∷ [] →
      given ≡ answer.bytes.items →
      EndsAsk from bytes server after ends ends1
      (record { from = here; to = answer.to; bytes = given; closed = None })
  opened_asks s here after ends1 given kept some at more own sent =
      let arrives : Effect → List WorldEnd → Type 0 = λ (e : Effect) (es : List WorldEnd). Delivery (w sent) from
      request_port bytes (report_by sent e) (world_of server.config (sent ++ said_by e.from e.to e.bytes) server es) in
      let effect : record { from = here; to = answer.to; bytes = given; closed = None } ≡ opened_effect (w sent) from
      bytes answer = search rules in
      let players : ends1 ≡ ends ++ standing (served_end (next_port (w sent)) s) ∷ [] =
      more ∙ ap (λ (n : ℕ). ends ++ standing (served_end n s) ∷ []) is in
      rw (kept) (subst (λ (e : Effect). arrives e ends1) (sym effect) (subst (arrives (opened_effect (w sent) from bytes
      answer)) (sym players) (At_request_port refl (has sent) repeats.0 repeats.1 occupancy.is_repeated repeats.2
      (opened_so s some sent).steps)))
