-- The beginning of a run without loss: a client asks, and the server's port accepts its request. For six other files.
use Rattle.tftp_player.proofs.Common.{common_steps, ◌≡◌, ℕ, ◌+◌, ◌*◌, ◌<◌, Bool, true, false, List, [], ◌∷◌, ◌++◌}
use Rattle.tftp_player.proofs.Common.{length, Option, Some, None, Result, Ok, refl, sym, ap, ◌∙◌, subst, arith, rules}
use Rattle.tftp_player.proofs.Common.{if◌then◌else◌, slice_get, same_Some, Mode, RawOption, Packet, size, answer, Known}
use Rattle.tftp_player.proofs.Common.{Refusal, Ask, Service, Sends, Takes, by_file, request_port, Endpoint, OpenEnd}
use Rattle.tftp_player.proofs.Common.{IsRepeated, open_transfers, opened_of, served, service, IsAccepted, WorldState}
use Rattle.tftp_player.proofs.Common.{datagram, opened_in, WorldEnd, Open_end, end_address, HasPorts, Refines}
use Rattle.tftp_player.proofs.Common.{ServiceStep, Delivery, OpeningStep, WorldStep, Datagram, Event, Deliver, Report}
use Rattle.tftp_player.proofs.Common.{slice_get-push_new, PathFault, by_name, by_options, by_packet}
use Rattle.std.proofs.Common.{◌↔◌, IsTrue}
use Rattle.tftp_negotiate.specs.declared.known.Kind.TheVariants as kinds
use Rattle.tftp_player.proofs.ServerLemmas.{says_one}
use Rattle.tftp_player.proofs.WorldRuns.{step_keeps}

-- ---- a client asked
-- the client is there and has sent its request
pub record HasAsked (old w : WorldState) (c : OpenEnd) : Type 0 where
  pub ok : Refines true w
  pub sent : w.sent ≡ old.sent ++ datagram c.address c.state.position.last_sent_to c.state.position.last_sent ∷ []
  pub newest : slice_get w.sent (length old.sent)
      ≡ Some (datagram c.address c.state.position.last_sent_to c.state.position.last_sent)
  pub count : length w.sent ≡ length old.sent + 1
  pub ends : length w.ends ≡ length old.ends + 1
  pub there : slice_get w.ends (length old.ends) ≡ Some (Open_end c)
  pub files : w.files ≡ old.files

-- a client that opens has asked
pub has_asked : (old w : WorldState) (c : OpenEnd) (event : Event) (report : Report) → Refines true old →
    WorldStep old event report w → w ≡ opened_in old c → HasAsked old w c
has_asked old w c event report ok s is = grind (arith, common_steps, step_keeps, slice_get-push_new)

-- ---- the port was asked
-- two answers to whether a request is repeated are one
same_answer : {P : Type 0} (a b : Bool) → (IsTrue a ↔ P) → (IsTrue b ↔ P) → a ≡ b
same_answer a b f g = search rules

same_repeated : (from : Endpoint) (decoded : Option Packet) (ends : List WorldEnd) (a b : Bool) →
    IsRepeated a from decoded ends → IsRepeated b from decoded ends → a ≡ b
same_repeated from None ends a b f g = f ∙ sym g
same_repeated from (Some packet) ends a b f g = same_answer a b f g

module _ (w v : WorldState) (i : ℕ) (c : OpenEnd) (report : Report) (accepts : Service) (ports : HasPorts w)
    (accepted : IsAccepted w c accepts) where
  -- what the port did
  abbrev pub Comes : Type 0
  Comes = ServiceStep accepts w c.address c.state.position.last_sent report v

  -- no end has the request port
  outside : (k : ℕ) (x : WorldEnd) → slice_get w.ends k ≡ Some x → end_address x ≡ request_port → ⊥
  outside k x there here = let a = ports k x there in let b = ap (λ (p : Endpoint). p.port) here in omega (arith, a, b)

  arrived : Delivery w c.address request_port c.state.position.last_sent report v → Comes
  arrived h0 = search (rules, says_one, same_repeated, outside)

  -- at the delivery of the request the port accepts it
  pub port_comes : slice_get w.sent i ≡ Some (datagram c.address request_port c.state.position.last_sent) →
      WorldStep w (Deliver i) report v → Comes
  port_comes newest s =
      let d = datagram c.address request_port c.state.position.last_sent in
      let same : s.0 ≡ d = same_Some s.0 d (sym s.1 ∙ newest) in
      arrived (subst (λ (z : Datagram). Delivery w z.from z.to z.bytes report v) same s.2)

-- an end opened
pub record HasOpened (w v : WorldState) (x : OpenEnd) : Type 0 where
  pub sent : v.sent ≡ w.sent ++ datagram x.address x.state.position.last_sent_to x.state.position.last_sent ∷ []
  pub ends : v.ends ≡ w.ends ++ Open_end x ∷ []

-- an end opens as the newest one
pub has_opened : (w v : WorldState) (x : OpenEnd) (report : Report) → OpeningStep w x report v → HasOpened w v x
has_opened w v x report o = search rules

-- ---- what the port agreed to is its answer to some options
-- the service is an answer, not a refusal
abbrev pub IsAnswer : WorldState → Service → Type 0
IsAnswer w (Sends path mode length agreed) =
    (options : List RawOption) × (answer options kinds.Read mode length w.limits ≡ Ok agreed)
    × (length < 65535 * size agreed)
IsAnswer w (Takes path mode agreed) =
    (options : List RawOption) × (answer options kinds.Write mode 0 w.limits ≡ Ok agreed)
IsAnswer w service = Unit {0}

module _ (w : WorldState) where
  abbrev Answers : Ask → Type 0
  Answers ask = IsAnswer w (served w ask)

  either : {A : Type 0} (P : A → Type 0) (b : Bool) (r s : A) → (b ≡ true → P r) → (b ≡ false → P s) →
      P (if b then r else s)
  either {A = A} P true r s f g = f refl
  either {A = A} P false r s f g = g refl

  opened_answers : (path : List ℕ) (mode : Mode) (options : List RawOption) (there : Option (List ℕ)) →
      IsAnswer w (by_file w.limits path mode options (opened_of mode there))
  opened_answers path mode options there = search rules

  write_answers : (path : List ℕ) (mode : Mode) (options : List RawOption) (a : Result (List Known) Refusal) →
      answer options kinds.Write mode 0 w.limits ≡ a → Answers (by_options path mode a)
  write_answers path mode options a e = search rules

  named_answers : (next : List ℕ → Ask) → ((path : List ℕ) → Answers (next path)) → (path : Result (List ℕ) PathFault) →
      Answers (by_name w.cap (open_transfers w.ends) next path)
  named_answers next each path = search rules

  packet_answers : (repeated : Bool) (decoded : Option Packet) →
      Answers (by_packet w.cap (open_transfers w.ends) repeated w.limits decoded)
  packet_answers repeated decoded = search (rules, either, named_answers, opened_answers, write_answers)

  -- what the port decides is an answer
  pub service_answers : (repeated : Bool) (bytes : List ℕ) (decoded : Option Packet) →
      IsAnswer w (service w repeated bytes decoded)
  service_answers repeated bytes decoded = search (rules, either, packet_answers)

-- so is what it accepts
pub accepted_answers : (w : WorldState) (c : OpenEnd) (accepts : Service) → IsAccepted w c accepts → IsAnswer w accepts
accepted_answers w c accepts h =
    subst (IsAnswer w) h.is (service_answers w h.repeated c.state.position.last_sent h.decoded)
