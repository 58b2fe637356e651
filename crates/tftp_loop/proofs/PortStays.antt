-- What a visit of one port leaves of the others. For `PortVisit::answer` and 13 other files.
use Rattle.std.proofs.Common.{rules}
use Rattle.tftp_loop.proofs.Common.{arith, ◌≡◌, ◌≤◌, ◌==◌, ◌||◌, ℕ, Bool, true, false, List, Option, IsSome, ◌+◌, refl}
use Rattle.tftp_loop.proofs.Common.{sym, ap, subst, ◌∙◌, is_at, nat_cmp, eq-eqb, SourceMeaning, Endpoint, StoreMeaning}
use Rattle.tftp_loop.proofs.Common.{TransferState, ServerState, at, with_next, KeepsHeld, WorksAt, deadline_of}
use Rattle.tftp_loop.proofs.Common.{SocketEvent, replied, was_tried, Run, Start, Then, Timer, PortState, PortStep}
use Rattle.tftp_loop.proofs.Common.{timer_after, A_datagram, A_lost_datagram, A_timeout, A_missed_timeout, Work, IsRead}
use Rattle.tftp_loop.proofs.Common.{KeepsTries}
use Rattle.tftp_loop.specs.Steps.{next_look}
use Rattle.std.proofs.lemmas.Map.{keys-set_value}
use Rattle.std.proofs.lemmas.Map.Made.{IsSome-lookup_same_keys}
use Rattle.tftp_loop.proofs.Tables.{set_apart}
use Rattle.tftp_loop.proofs.NewStates.{noted_by, replied_same, same_noted, server_is, timer_is}

-- a disjunction is true by its second part
pub or_right : (a b : Bool) → b ≡ true → (a || b) ≡ true
or_right true b h = refl
or_right false b h = h

-- or by its first
pub or_left : (a b : Bool) → a ≡ true → (a || b) ≡ true
or_left true b h = refl
or_left false b h = absurd (let f : false ≡ true = h in cc)

-- to send an answer keeps the tries of all ports
pub replied_tries : (port : ℕ) (to : Option Endpoint) (bytes : List ℕ) (events : List SocketEvent) →
    KeepsTries events (replied port to bytes events)
replied_tries port to bytes events q h = replied_same (was_tried q) (λ p t bs es. refl) port to bytes events ∙ h

-- a receive at a port is a try of that port
pub own_receive : (port : ℕ) (before : Bool) → ((port == port) || before) ≡ true
own_receive port before = or_left (port == port) before (eq-eqb port port refl)

module _ {F D : Type 0} where
  -- the other transfers stay, and the one at the port stays held
  pub record StaysHeld (port : ℕ) (old new : List (ℕ × TransferState F D)) : Type 0 where
    pub others : (q : ℕ) → (q ≡ port → ⊥) → at q new ≡ at q old
    pub there : (q : ℕ) → IsSome (at q old) → IsSome (at q new)

  -- the same table stays so
  pub same_held : (port : ℕ) (old new : List (ℕ × TransferState F D)) → new ≡ old → StaysHeld port old new
  same_held port old new e = search rules

  -- a table with another transfer at the port keeps the others
  pub next_held : (port : ℕ) (old new : List (ℕ × TransferState F D)) (next : TransferState F D) →
      new ≡ with_next port next old → StaysHeld port old new
  next_held port old new next e = record {
    others = λ q apart. ap (at q) e ∙ set_apart port q apart old next;
    there = λ q h.
        subst (λ (held : List (ℕ × TransferState F D)). IsSome (at q held)) (sym e)
        ((IsSome-lookup_same_keys (is_at (nat_cmp q)) old (with_next port next old)
        (sym (keys-set_value (is_at (nat_cmp port)) old next))).0 h);
  }

-- ---- timers

-- a port is looked at again not after its deadline
pub looks_first : (now seconds : ℕ) → next_look now seconds ≤ deadline_of now seconds
looks_first now seconds = omega arith

-- a timer that was read at its deadline at the latest still is
abbrev Looks : Timer → Type 0
Looks timer = timer.look_at ≤ timer.deadline

after_looks : (now : ℕ) (progress : Bool) (timer : Timer) → Looks (timer_after now progress timer)
after_looks now progress timer = search rules

-- the timer after a step has the same port
pub after_port : (now : ℕ) (progress : Bool) (timer : Timer) → (timer_after now progress timer).port ≡ timer.port
after_port now true timer = refl
after_port now false timer = refl

-- and counts one datagram more
pub after_received : (now : ℕ) (progress : Bool) (timer : Timer)
    → (timer_after now progress timer).received ≡ timer.received + 1
after_received now true timer = refl
after_received now false timer = refl

module _ {S F D : Type 0} (meaning : StoreMeaning S D) (sources : SourceMeaning F) where
  -- the answer of a step at a port is no wait
  pub keeps_noted : {now : ℕ} {old new : PortState S F D} (does : PortStep meaning sources now old new)
      → KeepsTries (noted_by does) new.events
  keeps_noted does q h = same_noted (was_tried q) (λ p t bs es. refl) does ∙ h

  same_server : (port : ℕ) (old new : ServerState S F D) → new ≡ old → StaysHeld port old.held new.held
  same_server port old new e = same_held port old.held new.held (ap (λ (s : ServerState S F D). s.held) e)

  keeps_held : (port : ℕ) (o : Option (TransferState F D)) (old new : ServerState S F D) →
      KeepsHeld meaning sources port o old new → StaysHeld port old.held new.held
  keeps_held port o old new keeps = search (rules, same_server, next_held)

  -- file work of one transfer leaves the others
  pub works_held : (port : ℕ) (o : Option (TransferState F D)) (old new : ServerState S F D) →
      WorksAt meaning sources port o old new → StaysHeld port old.held new.held
  works_held port o old new works = search (rules, same_server, next_held)

  -- what a visit of a port keeps
  pub record StaysAt (old new : PortState S F D) : Type 0 where
    pub port : new.timer.port ≡ old.timer.port
    pub held : StaysHeld old.timer.port old.server.held new.server.held
    pub look : old.timer.look_at ≤ old.timer.deadline → new.timer.look_at ≤ new.timer.deadline
    pub tries : KeepsTries old.events new.events
    pub read : IsRead old.events old.timer → IsRead new.events new.timer

  -- the port was read
  read_by : (timer after : Timer) (es : List SocketEvent) → after.port ≡ timer.port → was_tried timer.port es ≡ true →
      IsRead es after
  read_by timer after es same tried marked = subst (λ (p : ℕ). was_tried p es ≡ true) (sym same) tried

  -- a step that begins with a receive at its port
  receives_at : {now : ℕ} (old new : PortState S F D) (does : PortStep meaning sources now old new)
      → ((q : ℕ) → was_tried q (noted_by does) ≡ ((old.timer.port == q) || was_tried q old.events))
      → new.timer.port ≡ old.timer.port → StaysHeld old.timer.port old.server.held new.server.held
      → (Looks old.timer → Looks new.timer) → StaysAt old new
  receives_at old new does reads port held look =
      search (rules, keeps_noted, or_right, was_tried, read_by, own_receive)

  -- a step at a port keeps the rest of the server
  pub stays_at : (now : ℕ) (old new : PortState S F D) → PortStep meaning sources now old new → StaysAt old new
  stays_at now old new (A_datagram d) =
      receives_at old new (A_datagram d) (λ q. refl)
      (ap (λ (t : Timer). t.port) d.timer ∙ after_port now d.step.progress old.timer)
      (next_held old.timer.port old.server.held new.server.held d.handles.takes.next d.handles.takes.held)
      (λ h. rw (d.timer) (after_looks now d.step.progress old.timer))
  stays_at now old new (A_lost_datagram d) =
      receives_at old new (A_lost_datagram d) (λ q. refl) (ap (λ (t : Timer). t.port) d.timer)
      (keeps_held old.timer.port (at old.timer.port old.server.held) old.server new.server d.loses.keeps)
      (λ h. rw (d.timer) (omega arith))
  stays_at now old new (A_timeout d) = search (rules, next_held, keeps_noted, read_by)
  stays_at now old new (A_missed_timeout d) = search rules
  stays_at now old new (Work d) = search (rules, works_held, at, keeps_noted)
  stays_at now old new does =
      receives_at old new does (λ q. refl) (ap (λ (t : Timer). t.port) (timer_is does))
      (same_server old.timer.port old.server new.server (server_is does)) (λ h. rw (timer_is does) (omega arith))

  stays_onward : (a b c : PortState S F D) → StaysAt a b → StaysAt b c → StaysAt a c
  stays_onward a b c x y = search rules

  -- so does a run at a port
  pub stays_along : (now : ℕ) (old new : PortState S F D) → Run (PortStep meaning sources now) old new → StaysAt old new
  stays_along now old new Start = search rules
  stays_along now old new (Then {middle} run does) = stays_onward _ _ _ (stays_along _ _ _ run) (stays_at _ _ _ does)
