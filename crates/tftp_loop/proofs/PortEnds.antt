-- What a step at a port does to the end of its transfer, and to the timer. For `ServerLoop::visit` and seven other
-- files.
use Rattle.std.proofs.Common.{rules}
use Rattle.tftp_loop.proofs.Common.{arith, ◌≡◌, ◌≤◌, ◌+◌, ◌*◌, ℕ, Bool, true, false, not, Some, refl, sym, ap, subst}
use Rattle.tftp_loop.proofs.Common.{◌∙◌, ⊤, is_some, same_Some, SourceMeaning, EndState, after_turn, timeout_turn}
use Rattle.tftp_loop.proofs.Common.{StoreMeaning, TransferState, at, KeepsHeld, with_end, WorksAt, Run, Start, Then}
use Rattle.tftp_loop.proofs.Common.{Timer, PortState, PortStep, deadline_by, restarted, timeouts_after, timer_after}
use Rattle.tftp_loop.proofs.Common.{wait_in, A_datagram, A_lost_datagram, A_timeout, A_missed_timeout, Work, IsIdleAt}
use Rattle.tftp_loop.proofs.Common.{ReceivesNoneAt}
use Rattle.std.specs.Prelude.{max}
use Rattle.tftp_server.specs.State.{is_open}
use Rattle.tftp_loop.specs.Steps.{expiring}
use Rattle.tftp_loop.proofs.EndSteps.{Moves, closed_left, datagram_left, datagram_moves, open_left, timeouts_left}
use Rattle.tftp_loop.proofs.Tables.{next_found}
use Rattle.tftp_loop.proofs.NewStates.{timer_is, server_is}

-- an end handled a datagram, with or without progress
pub record HandledSo (e e' : EndState) (progress : Bool) : Type 0 where
  pub role : e'.role ≡ e.role
  pub moves : Moves e e'.position
  pub left : progress ≡ false → timeouts_left e' ≤ timeouts_left e

-- how a step at a port changes the end and the timer of its transfer
pub data Changes (Idle Silent : Type 0) (now : ℕ) (timer timer' : Timer) (e e' : EndState) : Type 0 where
  By_datagram : (progress : Bool) → HandledSo e e' progress → (Idle → progress ≡ false) → (Silent → ⊥)
      → timer' ≡ timer_after now progress timer → Changes Idle Silent now timer timer' e e'
  By_timeout : (again : Bool) → 1 ≤ timeouts_left e → e' ≡ after_turn e (timeout_turn e)
      → timer' ≡ restarted now again timer → Changes Idle Silent now timer timer' e e'
  By_late_timeout : e' ≡ e → timeouts_left e ≡ 0 → timer' ≡ restarted now false timer
      → Changes Idle Silent now timer timer' e e'
  By_nothing : e' ≡ e → timer'.deadline ≡ timer.deadline → wait_in timer' ≡ wait_in timer
      → timer'.timeouts ≡ timer.timeouts → timer'.provisional ≡ timer.provisional → Changes Idle Silent now timer timer' e e'

-- ---- timers
-- a step leaves the port, the peer, the interval, the backoff and the age limit of a timer
pub record SameTimer (timer timer' : Timer) : Type 0 where
  pub port : timer'.port ≡ timer.port
  pub peer : timer'.peer ≡ timer.peer
  pub interval : timer'.interval ≡ timer.interval
  pub backoff : timer'.backoff ≡ timer.backoff
  pub age : timer'.age_limit ≡ timer.age_limit

-- the deadline is a wait away at most
abbrev pub IsNear : ℕ → Timer → Type 0
IsNear now timer = timer.deadline ≤ now + wait_in timer * 1000

-- also once it is set
pub set_near : (now time : ℕ) (b : Bool) (timer : Timer) → now ≤ time → IsNear now timer
    → deadline_by time b timer ≤ time + wait_in timer * 1000
set_near now time b timer h near = search rules

-- a deadline that was set now is a wait away
pub expiring_near : (now timeouts : ℕ) (timer : Timer) → IsNear now (expiring now timeouts timer)
expiring_near now timeouts timer = search rules

-- ---- retries
-- an end has this limit of retries, and no more left
pub record HasLimit (retries : ℕ) (e : EndState) : Type 0 where
  pub role : e.role.retries ≡ retries
  pub left : e.position.retries_left ≤ retries

-- a step leaves it
pub limit_moves : (retries : ℕ) (e e' : EndState) → e'.role ≡ e.role → Moves e e'.position → HasLimit retries e
    → HasLimit retries e'
limit_moves retries e e' role moves limit = search rules

-- as many timeouts are over and left as there are retries, and one more, at most
abbrev pub HasSpent : ℕ → Timer → EndState → Type 0
HasSpent retries timer e = timer.timeouts + timeouts_left e ≤ max 1 retries + 1

pub spent_after : (again : Bool) (timeouts : ℕ) → timeouts_after again timeouts ≤ timeouts + 1
spent_after true timeouts = omega arith
spent_after false timeouts = omega arith

module _ {Idle Silent : Type 0} {now : ℕ} {timer timer' : Timer} {e e' : EndState} where
  -- a step leaves the deadline a wait away at most
  pub changes_near : Changes Idle Silent now timer timer' e e' → IsNear now timer → IsNear now timer'
  changes_near changes near = search rules

  -- the limit of retries
  pub changes_limit : Changes Idle Silent now timer timer' e e' → (retries : ℕ) → HasLimit retries e
      → HasLimit retries e'
  changes_limit changes retries limit = search rules

  -- and no more timeouts, those that are over and those that are left
  pub changes_spent : Changes Idle Silent now timer timer' e e' → (retries : ℕ) → HasLimit retries e'
      → HasSpent retries timer e → HasSpent retries timer' e'
  changes_spent changes retries limit spent = search rules

closed_by : (b : Bool) → not b ≡ false → b ≡ true
closed_by true h = refl
closed_by false h = absurd (let e : true ≡ false = h in cc)

-- ---- at the port
module _ {S F D : Type 0} {meaning : StoreMeaning S D} {sources : SourceMeaning F} {now : ℕ} {old new : PortState S F D}
  where
    -- a step at a port leaves port, interval and age limit of its timer
    pub same_timer : PortStep meaning sources now old new → SameTimer old.timer new.timer
    same_timer does = search rules

    -- the configuration never changes
    pub same_config : PortStep meaning sources now old new → new.server.config ≡ old.server.config
    same_config does = search rules

module _ {S F D : Type 0} (meaning : StoreMeaning S D) (sources : SourceMeaning F) where
  -- a run at a port leaves the configuration of the server
  pub config_along : (now : ℕ) (old new : PortState S F D) → Run (PortStep meaning sources now) old new
      → new.server.config ≡ old.server.config
  config_along now old new Start = refl
  config_along now old new (Then {middle} run does) = same_config does ∙ config_along now old middle run

  -- the transfer is held still, and its end changed so
  pub record AtTransfer (Idle Silent : Type 0) (now : ℕ) (old new : PortState S F D)
      (transfer : TransferState F D) : Type 0 where
    pub next : TransferState F D
    pub found : at old.timer.port new.server.held ≡ Some next
    pub changes : Changes Idle Silent now old.timer new.timer transfer.end next.end

  -- what a step at a port does to the end that the table has there
  pub at_transfer : (now : ℕ) (old new : PortState S F D) (does : PortStep meaning sources now old new)
      (transfer : TransferState F D) → at old.timer.port old.server.held ≡ Some transfer
      → AtTransfer (IsIdleAt meaning sources does) (ReceivesNoneAt meaning sources does) now old new transfer
  at_transfer now old new (A_datagram d) transfer found =
      let takes = d.handles.takes in
      let step = takes.takes in
      let own = same_Some takes.transfer transfer (sym takes.found ∙ found) in
      let progress = ap (λ s. s.progress) step.reports in
      let handled : HandledSo takes.transfer.end takes.next.end d.step.progress =
      rw (step.carries.state) (record {
        role = refl;
        moves = datagram_moves step.steps;
        left = λ still. datagram_left step.steps (sym progress ∙ still);
      }) in
      record {
        next = takes.next;
        found = next_found _ _ _ _ _ takes.found takes.held;
        changes = rw (← own) (By_datagram d.step.progress handled (λ h. h) (λ h. h) d.timer);
      }
  at_transfer now old new (A_lost_datagram d) transfer found =
      let keeps = subst (λ o. KeepsHeld meaning sources old.timer.port o old.server new.server) found d.loses.keeps in
      record {
        next = keeps.0;
        found = next_found _ _ _ _ _ found keeps.2;
        changes = By_nothing keeps.1.end (ap (λ t. t.deadline) d.timer) (ap wait_in d.timer) (ap (λ t. t.timeouts)
            d.timer) (ap (λ t. t.provisional) d.timer);
      }
  at_transfer now old new (A_timeout d) transfer found =
      let t = d.times_out.times_out in
      let own = same_Some t.transfer transfer (sym t.found ∙ found) in
      record {
        next = with_end t.end t.transfer;
        found = next_found _ _ _ _ _ t.found t.held;
        changes = subst (λ u. Changes ⊤ ⊤ now old.timer new.timer u.end t.end) own (By_timeout (is_some d.step.to)
            (open_left _ t.transfer.end.position.retries_left t.still) t.carries.state d.timer);
      }
  at_transfer now old new (A_missed_timeout d) transfer found = record {
    next = transfer;
    found = ap (λ s. at old.timer.port s.held) d.server ∙ found;
    changes = By_late_timeout refl (closed_left _ transfer.end.position.retries_left (closed_by _ (ap (λ o. is_open o)
        (sym found) ∙ d.closed))) d.timer;
  }
  at_transfer now old new (Work d) transfer found =
      let works = subst (λ o. WorksAt meaning sources old.timer.port o old.server new.server) found d.works.works in
      record {
        next = works.0;
        found = next_found _ _ _ _ _ found works.2;
        changes = By_nothing (ap (λ t. t.end) works.1.rest) (ap (λ t. t.deadline) d.timer) (ap wait_in d.timer)
            (ap (λ t. t.timeouts) d.timer) (ap (λ t. t.provisional) d.timer);
      }
  at_transfer now old new does transfer found = record {
    next = transfer;
    found = ap (λ s. at old.timer.port s.held) (server_is does) ∙ found;
    changes = By_nothing refl (ap (λ t. t.deadline) (timer_is does)) (ap wait_in (timer_is does)) (ap (λ t. t.timeouts)
        (timer_is does)) (ap (λ t. t.provisional) (timer_is does));
  }
