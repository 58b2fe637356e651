-- For a part of its time a server leaves requests to the others.
use Rattle.std.proofs.Common.{arith, ◌≤◌, ◌<◌, ◌+◌, ◌*◌, ◌-◌, ℕ}
use Rattle.std.specs.Prelude.{max, min}
use Rattle.tftp_sockets.specs.declared.load.Load.{Load}
use Rattle.tftp_service.specs.declared.share.Debt.{Debt}
use Rattle.tftp_service.specs.declared.share.TheConstants.{PART, SAVED}
use Rattle.tftp_service.specs.Looks.{HasPart, Looks}
use Rattle.tftp_service.specs.Looks.Looks.{First, Looked, Settled}
use Rattle.tftp_service.specs.Share.{debt_at, last_time, left_since}

-- what is used up grows with what is left
grows : (from used now left part last : ℕ) → min (left * part + from) last ≤ used → (more : ℕ)
    → min ((left + more) * part + from) last ≤ min (max used now + min (more * part) last) last
grows from used now left part last h more = omega (arith, h)

begins : (used from left part last : ℕ)
    → min (0 * part + from) last ≤ min (max used from + min (left * part) last) last
begins used from left part last = omega arith

-- what was left is used up, up to the last time of the clock
pub used_up : (start left : ℕ) (debt : Debt) → Looks start left debt
    → min (left * PART + (start - SAVED)) last_time ≤ debt.used
used_up start left debt (First load first leaves may) =
    begins first.used (start - SAVED) (left_since first.left_at start) PART last_time
used_up start left debt (Looked before now load was leaves looks may) =
    grows (start - SAVED) was.used (now - SAVED) before PART last_time
    (used_up start before was looks) (left_since was.left_at now)
used_up start left debt (Settled before load was looks) =
    used_up start before was looks

below : (used now last : ℕ) (all : ℕ) → min all last ≤ used → used < now → now ≤ last → all < now
below used now last all h unused soon = omega (arith, h, unused, soon)

pub leaves_little : (start left now : ℕ) (load : Load) (debt : Debt) → now ≤ last_time
    → Looks start left debt → HasPart now (debt_at load now debt)
    → (left + left_since debt.left_at now) * PART + (start - SAVED) < now
leaves_little start left now load debt soon looks may =
    let used = used_up start left debt looks in
    below (debt_at load now debt).used now last_time
    ((left + left_since debt.left_at now) * PART + (start - SAVED))
    (grows (start - SAVED) debt.used (now - SAVED) left PART last_time used
    (left_since debt.left_at now))
    may soon
