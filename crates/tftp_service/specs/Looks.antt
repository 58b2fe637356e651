-- For how much of its time a server leaves requests to the others (ours).
use Rattle.std.specs.Prelude.{ℕ, ◌≡◌, ◌<◌, ◌≤◌, ◌+◌, ◌*◌, ◌-◌, Bool, true, Some, None}
use Rattle.std.specs.Prelude.{if◌then◌else◌}
use Rattle.tftp_sockets.specs.declared.load.Load.{Load}
use Rattle.tftp_service.specs.declared.share.Debt.{Debt}
use Rattle.tftp_service.specs.declared.share.TheConstants.{PART, SAVED}
use Rattle.tftp_service.specs.Share.{debt_at, last_time, left_since}

-- a server has not used up the part of its time at this time
abbrev pub HasPart : ℕ → Debt → Type 0
HasPart now debt = debt.used < now

-- a server that may open more leaves a request that waits at this time: it owes the others time, and
-- has not used up its part
pub record MayLeave (now : ℕ) (debt : Debt) : Type 0 where
  pub owes : 0 < debt.owed
  pub unused : HasPart now debt

-- the debt once it is known whether a server leaves a request at this time
abbrev pub noted_at : Bool → ℕ → Debt → Debt
noted_at leaves now debt = record debt { left_at = if leaves then Some now else None }

-- the debt of a server with this load that leaves no request for a time
abbrev pub settled_at : Load → Debt → Debt
settled_at load debt = record debt { transfers = load.open; owed = 0; left_at = None }

-- how long a server left requests from its first look at `start` until the newest one, in
-- microseconds, and its debt after it
pub data Looks (start : ℕ) : ℕ → Debt → Type 0 where
  First : (load : Load) (debt : Debt) (leaves : Bool)
      → (leaves ≡ true → HasPart start (debt_at load start debt))
      → Looks start 0 (noted_at leaves start (debt_at load start debt))
  Looked : (left now : ℕ) (load : Load) (debt : Debt) (leaves : Bool) → Looks start left debt
      → (leaves ≡ true → HasPart now (debt_at load now debt))
      → Looks start (left + left_since debt.left_at now)
      (noted_at leaves now (debt_at load now debt))
  Settled : (left : ℕ) (load : Load) (debt : Debt) → Looks start left debt
      → Looks start left (settled_at load debt)

-- when a server may leave a request, it has left requests since its first look for less than an
-- eighth of the time since then and 40 ms
abbrev pub LeavesLittle : Type 0
LeavesLittle =
    (start left now : ℕ) (load : Load) (debt : Debt) → now ≤ last_time → Looks start left debt
    → HasPart now (debt_at load now debt)
    → (left + left_since debt.left_at now) * PART + (start - SAVED) < now
