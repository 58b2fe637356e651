-- Which of several servers takes a request (ours).
use Rattle.std.specs.Prelude.{ℕ, ◌+◌, ◌*◌, ◌-◌, ◌==◌, nat_le, max, min, if◌then◌else◌}
use Rattle.std.specs.Prelude.{Option, None, Some}
use Rattle.tftp_sockets.specs.declared.load.Load.{Load}
use Rattle.tftp_service.specs.declared.share.Debt.{Debt}
use Rattle.tftp_service.specs.declared.share.TheConstants.{FULL_PAUSE, MOST_COUNTED, PART, PAUSE}
use Rattle.tftp_service.specs.declared.share.TheConstants.{SAVED}

-- how long a server with this load leaves requests to the others, in microseconds: not at all
-- without a transfer, and longest if no more may open
abbrev pub pause_of : Load → ℕ
pause_of load =
    if load.open == 0 then 0 else
    if nat_le load.cap load.open then FULL_PAUSE else
    min load.open MOST_COUNTED * PAUSE

-- how long a request was left until now, in microseconds, if one was left at a time
abbrev pub left_since : Option ℕ → ℕ → ℕ
left_since (Some time) now = now - time
left_since None now = 0

-- how long a server with this load is still to leave requests, once it has left them for so long:
-- for a pause once it has opened a transfer, and no more once one has closed
abbrev pub owed_after : Load → ℕ → Debt → ℕ
owed_after load left debt =
    if nat_le load.open debt.transfers then
    if nat_le debt.transfers load.open then debt.owed - left else 0
    else pause_of load

-- the greatest time of the clock, in microseconds
abbrev pub last_time : ℕ
last_time = 18446744073709551615

-- up to when a server's part of its time is used up, once it has left requests for so long more
abbrev pub used_after : ℕ → ℕ → ℕ → ℕ
used_after used now left =
    min (max used (now - SAVED) + min (left * PART) last_time) last_time

-- what a server with this load owes at this time, before it looks for a request
abbrev pub debt_at : Load → ℕ → Debt → Debt
debt_at load now debt = record {
  transfers = load.open;
  owed = owed_after load (left_since debt.left_at now) debt;
  used = used_after debt.used now (left_since debt.left_at now);
  left_at = None;
}
