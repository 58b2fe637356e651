-- The longest file that a transfer may send (RFC 1350, section 6).
use Rattle.std.specs.Prelude.{ℕ, ◌*◌, ◌-◌, Option, Some, None, ⊤}
use Rattle.tftp_negotiate.specs.declared.limits.Limits.{Limits}
use Rattle.tftp_server.specs.Port.{Ask, Reads, granted_size}

-- the longest length that can be sent in blocks of the agreed size, in bytes: 65,535 blocks, the last
-- one byte short; none if no transfer can open
abbrev pub longest_in : Option ℕ → ℕ
longest_in None = 0
longest_in (Some size) = 65535 * size - 1

-- the longest length that a store can send, by this relation, is that of the blocks which are granted
-- to the read that it was asked for
abbrev pub IsBoundedFor : {S : Type 0} → (S → ℕ → Type 0) → Limits → Ask → S → Type 0
IsBoundedFor is_bounded limits (Reads path mode options) store =
    is_bounded store (longest_in (granted_size limits (Reads path mode options)))
IsBoundedFor is_bounded limits ask store = ⊤
