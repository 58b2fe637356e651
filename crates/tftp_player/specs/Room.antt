-- Internal to the code: the capacity reserved for the datagram that an event sends.
use Rattle.std.specs.Prelude.{ℕ, ◌+◌, ◌≤◌, max, if◌then◌else◌, Option, Some, None}
use Rattle.tftp_player.specs.Common.{DEFAULT_BLOCK, Phase, Waiting, Sending, Receiving, Record}
use Rattle.tftp_player.specs.Common.{is_sender, Endpoint}
use Rattle.tftp_wire.specs.declared.limits.TheConstants.{HEADER}
use Rattle.tftp_ends.specs.declared.phase.Phase.TheVariants.{Dallying, Closed}
use Rattle.tftp_ends.specs.declared.reply.TheConstants.{MAX_ERROR}

-- the largest block size that a client may agree to: the requested one, or the default if the
-- server answers without options
abbrev pub largest_block : Option ℕ → ℕ
largest_block None = DEFAULT_BLOCK
largest_block (Some size) = max DEFAULT_BLOCK size

-- a client that waits for its first answer agrees to no larger block
abbrev pub AgreesWithin : ℕ → Phase → Type 0
AgreesWithin max_block (Waiting asked limit) = largest_block asked.blksize ≤ max_block
AgreesWithin max_block (Sending terms number) = Unit {0}
AgreesWithin max_block (Receiving terms number) = Unit {0}
AgreesWithin max_block (Dallying terms number dally) = Unit {0}
AgreesWithin max_block (Closed terms number complete outcome) = Unit {0}

-- the longest block of an end: the agreed size, or `max_block` while its peer is unknown
abbrev pub block_within : ℕ → Option Endpoint → ℕ → ℕ
block_within max_block None size = max_block
block_within max_block (Some peer) size = size

-- the capacity to reserve before a datagram is handled: a sender may answer by a block, a receiver
-- by an ACK or an ERROR
abbrev pub answer_room : ℕ → Record → ℕ
answer_room max_block r =
    if is_sender r.side then max MAX_ERROR (HEADER + block_within max_block r.peer r.size)
    else MAX_ERROR
