-- The datagrams of a capture, each assigned once: given to a transfer, or of none, or not read.
use Rattle.std.specs.Prelude.{ℕ, ◌≡◌, ◌+◌, ◌&&◌, Bool, true, false, vec_len}
use Rattle.std.specs.List.{sum_by}
use Rattle.tftp_flow.specs.declared.flow.Flow.{Flow}
use Rattle.tftp_flow.specs.declared.flow.Assigned.{Assigned}
use Rattle.tftp_flow.specs.declared.flow.Assigned.TheVariants.{Begun, Given, Stray, Unread, Ignored}
use Rattle.tftp_flow.specs.declared.flow.captured_transfer.CapturedTransfer.{CapturedTransfer}

-- the datagrams that a transfer was given
abbrev pub given_to : CapturedTransfer → ℕ
given_to transfer = vec_len transfer.datagrams + vec_len transfer.asides

-- the datagrams and lines that a flow has
abbrev pub lines_in : Flow → ℕ
lines_in flow = sum_by given_to flow.transfers.items + vec_len flow.strays + vec_len flow.unread

-- how many a datagram adds: none if it is not of TFTP, and else one
abbrev pub added : Assigned → ℕ
added Begun = 1
added (Given index) = 1
added Stray = 1
added Unread = 1
added Ignored = 0

-- whether each datagram and each line so far was of a transfer, or not of TFTP
abbrev pub is_whole : Flow → Bool
is_whole flow = flow.whole

-- the datagrams and lines that a flow has of no transfer
abbrev pub apart_in : Flow → ℕ
apart_in flow = vec_len flow.strays + vec_len flow.unread

-- whether a datagram is of a transfer, or not of TFTP
abbrev pub is_of_transfer : Assigned → Bool
is_of_transfer Begun = true
is_of_transfer (Given index) = true
is_of_transfer Stray = false
is_of_transfer Unread = false
is_of_transfer Ignored = true

-- how many a datagram adds to those of no transfer
abbrev pub added_apart : Assigned → ℕ
added_apart Begun = 0
added_apart (Given index) = 0
added_apart Stray = 1
added_apart Unread = 1
added_apart Ignored = 0

-- what a datagram or a line changes of a flow, by where it was put
pub record Adds (old new : Flow) (assigned : Assigned) : Type 0 where
  pub lines : lines_in new ≡ lines_in old + added assigned
  pub apart : apart_in new ≡ apart_in old + added_apart assigned
  pub whole : is_whole new ≡ (is_whole old && is_of_transfer assigned)

-- nothing is assigned otherwise than before
pub record IsSameLines (old new : Flow) : Type 0 where
  pub lines : lines_in new ≡ lines_in old
  pub apart : apart_in new ≡ apart_in old
  pub whole : is_whole new ≡ is_whole old
