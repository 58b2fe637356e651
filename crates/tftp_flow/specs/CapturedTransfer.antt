-- How a transfer stands: whether it ended, whether it was reported, and since when it is silent.
use Rattle.std.specs.Prelude.{ℕ, ◌-◌, ◌/◌, nat_lt, Bool, true, false, Option, Some, None}
use Rattle.tftp_flow.specs.declared.flow.Flow.{Flow}
use Rattle.tftp_flow.specs.declared.flow.moment.Moment.{Moment}
use Rattle.tftp_flow.specs.declared.flow.moment.Span.{Span}
use Rattle.tftp_flow.specs.declared.flow.captured_transfer.Ending.{Ending}
use Rattle.tftp_flow.specs.declared.flow.captured_transfer.Ending.TheVariants.{Open, Complete}
use Rattle.tftp_flow.specs.declared.flow.captured_transfer.Ending.TheVariants.{Error}
use Rattle.tftp_flow.specs.declared.flow.captured_transfer.CapturedTransfer.{CapturedTransfer}

-- the microseconds of a moment
abbrev pub micros_of : Moment → ℕ
micros_of moment = moment.0

-- the microseconds that something lasted
abbrev pub micros_in : Span → ℕ
micros_in span = span.0

-- the second that a moment is in
abbrev pub second_of : Moment → ℕ
second_of moment = micros_of moment / 1000000

-- whether a transfer with this ending did not end
abbrev pub is_open : Ending → Bool
is_open Open = true
is_open Complete = false
is_open (Error by text) = false

-- the datagrams that were reported, if a report was made
abbrev pub reported : Option ℕ → ℕ
reported (Some count) = count
reported None = 0

-- whether a transfer was silent for longer than its timeouts, at a moment
abbrev pub is_silent : Moment → CapturedTransfer → Bool
is_silent now transfer =
    nat_lt (micros_in transfer.silence) (micros_of now - micros_of transfer.newest)

-- whether a second has begun since transfers that are over were dropped
abbrev pub is_due : Flow → Bool
is_due flow = nat_lt flow.looked (second_of flow.newest)
