-- How long the buffer of a capture's frames gets.
use Rattle.std.specs.Prelude.{ℕ, ◌≤◌}
use Rattle.tftp_capture.specs.declared.capture.TheConstants.{MAX_RECORD}

-- a buffer is within the longest record, if it was
abbrev pub StaysWithin : ℕ → ℕ → Type 0
StaysWithin old new = old ≤ MAX_RECORD → new ≤ MAX_RECORD
