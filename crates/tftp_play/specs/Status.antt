-- The status of `tftp-play` for a script that was played to its end.
use Rattle.std.specs.Prelude.{ℕ, Bool, ◌||◌, not, if◌then◌else◌, List}
use Rattle.std.specs.List.{list_all}
use Rattle.tftp_ends.specs.declared.record.Record.{Record}
use Rattle.tftp_ends.specs.End.{is_client}

-- whether an end is the server's, or a client that is complete
abbrev pub is_done : ℕ × Record → Bool
is_done (port, end) = end.complete || not (is_client end.side)

-- the status for the records of all ends: 0 if every client is complete, and 1 if not
abbrev pub run_status : List (ℕ × Record) → ℕ
run_status records = if list_all is_done records then 0 else 1
