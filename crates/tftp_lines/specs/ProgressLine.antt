-- The progress line of a client's transfer (ours).
use Rattle.std.specs.Prelude.{ℕ, ◌≤◌, ◌+◌, ◌-◌, ◌*◌, ◌/◌, ◌%◌, ◌==◌, ◌||◌, nat_le, nat_lt, max}
use Rattle.std.specs.Prelude.{if◌then◌else◌, List, [], ◌++◌, codes, Option, Some, None}
use Rattle.std.specs.Fmt.{decimal}
use Rattle.tftp_lines.specs.declared.progress_line.ProgressLine.{ProgressLine}

-- a line is due: none was written yet, or the newest one at least a tenth of a second ago
abbrev pub IsLineDue : Option ℕ → ℕ → Type 0
IsLineDue None now = Unit {0}
IsLineDue (Some written_at) now = 100 ≤ now - written_at

-- the share of the whole in percent, rounded down, at most 100
abbrev pub percent_of : ℕ → ℕ → ℕ
percent_of bytes total = if nat_le total bytes then 100 else (bytes * 100) / total

-- the speed in tenths of a megabyte a second, rounded down; less than a millisecond counts as one
abbrev pub tenths_of : ℕ → ℕ → ℕ
tenths_of bytes millis = (bytes / 100) / max millis 1

-- the same in tenths of a kilobyte a second
abbrev pub kilo_tenths_of : ℕ → ℕ → ℕ
kilo_tenths_of bytes millis = (bytes * 10) / max millis 1

-- a number of tenths with one decimal, and its unit
abbrev pub tenths_text : ℕ → List ℕ → List ℕ
tenths_text tenths unit = decimal (tenths / 10) ++ (codes "." ++ (decimal (tenths % 10) ++ unit))

-- the speed with one decimal: in kilobytes a second below a megabyte, and else in megabytes
abbrev pub speed_text : ℕ → ℕ → List ℕ
speed_text bytes millis =
    if nat_lt (tenths_of bytes millis) 10
    then tenths_text (kilo_tenths_of bytes millis) (codes " KB/s")
    else tenths_text (tenths_of bytes millis) (codes " MB/s")

-- how long the rest takes at the speed so far, in seconds, rounded up; nothing at the end, before
-- the first byte, and if it is more than 100 hours
abbrev pub seconds_left : ℕ → ℕ → ℕ → Option ℕ
seconds_left bytes total millis =
    if (bytes == 0) || nat_le total bytes then None else
    if nat_le ((((total - bytes) * millis - 1) / bytes) / 1000 + 1) 360000
    then Some ((((total - bytes) * millis - 1) / bytes) / 1000 + 1)
    else None

-- `, N s left` if that is known
abbrev pub left_text : Option ℕ → List ℕ
left_text (Some seconds) = codes ", " ++ (decimal seconds ++ codes " s left")
left_text None = []

-- `N%, ` and what is left, if the whole is known
abbrev pub share_text : ℕ → ℕ → Option ℕ → List ℕ → List ℕ
share_text bytes millis None speed = speed
share_text bytes millis (Some total) speed =
    decimal (percent_of bytes total)
    ++ (codes "%, " ++ (speed ++ left_text (seconds_left bytes total millis)))

-- the line, without its end
abbrev pub progress_line_text : ProgressLine → List ℕ
progress_line_text line =
    decimal line.bytes
    ++ (codes " bytes, "
    ++ share_text line.bytes line.millis line.total (speed_text line.bytes line.millis))
