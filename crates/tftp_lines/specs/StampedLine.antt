-- A line of a log with what is put before its words (ours).
use Rattle.std.specs.Prelude.{ℕ, pos, ◌*ℤ◌, ◌≡◌, Bool, true, false, if◌then◌else◌}
use Rattle.std.specs.Prelude.{List, [], ◌++◌, codes, Option, Some, None}
use Rattle.std.specs.Fmt.{decimal}
use Rattle.jiff_core.specs.DateTime.{civil_nanos}
use Rattle.jiff_core.specs.declared.civil.datetime.DateTime.{DateTime}
use Rattle.jiff_fmt.specs.Text.{datetime_text}
use Rattle.tftp_lines.specs.declared.stamped_line.StampedLine.{StampedLine}
use Rattle.tftp_lines.specs.declared.utc_time.UtcTime.{UtcTime}

-- the last millisecond of which `jiff` knows the text, of the year 9999
abbrev pub LAST_MILLIS : ℕ
LAST_MILLIS = 253402207200999

-- what a clock in UTC shows so many milliseconds after 1970 began, with `T` (84) between the date
-- and the time, with three places of a second, and with `Z` behind it (RFC 3339, section 5.6)
pub record IsUtcText (millis : ℕ) (text : List ℕ) : Type 0 where
  pub shown : DateTime
  pub is : civil_nanos shown ≡ pos millis *ℤ pos 1_000_000
  pub spelled : text ≡ datetime_text false 84 (Some 3) shown ++ codes "Z"

-- the priority of a warning, if the line is one
abbrev pub priority_text : Bool → List ℕ
priority_text is_warning = if is_warning then codes "<4>" else []

-- the time, if it is to be said
abbrev pub time_text : Option UtcTime → List ℕ
time_text (Some time) = time.text.bytes ++ codes " "
time_text None = []

-- the server, if it is one of several
abbrev pub server_text : Option ℕ → List ℕ
server_text (Some server) = codes "server " ++ (decimal server ++ codes ": ")
server_text None = []

-- the line, without its end: its words stay as they are, behind all else
abbrev pub stamped_text : StampedLine → List ℕ
stamped_text line =
    priority_text line.has_priority
    ++ (time_text line.time ++ (server_text line.server ++ line.words.now))
