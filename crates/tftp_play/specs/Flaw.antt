-- The words for what is wrong in a line of a script, and the word of the script that is at fault.
use Rattle.std.specs.Prelude.{ℕ, ◌==◌, ◌-◌, if◌then◌else◌, List, codes, Option, Some, None, slice_get}
use Rattle.std.specs.List.{slice_split}
use Rattle.tftp_play.specs.declared.script.flaw.FaultyLine.{FaultyLine}
use Rattle.tftp_play.specs.declared.script.flaw.Flaw.{Flaw}
use Rattle.tftp_play.specs.declared.script.flaw.Flaw.TheVariants as flaws

-- the words for a flaw
abbrev pub flaw_text : Flaw → List ℕ
flaw_text flaws.Unended = codes "no line feed at the end"
flaw_text flaws.EmptyWord = codes "one space stands between two words, and no other"
flaw_text flaws.WordCount = codes "too few or too many words"
flaw_text flaws.Text = codes "not UTF-8"
flaw_text flaws.Keyword = codes "no such line"
flaw_text flaws.Late = codes "after the first event"
flaw_text flaws.Setting = codes "no setting"
flaw_text flaws.Number = codes "no number in range"
flaw_text flaws.Yes = codes "not yes"
flaw_text flaws.Path = codes "no name of a file"
flaw_text flaws.Taken = codes "two files of this name"
flaw_text flaws.Mode = codes "no mode"
flaw_text flaws.Option = codes "no option, or there twice"
flaw_text flaws.Range = codes "an option out of its range"
flaw_text flaws.Content = codes "no content"
flaw_text flaws.Total = codes "more than 400000000 bytes of content"
flaw_text flaws.Digits = codes "no hexadecimal digits"
flaw_text flaws.Endpoint = codes "no address with a port"
flaw_text flaws.OwnHost = codes "no other host"

-- the part of an index, counted from 0, of those between separators
abbrev pub piece_of : ℕ → ℕ → List ℕ → Option (List ℕ)
piece_of separator index bytes = slice_get (slice_split (λ byte. byte == separator) bytes) index

-- the word of a line at a place
abbrev pub piece_in : ℕ → Option (List ℕ) → Option (List ℕ)
piece_in place None = None
piece_in place (Some line) = piece_of 32 place line

-- the word of the line of a number, which is counted from 1
abbrev pub word_at : Option ℕ → ℕ → List ℕ → Option (List ℕ)
word_at None number script = None
word_at (Some place) number script =
    if number == 0 then None else piece_in place (piece_of 10 (number - 1) script)

-- the word that is at fault
abbrev pub word_of : FaultyLine → List ℕ → Option (List ℕ)
word_of line script = word_at line.place line.number script
