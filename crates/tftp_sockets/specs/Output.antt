-- What standard output took of a line (ours).
use Rattle.std.specs.Prelude.{ℕ, List, [], Result, Ok, Err}

-- by what the system answered: all of it, or nothing, if it refused the line
abbrev pub line_taken : {A B : Type 0} → Result A B → List ℕ → List ℕ
line_taken (Ok done) line = line
line_taken (Err refusal) line = []
