-- What is printed of the lines of several servers (ours).
use Rattle.std.specs.Prelude.{ℕ, ◌≡◌, ◌==◌, List, [], ◌∷◌, ◌++◌, All}
use Rattle.std.specs.Prelude.{if◌then◌else◌}
use Rattle.tftp_supervisor.specs.Lines.{HasNoEnd, has_any, line_passed, ended_lines, with_first}
use Rattle.tftp_supervisor.specs.ProcessEvent.{ProcessEvent, given_by, printed_in}
use Rattle.tftp_supervisor.specs.ProcessEvent.ProcessEvent.{Started, Gave, Closed, Ended, Printed}

-- a line of a server, without its end
pub record ServerLine : Type 0 where
  pub server : ℕ
  pub line : List ℕ

-- the lines of one server, in their order, among those of all, of which the newest stands first
abbrev pub lines_at : ℕ → List ServerLine → List (List ℕ)
lines_at server [] = []
lines_at server (newest ∷ before) =
    if newest.server == server then lines_at server before ++ newest.line ∷ []
    else lines_at server before

-- the first lines of the servers
abbrev pub first_lines : List ServerLine → List (List ℕ)
first_lines [] = []
first_lines (newest ∷ before) =
    with_first (first_lines before) (has_any (lines_at newest.server before)) (newest.line ∷ [])

-- what is printed of these lines: the first of a server, as it is, except one that was the first of
-- another before; and each other one with its server
abbrev pub print_of : List ServerLine → List ℕ
print_of [] = []
print_of (newest ∷ before) =
    print_of before
    ++ line_passed (first_lines before) (has_any (lines_at newest.server before)) newest.server
    newest.line

-- what was printed is what is printed of some lines; and what each server gave is its lines, whole
-- ones, and the start of a line whose end has not come
pub record PassedOn (events : List ProcessEvent) : Type 0 where
  pub lines : List ServerLine
  pub begun : ℕ → List ℕ
  pub given : (server : ℕ)
      → given_by server events ≡ ended_lines (lines_at server lines) ++ begun server
  pub whole : (server : ℕ) → All HasNoEnd (lines_at server lines)
  pub unended : (server : ℕ) → HasNoEnd (begun server)
  pub printed : printed_in events ≡ print_of lines

-- so it was after each write, and before each read
abbrev pub AlwaysPassedOn : List ProcessEvent → Type 0
AlwaysPassedOn [] = Unit {0}
AlwaysPassedOn (Started line ∷ before) = AlwaysPassedOn before
AlwaysPassedOn (Gave server bytes ∷ before) = PassedOn before × AlwaysPassedOn before
AlwaysPassedOn (Closed server ∷ before) = PassedOn before × AlwaysPassedOn before
AlwaysPassedOn (Ended server answer ∷ before) = AlwaysPassedOn before
AlwaysPassedOn (Printed text ∷ before) =
    PassedOn (Printed text ∷ before) × AlwaysPassedOn before
