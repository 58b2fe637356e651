-- Which transfers have a hint in the line of their close (ours).
use Rattle.std.specs.Prelude.{Bool, [], ◌∷◌, nat_eq, Option, None}
use Rattle.std.specs.Cmp.Lexicographic.{pointwise}
use Rattle.tftp_ends.specs.declared.endpoint.Endpoint.{Endpoint}
use Rattle.tftp_lines.specs.declared.hint.Hint.{Hint}
use Rattle.tftp_lines.specs.declared.log_line.LogLine.{LogLine}
use Rattle.tftp_lines.specs.declared.log_line.LogLine.TheVariants.{Closed}

-- the endpoint is at each address of its host, 0.0.0.0
abbrev pub is_anywhere : Endpoint → Bool
is_anywhere endpoint = pointwise nat_eq endpoint.ip (0 ∷ 0 ∷ 0 ∷ 0 ∷ [])

-- the hint in a line, if it has one
abbrev pub hint_in : LogLine → Option Hint
hint_in (Closed port request answer bytes millis again outcome why hint) = hint
hint_in line = None
