-- The lines of `tftpd` (ours).
use Rattle.std.specs.Prelude.{ℕ, List, ◌∷◌, ◌++◌, codes}
use Rattle.std.specs.Fmt.{decimal}
use Rattle.tftp_ends.specs.Endpoint.{endpoint_text}
use Rattle.tftp_ends.specs.Outcome.{outcome_text}
use Rattle.tftp_lines.specs.declared.printed.Printed.{Printed}
use Rattle.tftp_lines.specs.declared.printed.Printed.TheVariants as line

-- a line, without its end
abbrev pub line_text : Printed → List ℕ
line_text (line.Listening endpoint) = codes "listening " ++ endpoint_text endpoint
line_text (line.Closed port peer outcome) =
    decimal port ++ (32 ∷ (decimal peer ++ (32 ∷ outcome_text outcome)))
