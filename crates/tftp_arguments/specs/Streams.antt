-- Files in place of standard streams.
use Rattle.std.specs.Prelude.{pos, ℤ, ◌≤ℤ◌, Option, IfSome}

-- a file, if there is one, has the number of standard input, output or error, if it has one
abbrev pub IsStandard : {F : Type 0} → (F → Option ℤ) → Option F → Type 0
IsStandard number_of stream =
    IfSome stream (λ file. IfSome (number_of file) (λ number. number ≤ℤ pos 2))
