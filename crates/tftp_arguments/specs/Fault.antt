-- The status for a command line that is not run (own).
use Rattle.std.specs.Prelude.{ℕ, ◌≡◌, ◌≢◌, ◌⊎◌, ◌&&◌, Bool, true, false, if◌then◌else◌, List}
use Rattle.clap.specs.Faults.{fault_of}
use Rattle.clap.specs.Kinds.{HasKind, IsAmong, Kinds}
use Rattle.clap.specs.Simple.{App}
use Rattle.clap.specs.declared.error.Error.{Error}
use Rattle.clap.specs.declared.error.kind.ErrorKind.{ErrorKind}
use Rattle.clap.specs.declared.error.kind.ErrorKind.TheVariants.{DisplayHelp, DisplayVersion}

-- the status for an error of this kind: 2, unless the help or the version is printed
abbrev pub HasStatus : ErrorKind → ℕ → Type 0
HasStatus kind status = kind ≢ DisplayHelp → kind ≢ DisplayVersion → status ≡ 2

-- an error of this kind is the help or the version, which was asked for
abbrev pub is_text : ErrorKind → Bool
is_text DisplayHelp = true
is_text DisplayVersion = true
is_text kind = false

-- the status for an error of this kind by whether its text was printed: 0 for a help or a version
-- that was, and else 2
abbrev pub usage_status : ErrorKind → Bool → ℕ
usage_status kind printed = if is_text kind && printed then 0 else 2

-- the help or the version is among what a parse may end with
abbrev pub HasText : Kinds → Type 0
HasText kinds = IsAmong DisplayHelp kinds ⊎ IsAmong DisplayVersion kinds

-- with a status of 0, the help or the version is among what the parse may have ended with
abbrev pub IsZeroForText : Error → ℕ → Type 0
IsZeroForText error status = (kinds : Kinds) → HasKind kinds error → status ≡ 0 → HasText kinds

-- the words ask for the help or the version of a command line
abbrev pub AskForText : App → List (List ℕ) → Type 0
AskForText app words = HasText (fault_of app words)
