-- The options that a client requests, and how they are sent (RFC 2347, "Packet Formats").
use Rattle.std.specs.Prelude.{ℕ, ◌≡◌, List, [], ◌∷◌, ◌++◌, Option, Some, None, IfSome, decimal}
use Rattle.tftp_wire.specs.declared.options.RawOption.{RawOption}
use Rattle.tftp_wire.specs.declared.mode.Mode.{Mode}
use Rattle.tftp_wire.specs.declared.mode.Mode.TheVariants.{Octet, Netascii}
use Rattle.tftp_negotiate.specs.declared.known.Kind.{Kind}
use Rattle.tftp_negotiate.specs.declared.known.Kind.TheVariants.{Read, Write}
use Rattle.tftp_negotiate.specs.declared.known.Known.{Known}
use Rattle.tftp_negotiate.specs.declared.asked.Asked.{Asked}
use Rattle.tftp_negotiate.specs.declared.name.Name.{Name}
use Rattle.tftp_negotiate.specs.declared.name.Name.TheVariants.{Blksize, Timeout, Tsize}
use Rattle.tftp_negotiate.specs.Options.{name_text}
use Rattle.tftp_negotiate.specs.Ranges.{IsBlockSize, IsTimeout}

-- the tsize that is requested: none in netascii
abbrev pub asked_tsize : Mode → Asked → Option ℕ
asked_tsize Octet asked = asked.tsize
asked_tsize Netascii asked = None

-- the value that is requested under a name
abbrev pub asked_value : Mode → Asked → Name → Option ℕ
asked_value mode asked Blksize = asked.blksize
asked_value mode asked Timeout = asked.timeout
asked_value mode asked Tsize = asked_tsize mode asked

-- the tsize of a request: 0 for a read, the file's length for a write
-- (RFC 2349, "Transfer Size Option Specification")
abbrev pub request_tsize : Kind → ℕ → ℕ
request_tsize Read length = 0
request_tsize Write length = length

-- blksize and timeout, if present, may be requested
pub record IsAskable (asked : Asked) : Type 0 where
  pub blksize : IfSome asked.blksize IsBlockSize
  pub timeout : IfSome asked.timeout IsTimeout

-- the request fits a transfer of this kind and mode, and a file of this length
pub record IsFor (asked : Asked) (kind : Kind) (mode : Mode) (length : ℕ) : Type 0 where
  pub askable : IsAskable asked
  pub tsize : IfSome (asked_tsize mode asked) (λ n. n ≡ request_tsize kind length)

-- an option as it is sent: the name in lower case, the value in decimal
abbrev pub option_of : Name → ℕ → RawOption
option_of name n = record { name = name_text name; value = decimal n }

-- the option, if there is a value
abbrev pub option_if : Name → Option ℕ → List RawOption
option_if name None = []
option_if name (Some n) = option_of name n ∷ []

-- an option as a list of one, or of none
abbrev pub known_if : Option Known → List Known
known_if None = []
known_if (Some known) = known ∷ []

-- the options of a client's request, in the order in which they are sent
abbrev pub asked_options : Asked → Mode → List RawOption
asked_options asked mode = option_if Blksize asked.blksize
    ++ (option_if Timeout asked.timeout ++ option_if Tsize (asked_tsize mode asked))
