-- The options that both ends agree on.
use Rattle.std.specs.Prelude.{ℕ, ◌≡◌, false, List, [], ◌∷◌, Option, Some, None, map}
use Rattle.std.specs.List.{AllByRecursion}
use Rattle.tftp_wire.specs.declared.options.RawOption.{RawOption}
use Rattle.tftp_negotiate.specs.declared.known.Known.{Known}
use Rattle.tftp_negotiate.specs.declared.known.Known.TheVariants.{Blksize, Timeout, Tsize}
use Rattle.tftp_negotiate.specs.declared.name.Name.{Name}
use Rattle.tftp_negotiate.specs.declared.name.Name.TheVariants as name
use Rattle.tftp_negotiate.specs.declared.limits.TheConstants.{DEFAULT_BLOCK}
use Rattle.tftp_negotiate.specs.Asked.{option_of}
use Rattle.tftp_negotiate.specs.Negotiation.{occurrences, occurs_twice}
use Rattle.tftp_negotiate.specs.Ranges.{IsBlockSize, IsTimeout}

-- the name of a known option
abbrev pub name_of_known : Known → Name
name_of_known (Blksize n) = name.Blksize
name_of_known (Timeout n) = name.Timeout
name_of_known (Tsize n) = name.Tsize

-- its value
abbrev pub value_of_known : Known → ℕ
value_of_known (Blksize n) = n
value_of_known (Timeout n) = n
value_of_known (Tsize n) = n

-- the value may be agreed
abbrev pub IsAgreeable : Known → Type 0
IsAgreeable (Blksize n) = IsBlockSize n
IsAgreeable (Timeout n) = IsTimeout n
IsAgreeable (Tsize n) = Unit {0}

-- how often a name occurs in an agreement
abbrev pub count_of : Name → List Known → ℕ
count_of name known = occurrences (λ k. Some (name_of_known k)) name known

-- each value may be agreed, and no name is repeated
pub record IsAgreement (known : List Known) : Type 0 where
  pub values : AllByRecursion IsAgreeable known
  pub once : occurs_twice (λ name. count_of name known) ≡ false

-- the block size of a transfer, in data bytes: the default if none is agreed
-- (RFC 1350, section 2; RFC 2348)
abbrev pub size : List Known → ℕ
size [] = DEFAULT_BLOCK
size (Blksize n ∷ others) = n
size (Timeout n ∷ others) = size others
size (Tsize n ∷ others) = size others

-- the agreed timeout, in seconds
abbrev pub timeout_of : List Known → Option ℕ
timeout_of [] = None
timeout_of (Blksize n ∷ others) = timeout_of others
timeout_of (Timeout n ∷ others) = Some n
timeout_of (Tsize n ∷ others) = timeout_of others

-- a known option as it is sent
abbrev pub known_option : Known → RawOption
known_option (Blksize n) = option_of name.Blksize n
known_option (Timeout n) = option_of name.Timeout n
known_option (Tsize n) = option_of name.Tsize n

-- the options of the OACK that states the agreement, in its order
abbrev pub agreed_options : List Known → List RawOption
agreed_options known = map known_option known
