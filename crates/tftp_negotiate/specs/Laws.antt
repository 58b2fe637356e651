-- Laws of every negotiation, independent of the program.
use Rattle.std.specs.Prelude.{ℕ, ◌≡◌, ◌↔◌, ◌⊎◌, ◌*◌, ◌^◌, ◌<◌, ◌≤◌, List, Some, Option, Ok, Err}
use Rattle.std.specs.Prelude.{Contains, IsSome, decimal, length, min}
use Rattle.std.specs.List.{AllByRecursion}
use Rattle.std.specs.Str.{str_to_ascii_lowercase}
use Rattle.tftp_wire.specs.declared.options.RawOption.{RawOption}
use Rattle.tftp_wire.specs.declared.mode.Mode.{Mode}
use Rattle.tftp_wire.specs.declared.mode.Mode.TheVariants.{Octet}
use Rattle.tftp_wire.specs.Options.{IsOption, options_bytes}
use Rattle.tftp_negotiate.specs.declared.asked.Asked.{Asked}
use Rattle.tftp_negotiate.specs.declared.known.Kind.{Kind}
use Rattle.tftp_negotiate.specs.declared.known.Kind.TheVariants.{Read, Write}
use Rattle.tftp_negotiate.specs.declared.known.Known.{Known}
use Rattle.tftp_negotiate.specs.declared.known.Known.TheVariants.{Blksize, Timeout, Tsize}
use Rattle.tftp_negotiate.specs.declared.limits.Limits.{Limits}
use Rattle.tftp_negotiate.specs.declared.limits.TheConstants.{MIN_BLOCK}
use Rattle.tftp_negotiate.specs.declared.name.Name.{Name}
use Rattle.tftp_negotiate.specs.declared.name.Name.TheVariants as name
use Rattle.tftp_negotiate.specs.Options.{name_of, name_text, number_of}
use Rattle.tftp_negotiate.specs.declared.refusal.Refusal.TheVariants.{TooLarge}
use Rattle.tftp_negotiate.specs.Ranges.{IsBlockSize, IsTimeout}
use Rattle.tftp_negotiate.specs.Negotiation.{AreOnce}
use Rattle.tftp_negotiate.specs.Asked.{IsAskable, IsFor, asked_value, asked_options}
use Rattle.tftp_negotiate.specs.Agreed.{IsAgreement, size, value_of_known, agreed_options}
use Rattle.tftp_negotiate.specs.Answer.{answer}
use Rattle.tftp_negotiate.specs.Agreement.{agreement}

-- a text is a number exactly if it is the decimal digits of the number, which fits 64 bits
abbrev pub NumbersArePrinted : Type 0
NumbersArePrinted = (text : List ℕ) (n : ℕ)
    → (number_of text ≡ Some n) ↔ ((text ≡ decimal n) × (n < 2 ^ 64))

-- the lengths of both ends' files fit 64 bits, and a file to read is not longer than the client's
-- limit
pub record LengthsFit (kind : Kind) (client_length length limit : ℕ) : Type 0 where
  pub client_fits : client_length < 2 ^ 64
  pub length_fits : length < 2 ^ 64
  pub within : kind ≡ Read → length ≤ limit

-- a client accepts the server's answer to its request, option by option: so both agree on one list,
-- and on one block size
abbrev pub EndsAgree : Type 0
EndsAgree = (asked : Asked) (kind : Kind) (mode : Mode) (client_length length limit : ℕ)
    (limits : Limits) (known : List Known)
    → IsFor asked kind mode client_length → LengthsFit kind client_length length limit
    → IsBlockSize limits.max_block
    → answer (asked_options asked mode) kind mode length limits ≡ Ok known
    → agreement asked kind mode (agreed_options known) limit ≡ Ok known

-- some option of the request has this name and this number
abbrev pub Requests : List RawOption → Name → ℕ → Type 0
Requests options name n = (o : RawOption) × Contains options o
    × (name_of o.name ≡ Some name) × (number_of o.value ≡ Some n)

-- the length in an answer: for a read that of the file, for a write the requested one, within the
-- limits
abbrev pub AnswersLength : List RawOption → Kind → ℕ → ℕ → ℕ → Type 0
AnswersLength options Read length max_file n = Requests options name.Tsize 0 × (n ≡ length)
AnswersLength options Write length max_file n = Requests options name.Tsize n × (n ≤ max_file)

-- an answered option was requested, and exceeds neither the requested value nor the limits
abbrev pub IsWithinRequest : List RawOption → Kind → ℕ → Limits → Known → Type 0
IsWithinRequest options kind length limits (Blksize n) =
    (n ≤ limits.max_block) × (m : ℕ) × Requests options name.Blksize m × (n ≤ m)
IsWithinRequest options kind length limits (Timeout n) = Requests options name.Timeout n
IsWithinRequest options kind length limits (Tsize n) =
    AnswersLength options kind length limits.max_file n

-- a server answers no more than was requested, and no more than its limits allow
abbrev pub AnswersWithinRequest : Type 0
AnswersWithinRequest = (options : List RawOption) (kind : Kind) (mode : Mode) (length : ℕ)
    (limits : Limits) (known : List Known) → answer options kind mode length limits ≡ Ok known
    → AllByRecursion (IsWithinRequest options kind length limits) known

-- the option was requested
abbrev pub WasAsked : Asked → Mode → RawOption → Type 0
WasAsked asked mode o =
    (name : Name) × (name_of o.name ≡ Some name) × IsSome (asked_value mode asked name)

-- the length that is accepted: for a read any up to the limit, for a write the requested one
abbrev pub TakesLength : Option ℕ → Kind → ℕ → ℕ → Type 0
TakesLength asked Read limit n = IsSome asked × (n ≤ limit)
TakesLength asked Write limit n = asked ≡ Some n

-- an accepted option was requested, and does not exceed the request
abbrev pub IsWithinAsked : Asked → Kind → Mode → ℕ → Known → Type 0
IsWithinAsked asked kind mode limit (Blksize n) =
    (MIN_BLOCK ≤ n) × (most : ℕ) × (asked.blksize ≡ Some most) × (n ≤ most)
IsWithinAsked asked kind mode limit (Timeout n) = asked.timeout ≡ Some n
IsWithinAsked asked kind mode limit (Tsize n) =
    TakesLength (asked_value mode asked name.Tsize) kind limit n

-- an accepted OACK has no option that was not requested, and no value beyond the requested one
abbrev pub TakesNothingUnasked : Type 0
TakesNothingUnasked = (asked : Asked) (kind : Kind) (mode : Mode) (options : List RawOption)
    (limit : ℕ) (known : List Known)
    → agreement asked kind mode options limit ≡ Ok known
    → AllByRecursion (WasAsked asked mode) options
    × AllByRecursion (IsWithinAsked asked kind mode limit) known

-- an option has this name, in any case, and the digits of this number
pub record Says (o : RawOption) (one : Name) (n : ℕ) : Type 0 where
  pub name : str_to_ascii_lowercase o.name ≡ name_text one
  pub value : o.value ≡ decimal n
  pub fits : n < 2 ^ 64

-- some option of the list has this name and this number
abbrev pub HasOption : List RawOption → Name → ℕ → Type 0
HasOption options one n = (o : RawOption) × Contains options o × Says o one n

-- a request may have this value under this name: in netascii no length, and for a read the length 0
abbrev pub MayRequest : Kind → Mode → Name → ℕ → Type 0
MayRequest kind mode name.Blksize n = IsBlockSize n
MayRequest kind mode name.Timeout n = IsTimeout n
MayRequest kind mode name.Tsize n = (mode ≡ Octet) × (kind ≡ Read → n ≡ 0)

-- the option that is granted if a request has this value under this name
abbrev pub granted : Kind → ℕ → ℕ → Name → ℕ → Known
granted kind length max_block name.Blksize n = Blksize (min n max_block)
granted kind length max_block name.Timeout n = Timeout n
granted Read length max_block name.Tsize n = Tsize length
granted Write length max_block name.Tsize n = Tsize n

-- if no option is repeated, each known option that the request may have is answered, unless the
-- file is too large
abbrev pub AnswersWhatIsKnown : Type 0
AnswersWhatIsKnown = (options : List RawOption) (kind : Kind) (mode : Mode) (length : ℕ)
    (limits : Limits) → AreOnce options
    → (answer options kind mode length limits ≡ Err TooLarge)
    ⊎ ((known : List Known) × (answer options kind mode length limits ≡ Ok known)
    × ((one : Name) (n : ℕ) → HasOption options one n → MayRequest kind mode one n
    → Contains known (granted kind length limits.max_block one n)))

-- a request is too large only if it is a write that requests a length above the limit
abbrev pub TooLargeForWrites : Type 0
TooLargeForWrites = (options : List RawOption) (kind : Kind) (mode : Mode) (length : ℕ)
    (limits : Limits) → answer options kind mode length limits ≡ Err TooLarge
    → (kind ≡ Write) × (mode ≡ Octet) × (n : ℕ) × Requests options name.Tsize n
    × (limits.max_file < n)

-- a known option with its value
abbrev pub known_of : Name → ℕ → Known
known_of name.Blksize n = Blksize n
known_of name.Timeout n = Timeout n
known_of name.Tsize n = Tsize n

-- the option of an OACK answers a requested one, within the request
abbrev pub AnswersAsked : Asked → Kind → Mode → ℕ → RawOption → Type 0
AnswersAsked asked kind mode limit o =
    (one : Name) × (n : ℕ) × Says o one n × IsWithinAsked asked kind mode limit (known_of one n)

-- an OACK of such answers only, none of them repeated, is accepted, and each is agreed
abbrev pub TakesWhatWasAsked : Type 0
TakesWhatWasAsked = (asked : Asked) (kind : Kind) (mode : Mode) (options : List RawOption)
    (limit : ℕ) → AreOnce options → AllByRecursion (AnswersAsked asked kind mode limit) options
    → (known : List Known) × (agreement asked kind mode options limit ≡ Ok known)
    × ((one : Name) (n : ℕ) → HasOption options one n → Contains known (known_of one n))

-- a server's answer may be agreed
abbrev pub AnswersMayBeAgreed : Type 0
AnswersMayBeAgreed = (options : List RawOption) (kind : Kind) (mode : Mode) (length : ℕ)
    (limits : Limits) (known : List Known) → IsBlockSize limits.max_block
    → answer options kind mode length limits ≡ Ok known → IsAgreement known

-- a client's result for an OACK may be agreed
abbrev pub TakenMayBeAgreed : Type 0
TakenMayBeAgreed = (asked : Asked) (kind : Kind) (mode : Mode) (options : List RawOption)
    (limit : ℕ) (known : List Known)
    → IsAskable asked → agreement asked kind mode options limit ≡ Ok known → IsAgreement known

-- an agreement has at most as many options as there are known names
abbrev pub AgreementsAreShort : Type 0
AgreementsAreShort = (known : List Known) → IsAgreement known → length known ≤ 3

-- the block size of an agreement is in its range, also if it is the default
abbrev pub AgreementsHaveBlockSizes : Type 0
AgreementsHaveBlockSizes = (known : List Known) → IsAgreement known → IsBlockSize (size known)

-- the value of a known option fits 64 bits
abbrev pub HasWord : Known → Type 0
HasWord known = value_of_known known < 2 ^ 64

-- known options whose values fit 64 bits are options of a packet, each of 29 bytes at most: a name
-- of seven letters, twenty digits and two zero bytes
abbrev pub KnownAreOptions : Type 0
KnownAreOptions = (known : List Known) → AllByRecursion HasWord known
    → AllByRecursion IsOption (agreed_options known)
    × (length (options_bytes (agreed_options known)) ≤ 29 * length known)

-- the options that may be requested are options of a packet
abbrev pub AskedAreOptions : Type 0
AskedAreOptions = (asked : Asked) (kind : Kind) (mode : Mode) (length : ℕ) → length < 2 ^ 64
    → IsFor asked kind mode length → AllByRecursion IsOption (asked_options asked mode)
