-- The rules of each side for an option.
use Rattle.std.specs.Prelude.{Result, Option}
use Rattle.tftp_wire.specs.declared.options.RawOption.{RawOption}
use Rattle.tftp_negotiate.specs.declared.known.Known.{Known}
use Rattle.tftp_negotiate.specs.declared.refusal.Refusal.{Refusal}
use Rattle.tftp_negotiate.specs.declared.policy.Policy.{Policy}
use Rattle.tftp_negotiate.specs.declared.policy.Policy.TheVariants.{Server, Client}
use Rattle.tftp_negotiate.specs.Answer.{answered_option}
use Rattle.tftp_negotiate.specs.Agreement.{taken_option}
use Rattle.tftp_negotiate.specs.Asked.{IsAskable}
use Rattle.tftp_negotiate.specs.Ranges.{IsBlockSize}

-- the judgement of an option
abbrev pub judged : Policy → RawOption → Result (Option Known) Refusal
judged (Server kind mode length limits) = answered_option kind mode length limits
judged (Client asked kind mode limit) = taken_option asked kind mode limit

-- the block sizes of a policy are in their range
abbrev pub IsSoundPolicy : Policy → Type 0
IsSoundPolicy (Server kind mode length limits) = IsBlockSize limits.max_block
IsSoundPolicy (Client asked kind mode limit) = IsAskable asked
