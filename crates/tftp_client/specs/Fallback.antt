-- When a client retries without options (RFC 2347).
use Rattle.std.specs.Prelude.{◌≡◌, ◌⊎◌, IsSome}
use Rattle.tftp_negotiate.specs.declared.asked.Asked.{Asked}
use Rattle.tftp_ends.specs.declared.error_reply.ErrorReply.TheVariants.{OptionRefused}
use Rattle.tftp_ends.specs.declared.outcome.Outcome.{Outcome}
use Rattle.tftp_ends.specs.declared.outcome.Outcome.TheVariants.{PeerError}
use Rattle.tftp_ends.specs.ErrorReply.{code_of}

-- some option is asked
abbrev pub AsksSome : Asked → Type 0
AsksSome asked = IsSome asked.blksize ⊎ (IsSome asked.timeout ⊎ IsSome asked.tsize)

-- the peer sent the ERROR for refused options, and some option was asked
abbrev pub FallsBack : Outcome → Asked → Type 0
FallsBack outcome asked = (outcome ≡ PeerError (code_of OptionRefused)) × AsksSome asked
