-- How a server for C answers the options of a request, with a longest timeout of its own.
use Rattle.std.specs.Prelude.{ℕ, Bool, false, true, ◌≡◌, not, ◌&&◌, ◌==◌, nat_lt, if◌then◌else◌}
use Rattle.std.specs.Prelude.{List, [], ◌∷◌, Option}
use Rattle.std.specs.Prelude.{Some, None, Result, Ok, Err}
use Rattle.tftp_wire.specs.declared.options.RawOption.{RawOption}
use Rattle.tftp_wire.specs.declared.packet.Request.{Request}
use Rattle.tftp_negotiate.specs.Agreed.{timeout_of}
use Rattle.tftp_negotiate.specs.Answer.{answer}
use Rattle.tftp_negotiate.specs.Options.{name_of}
use Rattle.tftp_negotiate.specs.Negotiation.{is_name}
use Rattle.tftp_negotiate.specs.declared.known.Kind.{Kind}
use Rattle.tftp_negotiate.specs.declared.known.Known.{Known}
use Rattle.tftp_negotiate.specs.declared.limits.Limits.{Limits}
use Rattle.tftp_negotiate.specs.declared.name.Name.TheVariants.{Timeout}
use Rattle.tftp_negotiate.specs.declared.refusal.Refusal.{Refusal}
use Rattle.tftp_c.specs.declared.event.TftpOptions.{TftpOptions}

-- the options but those of the name `timeout`, in any case
abbrev pub without_timeout : List RawOption → List RawOption
without_timeout [] = []
without_timeout (o ∷ os) =
    if is_name Timeout (name_of o.name) then without_timeout os else o ∷ without_timeout os

-- there is a timeout, and it is longer than the longest one, where 0 is for any
abbrev pub is_long : ℕ → Option ℕ → Bool
is_long longest None = false
is_long longest (Some seconds) = not (longest == 0) && nat_lt longest seconds

-- the answer, or the other one if its timeout is too long
abbrev pub unless_long : ℕ → Result (List Known) Refusal → Result (List Known) Refusal
    → Result (List Known) Refusal
unless_long longest (Err refusal) other = Err refusal
unless_long longest (Ok known) other = if is_long longest (timeout_of known) then other else Ok known

-- a server's answer: an option `timeout` above the longest one gets none
-- (RFC 2349, "Timeout Interval Option Specification")
abbrev pub answer_to : TftpOptions → Request → Kind → ℕ → Limits → Result (List Known) Refusal
answer_to options request kind length limits =
    unless_long options.max_timeout (answer request.options kind request.mode length limits)
    (answer (without_timeout request.options) kind request.mode length limits)

-- it asks for a timeout that is too long
pub record AsksLong (options : TftpOptions) (request : Request) (kind : Kind) (length : ℕ)
    (limits : Limits) : Type 0 where
  pub known : List Known
  pub answers : answer request.options kind request.mode length limits ≡ Ok known
  pub long : is_long options.max_timeout (timeout_of known) ≡ true
