-- The state of an end, and what it reports.
use Rattle.std.specs.Prelude.{ℕ, Bool, true, false, ◌&&◌, ◌||◌, not, nat_lt, List, Option, Some}
use Rattle.std.specs.Prelude.{None, is_some, option_map, length as list_length}
use Rattle.tftp_negotiate.specs.declared.limits.TheConstants.{DEFAULT_BLOCK}
use Rattle.tftp_ends.specs.declared.endpoint.Endpoint.{Endpoint}
use Rattle.tftp_ends.specs.declared.outcome.Outcome.{Outcome}
use Rattle.tftp_ends.specs.declared.phase.Terms.{Terms}
use Rattle.tftp_ends.specs.declared.phase.Phase.{Phase}
use Rattle.tftp_ends.specs.declared.phase.Phase.TheVariants.{Waiting, Sending, Receiving, Dallying}
use Rattle.tftp_ends.specs.declared.phase.Phase.TheVariants.{Closed}
use Rattle.tftp_ends.specs.declared.role.Role.{Role}
use Rattle.tftp_ends.specs.declared.side.Side.{Side}
use Rattle.tftp_ends.specs.declared.side.Side.TheVariants.{ClientRead, ClientWrite, ServerRead}
use Rattle.tftp_ends.specs.declared.side.Side.TheVariants.{ServerWrite}
use Rattle.tftp_ends.specs.declared.record.Held.{Held}
use Rattle.tftp_ends.specs.declared.record.Record.{Record}
use Rattle.tftp_ends.specs.declared.record.TheConstants.{DEFAULT_INTERVAL}
use Rattle.tftp_ends.specs.declared.record.Step.{Step}

-- the progress of an end's transfer, and what the end keeps for the next event
pub record Position : Type 0 where
  pub retries_left : ℕ
  -- the datagram that a timeout retransmits, and its destination
  pub last_sent : List ℕ
  pub last_sent_to : Endpoint
  -- a receiver's wire text that awaits its next byte
  pub held_back : List ℕ
  pub phase : Phase

-- an end: its role, which its opening fixes, and its position, which its steps change
pub record EndState : Type 0 where
  pub role : Role
  pub position : Position

-- the end sends DATA
abbrev pub is_sender : Side → Bool
is_sender ClientRead = false
is_sender ClientWrite = true
is_sender ServerRead = true
is_sender ServerWrite = false

-- the end is a client's
abbrev pub is_client : Side → Bool
is_client ClientRead = true
is_client ClientWrite = true
is_client ServerRead = false
is_client ServerWrite = false

-- the terms, once the peer is known
abbrev pub terms_of : Phase → Option Terms
terms_of (Waiting asked limit) = None
terms_of (Sending terms number) = Some terms
terms_of (Receiving terms number) = Some terms
terms_of (Dallying terms number dally) = Some terms
terms_of (Closed terms number complete outcome) = terms

-- the newest DATA number of a sender, or how many blocks a receiver has stored
abbrev pub number_of : Phase → ℕ
number_of (Waiting asked limit) = 0
number_of (Sending terms number) = number
number_of (Receiving terms number) = number
number_of (Dallying terms number dally) = number
number_of (Closed terms number complete outcome) = number

-- the whole file was acknowledged, or stored and committed
abbrev pub is_complete : Phase → Bool
is_complete (Waiting asked limit) = false
is_complete (Sending terms number) = false
is_complete (Receiving terms number) = false
is_complete (Dallying terms number dally) = true
is_complete (Closed terms number complete outcome) = complete

-- how the end closed
abbrev pub outcome_of : Phase → Option Outcome
outcome_of (Waiting asked limit) = None
outcome_of (Sending terms number) = None
outcome_of (Receiving terms number) = None
outcome_of (Dallying terms number dally) = None
outcome_of (Closed terms number complete outcome) = Some outcome

-- the block size: the default one while the peer is unknown
abbrev pub size_of : Option Terms → ℕ
size_of None = DEFAULT_BLOCK
size_of (Some terms) = terms.size

-- the agreed timeout
abbrev pub timeout_of : Option Terms → Option ℕ
timeout_of None = None
timeout_of (Some terms) = terms.timeout

-- the timeout interval in seconds: the agreed one, or the default
abbrev pub seconds_of : Option ℕ → ℕ
seconds_of None = DEFAULT_INTERVAL
seconds_of (Some seconds) = seconds

-- the timeout interval of an end, in seconds
abbrev pub interval_of : Option Terms → ℕ
interval_of terms = seconds_of (timeout_of terms)

-- what an end reports
abbrev pub record_of : EndState → Record
record_of e =
    record {
      side = e.role.side;
      peer = option_map (λ t. t.peer) (terms_of e.position.phase);
      size = size_of (terms_of e.position.phase);
      timeout = timeout_of (terms_of e.position.phase);
      number = number_of e.position.phase;
      complete = is_complete e.position.phase;
      outcome = outcome_of e.position.phase;
    }

-- how many bytes an end keeps between two events
abbrev pub held_by : EndState → Held
held_by e =
    record { datagram = list_length e.position.last_sent; text = list_length e.position.held_back }

-- the peer became known, the number rose, or the end became complete
abbrev pub is_progress : Phase → Phase → Bool
is_progress old new =
    (not (is_some (terms_of old)) && is_some (terms_of new))
    || (nat_lt (number_of old) (number_of new) || (not (is_complete old) && is_complete new))

-- the report of a step that sent a datagram to `to`
abbrev pub step_of : Phase → Phase → Option Endpoint → Step
step_of old new to = record { to = to; progress = is_progress old new; closed = outcome_of new }
