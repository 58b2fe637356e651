-- How a client handles the first answer to its request, in the order of the code's tests. Its
-- table, a statement for each row, is in WaitingRows.
use Rattle.std.specs.Prelude.{ℕ, ◌*◌, nat_lt, nat_le, ◌==◌, ◌&&◌, true, false, if◌then◌else◌, List}
use Rattle.std.specs.Prelude.{[], length, Option, Some, None, Result, Ok, Err}
use Rattle.tftp_wire.specs.declared.mode.Mode.{Mode}
use Rattle.tftp_wire.specs.declared.packet.Packet.{Packet}
use Rattle.tftp_wire.specs.declared.packet.Packet.TheVariants.{Data, Ack, Error, Oack}
use Rattle.tftp_negotiate.specs.declared.asked.Asked.{Asked}
use Rattle.tftp_negotiate.specs.declared.known.Kind.TheVariants as kinds
use Rattle.tftp_negotiate.specs.declared.known.Known.{Known}
use Rattle.tftp_negotiate.specs.declared.limits.TheConstants.{DEFAULT_BLOCK}
use Rattle.tftp_negotiate.specs.declared.refusal.Refusal.{Refusal}
use Rattle.tftp_negotiate.specs.declared.refusal.Refusal.TheVariants as refusals
use Rattle.tftp_negotiate.specs.Agreement.{agreement}
use Rattle.tftp_negotiate.specs.Agreed.{size, timeout_of}
use Rattle.tftp_ends.specs.declared.endpoint.Endpoint.{Endpoint}
use Rattle.tftp_ends.specs.declared.error_reply.ErrorReply.TheVariants.{FileTooLarge, DiskFull}
use Rattle.tftp_ends.specs.declared.error_reply.ErrorReply.TheVariants.{IllegalOperation}
use Rattle.tftp_ends.specs.declared.error_reply.ErrorReply.TheVariants.{OptionRefused}
use Rattle.tftp_ends.specs.declared.outcome.Outcome.TheVariants as outcomes
use Rattle.tftp_ends.specs.declared.phase.Terms.{Terms}
use Rattle.tftp_ends.specs.declared.action.Action.{Action}
use Rattle.tftp_ends.specs.declared.action.Action.TheVariants.{Respond, Send}
use Rattle.tftp_ends.specs.declared.action.Response.TheVariants.{Refuse, Accept}
use Rattle.tftp_ends.specs.Sender.{peer_error}
use Rattle.tftp_ends.specs.Receiver.{receiver_action}

-- the terms after DATA 1 or ACK 0 as first answer
abbrev pub default_terms : Endpoint → Terms
default_terms peer = record { peer = peer; size = DEFAULT_BLOCK; timeout = None; by_oack = false }

-- the terms after an OACK of these options
abbrev pub agreed_terms : Endpoint → List Known → Terms
agreed_terms peer agreed =
    record { peer = peer; size = size agreed; timeout = timeout_of agreed; by_oack = true }

-- a packet that is not valid as a first answer
abbrev pub no_answer : Action
no_answer = Respond (Refuse None IllegalOperation outcomes.Illegal)

-- an OACK that does not match the requested options
abbrev pub refusal_action : Refusal → Action
refusal_action refusals.Repeated =
    Respond (Refuse None OptionRefused (outcomes.Refused refusals.Repeated))
refusal_action refusals.TooLarge = Respond (Refuse None DiskFull outcomes.TooLarge)
refusal_action refusals.NotAsked =
    Respond (Refuse None OptionRefused (outcomes.Refused refusals.NotAsked))
refusal_action refusals.BadValue =
    Respond (Refuse None OptionRefused (outcomes.Refused refusals.BadValue))

-- a client that reads accepts the options, or refuses them
abbrev pub accept_action : Endpoint → Result (List Known) Refusal → Action
accept_action from (Ok agreed) = Respond (Accept (agreed_terms from agreed))
accept_action from (Err refusal) = refusal_action refusal

-- a client that writes sends DATA 1, if the file's blocks can be numbered
abbrev pub begin_action : ℕ → Terms → Action
begin_action length terms =
    if nat_lt length (65535 * terms.size) then Send terms 1
    else Respond (Refuse None FileTooLarge outcomes.TooLarge)

-- a client that writes accepts the options and sends DATA 1, or refuses them
abbrev pub begin_with_action : Endpoint → ℕ → Result (List Known) Refusal → Action
begin_with_action from length (Ok agreed) = begin_action length (agreed_terms from agreed)
begin_with_action from length (Err refusal) = refusal_action refusal

-- how a client that reads handles a packet from the server's address
abbrev pub reader_action : Mode → Asked → ℕ → Endpoint → Option Packet → Action
reader_action mode asked limit from None = no_answer
reader_action mode asked limit from (Some (Data number bytes)) =
    if number == 1 && nat_le (length bytes) DEFAULT_BLOCK
    then receiver_action true mode [] (default_terms from) 0 (Some (Data number bytes))
    else no_answer
reader_action mode asked limit from (Some (Oack options)) =
    accept_action from (agreement asked kinds.Read mode options limit)
reader_action mode asked limit from (Some (Error code text)) = peer_error code
reader_action mode asked limit from (Some _) = no_answer

-- how a client that writes handles a packet from the server's address
abbrev pub writer_action : Mode → Asked → ℕ → ℕ → Endpoint → Option Packet → Action
writer_action mode asked limit length from None = no_answer
writer_action mode asked limit length from (Some (Ack number)) =
    if number == 0 then begin_action length (default_terms from) else no_answer
writer_action mode asked limit length from (Some (Oack options)) =
    begin_with_action from length (agreement asked kinds.Write mode options limit)
writer_action mode asked limit length from (Some (Error code text)) = peer_error code
writer_action mode asked limit length from (Some _) = no_answer
