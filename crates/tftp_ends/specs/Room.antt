-- Internal to the code: the capacity reserved for the datagram to send, and what the buffers hold.
use Rattle.std.specs.Prelude.{ℕ, ◌≡◌, ◌≤◌, ◌+◌, Bool, true, false, List, length, Option, Result}
use Rattle.tftp_file.specs.declared.fault.FileFault.{FileFault}
use Rattle.tftp_ends.specs.declared.action.Action.{Action}
use Rattle.tftp_ends.specs.declared.action.Action.TheVariants.{Respond, Send, Store}
use Rattle.tftp_ends.specs.declared.action.Response.{Response}
use Rattle.tftp_ends.specs.declared.action.Response.TheVariants.{Ignore, WrongPeer, ResendReply}
use Rattle.tftp_ends.specs.declared.action.Response.TheVariants.{Retransmit, Wait, Close, Refuse}
use Rattle.tftp_ends.specs.declared.action.Response.TheVariants.{Accept, Complete}
use Rattle.tftp_ends.specs.End.{EndState}
use Rattle.tftp_ends.specs.declared.reply.TheConstants.{MAX_ERROR}
use Rattle.tftp_ends.specs.Step.{ReadsBlock, block_length, data_bytes, result_count_is}

-- the capacity to reserve for a response
abbrev pub response_room : EndState → Response → ℕ
response_room e Ignore = 0
response_room e WrongPeer = MAX_ERROR
response_room e ResendReply = length e.position.last_sent
response_room e Retransmit = length e.position.last_sent
response_room e Wait = 0
response_room e (Close outcome) = 0
response_room e (Refuse terms reply outcome) = MAX_ERROR
response_room e (Accept terms) = MAX_ERROR
response_room e Complete = 0

-- the capacity to reserve for an action
abbrev pub room_of : EndState → Action → ℕ
room_of e (Respond response) = response_room e response
room_of e (Send terms number) = MAX_ERROR + block_length e.role.length terms.size number
room_of e (Store terms number) = MAX_ERROR

-- a datagram is at most as long as the capacity to reserve for an action
abbrev pub FitsRoom : EndState → List ℕ → Action → Type 0
FitsRoom e datagram action = length datagram ≤ room_of e action

-- the last datagram sent is DATA with a whole block, or that before it
abbrev pub HoldsData : ℕ → ℕ → List ℕ → List ℕ → List ℕ → Bool → Type 0
HoldsData number want piece before buffer true =
    (buffer ≡ data_bytes number piece) × (length buffer ≤ 4 + want)
HoldsData number want piece before buffer false = buffer ≡ before

-- a block was read from a source, which gave it, and the buffer holds it as DATA if it is whole;
-- if not, the buffer is unchanged
pub record ReadsData (before after : Option (List ℕ)) (may_fail must_fail : Type 0)
    (gives : List ℕ → Type 0) (number want : ℕ) (old buffer : List ℕ)
    (is_whole : Bool) : Type 0 where
  pub answer : Result ℕ FileFault
  pub piece : List ℕ
  pub reads : ReadsBlock before after may_fail must_fail want piece answer
  pub gave : gives piece
  pub whole : is_whole ≡ result_count_is want answer
  pub holds : HoldsData number want piece old buffer is_whole
