-- The state of an end after an event, and its answer.
use Rattle.std.specs.Prelude.{ℕ, ◌≡◌, ◌≢◌, ◌-◌, ◌*◌, min, nat_lt, ◌==◌, Bool, true, false}
use Rattle.std.specs.Prelude.{if◌then◌else◌, List, [], ◌∷◌, ◌++◌, length, Option, Some, None}
use Rattle.std.specs.Prelude.{Result, Ok, Err, IfErr, is_ok, option_map}
use Rattle.std.specs.Result.{result_err}
use Rattle.tftp_wire.specs.declared.packet.Packet.{Packet}
use Rattle.tftp_wire.specs.declared.packet.Packet.TheVariants.{Data, Ack}
use Rattle.tftp_wire.specs.Spelling.{Spells, canonical}
use Rattle.tftp_file.specs.declared.fault.FileFault.{FileFault}
use Rattle.tftp_file.specs.declared.fault.FileFault.TheVariants as file_faults
use Rattle.tftp_file.specs.declared.fault.StoreFault.{StoreFault}
use Rattle.tftp_file.specs.declared.fault.StoreFault.TheVariants as store_faults
use Rattle.tftp_ends.specs.declared.endpoint.Endpoint.{Endpoint}
use Rattle.tftp_ends.specs.declared.error_reply.ErrorReply.{ErrorReply}
use Rattle.tftp_ends.specs.declared.error_reply.ErrorReply.TheVariants as replies
use Rattle.tftp_ends.specs.declared.outcome.Outcome.{Outcome}
use Rattle.tftp_ends.specs.declared.outcome.Outcome.TheVariants as outcomes
use Rattle.tftp_ends.specs.declared.phase.Dally.TheVariants.{Fresh}
use Rattle.tftp_ends.specs.declared.phase.Phase.{Phase}
use Rattle.tftp_ends.specs.declared.phase.Phase.TheVariants.{Sending, Receiving, Dallying}
use Rattle.tftp_ends.specs.declared.phase.Terms.{Terms}
use Rattle.tftp_ends.specs.declared.record.Step.{Step}
use Rattle.tftp_ends.specs.declared.action.Action.{Action}
use Rattle.tftp_ends.specs.declared.action.Action.TheVariants.{Respond, Send, Store}
use Rattle.tftp_ends.specs.declared.action.Response.{Response}
use Rattle.tftp_ends.specs.declared.action.Response.TheVariants.{Ignore, WrongPeer, ResendReply}
use Rattle.tftp_ends.specs.declared.action.Response.TheVariants.{Retransmit, Wait, Close, Refuse}
use Rattle.tftp_ends.specs.declared.action.Response.TheVariants.{Accept, Complete}
use Rattle.tftp_ends.specs.declared.outgoing.Outgoing.{Outgoing}
use Rattle.tftp_ends.specs.declared.outgoing.Outgoing.TheVariants.{Nothing, LastSent, Error}
use Rattle.tftp_ends.specs.End.{Position, EndState, number_of, is_progress, step_of}
use Rattle.tftp_ends.specs.ErrorReply.{error_packet}
use Rattle.tftp_ends.specs.Phase.{closed, refused, completed, waited}
use Rattle.tftp_ends.specs.Action.{Decodes, datagram_action, timeout_response}
use Rattle.tftp_ends.specs.Text.{Decoded}
use Rattle.tftp_file.specs.Source.{SourceMeaning, Fills}
use Rattle.tftp_file.specs.Sink.{SinkMeaning, Appends, Commits}
use Rattle.tftp_file.specs.declared.files.Files.{Files}
use Rattle.tftp_file.specs.declared.files.Files.TheVariants.{Source, Sink}

-- the result of a call that returns no value
abbrev pub Done : Type 0
Done = Unit {0}

-- a datagram and its destination
pub record Reply : Type 0 where
  pub to : Endpoint
  pub bytes : List ℕ

-- the position in a phase: progress restores the retries
abbrev pub in_phase : Phase → EndState → Position
in_phase phase e =
    record e.position {
      phase = phase;
      retries_left =
          if is_progress e.position.phase phase then e.role.retries else e.position.retries_left;
    }

-- the position after a new datagram was sent, which a timeout retransmits
abbrev pub having_sent : Reply → Position → Position
having_sent reply position = record position { last_sent = reply.bytes; last_sent_to = reply.to }

-- the end at another position
abbrev pub with_position : Position → EndState → EndState
with_position position e = record e { position = position }

-- the bytes of an ERROR, of an ACK and of DATA
abbrev pub error_bytes : ErrorReply → List ℕ
error_bytes reply = canonical (error_packet reply)

abbrev pub ack_bytes : ℕ → List ℕ
ack_bytes number = canonical (Ack number)

abbrev pub data_bytes : ℕ → List ℕ → List ℕ
data_bytes number bytes = canonical (Data number bytes)

-- the position after a response to a datagram from `from`
abbrev pub after : Response → Endpoint → EndState → Position
after Ignore from e = e.position
after WrongPeer from e = e.position
after ResendReply from e = e.position
after Retransmit from e = record e.position { retries_left = e.position.retries_left - 1 }
after Wait from e = record e.position { phase = waited e.position.phase }
after (Close outcome) from e = in_phase (closed outcome e.position.phase) e
after (Refuse terms reply outcome) from e = in_phase (refused terms outcome e.position.phase) e
after (Accept terms) from e =
    having_sent (record { to = from; bytes = ack_bytes 0 }) (in_phase (Receiving terms 0) e)
after Complete from e = in_phase (completed e.position.phase) e

-- the answer of a response
abbrev pub reply_at : Response → Endpoint → EndState → Option Reply
reply_at Ignore from e = None
reply_at WrongPeer from e =
    Some (record { to = from; bytes = error_bytes replies.UnknownTransferId })
reply_at ResendReply from e = Some (record { to = from; bytes = e.position.last_sent })
reply_at Retransmit from e =
    Some (record { to = e.position.last_sent_to; bytes = e.position.last_sent })
reply_at Wait from e = None
reply_at (Close outcome) from e = None
reply_at (Refuse terms reply outcome) from e =
    Some (record { to = from; bytes = error_bytes reply })
reply_at (Accept terms) from e = Some (record { to = from; bytes = ack_bytes 0 })
reply_at Complete from e = None

-- an end's position after an event, and its answer
pub record Turn : Type 0 where
  pub position : Position
  pub reply : Option Reply

-- the end after a step
abbrev pub after_turn : EndState → Turn → EndState
after_turn e turn = with_position turn.position e

-- an answer is the ACK of this number
abbrev pub IsAck : ℕ → Option Reply → Type 0
IsAck number None = ⊥
IsAck number (Some reply) = reply.bytes ≡ ack_bytes number

-- a repeated datagram is answered by the ACK of the number
abbrev pub AcksAgain : EndState → Turn → Action → Type 0
AcksAgain e turn (Respond ResendReply) = IsAck (number_of e.position.phase) turn.reply
AcksAgain e turn (Respond Ignore) = Unit {0}
AcksAgain e turn (Respond WrongPeer) = Unit {0}
AcksAgain e turn (Respond Retransmit) = Unit {0}
AcksAgain e turn (Respond Wait) = Unit {0}
AcksAgain e turn (Respond (Close outcome)) = Unit {0}
AcksAgain e turn (Respond (Refuse terms reply outcome)) = Unit {0}
AcksAgain e turn (Respond (Accept terms)) = Unit {0}
AcksAgain e turn (Respond Complete) = Unit {0}
AcksAgain e turn (Send terms number) = Unit {0}
AcksAgain e turn (Store terms number) = Unit {0}

-- the step of a response
abbrev pub response_turn : Response → Endpoint → EndState → Turn
response_turn response from e =
    record { position = after response from e; reply = reply_at response from e }

-- an ERROR, and closed with these terms
abbrev pub refused_turn : Terms → ErrorReply → Outcome → Endpoint → EndState → Turn
refused_turn terms reply outcome from e = response_turn (Refuse (Some terms) reply outcome) from e

-- a new datagram is sent, in this phase
abbrev pub sent_turn : Phase → Endpoint → List ℕ → EndState → Turn
sent_turn phase from bytes e =
    let reply : Reply = record { to = from; bytes = bytes } in
    record { position = having_sent reply (in_phase phase e); reply = Some reply }

-- how many bytes of a file of this length the block of this number has
abbrev pub block_length : ℕ → ℕ → ℕ → ℕ
block_length length size number = min size (length - (number - 1) * size)

-- the answer is that `want` bytes were read
abbrev pub result_count_is : ℕ → Result ℕ FileFault → Bool
result_count_is want (Ok count) = count == want
result_count_is want (Err fault) = false

-- a sender's step after a fill: DATA with the whole block, or else ERROR 0 `file changed`
abbrev pub filled_turn : Terms → ℕ → Endpoint → List ℕ → EndState → Result ℕ FileFault → Turn
filled_turn terms number from piece e answer =
    if result_count_is (block_length e.role.length terms.size number) answer
    then sent_turn (Sending terms number) from (data_bytes number piece) e
    else refused_turn terms replies.FileChanged outcomes.SourceFault from e

-- the ERROR for a fault of a commit
abbrev pub commit_reply : StoreFault → ErrorReply
commit_reply store_faults.Missing = replies.DiskFull
commit_reply store_faults.Exists = replies.FileExists
commit_reply store_faults.Full = replies.DiskFull
commit_reply store_faults.Io = replies.DiskFull
commit_reply store_faults.Memory = replies.DiskFull

-- a receiver's step after a commit: the last block is acknowledged only if it succeeds
abbrev pub committed_turn : {A : Type 0} → Terms → ℕ → Endpoint → EndState → Result A StoreFault
    → Turn
committed_turn terms number from e (Ok done) =
    sent_turn (Dallying terms number Fresh) from (ack_bytes number) e
committed_turn terms number from e (Err fault) =
    refused_turn terms (commit_reply fault) outcomes.StoreFault from e

-- a receiver that holds back this text
abbrev pub holding : List ℕ → EndState → EndState
holding held e = with_position (record e.position { held_back = held }) e

-- `want` bytes were requested from a source, with this answer: it fails to read only if it may
-- fail, and it does if it must
pub record ReadsBlock (before after : Option (List ℕ)) (may_fail must_fail : Type 0) (want : ℕ)
    (piece : List ℕ) (answer : Result ℕ FileFault) : Type 0 where
  pub fills : Fills before after want [] piece answer
  pub read : answer ≡ Err file_faults.Read → may_fail
  pub fails : must_fail → answer ≡ Err file_faults.Read
  pub memory : answer ≢ Err file_faults.Memory

module _ {S : Type 0} (sources : SourceMeaning S) where
  -- the same, of this source before, and the bytes left after
  abbrev pub AsksFor : ℕ → S → Option (List ℕ) → List ℕ → Result ℕ FileFault → Type 0
  AsksFor want source after piece answer =
      ReadsBlock (sources.left source) after (sources.may_fail source want)
      (sources.fails source want)
      want piece answer

  -- the next block was read from a source, and then DATA or an ERROR was sent
  pub record Sends (terms : Terms) (number : ℕ) (from : Endpoint) (e : EndState) (source : S)
      (turn : Turn) (source' : S) : Type 0 where
    pub answer : Result ℕ FileFault
    pub piece : List ℕ
    pub reads : AsksFor (block_length e.role.length terms.size number) source (sources.left source')
        piece answer
    pub gives : sources.gives source piece source'
    pub answers : turn ≡ filled_turn terms number from piece e answer

module _ {K : Type 0} (sinks : SinkMeaning K) where
  -- the bytes of a block were appended to a sink; without bytes it is not called
  abbrev pub Appended : List ℕ → K → K → Result Done StoreFault → Type 0
  Appended [] sink sink' answer = (answer ≡ Ok tt) × (sink' ≡ sink)
  Appended (b ∷ bytes) sink sink' answer =
      Appends (sinks.held sink) (sinks.held sink') (b ∷ bytes) answer
      × IfErr answer (sinks.may_refuse_append sink (b ∷ bytes)) × sinks.becomes sink sink' false
      × sinks.after_append sink (b ∷ bytes) sink' (result_err answer)

  -- a sink was called to commit the file
  pub record Committed (terms : Terms) (number : ℕ) (from : Endpoint) (e : EndState) (sink : K)
      (turn : Turn) (sink' : K) : Type 0 where
    pub answer : Result Done StoreFault
    pub commits : Commits (sinks.held sink) (sinks.held sink') answer
    pub refused : IfErr answer (sinks.may_refuse_commit sink)
    pub leaves : sinks.becomes sink sink' (is_ok answer)
    pub effect : sinks.after_commit sink sink' (result_err answer)
    pub answers : turn ≡ committed_turn terms number from e answer

  -- after an append: the last block is acknowledged after a commit, any other at once
  abbrev pub GoesOn : Terms → ℕ → Endpoint → EndState → Bool → List ℕ → K → Result Done StoreFault
      → Turn → K → Type 0
  GoesOn terms number from e last after sink (Err fault) turn sink' =
      (turn ≡ refused_turn terms replies.DiskFull outcomes.StoreFault from e) × (sink' ≡ sink)
  GoesOn terms number from e true after sink (Ok done) turn sink' =
      Committed terms number from (holding after e) sink turn sink'
  GoesOn terms number from e false after sink (Ok done) turn sink' =
      (turn ≡ sent_turn (Receiving terms number) from (ack_bytes number) (holding after e))
      × (sink' ≡ sink)

  -- a block was received: its host bytes are appended to the sink, and then an ACK or an ERROR is
  -- sent
  pub record Stores (terms : Terms) (number : ℕ) (from : Endpoint) (piece : List ℕ) (e : EndState)
      (sink : K) (turn : Turn) (sink' : K) : Type 0 where
    pub bytes : List ℕ
    pub after : List ℕ
    pub mid : K
    pub answer : Result Done StoreFault
    pub decoded : Decoded e.role.mode e.position.held_back piece bytes after
    pub appended : Appended bytes sink mid answer
    pub memory : answer ≢ Err store_faults.Memory
    pub rest : GoesOn terms number from e (nat_lt (length piece) terms.size) after mid answer turn
        sink'

module _ {S K : Type 0} (sources : SourceMeaning S) (sinks : SinkMeaning K) where
  -- DATA is sent from a source
  abbrev pub SendsFrom : Terms → ℕ → Endpoint → EndState → Files S K → Turn → Files S K → Type 0
  SendsFrom terms number from e (Source source) turn (Source source') =
      Sends sources terms number from e source turn source'
  SendsFrom terms number from e _ turn _ = ⊥

  -- a block is stored in a sink
  abbrev pub StoresIn : Terms → ℕ → Endpoint → List ℕ → EndState → Files S K → Turn → Files S K
      → Type 0
  StoresIn terms number from piece e (Sink sink) turn (Sink sink') =
      Stores sinks terms number from piece e sink turn sink'
  StoresIn terms number from piece e _ turn _ = ⊥

  -- an end carries out an action for a datagram of these bytes from `from`; what it stores is the
  -- data of the DATA that they spell
  abbrev pub Acts : Action → Endpoint → List ℕ → EndState → Files S K → Turn → Files S K → Type 0
  Acts (Respond response) from bytes e files turn files' =
      (turn ≡ response_turn response from e) × (files' ≡ files)
  Acts (Send terms number) from bytes e files turn files' =
      SendsFrom terms number from e files turn files'
  Acts (Store terms number) from bytes e files turn files' =
      (piece : List ℕ) × Spells (Data number piece) bytes
      × StoresIn terms number from piece e files turn files'

  -- the step of an open end for a datagram
  pub record DatagramStep (from : Endpoint) (bytes : List ℕ) (e : EndState) (files : Files S K)
      (turn : Turn) (files' : Files S K) : Type 0 where
    pub decoded : Option Packet
    pub says : Decodes bytes decoded
    pub acts : Acts (datagram_action e from bytes decoded) from bytes e files turn files'
    pub again : AcksAgain e turn (datagram_action e from bytes decoded)

-- the step of an open end for a timeout
abbrev pub timeout_turn : EndState → Turn
timeout_turn e =
    response_turn (timeout_response e.position.retries_left e.position.phase)
    e.position.last_sent_to e

-- the report of a step
abbrev pub reported : EndState → Turn → Step
reported e turn =
    step_of e.position.phase turn.position.phase (option_map (λ (r : Reply). r.to) turn.reply)

-- the bytes of an answer
abbrev pub reply_bytes : Option Reply → List ℕ
reply_bytes None = []
reply_bytes (Some reply) = reply.bytes

-- a response that sends a datagram
abbrev pub HasReply : Response → Type 0
HasReply Ignore = ⊥
HasReply WrongPeer = Unit {0}
HasReply ResendReply = Unit {0}
HasReply Retransmit = Unit {0}
HasReply Wait = ⊥
HasReply (Close outcome) = ⊥
HasReply (Refuse terms reply outcome) = Unit {0}
HasReply (Accept terms) = Unit {0}
HasReply Complete = ⊥

-- an action that sends a datagram, and so may run out of memory
abbrev pub IsAnswered : Action → Type 0
IsAnswered (Respond response) = HasReply response
IsAnswered (Send terms number) = Unit {0}
IsAnswered (Store terms number) = Unit {0}

-- an action that reads or stores a block, and so may run out of memory even if nothing is appended
abbrev pub UsesFile : Action → Type 0
UsesFile (Respond response) = ⊥
UsesFile (Send terms number) = Unit {0}
UsesFile (Store terms number) = Unit {0}

-- the bytes of the datagram to send, which the end lends
abbrev pub lent : Outgoing → EndState → List ℕ
lent Nothing e = []
lent LastSent e = e.position.last_sent
lent (Error reply) e = error_bytes reply

-- a call made this step: the end's state, the destination, and the bytes that it lends
pub record Lends (before : EndState) (turn : Turn) (e : EndState) (to : Option Endpoint)
    (outgoing : Outgoing) : Type 0 where
  pub state : e ≡ after_turn before turn
  pub goes : to ≡ option_map (λ (r : Reply). r.to) turn.reply
  pub bytes : lent outgoing e ≡ reply_bytes turn.reply

-- a call made this step: the end's state, the destination, and the bytes that it appended
pub record Carries (before : EndState) (turn : Turn) (e : EndState) (to : Option Endpoint)
    (old new : List ℕ) : Type 0 where
  pub state : e ≡ after_turn before turn
  pub goes : to ≡ option_map (λ (r : Reply). r.to) turn.reply
  pub appended : new ≡ old ++ reply_bytes turn.reply
