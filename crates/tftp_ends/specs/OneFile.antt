-- How an end handles a datagram over the one file that it has: a sender over its source, a receiver
-- over its sink. Each is the step over its files.
use Rattle.std.specs.Prelude.{ℕ, ◌≡◌, ◌⊎◌, List, drop, Option}
use Rattle.std.proofs.Common.{ap, inl, inr}
use Rattle.tftp_wire.specs.Spelling.{Spells}
use Rattle.tftp_wire.specs.declared.packet.Packet.{Packet}
use Rattle.tftp_wire.specs.declared.packet.Packet.TheVariants.{Data}
use Rattle.tftp_file.specs.Source.{SourceMeaning}
use Rattle.tftp_file.specs.Sink.{SinkMeaning}
use Rattle.tftp_file.specs.declared.files.Files.{Files}
use Rattle.tftp_file.specs.declared.files.Files.TheVariants.{Source, Sink}
use Rattle.tftp_ends.specs.declared.action.Action.{Action}
use Rattle.tftp_ends.specs.declared.action.Action.TheVariants.{Respond, Send, Store}
use Rattle.tftp_ends.specs.declared.endpoint.Endpoint.{Endpoint}
use Rattle.tftp_ends.specs.Action.{Decodes, datagram_action}
use Rattle.tftp_ends.specs.End.{EndState}
use Rattle.tftp_ends.specs.Room.{room_of}
use Rattle.tftp_ends.specs.Shortage.{SendLacksMemory, StoreLacksMemory, ActLacksMemory, LacksMemory}
use Rattle.tftp_ends.specs.Step.{Turn, Sends, Stores, Acts, AcksAgain, DatagramStep, block_length}
use Rattle.tftp_ends.specs.Step.{response_turn}

-- ---- either, by what carries out its action
-- the step of an open end for a datagram; `does` holds of its action
pub record StepBy (does : Action → Type 0) (from : Endpoint) (bytes : List ℕ) (e : EndState)
    (turn : Turn) : Type 0 where
  pub decoded : Option Packet
  pub says : Decodes bytes decoded
  pub acts : does (datagram_action e from bytes decoded)
  pub again : AcksAgain e turn (datagram_action e from bytes decoded)

-- an open end did not handle a datagram, as `LacksMemory` has it: `out` is too full, and the file
-- stays; or the action was not carried out, and `fails` holds of it
pub record LacksBy (too_full : ℕ → Type 0) (stays : Type 0) (fails : Action → Type 0)
    (from : Endpoint) (bytes : List ℕ) (e : EndState) : Type 0 where
  pub decoded : Option Packet
  pub says : Decodes bytes decoded
  pub lacks :
      (too_full (room_of e (datagram_action e from bytes decoded)) × stays)
      ⊎ fails (datagram_action e from bytes decoded)

-- ---- a sender
module _ {S : Type 0} (sources : SourceMeaning S) where
  -- a sender carries out an action; it stores nothing
  abbrev pub SenderActs : Action → Endpoint → EndState → S → Turn → S → Type 0
  SenderActs (Respond response) from e source turn source' =
      (turn ≡ response_turn response from e) × (source' ≡ source)
  SenderActs (Send terms number) from e source turn source' =
      Sends sources terms number from e source turn source'
  SenderActs (Store terms number) from e source turn source' = ⊥

  -- the step of an open sender for a datagram
  abbrev pub SenderStep : Endpoint → List ℕ → EndState → S → Turn → S → Type 0
  SenderStep from bytes e source turn source' =
      StepBy (λ action. SenderActs action from e source turn source') from bytes e turn

  -- a sender has not carried out an action
  abbrev pub SenderActLacksMemory : Action → EndState → S → S → Type 0
  SenderActLacksMemory (Respond response) e before after = ⊥
  SenderActLacksMemory (Send terms number) e before after =
      SendLacksMemory sources (block_length e.role.length terms.size number) e before after
  SenderActLacksMemory (Store terms number) e before after = ⊥

  -- an open sender did not handle a datagram, as `LacksMemory` has it
  abbrev pub SenderLacksMemory : (ℕ → Type 0) → Endpoint → List ℕ → EndState → S → S → Type 0
  SenderLacksMemory too_full from bytes e before after =
      LacksBy too_full (after ≡ before) (λ action. SenderActLacksMemory action e before after) from
      bytes e

-- ---- a receiver
module _ {K : Type 0} (sinks : SinkMeaning K) where
  -- a receiver carries out an action for a datagram of these bytes; it sends no DATA
  abbrev pub ReceiverActs : Action → Endpoint → List ℕ → EndState → K → Turn → K → Type 0
  ReceiverActs (Respond response) from bytes e sink turn sink' =
      (turn ≡ response_turn response from e) × (sink' ≡ sink)
  ReceiverActs (Send terms number) from bytes e sink turn sink' = ⊥
  ReceiverActs (Store terms number) from bytes e sink turn sink' =
      (piece : List ℕ) × Spells (Data number piece) bytes
      × Stores sinks terms number from piece e sink turn sink'

  -- the step of an open receiver for a datagram
  abbrev pub ReceiverStep : Endpoint → List ℕ → EndState → K → Turn → K → Type 0
  ReceiverStep from bytes e sink turn sink' =
      StepBy (λ action. ReceiverActs action from bytes e sink turn sink') from bytes e turn

  -- a receiver has not carried out an action for a datagram of these bytes
  abbrev pub ReceiverActLacksMemory : Action → List ℕ → EndState → K → K → Type 0
  ReceiverActLacksMemory (Respond response) bytes e before after = ⊥
  ReceiverActLacksMemory (Send terms number) bytes e before after = ⊥
  ReceiverActLacksMemory (Store terms number) bytes e before after =
      StoreLacksMemory sinks e.role.mode e.position.held_back (drop 4 bytes) before after

  -- an open receiver did not handle a datagram, as `LacksMemory` has it
  abbrev pub ReceiverLacksMemory : (ℕ → Type 0) → Endpoint → List ℕ → EndState → K → K → Type 0
  ReceiverLacksMemory too_full from bytes e before after =
      LacksBy too_full (after ≡ before)
      (λ action. ReceiverActLacksMemory action bytes e before after) from bytes e

-- ---- either is the step over its files, whatever the other file would be
module _ {S K : Type 0} (sources : SourceMeaning S) (sinks : SinkMeaning K) (from : Endpoint)
    (bytes : List ℕ) (e : EndState) where
  step_over : (does : Action → Type 0) (files : Files S K) (turn : Turn) (files' : Files S K) →
      ((action : Action) → does action →
      Acts sources sinks action from bytes e files turn files') →
      StepBy does from bytes e turn →
      DatagramStep sources sinks from bytes e files turn files'
  step_over does files turn files' acts h =
      record {
        decoded = h.decoded;
        says = h.says;
        acts = acts (datagram_action e from bytes h.decoded) h.acts;
        again = h.again;
      }

  pub sender_step : (s : S) (turn : Turn) (s' : S) →
      SenderStep sources from bytes e s turn s' →
      DatagramStep sources sinks from bytes e (Source s) turn (Source s')
  sender_step s turn s' =
      step_over (λ action. SenderActs sources action from e s turn s') (Source s) turn (Source s')
      acts
    where
      acts : (action : Action) → SenderActs sources action from e s turn s' →
          Acts sources sinks action from bytes e (Source s) turn (Source s')
      acts (Respond response) h = (h.0, ap Source h.1)
      acts (Send terms number) h = h
      acts (Store terms number) h = absurd h

  pub receiver_step : (k : K) (turn : Turn) (k' : K) →
      ReceiverStep sinks from bytes e k turn k' →
      DatagramStep sources sinks from bytes e (Sink k) turn (Sink k')
  receiver_step k turn k' =
      step_over (λ action. ReceiverActs sinks action from bytes e k turn k') (Sink k) turn (Sink k')
      acts
    where
      acts : (action : Action) → ReceiverActs sinks action from bytes e k turn k' →
          Acts sources sinks action from bytes e (Sink k) turn (Sink k')
      acts (Respond response) h = (h.0, ap Sink h.1)
      acts (Send terms number) h = absurd h
      acts (Store terms number) h = h

module _ {S K : Type 0} (sources : SourceMeaning S) (sinks : SinkMeaning K) (too_full : ℕ → Type 0)
    (from : Endpoint) (bytes : List ℕ) (e : EndState) where
  lacks_over : (stays : Type 0) (fails : Action → Type 0) (before after : Files S K) →
      (stays → after ≡ before) →
      ((action : Action) → fails action →
      ActLacksMemory sources sinks action bytes e before after) →
      LacksBy too_full stays fails from bytes e →
      LacksMemory sources sinks too_full from bytes e before after
  lacks_over stays fails before after still lacks h =
      record {
        decoded = h.decoded;
        says = h.says;
        lacks = elim h.lacks [
          | inl full ↦ inl (full.0, still full.1)
          | inr act ↦ inr (lacks (datagram_action e from bytes h.decoded) act)
        ];
      }

  pub sender_lacks : (s s' : S) →
      SenderLacksMemory sources too_full from bytes e s s' →
      LacksMemory sources sinks too_full from bytes e (Source s) (Source s')
  sender_lacks s s' =
      lacks_over (s' ≡ s) (λ action. SenderActLacksMemory sources action e s s') (Source s)
      (Source s') (λ is. ap Source is) lacks
    where
      lacks : (action : Action) → SenderActLacksMemory sources action e s s' →
          ActLacksMemory sources sinks action bytes e (Source s) (Source s')
      lacks (Respond response) h = h
      lacks (Send terms number) h = h
      lacks (Store terms number) h = h

  pub receiver_lacks : (k k' : K) →
      ReceiverLacksMemory sinks too_full from bytes e k k' →
      LacksMemory sources sinks too_full from bytes e (Sink k) (Sink k')
  receiver_lacks k k' =
      lacks_over (k' ≡ k) (λ action. ReceiverActLacksMemory sinks action bytes e k k') (Sink k)
      (Sink k') (λ is. ap Sink is) lacks
    where
      lacks : (action : Action) → ReceiverActLacksMemory sinks action bytes e k k' →
          ActLacksMemory sources sinks action bytes e (Sink k) (Sink k')
      lacks (Respond response) h = h
      lacks (Send terms number) h = h
      lacks (Store terms number) h = h
