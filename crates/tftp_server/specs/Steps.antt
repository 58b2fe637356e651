-- How an event handles the transfer that it is for.
use Rattle.std.specs.Prelude.{ℕ, ◌≡◌, Bool, false, List, Option, Some, None, ⊤}
use Rattle.tftp_wire.specs.declared.packet.Packet.{Packet}
use Rattle.tftp_file.specs.Source.{SourceMeaning}
use Rattle.tftp_file.specs.declared.files.Files.{Files}
use Rattle.tftp_ends.specs.declared.endpoint.Endpoint.{Endpoint}
use Rattle.tftp_ends.specs.declared.record.Step.{Step}
use Rattle.tftp_ends.specs.End.{EndState}
use Rattle.tftp_ends.specs.Files.{KeepsFiles, AreSame}
use Rattle.tftp_ends.specs.Action.{Decodes, datagram_action, timeout_action}
use Rattle.tftp_ends.specs.Step.{Turn, DatagramStep, Carries, Lends, IsAnswered, UsesFile}
use Rattle.tftp_ends.specs.Step.{timeout_turn, reported}
use Rattle.tftp_ends.specs.declared.action.Action.{Action}
use Rattle.tftp_ends.specs.declared.outgoing.Outgoing.{Outgoing}
use Rattle.tftp_server.specs.declared.fault.ServerFault.{ServerFault}
use Rattle.tftp_server.specs.declared.fault.ServerFault.TheVariants.{NoSuchTid, Memory}
use Rattle.tftp_server.specs.Draft.{Drafting, files_in, drafting_sink, KeepsDraft, KeepsStore}
use Rattle.tftp_server.specs.State.{TransferState, ServerState, at, is_open, is_closed, with_next}
use Rattle.tftp_store.specs.Store.{StoreMeaning}

-- what a call returns for a step of an end, by the end that it leaves and the answer's destination
abbrev pub Gives : Type 1
Gives = EndState → Turn → EndState → Option Endpoint → Type 0

-- the answer is appended
abbrev pub appends : List ℕ → List ℕ → Gives
appends before after e turn e' to = Carries e turn e' to before after

-- the end lends the answer
abbrev pub lends : Outgoing → Gives
lends outgoing e turn e' to = Lends e turn e' to outgoing

module _ {F D : Type 0} where
  -- the transfer with another state of its end
  abbrev pub with_end : EndState → TransferState F D → TransferState F D
  with_end e held = record held { end = e }

  -- the step of the transfer at the identifier at a timeout; every other transfer is unchanged
  pub record TimesOutBy (gives : Gives) (tid : ℕ) (old new : List (ℕ × TransferState F D))
      (step : Step) : Type 0 where
    pub transfer : TransferState F D
    pub found : at tid old ≡ Some transfer
    -- it is open
    pub still : is_closed transfer ≡ false
    pub end : EndState
    pub carries : gives transfer.end (timeout_turn transfer.end) end step.to
    pub reports : step ≡ reported transfer.end (timeout_turn transfer.end)
    pub held : new ≡ with_next tid (with_end end transfer) old

  -- its datagram is appended, or lent
  abbrev pub TimesOut : ℕ → List (ℕ × TransferState F D) → List (ℕ × TransferState F D) → Step
      → List ℕ → List ℕ → Type 0
  TimesOut tid old new step before after = TimesOutBy (appends before after) tid old new step

  abbrev pub TimesOutLent : ℕ → List (ℕ × TransferState F D) → List (ℕ × TransferState F D) → Step
      → Outgoing → Type 0
  TimesOutLent tid old new step outgoing = TimesOutBy (lends outgoing) tid old new step

  -- why a timeout was not handled: there is no open transfer, or no memory for its datagram
  abbrev pub TimeoutFault : Option (TransferState F D) → ServerFault → Type 0
  TimeoutFault transfer NoSuchTid = is_open transfer ≡ false
  TimeoutFault (Some held) Memory =
      (is_closed held ≡ false)
      × IsAnswered (timeout_action held.end.position.retries_left held.end.position.phase)
  TimeoutFault transfer _ = ⊥

  -- why a datagram was not handled: there is no open transfer, or no memory for an action of this
  -- kind
  abbrev pub DatagramFaultBy : (Action → Type 0) → Endpoint → List ℕ → Option (TransferState F D)
      → ServerFault → Type 0
  DatagramFaultBy kind from bytes transfer NoSuchTid = is_open transfer ≡ false
  DatagramFaultBy kind from bytes (Some held) Memory =
      (is_closed held ≡ false) × (decoded : Option Packet) × Decodes bytes decoded
      × kind (datagram_action held.end from bytes decoded)
  DatagramFaultBy kind from bytes transfer _ = ⊥

  -- where the answer is appended, or lent
  abbrev pub DatagramFault : Endpoint → List ℕ → Option (TransferState F D) → ServerFault → Type 0
  DatagramFault from bytes transfer fault = DatagramFaultBy IsAnswered from bytes transfer fault

  abbrev pub DatagramFaultLent : Endpoint → List ℕ → Option (TransferState F D) → ServerFault
      → Type 0
  DatagramFaultLent from bytes transfer fault = DatagramFaultBy UsesFile from bytes transfer fault

module _ {S F D : Type 0} (meaning : StoreMeaning S D) (sources : SourceMeaning F) where
  -- the step of an end at a datagram with its file: a source, or a draft of the store
  abbrev pub StepIn : Endpoint → List ℕ → EndState → Files F (Drafting S D) → Turn
      → Files F (Drafting S D) → Type 0
  StepIn from bytes e files turn files' =
      DatagramStep sources (drafting_sink meaning) from bytes e files turn files'

  -- the step of a transfer at a datagram, and its effect on the store
  pub record TakesBy (gives : Gives) (replace : Bool) (from : Endpoint) (bytes : List ℕ)
      (store store' : S) (transfer next : TransferState F D) (step : Step) : Type 0 where
    pub turn : Turn
    pub steps : StepIn from bytes transfer.end
        (files_in store transfer.path replace transfer.files) turn
        (files_in store' next.path replace next.files)
    pub carries : gives transfer.end turn next.end step.to
    pub reports : step ≡ reported transfer.end turn
    pub stays : KeepsStore transfer.files store store'
    pub kind : AreSame (λ (a b : F). ⊤) (λ (a b : D). ⊤) transfer.files next.files
    pub path : next.path ≡ transfer.path
    pub request : next.request ≡ transfer.request

  -- the step of the transfer at the identifier at a datagram; every other transfer is unchanged
  pub record TakesDatagramBy (gives : Gives) (tid : ℕ) (from : Endpoint) (bytes : List ℕ)
      (old new : ServerState S F D) (step : Step) : Type 0 where
    pub transfer : TransferState F D
    pub next : TransferState F D
    pub found : at tid old.held ≡ Some transfer
    -- it is open
    pub still : is_closed transfer ≡ false
    pub takes : TakesBy gives old.config.overwrite from bytes old.store new.store transfer next step
    pub held : new.held ≡ with_next tid next old.held

  -- its answer is appended, or lent
  abbrev pub TakesIn : Bool → Endpoint → List ℕ → S → S → TransferState F D → TransferState F D
      → Step → List ℕ → List ℕ → Type 0
  TakesIn replace from bytes store store' transfer next step before after =
      TakesBy (appends before after) replace from bytes store store' transfer next step

  abbrev pub TakesDatagram : ℕ → Endpoint → List ℕ → ServerState S F D → ServerState S F D
      → Step → List ℕ → List ℕ → Type 0
  TakesDatagram tid from bytes old new step before after =
      TakesDatagramBy (appends before after) tid from bytes old new step

  abbrev pub TakesDatagramLent : ℕ → Endpoint → List ℕ → ServerState S F D → ServerState S F D
      → Step → Outgoing → Type 0
  TakesDatagramLent tid from bytes old new step outgoing =
      TakesDatagramBy (lends outgoing) tid from bytes old new step

  -- the transfer and the store are unchanged, but for a source, which holds the same bytes
  pub record StaysAs (replace : Bool) (store store' : S)
      (transfer next : TransferState F D) : Type 0 where
    pub end : next.end ≡ transfer.end
    pub path : next.path ≡ transfer.path
    pub request : next.request ≡ transfer.request
    pub stays : KeepsStore transfer.files store store'
    pub draft : KeepsDraft transfer.files next.files store store'
    pub files : KeepsFiles sources (drafting_sink meaning)
        (files_in store transfer.path replace transfer.files)
        (files_in store' next.path replace next.files)

  -- nothing changes but the source of the transfer at the identifier, which holds the same bytes
  abbrev pub KeepsHeld : ℕ → Option (TransferState F D) → ServerState S F D → ServerState S F D
      → Type 0
  KeepsHeld tid None old new = new ≡ old
  KeepsHeld tid (Some transfer) old new =
      (next : TransferState F D)
      × StaysAs old.config.overwrite old.store new.store transfer next
      × (new.held ≡ with_next tid next old.held)
