-- What is done about a datagram of the request port.
use Rattle.std.specs.Prelude.{ℕ, ◌≡◌, ◌⊎◌, ◌&&◌, Bool, not, true, false, List, [], Option, None, Some}
use Rattle.tftp_ends.specs.Step.{error_bytes}
use Rattle.tftp_ends.specs.declared.endpoint.Endpoint.{Endpoint}
use Rattle.tftp_ends.specs.declared.error_reply.ErrorReply.{ErrorReply}
use Rattle.tftp_server.specs.CallersFiles.{refusal}
use Rattle.tftp_server.specs.Port.{Ask, asks_store}
use Rattle.tftp_server.specs.Request.{Admits, AdmissionState}
use Rattle.tftp_server.specs.Shortage.{NamesAPath}
use Rattle.tftp_loop.specs.declared.requests.RequestAction.{RequestAction}
use Rattle.tftp_loop.specs.declared.requests.RequestAction.TheVariants.{Ignore, NoMemory}
use Rattle.tftp_loop.specs.declared.requests.RequestAction.TheVariants.{TooMany, Refuse, Open}
use Rattle.tftp_loop.specs.declared.server_loop.ServerLoop.{ServerLoop}
use Rattle.tftp_loop.specs.LoopStates.{IsAdmission}
use Rattle.tftp_loop.specs.MayOpen.{MayOpen}
use Rattle.tftp_loop.specs.MayWait.{timers_of}
use Rattle.tftp_loop.specs.OnlyRequests.{IsHandledBy, begins_as_request}
use Rattle.tftp_loop.specs.Steps.{has_most}

-- it may be `Open` once the datagrams of transfers are handled
abbrev pub may_open_later : RequestAction → Bool
may_open_later Ignore = false
may_open_later NoMemory = false
may_open_later (TooMany most) = true
may_open_later (Refuse reply) = true
may_open_later (Open admission) = false

-- where the answer to a datagram goes that opens no transfer, if it has one
abbrev pub refused_to : Endpoint → Option ErrorReply → Option Endpoint
refused_to from None = None
refused_to from (Some reply) = Some from

-- the bytes of that answer, or none
abbrev pub refused_bytes : Option ErrorReply → List ℕ
refused_bytes None = []
refused_bytes (Some reply) = error_bytes reply

module _ {S F D : Type 0} (d : ServerLoop S F D) (from : Endpoint) (bytes : List ℕ) where
  -- it opens no transfer, and this is its answer, if any
  pub record IsRefusedBy (reply : Option ErrorReply) : Type 0 where
    pub ask : Ask
    pub admits : Admits d.server from bytes ask
    pub opens_none : asks_store ask ≡ false
    pub is_reply : reply ≡ refusal ask
    pub handled : IsHandledBy d.requests_only bytes

  -- it may open a transfer by this admission
  pub record MayOpenBy (admission : AdmissionState) : Type 0 where
    pub admitted : IsAdmission d.server from bytes admission
    pub may_open : asks_store admission.ask ≡ true
    pub handled : IsHandledBy d.requests_only bytes
    pub few : has_most d.per_client from (timers_of d) ≡ false

  -- this may be done about a datagram of the request port
  abbrev pub IsActionOn : RequestAction → Type 0
  IsActionOn Ignore =
      (from.port ≡ 0) ⊎ ((d.requests_only && not (begins_as_request bytes)) ≡ true)
  IsActionOn NoMemory = NamesAPath d.server from bytes
  IsActionOn (TooMany most) =
      MayOpen d.server from bytes × (has_most d.per_client from (timers_of d) ≡ true)
  IsActionOn (Refuse reply) = IsRefusedBy reply
  IsActionOn (Open admission) = MayOpenBy admission
