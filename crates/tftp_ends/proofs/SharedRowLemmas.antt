-- The rows that the tables of all ends share. For `shared_rows`.
use Rattle.std.proofs.Common.{rules}
use Rattle.tftp_ends.proofs.Common.{codes, if◌then◌else◌, has_error_opcode, Error, SourceMeaning, SinkMeaning, Respond}
use Rattle.tftp_ends.proofs.Common.{Ignore, WrongPeer, Handled}
use Rattle.tftp_ends.specs.declared.outcome.Outcome.TheVariants as outcomes
use Rattle.tftp_ends.specs.Rows.{AnswersAgain}
use Rattle.tftp_ends.specs.SharedRows.{FromWrongPeer, WrongPeerIsRefused, ErrorOfWrongPeerIsNothing}
use Rattle.tftp_ends.specs.SharedRows.{MalformedErrorClosesSender, MalformedErrorClosesReceiver}
use Rattle.tftp_ends.specs.SharedRows.{MalformedErrorClosesWaiting, TimeoutRetransmits, LastTimeoutCloses}
use Rattle.tftp_ends.specs.SharedRows.{FirstDallyTimeoutIsCounted, SecondDallyTimeoutCompletes}
use Rattle.tftp_ends.proofs.RowLemmas.{DidSo, if_no}

module _ {S K : Type 0} (sources : SourceMeaning S) (sinks : SinkMeaning K) where
  wrong_peer_did : (c : Handled sources sinks) → FromWrongPeer c
      → DidSo c (if has_error_opcode c.bytes then Respond Ignore else Respond WrongPeer)
  wrong_peer_did c f = search rules

  refuses_wrong_peer : (c : Handled sources sinks) → DidSo c (Respond WrongPeer)
      → AnswersAgain c (Error 5 (codes "unknown transfer id"))
  refuses_wrong_peer c h = search rules

  -- a wrong peer is answered by ERROR 5
  pub wrong_peer_is_refused : WrongPeerIsRefused sources sinks
  wrong_peer_is_refused c f no_error =
      refuses_wrong_peer c
      (if_no (DidSo c) (has_error_opcode c.bytes) (Respond Ignore) (Respond WrongPeer) no_error (wrong_peer_did c f))

  -- its ERROR is ignored
  pub error_of_wrong_peer_is_nothing : ErrorOfWrongPeerIsNothing sources sinks
  error_of_wrong_peer_is_nothing c f error = search rules

  -- a malformed ERROR of the peer closes a sender
  pub malformed_error_closes_sender : MalformedErrorClosesSender sources sinks
  malformed_error_closes_sender c terms n f m = search rules

  -- and a receiver
  pub malformed_error_closes_receiver : MalformedErrorClosesReceiver sources sinks
  malformed_error_closes_receiver c terms n f m = search rules

  -- and a client that waits
  pub malformed_error_closes_waiting : MalformedErrorClosesWaiting sources sinks
  malformed_error_closes_waiting c writes asked limit f m = search rules

-- the turn of a timeout, by its response

-- a timeout sends the last datagram again
pub timeout_retransmits : TimeoutRetransmits
timeout_retransmits e still incomplete some = search rules

-- one without a retry left closes the end
pub last_timeout_closes : LastTimeoutCloses
last_timeout_closes e still incomplete none = search rules

-- the first in a dally is counted
pub first_dally_timeout_is_counted : FirstDallyTimeoutIsCounted
first_dally_timeout_is_counted e terms n stands = search rules

-- the second ends it
pub second_dally_timeout_completes : SecondDallyTimeoutCompletes
second_dally_timeout_completes e terms n stands = search rules
