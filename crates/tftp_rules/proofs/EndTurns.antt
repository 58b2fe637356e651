-- An open end with any datagram, and at a timeout. For `an_open_end_takes_its_turn` and the crates tftp_player and
-- tftp_promises.
use Rattle.tftp_rules.proofs.Common.{◌≡◌, List, refl, true, [], false, ℕ, rules, arith, Some, Option, true≢false}
use Rattle.tftp_rules.proofs.Common.{if◌then◌else◌, ◌&&◌, ◌==◌, is_none, has_error_opcode, Spells, is_wrong_peer}
use Rattle.tftp_rules.proofs.Common.{datagram_action, same_address, garbled_response, packet_action, is_sender}
use Rattle.tftp_rules.proofs.Common.{terms_of, is_client, Action, Respond, Response, Close, Ignore, WrongPeer}
use Rattle.tftp_rules.proofs.Common.{Retransmit, Fresh, Phase, Sending, Receiving, Dallying, Waiting, Closed}
use Rattle.tftp_rules.proofs.Common.{IsFromServer, IsOpenAt, Endpoint, Network, Message, OpenEnd, with_phase, goes_on}
use Rattle.tftp_rules.proofs.Common.{Rule, EndView, WirePacket}
use Rattle.tftp_ends.specs.declared.phase.Dally.TheVariants.{Waited}
use Rattle.tftp_ends.specs.Action.{timeout_response}
use Rattle.tftp_rules.specs.EndShown.{DatagramTurnsAreShown, TimeoutTurnsAreShown}
use Rattle.tftp_rules.proofs.Actions.{goes}
use Rattle.tftp_rules.proofs.EndMoves.{Responding, from_response, gives_up, retries}
use Rattle.tftp_rules.proofs.SaidLemmas.{says_spelled}
use Rattle.tftp_rules.proofs.PhaseMoves.{Acting, OfDecoded, close_acts, if_acts, ignore_acts, wrong_peer_acts}
use Rattle.tftp_rules.proofs.PhaseMoves.{sender_acts, receiver_acts, dally_acts}
use Rattle.tftp_rules.proofs.StorableBlocks.{the_peer}
use Rattle.tftp_rules.proofs.WaitingMoves.{OfServer, reader_acts, writer_acts}
use Rattle.tftp_ends.specs.declared.outcome.Outcome.TheVariants as outcomes

module _ (network : Network) where
  module _ (first : List Rule) (views : List EndView) (messages : List Message) (k : ℕ) (x0 : OpenEnd) where
    -- it is open in this phase
    abbrev Open_in : Phase → Type 0
    Open_in phase = IsOpenAt network first views messages k (with_phase phase x0)

    module _ (from : Endpoint) (bytes : List ℕ) (decoded : Option WirePacket)
        (spelled : (p : WirePacket) → decoded ≡ Some p → Spells p bytes)
        (come : OfDecoded messages from x0 decoded) where
      abbrev Goes_on : Phase → Action → Type 0
      Goes_on phase action = Acting network first views messages k (with_phase phase x0) from bytes action

      -- an open end with a packet from its peer, or from the server while it waits
      by_packet : (phase : Phase) → Open_in phase → IsFromServer network (with_phase phase x0) from bytes →
          is_wrong_peer (terms_of phase) x0.state.position.last_sent_to from ≡ false →
          Goes_on phase (packet_action (with_phase phase x0).state from decoded phase)
      by_packet (Waiting asked limit) h serves near =
          let last = h.kept.phase.2 in
          let here : same_address network.request_port from ≡ true = search rules in
          let answers : OfServer network from decoded = λ p e a. serves refl here p (spelled p e) a in
          if_acts (Goes_on (Waiting asked limit)) (is_sender x0.state.role.side) _ _
          (λ w. writer_acts x0 asked limit h from bytes w decoded answers come)
          (λ r. reader_acts x0 asked limit h from bytes r decoded answers spelled come)
      by_packet (Sending terms n) h serves near =
          sender_acts x0 terms n h from bytes (the_peer terms from from near)
          (is_client x0.state.role.side) decoded come
      by_packet (Receiving terms n) h serves near =
          receiver_acts x0 terms n h from bytes (the_peer terms from from near) (is_client x0.state.role.side) decoded
          spelled come
      by_packet (Dallying terms n dally) h serves near =
          dally_acts x0 terms n dally h from bytes (the_peer terms from from near) decoded
      by_packet (Closed terms n complete outcome) h serves near = absurd (true≢false h.still)

      -- a malformed ERROR
      by_garbled : (phase : Phase) → Open_in phase → Goes_on phase (Respond (garbled_response phase))
      by_garbled (Dallying terms n dally) h = ignore_acts h from bytes
      by_garbled (Closed terms n complete outcome) h = absurd (true≢false h.still)
      by_garbled phase h = close_acts h from bytes refl outcomes.Illegal

      -- an open end with any datagram
      pub by_datagram : (phase : Phase) → Open_in phase → IsFromServer network (with_phase phase x0) from bytes →
          Goes_on phase (datagram_action (with_phase phase x0).state from bytes decoded)
      by_datagram phase h serves =
          let P = Goes_on phase in
          if_acts P _ _ _ (λ f. if_acts P (has_error_opcode bytes) (Respond Ignore) (Respond WrongPeer)
          (λ b. ignore_acts h from bytes) (λ b. wrong_peer_acts h from bytes))
          (λ f. if_acts P (has_error_opcode bytes && is_none decoded) (Respond (garbled_response phase)) (packet_action
          (with_phase phase x0).state from decoded phase) (λ b. by_garbled phase h) (λ b. by_packet phase h serves f))

    -- an open end at a timeout
    abbrev Turns_at : Phase → Response → Type 0
    Turns_at phase response =
        Responding network first views messages k (with_phase phase x0) response x0.state.position.last_sent_to

    waits_or_gives_up : (phase : Phase) → Open_in phase → goes_on phase ≡ true →
        Turns_at phase (if x0.state.position.retries_left == 0 then Close outcomes.TimedOut else Retransmit)
    waits_or_gives_up phase h going =
        if_acts (Turns_at phase) (x0.state.position.retries_left == 0) (Close outcomes.TimedOut) Retransmit
        (λ _. gives_up h outcomes.TimedOut x0.state.position.last_sent_to going)
        (λ _. retries h x0.state.position.last_sent_to)

    -- a dally continues, or ends
    pub by_timeout : (phase : Phase) → Open_in phase →
        Turns_at phase (timeout_response x0.state.position.retries_left phase)
    by_timeout (Dallying terms n Fresh) h =
        let kept = h.kept in let shown_now = goes h.stands [] (omega arith) refl tt in search rules
    by_timeout (Dallying terms n Waited) h =
        let kept = h.kept in let shown_now = goes h.stands [] (omega arith) refl tt in search rules
    by_timeout (Closed terms n complete outcome) h = absurd (true≢false h.still)
    by_timeout phase h = waits_or_gives_up phase h refl

  -- the step of an open end for a datagram is shown
  pub datagram_goes : DatagramTurnsAreShown network
  datagram_goes first views messages k x from bytes turn held open_now come serves h =
      let spelled = says_spelled _ _ h.says in
      by_datagram first views _ k x _ _ _ spelled (λ p e. come p (spelled p e)) _ open_now serves turn held h.acts

  -- and for a timeout
  pub timeout_goes : TimeoutTurnsAreShown network
  timeout_goes first views messages k x open_now = search (rules, from_response, by_timeout)
