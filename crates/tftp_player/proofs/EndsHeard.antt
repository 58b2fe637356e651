-- A sender is complete once it hears the last ACK of its peer, which is complete.
-- For the law a_sender_hears_the_end.
use Rattle.tftp_player.proofs.Common.{◌≡◌, ℕ, ◌+◌, ◌≤◌, Bool, true, false, not, List, Some, None, refl, sym, ap, ◌∙◌}
use Rattle.tftp_player.proofs.Common.{subst, arith, rules, slice_get, true≢false, same_Some, Ack, Spells, block_count}
use Rattle.tftp_player.proofs.Common.{Respond, Complete, Phase, Waiting, Sending, Receiving, Dallying, Closed, Terms}
use Rattle.tftp_player.proofs.Common.{is_sender, outcome_of, datagram_action, ack_bytes, IsUnderWay, two_hosts}
use Rattle.tftp_player.proofs.Common.{Endpoint, OpenEnd, peer_of, spells_own, number_fits, WorldState, WorldEnd}
use Rattle.tftp_player.proofs.Common.{Open_end, Closed_end, datagram, end_address, end_record, Refines, IsComplete}
use Rattle.tftp_player.proofs.Common.{HasPeer, WorldStep, Deliver, Report, ◌/◌, same_size, IsReceiver}
use Rattle.tftp_ends.specs.End.{number_of}
use Rattle.tftp_player.specs.Recovering.{SendersHearTheEnd}
use Rattle.tftp_player.proofs.StraightActions.{from_peer, acked_last}
use Rattle.tftp_player.proofs.WorldFacts.{any_of, Peers, holds, m, match_x, match_y, near, own_x, pair, party, peer_x}
use Rattle.tftp_player.proofs.WorldFacts.{phase_kept, size_in, text_sent}
use Rattle.tftp_player.proofs.StraightRuns.{set_at}
use Rattle.tftp_player.proofs.StraightSteps.{Handles, delivered, handles_last}

not_false : (b : Bool) → false ≡ not b → b ≡ true
not_false true e = refl
not_false false e = absurd (true≢false (sym e))

module _ (w v : WorldState) (ok : Refines true w) (i j k : ℕ) (report : Report) (x : WorldEnd) (y : OpenEnd)
    (x_at : slice_get w.ends j ≡ Some x) (receives : IsReceiver x) (done : IsComplete x)
    (y_at : slice_get w.ends k ≡ Some (Open_end y)) (y_peer : HasPeer (Open_end y) (end_address x))
    (x_peer : HasPeer x y.address)
    (sent : slice_get w.sent i ≡ Some (datagram (end_address x) y.address (ack_bytes (end_record x).number)))
    (step : WorldStep w (Deliver i) report v) where
  abbrev sa : Endpoint
  sa = y.address

  abbrev ra : Endpoint
  ra = end_address x

  abbrev last : ℕ
  last = (end_record x).number

  -- the sender has the receiver as its peer
  abbrev q : Peers
  q = record { w = w; ok = ok; one = k; other = j; x = Open_end y; y = x; x_at = y_at; y_at = x_at; has = y_peer }

  peer_ra : (party w ok ra).peer ≡ Some sa
  peer_ra = (match_y q).peer ∙ x_peer

  takes : (party w ok ra).sender ≡ false
  takes = (match_y q).sender ∙ receives

  sends : is_sender y.state.role.side ≡ true
  sends = sym (match_x q).sender ∙ not_false (party w ok sa).sender (sym takes ∙ (pair q).sender)

  -- the sender is at its last block
  module _ (st : Terms) (n : ℕ) (is : y.state.position.phase ≡ Sending st n) where
    way : IsUnderWay y st n
    way = phase_kept w ok k y (Sending st n) y_at is

    peer_is_x : st.peer ≡ ra
    peer_is_x = same_Some st.peer ra (sym (ap peer_of is) ∙ y_peer)

    size_ra : (party w ok ra).size ≡ st.size
    size_ra =
        sym (same_size two_hosts (m w ok) (holds w ok) sa ra
        ((match_x q).is_open, (match_y q).is_open, peer_x q, peer_ra)) ∙ size_in w ok k y (Sending st n) y_at is

    all_blocks : last ≡ block_count y.text st.size
    all_blocks =
        sym (match_y q).number
        ∙ ((near w ok ra (match_y q).is_open).whole takes ((match_y q).complete ∙ done) sa peer_ra (own_x q)
        ∙ (ap (λ (t : List ℕ). block_count t (party w ok ra).size) (text_sent w ok k y y_at sends)
        ∙ ap (block_count y.text) size_ra))

    last_is : n ≡ last
    last_is =
        let h = (near w ok ra (match_y q).is_open).stores takes sa peer_ra (own_x q) in
        let a = (match_y q).number in
        let b : (party w ok sa).number ≡ n = (match_x q).number ∙ ap number_of is in
        let few = way.so_far in
        let all = all_blocks in omega (arith, h, a, b, few, all)

    few : n ≤ block_count y.text st.size
    few = way.so_far

    none_left : y.state.role.length / st.size + 1 ≤ n
    none_left =
        let e : block_count y.text st.size ≤ n = (let a = all_blocks in let b = last_is in omega (arith, a, b)) in
        subst (λ (c : ℕ). c / st.size + 1 ≤ n) (sym way.measured) e

    spelled : Spells (Ack n) (ack_bytes n)
    spelled = spells_own (Ack n) (number_fits y.text st.size n way.positive way.fits few)

    handled : Handles w k y ra (ack_bytes n) report v
    handled = delivered w v i k y ra (ack_bytes n) report ok.ports
        (sent ∙ ap (λ (j : ℕ). Some (datagram ra sa (ack_bytes j))) (sym last_is)) y_at step

    does : datagram_action y.state ra (ack_bytes n) (Some (Ack n)) ≡ Respond Complete
    does = search (rules, from_peer, peer_is_x, acked_last, none_left)

    completes : (z : WorldEnd) × (slice_get v.ends k ≡ Some z) × IsComplete z
    completes =
        let h = handles_last handled (Ack n) spelled does in
        (h.0, set_at w v k (Open_end y) h.0 h.3 y_at, h.1)

  -- it has a peer, and sends
  hears : (p : Phase) → y.state.position.phase ≡ p → (z : WorldEnd) × (slice_get v.ends k ≡ Some z) × IsComplete z
  hears (Waiting asked limit) is = absurd (let f : None ≡ Some ra = sym (ap peer_of is) ∙ y_peer in cc)
  hears (Sending st n) is = completes st n is
  hears (Receiving rt n) is = absurd (true≢false (sym sends ∙ (phase_kept w ok k y (Receiving rt n) y_at is).0))
  hears (Dallying rt n dally) is =
      absurd (true≢false (sym sends ∙ (phase_kept w ok k y (Dallying rt n dally) y_at is).0))
  hears (Closed terms n complete outcome) is =
      absurd (let f : Some outcome ≡ None = sym (ap outcome_of is) ∙ (ok.ends k (Open_end y) y_at).stands.still in cc)

-- so it is of an end of a world that is not closed
pub senders_hear_the_end : SendersHearTheEnd
senders_hear_the_end strangers w v i d report k x (Closed_end y) ok is receives done at lives y_peer x_peer sent from to
    bytes step = absurd (true≢false lives)
senders_hear_the_end strangers w v i d report k x (Open_end y) ok is receives done at lives y_peer x_peer sent from to
    bytes step =
    let same : d ≡ datagram (end_address x) y.address (ack_bytes (end_record x).number) = search rules in
    hears w v (any_of strangers w ok) i is.0 k report x y is.1 receives done at y_peer x_peer (sent ∙ ap Some same) step
    y.state.position.phase refl
