-- A client that waits, and an end of the server that has it as its peer.
-- For RecoveringAnswers and RequestArrives.
use Rattle.tftp_player.proofs.Common.{size, length, take, rules, ℕ, ◌≡◌, List, Some, refl, subst, ◌∙◌, true, false}
use Rattle.tftp_player.proofs.Common.{Bool, arith, slice_get, [], ◌∷◌, None, ◌++◌, ◌≢◌, if◌then◌else◌, not, ◌*◌}
use Rattle.tftp_player.proofs.Common.{true≢false, same_Some, Contains, Spells, Packet, Asked, Refusal, datagram_action}
use Rattle.tftp_player.proofs.Common.{packet_action, is_client, is_sender, EndState, writer_action, reader_action}
use Rattle.tftp_player.proofs.Common.{Waiting, decoded_is, PhaseKept, Attests, two_hosts, server_ip, client_ip}
use Rattle.tftp_player.proofs.Common.{Endpoint, OpenEnd, peer_of, IsReached, Behaves, TakesPeer, WorldState, Open_end}
use Rattle.tftp_player.proofs.Common.{Refines, Timeout, refusal_action, datagram, said, ap, sym}
use Rattle.tftp_player.specs.Recovering.{IsAnswering}
use Rattle.tftp_player.proofs.RunsLeft.{GoesOn}
use Rattle.tftp_player.proofs.SentAgain.{MaySendAgain, Resent, ready_with, resends, retransmits, retried, timed_out}
use Rattle.tftp_player.proofs.StraightActions.{from_server}
use Rattle.tftp_player.proofs.StraightRuns.{IsReady, stays_at, set_at}
use Rattle.tftp_player.proofs.StraightSteps.{Handles, delivered}
use Rattle.tftp_player.proofs.WorldFacts.{Peers, holds, match_x, match_y, own_x, pair, party, phase_kept, spoken}
use Rattle.tftp_player.proofs.WorldFacts.{attests}
use Rattle.tftp_player.proofs.WorldRuns.{run_keeps, new_ok, any_may}
use Rattle.tftp_player.proofs.Changes.{contains_at}
use Rattle.tftp_player.proofs.WorldSafe.{kept_is_safe}
use Rattle.tftp_ends.specs.Action.{HandledBy}

not_true : (b : Bool) → not b ≡ true → b ≡ false
not_true true e = absurd (true≢false (sym e))
not_true false e = refl

-- no block of a text is its first blocks, none
pub none_taken : (size : ℕ) (text : List ℕ) → [] ≡ take (0 * size) text
none_taken size text = ap (λ (n : ℕ). take n text) (let z : 0 ≡ 0 * size = omega arith in z)

-- an open end of the server has as its peer a client that waits
pub record Meeting : Type 0 where
  pub w : WorldState
  pub ok : Refines true w
  pub one : ℕ
  pub other : ℕ
  pub x : OpenEnd
  pub y : OpenEnd
  pub asked : Asked
  pub limit : ℕ
  pub server_at : slice_get w.ends one ≡ Some (Open_end x)
  pub client_at : slice_get w.ends other ≡ Some (Open_end y)
  pub to_client : peer_of x.state.position.phase ≡ Some y.address
  pub waits : y.state.position.phase ≡ Waiting asked limit

module _ (p : Meeting) where
  open p use {w, ok, one, other, x, y, asked, limit, server_at, client_at, to_client, waits}

  -- the two ends
  abbrev pub sides : Peers
  sides = record {
    w = w;
    ok = ok;
    one = one;
    other = other;
    x = Open_end x;
    y = Open_end y;
    x_at = server_at;
    y_at = client_at;
    has = to_client;
  }

  pub kept_y : PhaseKept two_hosts y (Waiting asked limit)
  kept_y = phase_kept w ok other y (Waiting asked limit) client_at waits

  -- the client has no peer yet
  pub none_y : (party w ok y.address).peer ≡ None
  none_y = (match_y sides).peer ∙ ap peer_of waits

  -- the server's end is no client
  pub server_x : (party w ok x.address).client ≡ false
  server_x =
      not_true (party w ok x.address).client (sym (pair sides).client ∙ ((match_y sides).client ∙ kept_y.0))

  pub client_x : is_client x.state.role.side ≡ false
  client_x = sym (match_x sides).client ∙ server_x

  -- the client has no block, and is not complete
  pub first_y : ((party w ok y.address).number ≡ 0) × ((party w ok y.address).complete ≡ false)
      × ((party w ok y.address).sender ≡ false → (party w ok y.address).text ≡ [])
  first_y = ((holds w ok).ends y.address (match_y sides).is_open).no_peer none_y

  -- they are two ends
  pub away : other ≢ one
  away same =
      let same_ends = same_Some (Open_end y) (Open_end x) (sym client_at ∙ (ap (slice_get w.ends) same ∙ server_at)) in
      let same_end : y ≡ x = (let f : Open_end y ≡ Open_end x = same_ends in cc) in
      let f : None ≡ Some y.address =
      sym (ap peer_of waits) ∙ (ap (λ (z : OpenEnd). peer_of z.state.position.phase) same_end ∙ to_client) in cc

  -- the client takes what comes from the server's address
  from_ip : y.state.position.last_sent_to.ip ≡ x.address.ip
  from_ip =
      ap (λ (a : Endpoint). a.ip) kept_y.2
      ∙ sym
      (ap (λ (a : Endpoint). a.ip) ((kept_is_safe true w ok).at_address one (Open_end x) server_at)
      ∙ ap (λ (b : Bool). if b then client_ip else server_ip) client_x)

  pub waiting_does : (bytes : List ℕ) (q : Packet) →
      datagram_action y.state x.address bytes (Some q) ≡ packet_action y.state x.address (Some q) (Waiting asked limit)
  waiting_does bytes q = from_server y.state (Waiting asked limit) x.address bytes q waits refl from_ip

  -- ---- a datagram of the server's end is to be delivered to the client
  module _ (i : ℕ) (bytes : List ℕ) (ready : IsReady w i (datagram x.address y.address bytes)) where
    -- it is true of the server's end
    pub says : (q : Packet) → Spells q bytes → Attests (party w ok x.address) y.address (said q)
    says q spelled =
        attests w ok x.address y.address bytes q (own_x sides) (contains_at w.sent i _ ready.newest) spelled

    -- and the client handles it
    pub handled : (reads : Bool) (new : WorldState) (g : GoesOn reads w i new) →
        Handles w other y x.address bytes g.report g.mid
    handled reads new g = delivered w g.mid i other y x.address bytes g.report ok.ports ready.newest client_at g.step

-- ---- the server's end sends its newest datagram again
-- an end that answers, and its client
abbrev pub met : (w : WorldState) → Refines true w → (one other : ℕ) (x y : OpenEnd) (asked : Asked) (limit : ℕ) →
    IsAnswering w one other x y asked limit → Meeting
met w ok one other x y asked limit a = record {
  w = w;
  ok = ok;
  one = one;
  other = other;
  x = x;
  y = y;
  asked = asked;
  limit = limit;
  server_at = a.server_at;
  client_at = a.client_at;
  to_client = a.to_client;
  waits = a.waits;
}

module _ (p : Meeting) (new : WorldState) (receiver : OpenEnd) (run : Behaves p.w p.x receiver new)
    (may : MaySendAgain p.x.state.position.phase) (to_is : p.x.state.position.last_sent_to ≡ p.y.address) where
  open p use {w, ok, one, other, x, y, asked, limit, server_at, client_at}

  pub resent : Resent w run.mid one x
  resent = resends w run.mid one x run.report (retransmits _ _ may run.retries)
      (ok.ends one (Open_end x) server_at).stands.still
      (timed_out w run.mid one x run.report ok server_at run.times_out)

  -- it is to be delivered
  pub ready_again : IsReady run.mid (length w.sent) (datagram x.address y.address x.state.position.last_sent)
  ready_again =
      ready_with w run.mid (Timeout x.address.port) run.report _ ok run.times_out
      (resent.sent ∙ ap (λ (a : Endpoint). w.sent ++ datagram x.address a x.state.position.last_sent ∷ []) to_is)

  -- to the same client
  abbrev pub meets_again : Meeting
  meets_again = record p {
    w = run.mid;
    ok = ready_again.ok;
    x = retried x;
    server_at = set_at w run.mid one (Open_end x) (Open_end (retried x)) resent.ends server_at;
    client_at = stays_at w run.mid one other (Open_end y) (Open_end (retried x)) resent.ends (away p) client_at;
  }

  -- which accepts it
  pub accepts : HandledBy TakesPeer x.address x.state.position.last_sent y.state → (q : Packet)
      × Spells q x.state.position.last_sent × TakesPeer (packet_action y.state x.address (Some q) (Waiting asked limit))
  accepts takes =
      let was_sent : Contains w.sent (datagram x.address y.address x.state.position.last_sent) =
      subst (λ (a : Endpoint). Contains w.sent (datagram x.address a x.state.position.last_sent)) to_is
      (ok.ends one (Open_end x) server_at).stands.last_sent in
      let q = spoken w ok x.address y.address x.state.position.last_sent was_sent in (
        q.0,
        q.1,
        subst TakesPeer
            (ap (datagram_action y.state x.address x.state.position.last_sent)
            (decoded_is x.state.position.last_sent q.0 takes.0 q.1 takes.1)
            ∙ waiting_does p x.state.position.last_sent q.0) takes.2,
      )

-- what events lead to is kept by the rules
pub reached_ok : (w : WorldState) → IsReached w → Refines true w
reached_ok w reached =
    run_keeps _ _ _ w (any_may reached.events) (new_ok true reached.files _ reached.max_block) reached.plays

-- an OACK that is refused gives no peer
pub refused_takes_none : (refusal : Refusal) → TakesPeer (refusal_action refusal) → ⊥
refused_takes_none refusal t = search rules

-- ---- what the client does at its first datagram
module _ (e : EndState) (asked : Asked) (limit : ℕ) (from : Endpoint) (q : Packet) where
  -- a client that reads does as a reader
  pub reads_as : is_sender e.role.side ≡ false →
      packet_action e from (Some q) (Waiting asked limit) ≡ reader_action e.role.mode asked limit from (Some q)
  reads_as receives = search rules

  -- a client that writes does as a writer
  pub writes_as : is_sender e.role.side ≡ true →
      packet_action e from (Some q) (Waiting asked limit)
      ≡ writer_action e.role.mode asked limit e.role.length from (Some q)
  writes_as sends = search rules
