-- An established transfer recovers: one timeout of its sender, and then no loss.
-- For the law a_transfer_recovers.
use Rattle.tftp_player.proofs.Common.{length, take, block, datagram, canonical, rules, ℕ, ◌≡◌, List, Some, ap, refl}
use Rattle.tftp_player.proofs.Common.{◌∙◌, true, false, Bool, arith, slice_get, [], ◌∷◌, None, ◌+◌, ◌<◌, Option, inr}
use Rattle.tftp_player.proofs.Common.{◌≤◌, inl, ◌++◌, ◌≢◌, not, ◌*◌, ◌⊎◌, option_map, ◌-◌, true≢false, cases_eq}
use Rattle.tftp_player.proofs.Common.{common_steps, same_Some, Contains, Spells, Mode, RawOption, Packet, Oack, Data}
use Rattle.tftp_player.proofs.Common.{Asked, block_count, wire_text, datagram_action, is_client, terms_of, outcome_of}
use Rattle.tftp_player.proofs.Common.{is_complete, size_of, receiver_action, ack_bytes, data_bytes, Respond}
use Rattle.tftp_player.proofs.Common.{ResendReply, Outcome, Phase, Receiving, Waiting, Sending, Dallying, Closed, Terms}
use Rattle.tftp_player.proofs.Common.{Endpoint, OpenEnd, peer_of, goes_on, Behaves, left_to_add, AllTaken, WorldState}
use Rattle.tftp_player.proofs.Common.{Open_end, new_world, Refines, Timeout, subst, sym}
use Rattle.tftp_ends.specs.declared.phase.Dally.{Dally}
use Rattle.tftp_ends.specs.End.{number_of}
use Rattle.tftp_player.specs.Recovering.{TransfersRecover}
use Rattle.tftp_player.proofs.NewestKept.{IsNewest, EndNewest, AllNewest, run_newest, new_newest}
use Rattle.tftp_player.proofs.RunsLeft.{UnlessReads, IsWilling, IsLeft, GoesOn, Reaches, walks}
use Rattle.tftp_player.proofs.StraightActions.{from_peer}
use Rattle.tftp_player.proofs.StraightRuns.{IsReady, ready_next, stays_at, set_at, Transfer, SendsAt, AwaitsAt, AckDue}
use Rattle.tftp_player.proofs.StraightRuns.{fit_of, awaits_now, ends_with, from_ack, from_data}
use Rattle.tftp_player.proofs.StraightSteps.{delivered}
use Rattle.tftp_player.proofs.WorldRuns.{run_keeps, new_ok, any_may}
use Rattle.tftp_player.proofs.SentAgain.{MaySendAgain, ready_with, Again, Resent, retried, data_short, handles_again}
use Rattle.tftp_player.proofs.SentAgain.{next_of, oack_alone, resends, retransmits, timed_out}
use Rattle.tftp_player.proofs.WorldFacts.{Pair, peers, match_y, party, all_blocks, apart, attests, has_more, has_text}
use Rattle.tftp_player.proofs.WorldFacts.{high, low, mode_same, own_x, pair, receives, size_x, size_y, spoken, still_x}
use Rattle.tftp_player.proofs.WorldFacts.{still_y, text_x, way}

-- an end that refuses no append stays so
pub willing_still : (reads : Bool) (y z : OpenEnd) → IsWilling reads y → z.state.role.side ≡ y.state.role.side →
    z.refuses ≡ y.refuses → IsWilling reads z
willing_still reads y z h side refuses = search rules

-- an OACK again before the first block is answered again
oack_again : (client : Bool) (mode : Mode) (held : List ℕ) (terms : Terms) (options : List RawOption) (n : ℕ) →
    client ≡ true → terms.by_oack ≡ true → n ≡ 0 →
    receiver_action client mode held terms n (Some (Oack options)) ≡ Respond ResendReply
oack_again client mode held terms options n is_client by_oack none = search rules

-- ---- the run
module _ (p : Pair) (new : WorldState) (run : Behaves p.w p.x p.y new) (reads : Bool) (willing : IsWilling reads p.y)
    (taken : UnlessReads reads (AllTaken run.reports)) where
  open p use {w, ok, one, other, x, y, st, n, e}

  abbrev sa : Endpoint
  sa = x.address

  abbrev ra : Endpoint
  ra = y.address

  abbrev bytes_now : List ℕ
  bytes_now = x.state.position.last_sent

  abbrev text_now : List ℕ
  text_now = wire_text x.state.role.mode x.file

  abbrev i : ℕ
  i = length w.sent

  abbrev phase_y : Phase
  phase_y = y.state.position.phase

  text_is : x.text ≡ text_now
  text_is = (ok.ends one (Open_end x) e.sender_at).text

  count_is : block_count x.text st.size ≡ block_count text_now st.size
  count_is = ap (λ (t : List ℕ). block_count t st.size) text_is

  resent : Resent w run.mid one x
  resent = resends w run.mid one x run.report (retransmits _ _ (subst MaySendAgain (sym e.sends) tt) run.retries)
      (still_x p) (timed_out w run.mid one x run.report ok e.sender_at run.times_out)

  to_is : x.state.position.last_sent_to ≡ ra
  to_is = (way p).last_sent_to ∙ e.to_receiver

  -- what it sent again is to be delivered
  ready : IsReady run.mid i (datagram sa ra bytes_now)
  ready = ready_with w run.mid (Timeout x.address.port) run.report (datagram sa ra bytes_now) ok run.times_out
      (resent.sent ∙ ap (λ (a : Endpoint). w.sent ++ datagram sa a bytes_now ∷ []) to_is)

  abbrev left : IsLeft reads run.mid i new
  left = record { reports = run.reports; settles = run.settles; taken = taken }

  sender_there : slice_get run.mid.ends one ≡ Some (Open_end (retried x))
  sender_there = set_at w run.mid one (Open_end x) (Open_end (retried x)) resent.ends e.sender_at

  receiver_there : slice_get run.mid.ends other ≡ Some (Open_end y)
  receiver_there = stays_at w run.mid one other (Open_end y) (Open_end (retried x)) resent.ends (apart p) e.receiver_at

  -- it was sent before
  was_sent : Contains w.sent (datagram sa ra bytes_now)
  was_sent =
      subst (λ (a : Endpoint). Contains w.sent (datagram sa a bytes_now)) to_is
      (ok.ends one (Open_end x) e.sender_at).stands.last_sent

  -- ---- the receiver has these terms
  module _ (rt : Terms) (known : terms_of phase_y ≡ Some rt) where
    abbrev t : Transfer
    t = record {
      ks = one;
      kr = other;
      apart = apart p;
      sa = sa;
      ra = ra;
      st = st;
      rt = rt;
      mode = x.state.role.mode;
      file = x.file;
      sender_peer = e.to_receiver;
      receiver_peer = same_Some rt.peer sa (sym (ap (option_map (λ (t : Terms). t.peer)) known) ∙ e.to_sender);
      same_size = sym ((match_y (peers p)).size ∙ ap size_of known) ∙ size_y p;
    }

    sends_at : (v : WorldState) (k : ℕ) → n ≡ k → slice_get v.ends one ≡ Some (Open_end (retried x)) → SendsAt t v k
    sends_at v k number there = record {
      x = retried x;
      there = there;
      address = refl;
      phase = e.sends ∙ ap (Sending st) number;
      file_is = refl;
      mode_is = refl;
    }

    -- the receiver has `k` blocks, and is to have more
    waits : (v : WorldState) (k j : ℕ) → phase_y ≡ Receiving rt k → Refines true v → SendsAt t v j →
        slice_get v.ends other ≡ Some (Open_end y) → AwaitsAt t reads v k
    waits v k j is v_ok s there =
        let open_now : is_complete phase_y ≡ false = ap is_complete is in
        let more : k < block_count x.text st.size = rw (← ap number_of is) (has_more p open_now) in
        let within : k + 1 ≤ block_count text_now st.size = let c = count_is in omega (arith, more, c) in
        awaits_now t reads v y k (fit_of t v j v_ok s) within there refl is (receives p) willing (mode_same (peers p))
        (has_text p open_now (ap goes_on is)
        ∙ (ap (λ (c : ℕ). take (c * st.size) x.text) (ap number_of is) ∙ ap (take (k * st.size)) text_is))
        (ok.ends other (Open_end y) e.receiver_at).stands.kept.held_back

    -- ---- the receiver acknowledges once more what it has
    module _ (q : Packet) (spelled : Spells q bytes_now)
        (resends_it : datagram_action y.state sa bytes_now (Some q) ≡ Respond ResendReply)
        (same : number_of phase_y ≡ n) where
      again : (g : GoesOn reads run.mid i new) → Again run.mid g.mid other y sa n
      again g =
          handles_again run.mid g.mid other y sa bytes_now g.report n q
          (delivered run.mid g.mid i other y sa bytes_now g.report ready.ok.ports ready.newest receiver_there g.step)
          spelled resends_it (still_y p) same

      due : (g : GoesOn reads run.mid i new) → AckDue t g.mid (i + 1) n
      due g = record {
        ready = ready_next run.mid g.mid i (datagram sa ra bytes_now) (datagram ra sa (ack_bytes n)) g.report ready
            g.step (again g).sent;
        sender = sends_at g.mid n refl
            (stays_at run.mid g.mid other one (Open_end (retried x)) (Open_end y) (again g).ends
            (λ z. apart p (sym z)) sender_there);
      }

      receiver_now : (g : GoesOn reads run.mid i new) → slice_get g.mid.ends other ≡ Some (Open_end y)
      receiver_now g = set_at run.mid g.mid other (Open_end y) (Open_end y) (again g).ends receiver_there

      -- it is to have more
      goes_on_from : (rest : ℕ) → phase_y ≡ Receiving rt n → n + 1 + rest ≡ block_count text_now st.size →
          Reaches new one other i (length run.reports) (2 + 2 * rest + 1 + 1)
      goes_on_from rest is counted = walks reads run.mid new one other i (2 + 2 * rest + 1) ready.count left (λ g.
          from_ack t reads rest (i + 1) n g.mid new counted (due g)
          (waits g.mid n n is (due g).ready.ok (due g).sender (receiver_now g)) g.left)

      -- it has all
      ends_from : is_complete phase_y ≡ true → n ≡ block_count text_now st.size →
          Reaches new one other i (length run.reports) (0 + 1 + 1)
      ends_from done last = walks reads run.mid new one other i (0 + 1) ready.count left (λ g.
          ends_with t reads (i + 1) n g.mid new last (due g)
          (record { x = Open_end y; there = receiver_now g; complete = done }) g.left)

    -- ---- the receiver has all blocks before the sender's newest one
    stores_from : (k rest : ℕ) → n ≡ k + 1 → phase_y ≡ Receiving rt k →
        bytes_now ≡ data_bytes (k + 1) (block text_now st.size (k + 1)) →
        k + 1 + rest ≡ block_count text_now st.size →
        Reaches new one other i (length run.reports) (2 + 2 * rest)
    stores_from k rest number is bytes_are counted =
        let sender = sends_at run.mid (k + 1) number sender_there in
        from_data t reads rest i k run.mid new counted (record {
          ready = subst (λ (bs : List ℕ). IsReady run.mid i (datagram sa ra bs)) bytes_are ready;
          sender = sender;
          receiver = waits run.mid k (k + 1) is ready.ok sender receiver_there;
        }) left

  -- ---- by what the sender sent last, and by the receiver's phase
  abbrev Recovers : Type 0
  Recovers = Reaches new one other i (length run.reports) (left_to_add x st n)

  -- with one more block, or with none
  in_all : (rest : ℕ) → n + 1 + rest ≡ block_count text_now st.size →
      Reaches new one other i (length run.reports) (2 + 2 * rest + 1 + 1) → Recovers
  in_all rest counted r = search (rules, count_is)

  left_after : (k : ℕ) → k < block_count x.text st.size →
      (rest : ℕ) × (k + 1 + rest ≡ block_count text_now st.size)
  left_after k more =
      let c = count_is in (
        block_count x.text st.size - (k + 1),
        let z : k + 1 + (block_count x.text st.size - (k + 1)) ≡ block_count text_now st.size = omega (arith, more, c) in
            z,
      )

  -- an end of this phase is no receiver
  none_waits : (asked : Asked) (limit : ℕ) → phase_y ≡ Waiting asked limit → Recovers
  none_waits asked limit is =
      absurd (let f : None ≡ Some x.address = sym (ap peer_of is) ∙ e.to_sender in cc)

  none_sends : (terms : Terms) (k : ℕ) → phase_y ≡ Sending terms k → Recovers
  none_sends terms k is =
      let kept = rw (is) at (ok.ends other (Open_end y) e.receiver_at).stands.kept.phase in
      absurd (true≢false (sym kept.sender ∙ receives p))

  none_closed : (terms : Option Terms) (k : ℕ) (complete : Bool) (outcome : Outcome) →
      phase_y ≡ Closed terms k complete outcome → Recovers
  none_closed terms k complete outcome is =
      absurd (let f : Some outcome ≡ None = sym (ap outcome_of is) ∙ still_y p in cc)

  -- ---- the sender sends its newest block again
  module _ (piece : List ℕ) (positive : n ≢ 0) (data_is : bytes_now ≡ data_bytes n piece) where
    spelled_data : Spells (Data n piece) bytes_now
    spelled_data =
        let u = way p in
        let q = spoken w ok sa ra bytes_now was_sent in
        let short = data_short n piece q.0 (subst (λ (bs : List ℕ). Spells q.0 bs) data_is q.1) in
        grind (arith, common_steps)

    piece_is : piece ≡ block text_now st.size n
    piece_is =
        let t = attests w ok sa ra bytes_now (Data n piece) (own_x (peers p)) was_sent spelled_data in
        t.bytes
        ∙ (ap (λ (k : ℕ). block (party w ok sa).text k n) (size_x p)
        ∙ ap (λ (t : List ℕ). block t st.size n) (text_x p ∙ text_is))

    again_receiving : (rt : Terms) (k : ℕ) → phase_y ≡ Receiving rt k → n ≡ k →
        datagram_action y.state sa bytes_now (Some (Data n piece)) ≡ Respond ResendReply
    again_receiving rt k is same = search rules

    again_dallying : (rt : Terms) (k : ℕ) (dally : Dally) → phase_y ≡ Dallying rt k dally → n ≡ k →
        datagram_action y.state sa bytes_now (Some (Data n piece)) ≡ Respond ResendReply
    again_dallying rt k dally is same = search rules

    receiving_recovers : (rt : Terms) (k : ℕ) → phase_y ≡ Receiving rt k → (n ≡ k) ⊎ (n ≢ k) → Recovers
    receiving_recovers rt k is (inl same) =
        let stored : number_of phase_y ≡ k = ap number_of is in
        let more = has_more p (ap is_complete is) in
        let r = left_after n (let z : n < block_count x.text st.size = omega (arith, more, stored, same) in z) in
        in_all r.0 r.1
        (goes_on_from rt (ap terms_of is) (Data n piece) spelled_data (again_receiving rt k is same)
        (stored ∙ sym same) r.0 (is ∙ ap (Receiving rt) (sym same)) r.1)
    receiving_recovers rt k is (inr other_number) =
        let stored : number_of phase_y ≡ k = ap number_of is in
        let a = low p in
        let b = high p in
        let number : n ≡ k + 1 = next_of n k (omega (arith, a, stored)) (omega (arith, b, stored)) other_number in
        let more = has_more p (ap is_complete is) in
        let r = left_after k (let z : k < block_count x.text st.size = omega (arith, more, stored) in z) in
        let c = count_is in
        let all = r.1 in
        let same : 2 + 2 * r.0 ≡ 2 + 2 * (block_count x.text st.size - n) = omega (arith, all, c, number) in
        subst (λ (j : ℕ). Reaches new one other i (length run.reports) j) same
        (stores_from rt (ap terms_of is) k r.0 number is
        (data_is ∙ (ap (data_bytes n) piece_is
        ∙ ap (λ (j : ℕ). data_bytes j (block text_now st.size j)) number)) r.1)

    dallying_recovers : (rt : Terms) (k : ℕ) (dally : Dally) → phase_y ≡ Dallying rt k dally → Recovers
    dallying_recovers rt k dally is =
        let stored : number_of phase_y ≡ k = ap number_of is in
        let all = all_blocks p (ap is_complete is) in
        let b = high p in
        let few = (way p).so_far in
        let last : n ≡ block_count x.text st.size = omega (arith, all, b, few) in
        let same : n ≡ k = omega (arith, all, stored, last) in
        let count : 0 + 1 + 1 ≡ 2 + 2 * (block_count x.text st.size - n) = omega (arith, last) in
        rw (← count) (ends_from rt (ap terms_of is) (Data n piece) spelled_data (again_dallying rt k dally is same)
        (stored ∙ sym same) (ap is_complete is) (last ∙ count_is))

    data_recovers : (q : Phase) → phase_y ≡ q → Recovers
    data_recovers (Waiting asked limit) is = none_waits asked limit is
    data_recovers (Sending terms k) is = none_sends terms k is
    data_recovers (Receiving rt k) is = receiving_recovers rt k is (cases_eq n k)
    data_recovers (Dallying rt k dally) is = dallying_recovers rt k dally is
    data_recovers (Closed terms k complete outcome) is = none_closed terms k complete outcome is

  -- ---- the sender sends its OACK again
  module _ (options : List RawOption) (zero_now : n ≡ 0) (oack_is : bytes_now ≡ canonical (Oack options))
      (fresh : EndNewest (Open_end y)) where
    others : (more : List RawOption) × Spells (Oack more) bytes_now
    others =
        let q = spoken w ok sa ra bytes_now was_sent in
        let alone = oack_alone options q.0 (subst (λ (bs : List ℕ). Spells q.0 bs) oack_is q.1) in
        (alone.0, subst (λ (r : Packet). Spells r bytes_now) alone.1 q.1)

    client_y : is_client y.state.role.side ≡ true
    client_y =
        let t = attests w ok sa ra bytes_now (Oack others.0) (own_x (peers p)) was_sent others.1 in
        sym (match_y (peers p)).client ∙ ((pair (peers p)).client ∙ ap not t.client)

    again_oack : (rt : Terms) → phase_y ≡ Receiving rt 0 → rt.by_oack ≡ true →
        datagram_action y.state sa bytes_now (Some (Oack others.0)) ≡ Respond ResendReply
    again_oack rt is took =
        let rp = same_Some rt.peer sa (sym (ap peer_of is) ∙ e.to_sender) in
        search (rules, from_peer, oack_again, client_y)

    oack_recovers : (q : Phase) → phase_y ≡ q → Recovers
    oack_recovers (Waiting asked limit) is = none_waits asked limit is
    oack_recovers (Sending terms k) is = none_sends terms k is
    oack_recovers (Receiving rt k) is =
        let stored : number_of phase_y ≡ k = ap number_of is in
        let b = high p in
        let nothing : k ≡ 0 = omega (arith, b, stored, zero_now) in
        let is_now : phase_y ≡ Receiving rt 0 = is ∙ ap (Receiving rt) nothing in
        let took : rt.by_oack ≡ true = (rw (is_now) at fresh) refl client_y in
        let more = has_more p (ap is_complete is) in
        let r = left_after n (let z : n < block_count x.text st.size = omega (arith, more, stored, nothing, zero_now)
        in z) in
        in_all r.0 r.1 (goes_on_from rt (ap terms_of is) (Oack others.0) others.1 (again_oack rt is_now took) (stored ∙
        (nothing ∙ sym zero_now)) r.0 (is_now ∙ ap (Receiving rt) (sym zero_now)) r.1)
    oack_recovers (Dallying rt k dally) is =
        let all = all_blocks p (ap is_complete is) in
        let b = high p in
        absurd (omega (arith, all, b, zero_now))
    oack_recovers (Closed terms k complete outcome) is = none_closed terms k complete outcome is

  -- ---- and so in every case
  recovers_by : (k : ℕ) → n ≡ k → IsNewest bytes_now k → EndNewest (Open_end y) → Recovers
  recovers_by k is newest fresh = search (rules, oack_recovers, data_recovers)

  -- so the transfer recovers, whatever the sender sent last
  pub recovers : AllNewest w → Recovers
  recovers fresh =
      recovers_by n refl (rw (e.sends) at (fresh one (Open_end x) e.sender_at)) (fresh other (Open_end y) e.receiver_at)

-- so each established transfer of a world recovers
pub transfers_recover : TransfersRecover
transfers_recover w new one other x y terms number reached e run =
    let first = new_world reached.files reached.config in
    let ok =
    run_keeps true reached.events first w (any_may reached.events) (new_ok true reached.files reached.config
    reached.max_block) reached.plays in
    let fresh = run_newest reached.events first w (new_newest reached.files reached.config) reached.plays in
    let p : Pair =
    record { w = w; ok = ok; one = one; other = other; x = x; y = y; st = terms; n = number; e = e } in
    let r : Reaches new one other (length w.sent) (length run.reports) (left_to_add x terms number) =
    elim run.taken [
      | inl t ↦ recovers p new run false tt t fresh
      | inr h ↦ recovers p new run true h tt fresh
    ] in
    search rules
