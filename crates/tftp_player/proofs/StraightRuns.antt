-- A run without loss, from the first DATA or the first ACK that is to be delivered. For 15 other files.
use Rattle.tftp_player.proofs.Common.{◌≡◌, ◌≢◌, ℕ, ◌+◌, ◌*◌, ◌<◌, ◌≤◌, suc, zero, Bool, true, false, List, [], ◌∷◌}
use Rattle.tftp_player.proofs.Common.{◌++◌, length, take, drop, Some, sym, ap, ◌∙◌, subst, arith, rules, nat_lt}
use Rattle.tftp_player.proofs.Common.{slice_get, slice_set, MAX_BLOCK, Mode, Data, Ack, Spells, block, block_count}
use Rattle.tftp_player.proofs.Common.{Fits, wire_text, Respond, Send, Store, Complete, Fresh, Phase, Sending, Receiving}
use Rattle.tftp_player.proofs.Common.{Dallying, Terms, is_sender, is_client, is_complete, datagram_action, next_action}
use Rattle.tftp_player.proofs.Common.{ack_bytes, data_bytes, two_hosts, Endpoint, OpenEnd, IsUnderWay, PhaseKept}
use Rattle.tftp_player.proofs.Common.{HeldBackFits, number_fits, spells_own, TookAll, WorldState, datagram, WorldEnd}
use Rattle.tftp_player.proofs.Common.{Open_end, Refines, IsComplete, WorldStep, Datagram, Deliver, Report}
use Rattle.tftp_player.proofs.Common.{slice_get-set_same, slice_get-set_other, slice_get-push_new, ◌/◌, refl}
use Rattle.std.proofs.Common.{length-append}
use Rattle.std.proofs.lemmas.Bool.{lt-ltb}
use Rattle.std.proofs.lemmas.List.{take-append-drop}
use Rattle.tftp_rules.proofs.SourceMoves.{valid_data}
use Rattle.tftp_rules.proofs.Blocks.{take-block}
use Rattle.tftp_player.proofs.RunsLeft.{UnlessReads, IsWilling, IsLeft, GoesOn, IsOver, Reaches, walks, ends_here}
use Rattle.tftp_rules.proofs.NextBlocks.{piece_readable, block_full, block_last, block_within, never_long, last_rest}
use Rattle.tftp_player.proofs.StraightActions.{from_peer, acked_more, acked_last, next_stores, data_next}
use Rattle.tftp_player.proofs.StraightSteps.{Handles, delivered, Becomes, handles_send, handles_last, is_armed}
use Rattle.tftp_player.proofs.StraightSteps.{HasStored, stored_phase, takes_data, handles_data}
use Rattle.tftp_player.proofs.WorldRuns.{step_keeps}

-- ---- a world in which this datagram is the only one to be delivered
-- the newest datagram is ready to be delivered
pub record IsReady (w : WorldState) (i : ℕ) (d : Datagram) : Type 0 where
  pub ok : Refines true w
  pub newest : slice_get w.sent i ≡ Some d
  pub count : length w.sent ≡ i + 1

-- after a delivery the next datagram is ready
pub ready_next : (w v : WorldState) (i : ℕ) (d next : Datagram) (report : Report) → IsReady w i d →
    WorldStep w (Deliver i) report v → v.sent ≡ w.sent ++ next ∷ [] → IsReady v (i + 1) next
ready_next w v i d next report r s sent = record {
  ok = step_keeps true w v (Deliver i) report tt r.ok s;
  newest =
      ap (λ (ds : List Datagram). slice_get ds (i + 1)) sent
      ∙ (ap (slice_get (w.sent ++ next ∷ [])) (sym r.count) ∙ slice_get-push_new w.sent next);
  count = let e = ap length sent in let f = length-append w.sent (next ∷ []) in let c = r.count in
      omega (arith, e, f, c);
}

-- an end that is elsewhere stays
pub stays_at : (w v : WorldState) (k j : ℕ) (x y : WorldEnd) → v.ends ≡ slice_set w.ends k y → j ≢ k →
    slice_get w.ends j ≡ Some x → slice_get v.ends j ≡ Some x
stays_at w v k j x y ends away there = search (rules, slice_get-set_other)

-- the end that was written is at its index
pub set_at : (w v : WorldState) (k : ℕ) (x y : WorldEnd) → v.ends ≡ slice_set w.ends k y → slice_get w.ends k ≡ Some x →
    slice_get v.ends k ≡ Some y
set_at w v k x y ends there = ap (λ (xs : List WorldEnd). slice_get xs k) ends ∙ slice_get-set_same w.ends k y x there

-- after a full block a receiver goes on
pub stored_more_phase : (terms : Terms) (number : ℕ) (l : ℕ) → l ≡ terms.size →
    stored_phase terms number (nat_lt l terms.size) ≡ Receiving terms number
stored_more_phase terms number l e = search rules

-- after a shorter one it dallies
pub stored_last_phase : (terms : Terms) (number : ℕ) (l : ℕ) → l < terms.size →
    stored_phase terms number (nat_lt l terms.size) ≡ Dallying terms number Fresh
stored_last_phase terms number l e = ap (stored_phase terms number) (lt-ltb l terms.size e)

-- a transfer in a world: its ends' indices, addresses and terms, and the file that the sender sends
pub record Transfer : Type 0 where
  pub ks : ℕ
  pub kr : ℕ
  pub apart : kr ≢ ks
  pub sa : Endpoint
  pub ra : Endpoint
  pub st : Terms
  pub rt : Terms
  pub mode : Mode
  pub file : List ℕ
  pub sender_peer : st.peer ≡ ra
  pub receiver_peer : rt.peer ≡ sa
  pub same_size : rt.size ≡ st.size

module _ (t : Transfer) where
  open t use {ks, kr, apart, sa, ra, st, rt, mode, file, sender_peer, receiver_peer, same_size}

  abbrev text : List ℕ
  text = wire_text mode file

  abbrev blocks : ℕ
  blocks = block_count text st.size

  abbrev piece : ℕ → List ℕ
  piece n = block text st.size (n + 1)

  abbrev data_at : ℕ → Datagram
  data_at n = datagram sa ra (data_bytes (n + 1) (piece n))

  abbrev ack_at : ℕ → Datagram
  ack_at n = datagram ra sa (ack_bytes n)

  -- a sender whose newest block is this one
  pub record SendsAt (w : WorldState) (n : ℕ) : Type 0 where
    pub x : OpenEnd
    pub there : slice_get w.ends ks ≡ Some (Open_end x)
    pub address : x.address ≡ sa
    pub phase : x.state.position.phase ≡ Sending st n
    pub file_is : x.file ≡ file
    pub mode_is : x.state.role.mode ≡ mode

  -- a receiver that has n blocks, and stores the next one
  pub record AwaitsAt (reads : Bool) (w : WorldState) (n : ℕ) : Type 0 where
    pub x : OpenEnd
    pub there : slice_get w.ends kr ≡ Some (Open_end x)
    pub address : x.address ≡ ra
    pub receiver : is_sender x.state.role.side ≡ false
    pub willing : IsWilling reads x
    pub mode_is : x.state.role.mode ≡ mode
    pub received : wire_text x.state.role.mode x.stored ++ x.state.position.held_back ≡ take (n * st.size) text
    pub holds : HeldBackFits x.state.role.mode x.state.position.held_back
    pub stores : datagram_action x.state sa (data_bytes (n + 1) (piece n)) (Some (Data (n + 1) (piece n)))
        ≡ Store rt (n + 1)

  -- a receiver that has all
  pub record HasAllAt (w : WorldState) : Type 0 where
    pub x : WorldEnd
    pub there : slice_get w.ends kr ≡ Some x
    pub complete : IsComplete x

  -- what holds of a sender, by its text
  pub record IsFit : Type 0 where
    pub positive : 0 < st.size
    pub small : st.size ≤ MAX_BLOCK
    pub fits : Fits text st.size

  text_of_sender : (w : WorldState) (n : ℕ) → Refines true w → (s : SendsAt w n) → s.x.text ≡ text
  text_of_sender w n ok s =
      (ok.ends ks (Open_end s.x) s.there).text
      ∙ (ap (λ (m : Mode). wire_text m s.x.file) s.mode_is ∙ ap (wire_text mode) s.file_is)

  under_way : (w : WorldState) (n : ℕ) → Refines true w → (s : SendsAt w n) → IsUnderWay s.x st n
  under_way w n ok s =
      subst (λ (p : Phase). PhaseKept two_hosts s.x p) s.phase (ok.ends ks (Open_end s.x) s.there).stands.kept.phase

  -- the blocks of a sender fit their numbers
  pub fit_of : (w : WorldState) (n : ℕ) → Refines true w → SendsAt w n → IsFit
  fit_of w n ok s =
      let u = under_way w n ok s in
      record {
        positive = u.positive;
        small = u.size;
        fits = subst (λ (t : List ℕ). Fits t st.size) (text_of_sender w n ok s) u.fits;
      }

  -- the bytes of each DATA spell it
  pub spelled_at : (n : ℕ) → IsFit → n + 1 ≤ blocks → Spells (Data (n + 1) (piece n)) (data_bytes (n + 1) (piece n))
  spelled_at n f l = spells_own (Data (n + 1) (piece n)) (valid_data text st.size n f.positive f.small f.fits l)

  sender_stays : (w v : WorldState) (n : ℕ) (y : WorldEnd) → v.ends ≡ slice_set w.ends kr y → SendsAt w n → SendsAt v n
  sender_stays w v n y ends s = search (rules, stays_at)

  receiver_stays : (reads : Bool) (w v : WorldState) (n : ℕ) (y : WorldEnd) → v.ends ≡ slice_set w.ends ks y →
      AwaitsAt reads w n → AwaitsAt reads v n
  receiver_stays reads w v n y ends r = search (rules, stays_at)

  -- a receiver stores the next block of its sender's text
  pub next_is_stored : (x : OpenEnd) (n : ℕ) → IsFit → n + 1 ≤ blocks → x.state.role.mode ≡ mode →
      wire_text x.state.role.mode x.stored ++ x.state.position.held_back ≡ take (n * st.size) text →
      next_action x.state.role.mode x.state.position.held_back rt (n + 1) (piece n) ≡ Store rt (n + 1)
  next_is_stored x n f l mode_is received =
      let within : length (piece n) ≤ rt.size = let e = block_within text st.size f.positive f.fits n l in
      omega (arith, e, same_size) in
      let text_is : wire_text x.state.role.mode file ≡ text = ap (λ (m : Mode). wire_text m file) mode_is in
      let rest = drop ((n + 1) * st.size) text in
      let whole : ((wire_text x.state.role.mode x.stored ++ x.state.position.held_back) ++ piece n) ++ rest
      ≡ wire_text x.state.role.mode file =
      ap (λ (t : List ℕ). (t ++ piece n) ++ rest) received
      ∙ (ap (λ (t : List ℕ). t ++ rest) (take-block text n st.size)
      ∙ (take-append-drop ((n + 1) * st.size) text ∙ sym text_is)) in
      next_stores x.state.role.mode x.state.position.held_back rt (n + 1) (piece n) within
      (λ a b. never_long text st.size f.positive f.fits n l a (b ∙ same_size))
      (piece_readable x.state.role.mode file x.stored x.state.position.held_back (piece n) rest
      (nat_lt (length (piece n)) rt.size) whole
      (λ e. last_rest text st.size f.positive f.fits n (ap (nat_lt (length (piece n))) (sym same_size) ∙ e)))

  -- a receiver stores the next DATA
  pub receiving_stores : (x : OpenEnd) (n : ℕ) → IsFit → n + 1 ≤ blocks → x.state.position.phase ≡ Receiving rt n →
      x.state.role.mode ≡ mode →
      wire_text x.state.role.mode x.stored ++ x.state.position.held_back ≡ take (n * st.size) text →
      datagram_action x.state sa (data_bytes (n + 1) (piece n)) (Some (Data (n + 1) (piece n))) ≡ Store rt (n + 1)
  receiving_stores x n f l phase mode_is received = search (rules, from_peer, data_next, next_is_stored)

  -- a receiver that enters this phase with what it has
  pub awaits_now : (reads : Bool) (w : WorldState) (x : OpenEnd) (n : ℕ) → IsFit → n + 1 ≤ blocks →
      slice_get w.ends kr ≡ Some (Open_end x) → x.address ≡ ra → x.state.position.phase ≡ Receiving rt n →
      is_sender x.state.role.side ≡ false → IsWilling reads x →
      x.state.role.mode ≡ mode →
      wire_text x.state.role.mode x.stored ++ x.state.position.held_back ≡ take (n * st.size) text →
      HeldBackFits x.state.role.mode x.state.position.held_back → AwaitsAt reads w n
  awaits_now reads w x n f l there address phase receiver willing mode_is received holds =
      search (rules, receiving_stores)

  -- ---- DATA arrives at the receiver
  -- DATA n + 1 is to be delivered, and its receiver stores it
  pub record DataDue (reads : Bool) (w : WorldState) (i n : ℕ) : Type 0 where
    pub ready : IsReady w i (data_at n)
    pub sender : SendsAt w (n + 1)
    pub receiver : AwaitsAt reads w n

  -- the ACK of a sender's newest block is to be delivered
  pub record AckDue (w : WorldState) (i n : ℕ) : Type 0 where
    pub ready : IsReady w i (ack_at n)
    pub sender : SendsAt w n

  module _ (reads : Bool) (w v : WorldState) (i n : ℕ) (due : DataDue reads w i n) (l : n + 1 ≤ blocks)
      (g : GoesOn reads w i v) where
    open due use {ready, sender as s, receiver as r}

    fit : IsFit
    fit = fit_of w (n + 1) ready.ok s

    handled : Handles w kr r.x sa (data_bytes (n + 1) (piece n)) g.report g.mid
    handled = delivered w g.mid i kr r.x sa (data_bytes (n + 1) (piece n)) g.report ready.ok.ports
        (ready.newest ∙ ap (λ (a : Endpoint). Some (datagram sa a (data_bytes (n + 1) (piece n)))) (sym r.address))
        r.there g.step

    -- the step of a client that was not set to refuse
    taken_by : is_client r.x.state.role.side ≡ true → r.x.refuses ≡ false →
        TookAll g.report.closed × (is_armed handled.held ≡ false)
    taken_by client unarmed =
        takes_data handled rt (n + 1) (piece n) client unarmed (spelled_at n fit l) r.stores r.receiver

    took_all : (b : Bool) → IsWilling b r.x → UnlessReads b (TookAll g.report.closed) → TookAll g.report.closed
    took_all true willing said = (taken_by willing.0 willing.1).0
    took_all false willing said = said

    stored : (y : OpenEnd) × HasStored handled rt (n + 1) (piece n) y
    stored =
        handles_data handled rt (n + 1) (piece n) r.holds (took_all reads r.willing g.taken) (spelled_at n fit l)
        r.stores r.receiver

    stays_willing : (b : Bool) → IsWilling b r.x → IsWilling b stored.0
    stays_willing true willing =
        (ap is_client stored.1.becomes.side ∙ willing.0, stored.1.armed ∙ (taken_by willing.0 willing.1).1)
    stays_willing false willing = tt

    now_there : slice_get g.mid.ends kr ≡ Some (Open_end stored.0)
    now_there = set_at w g.mid kr (Open_end r.x) (Open_end stored.0) stored.1.becomes.ends r.there

    -- the ACK is to be delivered
    pub data_then : AckDue g.mid (i + 1) (n + 1)
    data_then = record {
      ready = ready_next w g.mid i (data_at n) (ack_at (n + 1)) g.report ready g.step
          (stored.1.becomes.sent
          ∙ ap (λ (a : Endpoint). w.sent ++ datagram a sa (ack_bytes (n + 1)) ∷ []) r.address);
      sender = sender_stays w g.mid (n + 1) (Open_end stored.0) stored.1.becomes.ends s;
    }

    -- the block is not the last
    pub data_receiver : n + 1 < blocks → AwaitsAt reads g.mid (n + 1)
    data_receiver more =
        let y = stored.0 in
        let full : length (piece n) ≡ rt.size = block_full text st.size fit.positive fit.fits n more ∙ sym same_size in
        awaits_now reads g.mid y (n + 1) fit (let m : n + 1 + 1 ≤ blocks = omega (arith, more) in m) now_there
        (stored.1.becomes.address ∙ r.address)
        (stored.1.phase ∙ stored_more_phase rt (n + 1) (length (piece n)) full)
        (ap is_sender stored.1.becomes.side ∙ r.receiver) (stays_willing reads r.willing)
        (stored.1.becomes.mode ∙ r.mode_is)
        (ap (λ (m : Mode). wire_text m y.stored ++ y.state.position.held_back) stored.1.becomes.mode
        ∙ (stored.1.received ∙ (ap (λ (t : List ℕ). t ++ piece n) r.received ∙ take-block text n st.size)))
        (subst (λ (m : Mode). HeldBackFits m y.state.position.held_back) (sym stored.1.becomes.mode) stored.1.holds)

    -- or the last
    pub data_all : n + 1 ≡ blocks → HasAllAt g.mid
    data_all last =
        let short : length (piece n) < rt.size = let e = block_last text st.size fit.positive fit.fits n last in
        omega (arith, e, same_size) in
        record {
          x = Open_end stored.0;
          there = now_there;
          complete = ap is_complete (stored.1.phase ∙ stored_last_phase rt (n + 1) (length (piece n)) short);
        }

  -- ---- an ACK arrives at the sender
  module _ (reads : Bool) (w v : WorldState) (i n : ℕ) (due : AckDue w i n) (small : n ≤ blocks)
      (g : GoesOn reads w i v) where
    open due use {ready, sender as s}

    way : IsUnderWay s.x st n
    way = under_way w n ready.ok s

    fit_now : IsFit
    fit_now = fit_of w n ready.ok s

    handled_ack : Handles w ks s.x ra (ack_bytes n) g.report g.mid
    handled_ack = delivered w g.mid i ks s.x ra (ack_bytes n) g.report ready.ok.ports
        (ready.newest ∙ ap (λ (a : Endpoint). Some (datagram ra a (ack_bytes n))) (sym s.address)) s.there g.step

    ack_spelled : Spells (Ack n) (ack_bytes n)
    ack_spelled = spells_own (Ack n) (number_fits text st.size n fit_now.positive fit_now.fits small)

    measured : s.x.state.role.length ≡ length text
    measured = way.measured ∙ ap length (text_of_sender w n ready.ok s)

    -- and more is to be sent
    module _ (more : n < blocks) where
      sends_more : datagram_action s.x.state ra (ack_bytes n) (Some (Ack n)) ≡ Send st (n + 1)
      sends_more =
          from_peer s.x.state (Sending st n) st ra (ack_bytes n) (Ack n) s.phase refl sender_peer
          ∙ acked_more s.x.state.role.length n st (subst (λ (c : ℕ). n < c / st.size + 1) (sym measured) more)

      sent_more : (y : OpenEnd) × (y.state.position.phase ≡ Sending st (n + 1))
          × Becomes handled_ack y (datagram s.x.address ra (data_bytes (n + 1) (piece n)) ∷ [])
      sent_more =
          handles_send handled_ack (Ack n) st n text ack_spelled sends_more way.sender measured
          (way.left ∙ ap (drop (n * st.size)) (text_of_sender w n ready.ok s))

      -- the next DATA is to be delivered
      pub ack_then : AwaitsAt reads w n → DataDue reads g.mid (i + 1) n
      ack_then r = record {
        ready = ready_next w g.mid i (ack_at n) (data_at n) g.report ready g.step
            (sent_more.2.sent
            ∙ ap (λ (a : Endpoint). w.sent ++ datagram a ra (data_bytes (n + 1) (piece n)) ∷ []) s.address);
        sender = record {
          x = sent_more.0;
          there = set_at w g.mid ks (Open_end s.x) (Open_end sent_more.0) sent_more.2.ends s.there;
          address = sent_more.2.address ∙ s.address;
          phase = sent_more.1;
          file_is = sent_more.2.file ∙ s.file_is;
          mode_is = sent_more.2.mode ∙ s.mode_is;
        };
        receiver = receiver_stays reads w g.mid n (Open_end sent_more.0) sent_more.2.ends r;
      }

    -- or all was sent
    module _ (last : n ≡ blocks) (r : HasAllAt w) where
      sends_none : datagram_action s.x.state ra (ack_bytes n) (Some (Ack n)) ≡ Respond Complete
      sends_none = search (rules, from_peer, acked_last, measured)

      is_done : (y : WorldEnd) × IsComplete y × (g.mid.sent ≡ w.sent ++ []) × (g.mid.ends ≡ slice_set w.ends ks y)
      is_done = handles_last handled_ack (Ack n) ack_spelled sends_none

      pub ack_over : IsOver g.mid ks kr (i + 1)
      ack_over = record {
        x = is_done.0;
        y = r.x;
        x_at = set_at w g.mid ks (Open_end s.x) is_done.0 is_done.3 s.there;
        y_at = stays_at w g.mid ks kr r.x is_done.0 is_done.3 apart r.there;
        x_done = is_done.1;
        y_done = r.complete;
        counted = let e = ap length is_done.2 in let f = length-append w.sent [] in let c = ready.count in
            omega (arith, e, f, c);
      }

  -- ---- the rest of the run
  -- the last ACK
  pub ends_with : (reads : Bool) (i n : ℕ) (w v : WorldState) → n ≡ blocks → AckDue w i n → HasAllAt w →
      (l : IsLeft reads w i v) → Reaches v ks kr i (length l.reports) (0 + 1)
  ends_with reads i n w v last due all left = walks reads w v ks kr i 0 due.ready.count left (λ g.
      ends_here reads g.mid v ks kr (i + 1) (ack_over reads w v i n due (omega (arith, last)) g last all) g.left)

  -- an ACK before the last, and then the next DATA
  acks : (reads : Bool) (rest i n : ℕ) (w v : WorldState) → n < blocks → AckDue w i n → AwaitsAt reads w n →
      (l : IsLeft reads w i v) →
      ((u : WorldState) (m : IsLeft reads u (i + 1) v) → DataDue reads u (i + 1) n →
      Reaches v ks kr (i + 1) (length m.reports) rest) → Reaches v ks kr i (length l.reports) (rest + 1)
  acks reads rest i n w v more due r left then_on = walks reads w v ks kr i rest due.ready.count left (λ g.
      then_on g.mid g.left (ack_then reads w v i n due (omega (arith, more)) g more r))

  -- from DATA n + 1 on, after which m blocks are left
  pub from_data : (reads : Bool) (m i n : ℕ) (w v : WorldState) → n + 1 + m ≡ blocks → DataDue reads w i n →
      (l : IsLeft reads w i v) → Reaches v ks kr i (length l.reports) (2 + 2 * m)
  from_data reads zero i n w v is due left =
      let within : n + 1 ≤ blocks = omega (arith, is) in
      let last : n + 1 ≡ blocks = omega (arith, is) in
      let count : 0 + 1 + 1 ≡ 2 + 2 * 0 = omega arith in
      subst (λ (c : ℕ). Reaches v ks kr i (length left.reports) c) count
      (walks reads w v ks kr i (0 + 1) due.ready.count left (λ g.
      ends_with reads (i + 1) (n + 1) g.mid v last (data_then reads w v i n due within g)
      (data_all reads w v i n due within g last) g.left))
  from_data reads (suc m) i n w v is due left =
      let within : n + 1 ≤ blocks = omega (arith, is) in
      let more : n + 1 < blocks = omega (arith, is) in
      let rest : n + 1 + 1 + m ≡ blocks = omega (arith, is) in
      let count : 2 + 2 * m + 1 + 1 ≡ 2 + 2 * suc m = omega arith in
      subst (λ (c : ℕ). Reaches v ks kr i (length left.reports) c) count
      (walks reads w v ks kr i (2 + 2 * m + 1) due.ready.count left (λ g.
      acks reads (2 + 2 * m) (i + 1) (n + 1) g.mid v more (data_then reads w v i n due within g)
      (data_receiver reads w v i n due within g more) g.left
      (λ u l next. from_data reads m (i + 1 + 1) (n + 1) u v rest next l)))

  -- from the ACK before it on
  pub from_ack : (reads : Bool) (m i n : ℕ) (w v : WorldState) → n + 1 + m ≡ blocks → AckDue w i n →
      AwaitsAt reads w n → (l : IsLeft reads w i v) → Reaches v ks kr i (length l.reports) (2 + 2 * m + 1)
  from_ack reads m i n w v is due r left = acks reads (2 + 2 * m) i n w v (omega (arith, is)) due r left
      (λ u l next. from_data reads m (i + 1) n u v is next l)
