-- A read and a write recover whose client has no peer yet: the first datagram of the server arrives.
-- For the law a_transfer_recovers.
use Rattle.tftp_player.proofs.Common.{size, length, take, block, drop, datagram, rules, ℕ, ◌≡◌, List, Some, refl, ◌∙◌}
use Rattle.tftp_player.proofs.Common.{true, false, Bool, arith, slice_get, [], None, ◌+◌, inr, ◌≤◌, inl, ◌++◌}
use Rattle.tftp_player.proofs.Common.{if◌then◌else◌, not, ◌*◌, Ok, Result, ◌-◌, Err, true≢false, cases_eq, cases_Bool}
use Rattle.tftp_player.proofs.Common.{common_steps, same_Some, Spells, Mode, RawOption, Packet, Oack, Data, Ack, Known}
use Rattle.tftp_player.proofs.Common.{DEFAULT_BLOCK, Refusal, block_count, wire_text, datagram_action, packet_action}
use Rattle.tftp_player.proofs.Common.{is_sender, is_complete, next_action, receiver_action, ack_bytes, data_bytes}
use Rattle.tftp_player.proofs.Common.{default_terms, agreed_terms, writer_action, accept_action, begin_action}
use Rattle.tftp_player.proofs.Common.{begin_with_action, reader_action, Action, Respond, Send, Store, Accept, Receiving}
use Rattle.tftp_player.proofs.Common.{Waiting, Sending, Terms, taken_oack, PhaseKept, HeldBackFits, IsUnderWay}
use Rattle.tftp_player.proofs.Common.{two_hosts, Endpoint, peer_of, goes_on, left_to_add, AllTaken, WorldState}
use Rattle.tftp_player.proofs.Common.{Open_end, agreement, ap, subst, sym, TakesPeer}
use Rattle.std.proofs.lemmas.Bool.{le-leb, eqb-true}
use Rattle.tftp_ends.specs.End.{number_of}
use Rattle.tftp_ends.specs.Waiting.{no_answer}
use Rattle.tftp_negotiate.specs.declared.known.Kind.TheVariants as kinds
use Rattle.tftp_player.specs.Recovering.{ReadsRecover, WritesRecover}
use Rattle.tftp_player.proofs.AnsweringEnds.{Meeting, sides, kept_y, none_y, server_x, client_x, first_y, away}
use Rattle.tftp_player.proofs.AnsweringEnds.{waiting_does, says, handled, met, ready_again, meets_again, accepts}
use Rattle.tftp_player.proofs.AnsweringEnds.{reached_ok, refused_takes_none, none_taken, reads_as, writes_as}
use Rattle.tftp_player.proofs.RecoveringRuns.{willing_still}
use Rattle.tftp_player.proofs.RunsLeft.{IsWilling, IsLeft, Reaches, walks}
use Rattle.tftp_player.proofs.StraightActions.{data_next}
use Rattle.tftp_player.proofs.StraightRuns.{IsReady, stays_at, set_at, ready_next, Transfer, SendsAt, AwaitsAt, AckDue}
use Rattle.tftp_player.proofs.StraightRuns.{fit_of, next_is_stored, awaits_now, from_ack, from_data}
use Rattle.tftp_player.proofs.StraightSteps.{handles_oack, handles_send}
use Rattle.tftp_player.proofs.WorldFacts.{Peers, holds, match_x, match_y, mode_same, near, own_y, pair, party, peer_x}
use Rattle.tftp_player.proofs.WorldFacts.{phase_kept, size_in, text_had, text_sent}
use Rattle.tftp_player.proofs.SentAgain.{MaySendAgain}
use Rattle.std.proofs.Common.{◌==◌}

-- ---- a read
accepted : (from : Endpoint) (r : Result (List Known) Refusal) → TakesPeer (accept_action from r) →
    (taken : List Known) × (r ≡ Ok taken)
accepted from (Ok taken) t = (taken, refl)
accepted from (Err refusal) t = absurd (refused_takes_none refusal t)

module _ (p : Meeting) (new : WorldState) (i : ℕ) (bytes_now : List ℕ)
    (ready : IsReady p.w i (datagram p.x.address p.y.address bytes_now)) where
  open p use {w, ok, one, other, x, y, asked, limit, server_at, client_at, to_client, waits}

  abbrev sa : Endpoint
  sa = x.address

  abbrev ra : Endpoint
  ra = y.address

  abbrev q : Peers
  q = sides p

  module _ (st : Terms) (n : ℕ) (is : x.state.position.phase ≡ Sending st n) (reads : Bool)
      (willing : IsWilling reads y) (left : IsLeft reads w i new) where
    way : IsUnderWay x st n
    way = phase_kept w ok one x (Sending st n) server_at is

    sends_x : (party w ok sa).sender ≡ true
    sends_x = (match_x q).sender ∙ way.sender

    takes_y : (party w ok ra).sender ≡ false
    takes_y = (pair q).sender ∙ ap not sends_x

    receives : is_sender y.state.role.side ≡ false
    receives = sym (match_y q).sender ∙ takes_y

    number_x : (party w ok sa).number ≡ n
    number_x = (match_x q).number ∙ ap number_of is

    size_x : (party w ok sa).size ≡ st.size
    size_x = size_in w ok one x (Sending st n) server_at is

    few : n ≤ 1
    few =
        let h = (near w ok sa (match_x q).is_open).sends sends_x ra (peer_x q) (own_y q) in
        let c = number_x in let z = (first_y p).0 in omega (arith, h, c, z)

    -- one that was opened with options has sent no block
    none_by_oack : (party w ok sa).plain ≡ false → n ≡ 0
    none_by_oack plain = elim (cases_eq n 0) [
      | inl z ↦ z
      | inr d ↦ absurd
          (let c = number_x in
          let one_at_least : 1 ≤ (party w ok sa).number = omega (arith, d, c) in
          let back =
          ((holds w ok).ends sa (match_x q).is_open).begun (server_x p) sends_x plain one_at_least ra (peer_x q)
          (own_y q) in
          let f : None ≡ Some sa = sym (none_y p) ∙ back in cc)
    ]

    abbrev text_now : List ℕ
    text_now = wire_text x.state.role.mode x.file

    text_x : (party w ok sa).text ≡ text_now
    text_x = text_sent w ok one x server_at way.sender ∙ (ok.ends one (Open_end x) server_at).text

    has_none : wire_text y.state.role.mode y.stored ++ y.state.position.held_back ≡ take (0 * st.size) text_now
    has_none =
        sym (text_had w ok other y client_at receives (ap is_complete waits) (ap goes_on waits))
        ∙ ((first_y p).2 takes_y ∙ none_taken st.size text_now)

    holds_y : HeldBackFits y.state.role.mode y.state.position.held_back
    holds_y = (ok.ends other (Open_end y) client_at).stands.kept.held_back

    abbrev Recovers : Type 0
    Recovers = Reaches new one other i (length left.reports) (left_to_add x st n)

    count_is : block_count x.text st.size ≡ block_count text_now st.size
    count_is = ap (λ (t : List ℕ). block_count t st.size) (ok.ends one (Open_end x) server_at).text

    abbrev reads_by : Packet → Action
    reads_by r = reader_action y.state.role.mode asked limit sa (Some r)

    read_as : (r : Packet) → packet_action y.state sa (Some r) (Waiting asked limit) ≡ reads_by r
    read_as r = reads_as y.state asked limit sa r receives

    -- the transfer with these terms of the client
    module _ (rt : Terms) (rp : rt.peer ≡ sa) (same : rt.size ≡ st.size) where
      abbrev transfer : Transfer
      transfer = record {
        ks = one;
        kr = other;
        apart = away p;
        sa = sa;
        ra = ra;
        st = st;
        rt = rt;
        mode = x.state.role.mode;
        file = x.file;
        sender_peer = same_Some st.peer ra (sym (ap peer_of is) ∙ to_client);
        receiver_peer = rp;
        same_size = same;
      }

      sender_in : (v : WorldState) (k : ℕ) → n ≡ k → slice_get v.ends one ≡ Some (Open_end x) → SendsAt transfer v k
      sender_in v k number there = record {
        x = x;
        there = there;
        address = refl;
        phase = is ∙ ap (Sending st) number;
        file_is = refl;
        mode_is = refl;
      }

    -- by DATA 1
    pub by_data : (k : ℕ) (piece : List ℕ) → Spells (Data k piece) bytes_now → Recovers
    by_data k piece spelled =
        let t = says p i bytes_now ready (Data k piece) spelled in
        let c = number_x in
        let lowest = t.first in
        let most = t.number in
        let all_few = few in
        let number : n ≡ 1 = omega (arith, lowest, most, c, all_few) in
        let k_is : k ≡ 1 = omega (arith, lowest, most, c, number) in
        let plain : (party w ok sa).plain ≡ true =
        elim (cases_Bool (party w ok sa).plain) [
          | inl h ↦ h
          | inr h ↦ absurd (let z = none_by_oack h in omega (arith, z, number))
        ] in
        let rt = default_terms sa in
        let same : rt.size ≡ st.size =
        sym (((holds w ok).ends sa (match_x q).is_open).plain (server_x p) plain) ∙ size_x in
        let sender = sender_in rt refl same w (0 + 1) number server_at in
        let fit = fit_of (transfer rt refl same) w (0 + 1) ok sender in
        let first : 0 + 1 ≤ block_count text_now st.size = omega arith in
        let own : List ℕ = block text_now st.size (0 + 1) in
        let within : length own ≤ DEFAULT_BLOCK = grind (arith, common_steps) in
        let piece_is : piece ≡ own =
        t.bytes ∙ (ap (λ (j : ℕ). block (party w ok sa).text j k) size_x ∙ (ap (λ (b : List ℕ). block b st.size k)
        text_x ∙ ap (block text_now st.size) k_is)) in
        let spelled_own : Spells (Data 1 own) bytes_now =
        subst (λ (b : List ℕ). Spells (Data 1 b) bytes_now) piece_is (subst (λ (j : ℕ). Spells (Data j piece) bytes_now)
        k_is spelled) in
        let bytes_are : bytes_now ≡ data_bytes (0 + 1) own = spelled_own.whole in
        let does : datagram_action y.state sa (data_bytes (0 + 1) own) (Some (Data 1 own)) ≡ Store rt 1 =
        waiting_does p (data_bytes (0 + 1) own) (Data 1 own) ∙ (read_as (Data 1 own) ∙ (ap (λ (b : Bool). if b then
        receiver_action true y.state.role.mode [] rt 0 (Some (Data 1 own)) else no_answer) (le-leb (length own)
        DEFAULT_BLOCK within) ∙ (data_next y.state.role.mode [] rt 0 own ∙ (ap (λ (h : List ℕ). next_action
        y.state.role.mode h rt (0 + 1) own) (sym ((kept_y p).4 receives)) ∙ next_is_stored (transfer rt refl same) y 0
        fit first (mode_same q) has_none)))) in
        let receiver : AwaitsAt (transfer rt refl same) reads w 0 =
        record {
          x = y;
          there = client_at;
          address = refl;
          receiver = receives;
          willing = willing;
          mode_is = mode_same q;
          received = has_none;
          holds = holds_y;
          stores = does;
        } in
        let blocks = count_is in
        let rest = block_count text_now st.size - 1 in
        let counted : 0 + 1 + rest ≡ block_count text_now st.size = omega (arith, first) in
        let total : 2 + 2 * rest ≡ 2 + 2 * (block_count x.text st.size - n) = omega (arith, blocks, number) in
        subst (λ (j : ℕ). Reaches new one other i (length left.reports) j) total (from_data (transfer rt refl same)
        reads rest i 0 w new counted (record {
          ready = subst (λ (b : List ℕ). IsReady w i (datagram sa ra b)) bytes_are ready;
          sender = sender;
          receiver = receiver;
        }) left)

    -- by an OACK
    pub by_oack : (options : List RawOption) → Spells (Oack options) bytes_now →
        TakesPeer (accept_action sa (agreement asked kinds.Read y.state.role.mode options limit)) → Recovers
    by_oack options spelled takes =
        let t = says p i bytes_now ready (Oack options) spelled in
        let number : n ≡ 0 = none_by_oack t.plain in
        let taken = accepted sa (agreement asked kinds.Read y.state.role.mode options limit) takes in
        let rt = agreed_terms sa taken.0 in
        let same : rt.size ≡ st.size =
        sym (taken_oack asked kinds.Read y.state.role.mode options limit taken.0 taken.1) ∙ (sym t.size ∙ size_x) in
        let does : datagram_action y.state sa bytes_now (Some (Oack options)) ≡ Respond (Accept rt) =
        waiting_does p bytes_now (Oack options) ∙ (read_as (Oack options) ∙ ap (accept_action sa) taken.1) in
        let first : 0 + 1 ≤ block_count text_now st.size = omega arith in
        let rest = block_count text_now st.size - 1 in
        let counted : 0 + 1 + rest ≡ block_count text_now st.size = omega (arith, first) in
        let blocks = count_is in
        let total : 2 + 2 * rest + 1 + 1 ≡ 2 + 2 * (block_count x.text st.size - n) = omega (arith, blocks, number)
        in
        subst (λ (j : ℕ). Reaches new one other i (length left.reports) j) total
        (walks reads w new one other i (2 + 2 * rest + 1) ready.count left (λ g.
        let z = handles_oack (handled p i bytes_now ready reads new g) (Oack options) rt spelled does in
        let due : AckDue (transfer rt refl same) g.mid (i + 1) 0 = record {
          ready = ready_next w g.mid i (datagram sa ra bytes_now) (datagram ra sa (ack_bytes 0)) g.report ready g.step
              z.4.sent;
          sender = sender_in rt refl same g.mid 0 number
              (stays_at w g.mid other one (Open_end x) (Open_end z.0) z.4.ends (λ e. away p (sym e)) server_at);
        } in
        let receiver =
        awaits_now (transfer rt refl same) reads g.mid z.0 0 (fit_of (transfer rt refl same) g.mid 0 due.ready.ok
        due.sender) first (set_at w g.mid other (Open_end y) (Open_end z.0) z.4.ends client_at) z.4.address z.1
        (ap is_sender z.4.side ∙ receives) (willing_still reads y z.0 willing z.4.side z.5) (z.4.mode ∙ mode_same q)
        (ap (λ (m : Mode). wire_text m z.0.stored ++ z.0.state.position.held_back) z.4.mode
        ∙ (ap (λ (b : List ℕ). wire_text y.state.role.mode b ++ z.0.state.position.held_back) z.2
        ∙ (ap (λ (b : List ℕ). wire_text y.state.role.mode y.stored ++ b) z.3 ∙ has_none)))
        (subst (λ (m : Mode). HeldBackFits m z.0.state.position.held_back) (sym z.4.mode)
        (subst (λ (b : List ℕ). HeldBackFits y.state.role.mode b) (sym z.3) holds_y)) in
        from_ack (transfer rt refl same) reads rest (i + 1) 0 g.mid new counted due receiver g.left))

    reads_so : (r : Packet) → Spells r bytes_now → TakesPeer (reads_by r) → Recovers
    reads_so (Data k piece) s takes = by_data k piece s
    reads_so (Oack options) s takes = by_oack options s takes
    reads_so r s takes = absurd takes

    -- by each first datagram of a server that sends
    pub read_recovers : (r : Packet) → Spells r bytes_now →
        TakesPeer (packet_action y.state sa (Some r) (Waiting asked limit)) → Recovers
    read_recovers r spelled takes = reads_so r spelled (subst TakesPeer (read_as r) takes)

  -- ---- a write
  module _ (rt : Terms) (n : ℕ) (is : x.state.position.phase ≡ Receiving rt n) (left : IsLeft false w i new) where
    kept_x : PhaseKept two_hosts x (Receiving rt n)
    kept_x = phase_kept w ok one x (Receiving rt n) server_at is

    receives_x : (party w ok sa).sender ≡ false
    receives_x = (match_x q).sender ∙ kept_x.0

    -- the client sends
    pub sends_y : is_sender y.state.role.side ≡ true
    sends_y = sym (match_y q).sender ∙ ((pair q).sender ∙ ap not receives_x)

    size_of_x : (party w ok sa).size ≡ rt.size
    size_of_x = size_in w ok one x (Receiving rt n) server_at is

    zero_x : (party w ok sa).number ≡ 0
    zero_x =
        let h = (near w ok sa (match_x q).is_open).stores receives_x ra (peer_x q) (own_y q) in
        let z = (first_y p).0 in omega (arith, h, z)

    zero_now : n ≡ 0
    zero_now = sym (ap number_of is) ∙ (sym (match_x q).number ∙ zero_x)

    abbrev written : List ℕ
    written = wire_text y.state.role.mode y.file

    written_is : y.text ≡ written
    written_is = (ok.ends other (Open_end y) client_at).text

    x_has_none : (size : ℕ) →
        wire_text x.state.role.mode x.stored ++ x.state.position.held_back ≡ take (0 * size) written
    x_has_none size =
        let own = text_had w ok one x server_at kept_x.0 (ap is_complete is) (ap goes_on is) in
        let has = ((holds w ok).ends sa (match_x q).is_open).received receives_x ra (peer_x q) (own_y q) in
        let nothing : (party w ok sa).number * (party w ok sa).size ≡ 0 =
        ap (λ (k : ℕ). k * (party w ok sa).size) zero_x ∙ (let z : 0 * (party w ok sa).size ≡ 0 = omega arith in z) in
        search rules

    abbrev Writes : Type 0
    Writes = Reaches new other one i (length left.reports) (1 + 2 * block_count y.text rt.size)

    abbrev writes_by : Packet → Action
    writes_by r = writer_action y.state.role.mode asked limit y.state.role.length sa (Some r)

    written_as : (r : Packet) → packet_action y.state sa (Some r) (Waiting asked limit) ≡ writes_by r
    written_as r = writes_as y.state asked limit sa r sends_y

    -- the client sends DATA 1 by these terms
    begins : (r : Packet) (st : Terms) → Spells r bytes_now →
        datagram_action y.state sa bytes_now (Some r) ≡ Send st 1 → st.peer ≡ sa → rt.size ≡ st.size → Writes
    begins r st spelled does sp same =
        let t : Transfer = record {
          ks = other;
          kr = one;
          apart = λ e. away p (sym e);
          sa = ra;
          ra = sa;
          st = st;
          rt = rt;
          mode = y.state.role.mode;
          file = y.file;
          sender_peer = sp;
          receiver_peer = same_Some rt.peer ra (sym (ap peer_of is) ∙ to_client);
          same_size = same;
        } in
        let remaining_is : y.left ≡ drop (0 * st.size) written =
        (kept_y p).3 ∙ (written_is ∙ ap (λ (k : ℕ). drop k written) (let z : 0 ≡ 0 * st.size = omega arith in z)) in
        let blocks = block_count written st.size in
        let first : 0 + 1 ≤ blocks = omega arith in
        let rest = blocks - 1 in
        let counted : 0 + 1 + rest ≡ blocks = omega (arith, first) in
        let same_blocks : block_count y.text rt.size ≡ blocks =
        ap (λ (b : List ℕ). block_count b rt.size) written_is ∙ ap (block_count written) same in
        let total : 2 + 2 * rest + 1 ≡ 1 + 2 * block_count y.text rt.size = omega (arith, counted, same_blocks) in
        subst (λ (j : ℕ). Reaches new other one i (length left.reports) j) total (walks false w new other one i (2 + 2 *
        rest) ready.count left (λ g.
        let z = handles_send (handled p i bytes_now ready false new g) r st 0 written spelled does sends_y
        ((kept_y p).5 sends_y ∙ ap length written_is) remaining_is in
        let next = ready_next w g.mid i (datagram sa ra bytes_now) _ g.report ready g.step z.2.sent in
        let sender : SendsAt t g.mid (0 + 1) = record {
          x = z.0;
          there = set_at w g.mid other (Open_end y) (Open_end z.0) z.2.ends client_at;
          address = z.2.address;
          phase = z.1;
          file_is = z.2.file;
          mode_is = z.2.mode;
        } in
        let receiver =
        awaits_now t false g.mid x 0 (fit_of t g.mid (0 + 1) next.ok sender) first (stays_at w g.mid other one
        (Open_end x) (Open_end z.0) z.2.ends (λ e. away p (sym e)) server_at) refl (is ∙ ap (Receiving rt) zero_now)
        kept_x.0 tt (sym (mode_same q)) (x_has_none st.size) (ok.ends one (Open_end x) server_at).stands.kept.held_back
        in
        from_data t false rest (i + 1) 0 g.mid new counted
        (record { ready = next; sender = sender; receiver = receiver }) g.left))

    begins_as : (terms : Terms) → TakesPeer (begin_action y.state.role.length terms) →
        begin_action y.state.role.length terms ≡ Send terms 1
    begins_as terms takes = search rules

    begun_with : (count : ℕ) (r : Result (List Known) Refusal) → TakesPeer (begin_with_action sa count r) →
        (taken : List Known) × (r ≡ Ok taken) × TakesPeer (begin_action count (agreed_terms sa taken))
    begun_with count r t = search rules

    taken_if : (b : Bool) (action : Action) → TakesPeer (if b then action else no_answer) →
        (b ≡ true) × TakesPeer action
    taken_if true action t = (refl, t)
    taken_if false action t = absurd t

    by_ack : (k : ℕ) → Spells (Ack k) bytes_now → TakesPeer (writes_by (Ack k)) → Writes
    by_ack k spelled takes =
        let t = says p i bytes_now ready (Ack k) spelled in
        let st = default_terms sa in
        let h = taken_if (k == 0) (begin_action y.state.role.length st) takes in
        let plain = t.plain (eqb-true k 0 h.0) (server_x p) in
        let small = sym size_of_x ∙ ((holds w ok).ends sa (match_x q).is_open).plain (server_x p) plain in
        begins (Ack k) st spelled (waiting_does p bytes_now (Ack k) ∙ (written_as (Ack k) ∙ (ap (λ (b : Bool). if b
        then begin_action y.state.role.length st else no_answer) h.0 ∙ begins_as st h.1))) refl small

    oack_begins : (options : List RawOption) → Spells (Oack options) bytes_now → TakesPeer (writes_by (Oack options)) →
        Writes
    oack_begins options spelled takes =
        let t = says p i bytes_now ready (Oack options) spelled in
        let r = agreement asked kinds.Write y.state.role.mode options limit in
        let h = begun_with y.state.role.length r takes in
        let st = agreed_terms sa h.0 in
        let same : rt.size ≡ st.size = search (rules, size_of_x, taken_oack) in
        begins (Oack options) st spelled (waiting_does p bytes_now (Oack options) ∙ (written_as (Oack options) ∙
        (ap (begin_with_action sa y.state.role.length) h.1 ∙ begins_as st h.2))) refl same

    -- by a packet that the client takes
    pub writes : (r : Packet) → Spells r bytes_now → TakesPeer (writes_by r) → Writes
    writes (Ack k) s takes = by_ack k s takes
    writes (Oack options) s takes = oack_begins options s takes
    writes r s takes = absurd takes

    -- by each first datagram of a server that receives
    pub write_recovers : (r : Packet) → Spells r bytes_now →
        TakesPeer (packet_action y.state sa (Some r) (Waiting asked limit)) → Writes
    write_recovers r spelled takes = writes r spelled (subst TakesPeer (written_as r) takes)

-- so a read recovers
pub reads_recover : ReadsRecover
reads_recover w new one other x y asked limit terms number reached a is run =
    let p = met w (reached_ok w reached) one other x y asked limit a in
    let may = subst MaySendAgain (sym is) tt in
    let peer = same_Some terms.peer y.address (sym (ap peer_of is) ∙ a.to_client) in
    let to = (phase_kept w p.ok one x (Sending terms number) a.server_at is).last_sent_to ∙ peer in
    let ready = ready_again p new y run may to in
    let takes = accepts p new y run may to a.takes in
    let r : Reaches new one other (length w.sent) (length run.reports) (left_to_add x terms number) = elim run.taken [
      | inl t ↦ read_recovers (meets_again p new y run may to) new (length w.sent) x.state.position.last_sent ready
          terms number is false tt (record { reports = run.reports; settles = run.settles; taken = t }) takes.0 takes.1
          takes.2
      | inr h ↦ read_recovers (meets_again p new y run may to) new (length w.sent) x.state.position.last_sent ready
          terms number is true h (record { reports = run.reports; settles = run.settles; taken = tt }) takes.0 takes.1
          takes.2
    ] in
    search rules

-- and a write
pub writes_recover : WritesRecover
writes_recover w new one other x y asked limit terms number reached a is run =
    let p = met w (reached_ok w reached) one other x y asked limit a in
    let may = subst MaySendAgain (sym is) tt in
    let peer = same_Some terms.peer y.address (sym (ap peer_of is) ∙ a.to_client) in
    let to = (phase_kept w p.ok one x (Receiving terms number) a.server_at is).1 ∙ peer in
    let takes = accepts p new x run may to a.takes in
    let taken : AllTaken run.reports = elim run.taken [
      | inl t ↦ t
      | inr h ↦ absurd (true≢false (sym h.0 ∙ client_x p))
    ] in
    let r =
    write_recovers (meets_again p new x run may to) new (length w.sent) x.state.position.last_sent
    (ready_again p new x run may to) terms number is
    (record { reports = run.reports; settles = run.settles; taken = taken }) takes.0 takes.1 takes.2 in
    search rules
