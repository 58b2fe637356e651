-- The delivery of a datagram at the open end that it is for, if that sends, stores or is complete. For twelve other
-- files.
use Rattle.tftp_player.proofs.Common.{◌≡◌, ℕ, ◌+◌, ◌*◌, Bool, true, false, List, [], ◌∷◌, ◌++◌, length, drop, Some}
use Rattle.tftp_player.proofs.Common.{Result, Ok, Err, refl, sym, ap, ◌∙◌, subst, arith, inl, inr, rules, ◌≢◌}
use Rattle.tftp_player.proofs.Common.{if◌then◌else◌, nat_lt, slice_get, slice_set, true≢false, same_Some, Packet, Data}
use Rattle.tftp_player.proofs.Common.{Spells, decoded_is, memory_source, block, wire_text, Holding, StoreFault, Files}
use Rattle.tftp_player.proofs.Common.{Source, Sink, Action, Respond, Send, Store, Accept, Complete, ErrorReply}
use Rattle.tftp_player.proofs.Common.{DiskFull, Fresh, Phase, Sending, Receiving, Dallying, Terms, EndState, is_sender}
use Rattle.tftp_player.proofs.Common.{is_client, outcome_of, datagram_action, Turn, Done, Acts, Appended, GoesOn}
use Rattle.tftp_player.proofs.Common.{response_turn, sent_turn, refused_turn, committed_turn, commit_reply, holding}
use Rattle.tftp_player.proofs.Common.{ack_bytes, data_bytes, after_turn, Endpoint, OpenEnd, holding_of, files_of}
use Rattle.tftp_player.proofs.Common.{end_after, HeldBackFits, TookAll, WorldState, file_at, in_the_way, is_closed}
use Rattle.tftp_player.proofs.Common.{datagram, replied, standing, WorldEnd, Open_end, Closed_end, end_address}
use Rattle.tftp_player.proofs.Common.{HasPorts, IsComplete, may_refuse_commit, OnDatagram, Delivery, At_request_port}
use Rattle.tftp_player.proofs.Common.{At_open_end, At_closed_end, At_nobody, WorldStep, world_sink, Datagram, Deliver}
use Rattle.tftp_player.proofs.Common.{Report, Decoded, in_state, Kept_all, kept_by, closed_at, StepAt}
use Rattle.tftp_file.specs.declared.fault.StoreFault.TheVariants as faults
use Rattle.tftp_ends.specs.declared.outcome.Outcome.TheVariants as outcomes
use Rattle.tftp_ends.specs.Step.{Stores, StoresIn}
use Rattle.tftp_rules.specs.OpenEnds.{with_files}
use Rattle.tftp_rules.proofs.SinkMoves.{Took, All_of_it, Some_of_it, took, For_good, Not_yet, stores_in, goes_on_with}
use Rattle.tftp_rules.proofs.SinkMoves.{held_fits}
use Rattle.tftp_rules.proofs.SourceMoves.{BlockSent, sends_from, block_sent}
use Rattle.tftp_rules.proofs.SaidLemmas.{data_of}
use Rattle.tftp_rules.proofs.StoredTexts.{stored_more}

-- a delivery at an open end is this turn of it
pub record Handles (w : WorldState) (k : ℕ) (x : OpenEnd) (from : Endpoint) (bytes : List ℕ) (report : Report)
    (v : WorldState) : Type 0 where
  pub turn : Turn
  pub held : Files (List ℕ) Holding
  pub steps : StepAt w x from bytes turn held
  pub sent : v.sent ≡ w.sent ++ replied x.address turn.reply
  pub ends : v.ends ≡ slice_set w.ends k (standing (end_after x turn held))
  pub closed : report.closed ≡ closed_at x.address (outcome_of turn.position.phase)

-- two ends at one address are one
same_end : (w : WorldState) (k j : ℕ) (x y : WorldEnd) → HasPorts w → slice_get w.ends k ≡ Some x →
    slice_get w.ends j ≡ Some y → end_address y ≡ end_address x → (j ≡ k) × (y ≡ x)
same_end w k j x y ports here there same = search rules

module _ (w v : WorldState) (k : ℕ) (x : OpenEnd) (from : Endpoint) (bytes : List ℕ) (report : Report)
    (ports : HasPorts w) (there : slice_get w.ends k ≡ Some (Open_end x)) where
  handled : OnDatagram w k x from bytes report v → Handles w k x from bytes report v
  handled h = search rules

  arrived : Delivery w from x.address bytes report v → Handles w k x from bytes report v
  arrived (At_request_port here port decoded says repeated same served) =
      absurd (let a = ports k (Open_end x) there in let b = ap (λ (p : Endpoint). p.port) here in omega (arith, a, b))
  arrived (At_open_end j y at here h) =
      let e = same_end w k j (Open_end x) (Open_end y) ports there at here in
      let same : y ≡ x = (let f : Open_end y ≡ Open_end x = e.1 in cc) in
      handled
      (subst (λ (z : OpenEnd). OnDatagram w k z from bytes report v) same
      (subst (λ (i : ℕ). OnDatagram w i y from bytes report v) e.0 h))
  arrived (At_closed_end j y at here s) =
      let e = same_end w k j (Open_end x) (Closed_end y) ports there at here in
      absurd (true≢false (ap is_closed e.1))
  arrived (At_nobody away nobody s) = absurd (nobody k (Open_end x) there refl)

-- a datagram for an open end is handled there
pub delivered : (w v : WorldState) (i k : ℕ) (x : OpenEnd) (from : Endpoint) (bytes : List ℕ) (report : Report) →
    HasPorts w →
    slice_get w.sent i ≡ Some (datagram from x.address bytes) → slice_get w.ends k ≡ Some (Open_end x) →
    WorldStep w (Deliver i) report v → Handles w k x from bytes report v
delivered w v i k x from bytes report ports sent there s =
    let d = s.0 in
    let same : d ≡ datagram from x.address bytes = same_Some d (datagram from x.address bytes) (sym s.1 ∙ sent) in
    arrived w v k x from bytes report ports there
    (subst (λ (z : Datagram). Delivery w z.from z.to z.bytes report v) same s.2)

-- an end with the files that it has is itself
pub same_with : (b : Bool) (z : OpenEnd) → with_files z (if b then Source z.left else Sink (holding_of z)) ≡ z
same_with true z = refl
same_with false z = refl

-- a receiver that stored a block, by whether it is the last
abbrev pub stored_phase : Terms → ℕ → Bool → Phase
stored_phase terms number true = Dallying terms number Fresh
stored_phase terms number false = Receiving terms number

-- ---- a client that was not set to refuse
-- a sink was set to refuse its next call
abbrev pub is_armed : Files (List ℕ) Holding → Bool
is_armed (Source left) = false
is_armed (Sink holding) = holding.refuses

-- its sink accepts what is appended, and is not set to refuse then
piece_taken :
    (before after : Holding) (bytes : List ℕ) (answer : Result Done StoreFault)
    (refuses_commit : Holding → StoreFault → Type 0) → before.refuses ≡ false →
    Appended (world_sink refuses_commit) bytes before after answer → answer ≢ Err faults.Memory →
    (answer ≡ Ok tt) × (after.refuses ≡ false)
piece_taken before after h2 answer refuses_commit unarmed h memory = search rules

module _ {w v : WorldState} {k : ℕ} {x : OpenEnd} {from : Endpoint} {bytes : List ℕ} {report : Report}
    (h : Handles w k x from bytes report v) where
  abbrev refuses_commit : Holding → StoreFault → Type 0
  refuses_commit = may_refuse_commit (is_client x.state.role.side) (in_the_way w.overwrite (file_at w.files x.path))

  abbrev Acts_at : Action → Type 0
  Acts_at action =
      Acts memory_source (world_sink refuses_commit) action from bytes x.state (files_of x) h.turn h.held

  -- what is decoded of the datagram
  pub decoded_as : (packet : Packet) (action : Action) → Spells packet bytes →
      datagram_action x.state from bytes (Some packet) ≡ action →
      datagram_action x.state from bytes h.steps.decoded ≡ action
  decoded_as packet action spelled is =
      ap (datagram_action x.state from bytes) (decoded_is bytes packet h.steps.decoded spelled h.steps.says) ∙ is

  pub acts_as : (packet : Packet) (action : Action) → Spells packet bytes →
      datagram_action x.state from bytes (Some packet) ≡ action → Acts_at action
  acts_as packet action spelled is = subst Acts_at (decoded_as packet action spelled is) h.steps.acts

  -- what was sent, and the ends, by the turn
  pub sent_by : (turn : Turn) → h.turn ≡ turn → v.sent ≡ w.sent ++ replied x.address turn.reply
  sent_by turn is = h.sent ∙ ap (λ (t : Turn). w.sent ++ replied x.address t.reply) is

  pub ends_by : (turn : Turn) (held : Files (List ℕ) Holding) → h.turn ≡ turn → h.held ≡ held →
      v.ends ≡ slice_set w.ends k (standing (end_after x turn held))
  ends_by turn held is same =
      h.ends
      ∙ (ap (λ (t : Turn). slice_set w.ends k (standing (end_after x t h.held))) is
      ∙ ap (λ (fs : Files (List ℕ) Holding). slice_set w.ends k (standing (end_after x turn fs))) same)

  -- the end became y, and sent this
  pub record Becomes (y : OpenEnd) (said : List Datagram) : Type 0 where
    pub sent : v.sent ≡ w.sent ++ said
    pub ends : v.ends ≡ slice_set w.ends k (Open_end y)
    pub address : y.address ≡ x.address
    pub file : y.file ≡ x.file
    pub mode : y.state.role.mode ≡ x.state.role.mode
    pub side : y.state.role.side ≡ x.state.role.side

  turned : (turn : Turn) (held : Files (List ℕ) Holding) → h.turn ≡ turn → h.held ≡ held →
      standing (end_after x turn held) ≡ Open_end (end_after x turn held) →
      Becomes (end_after x turn held) (replied x.address turn.reply)
  turned turn held is same stays = record {
    sent = sent_by turn is;
    ends = ends_by turn held is same ∙ ap (slice_set w.ends k) stays;
    address = refl;
    file = refl;
    mode = refl;
    side = refl;
  }

  -- ---- a sender sends
  -- a sender that is to send its next block does
  pub handles_send : (packet : Packet) (terms : Terms) (n : ℕ) (text : List ℕ) → Spells packet bytes →
      datagram_action x.state from bytes (Some packet) ≡ Send terms (n + 1) →
      is_sender x.state.role.side ≡ true → x.state.role.length ≡ length text → x.left ≡ drop (n * terms.size) text →
      (y : OpenEnd) × (y.state.position.phase ≡ Sending terms (n + 1))
      × Becomes y (datagram x.address from (data_bytes (n + 1) (block text terms.size (n + 1))) ∷ [])
  handles_send packet terms n text spelled is sender measured left =
      let a = acts_as packet (Send terms (n + 1)) spelled is in
      let f =
      sends_from (is_sender x.state.role.side) sender memory_source (world_sink refuses_commit) terms (n + 1) from
      x.state x.left (holding_of x) h.turn h.held a in
      let b : BlockSent terms n from x.state text h.turn f.0 =
      elim (block_sent memory_source (λ source. refl) terms n from x.state text x.left h.turn f.0 measured left f.2) [
        | inl sent ↦ sent
        | inr failed ↦ absurd failed.may
      ] in
      let turn =
      sent_turn (Sending terms (n + 1)) from (data_bytes (n + 1) (block text terms.size (n + 1))) x.state in
      (end_after x turn (Source f.0), refl, turned turn (Source f.0) b.turn_is f.1 refl)

  -- a sender whose last block is acknowledged completes
  pub handles_last : (packet : Packet) → Spells packet bytes →
      datagram_action x.state from bytes (Some packet) ≡ Respond Complete →
      (y : WorldEnd) × IsComplete y × (v.sent ≡ w.sent ++ []) × (v.ends ≡ slice_set w.ends k y)
  handles_last packet spelled is =
      let a = acts_as packet (Respond Complete) spelled is in
      let turn = response_turn Complete from x.state in
      (standing (end_after x turn (files_of x)), refl, sent_by turn a.0, ends_by turn (files_of x) a.0 a.1)

  -- a reader accepts an OACK
  pub handles_oack : (packet : Packet) (terms : Terms) → Spells packet bytes →
      datagram_action x.state from bytes (Some packet) ≡ Respond (Accept terms) →
      (y : OpenEnd) × (y.state.position.phase ≡ Receiving terms 0) × (y.stored ≡ x.stored)
      × (y.state.position.held_back ≡ x.state.position.held_back) ×
      Becomes y (datagram x.address from (ack_bytes 0) ∷ [])
      × (y.refuses ≡ x.refuses)
  handles_oack packet terms spelled is =
      let a = acts_as packet (Respond (Accept terms)) spelled is in
      let turn = response_turn (Accept terms) from x.state in
      let same = same_with (is_sender x.state.role.side) (in_state (after_turn x.state turn) x) in (
        end_after x turn (files_of x),
        refl,
        ap (λ (z : OpenEnd). z.stored) same,
        refl,
        turned turn (files_of x) a.0 a.1 refl,
        ap (λ (z : OpenEnd). z.refuses) same,
      )

  -- ---- a receiver stores a block that its store accepts
  -- the end has this block and what it had before
  pub record HasStored (terms : Terms) (number : ℕ) (piece : List ℕ) (y : OpenEnd) : Type 0 where
    pub phase : y.state.position.phase ≡ stored_phase terms number (nat_lt (length piece) terms.size)
    pub received : wire_text x.state.role.mode y.stored ++ y.state.position.held_back
        ≡ (wire_text x.state.role.mode x.stored ++ x.state.position.held_back) ++ piece
    pub holds : HeldBackFits x.state.role.mode y.state.position.held_back
    pub armed : y.refuses ≡ is_armed h.held
    pub becomes : Becomes y (datagram x.address from (ack_bytes number) ∷ [])

  -- the effect on its sink
  stores_here : (terms : Terms) (number : ℕ) (piece : List ℕ) → Spells (Data number piece) bytes →
      datagram_action x.state from bytes (Some (Data number piece)) ≡ Store terms number →
      is_sender x.state.role.side ≡ false →
      (sink : Holding) × (h.held ≡ Sink sink)
      × Stores (world_sink refuses_commit) terms number from piece x.state (holding_of x) h.turn sink
  stores_here terms number piece spelled is receiver =
      let a = acts_as (Data number piece) (Store terms number) spelled is in
      let s =
      subst
      (λ (bs : List ℕ).
      StoresIn memory_source (world_sink refuses_commit) terms number from bs x.state (files_of x) h.turn h.held)
      (sym (data_of number a.0 bytes a.1) ∙ data_of number piece bytes spelled) a.2 in
      stores_in (is_sender x.state.role.side) receiver memory_source (world_sink refuses_commit) terms number from piece
      x.state x.left (holding_of x) h.turn h.held s

  -- a client that was not set to refuse stores the block, and is not set to afterwards
  module _ (terms : Terms) (number : ℕ) (piece : List ℕ) (client : is_client x.state.role.side ≡ true) where
    goes_unarmed : (mid sink : Holding) (after : List ℕ) (answer : Result Done StoreFault) (last : Bool) →
        h.held ≡ Sink sink → mid.refuses ≡ false → answer ≡ Ok tt →
        GoesOn (world_sink refuses_commit) terms number from x.state last after mid answer h.turn sink →
        TookAll report.closed × (is_armed h.held ≡ false)
    goes_unarmed mid sink after answer last held unarmed ok g = search rules

    pub takes_data : x.refuses ≡ false → Spells (Data number piece) bytes →
        datagram_action x.state from bytes (Some (Data number piece)) ≡ Store terms number →
        is_sender x.state.role.side ≡ false →
        TookAll report.closed × (is_armed h.held ≡ false)
    takes_data unarmed spelled is receiver =
        let f = stores_here terms number piece spelled is receiver in
        let b = f.2 in
        let p = piece_taken (holding_of x) b.mid b.bytes b.answer refuses_commit unarmed b.appended b.memory in
        goes_unarmed b.mid f.0 b.after b.answer (nat_lt (length piece) terms.size) f.1 p.1 p.0 b.rest

  module _ (terms : Terms) (number : ℕ) (piece : List ℕ)
      (holds : HeldBackFits x.state.role.mode x.state.position.held_back)
      (all : TookAll report.closed) where
    -- no turn is that of a store that refused
    fault_none : (reply : ErrorReply) (e : EndState) → h.turn ≡ refused_turn terms reply outcomes.StoreFault from e → ⊥
    fault_none reply e is = search rules

    -- the turn after a block that was stored, which leaves the end open
    abbrev stored_turn : Bool → List ℕ → Turn
    stored_turn last after = sent_turn (stored_phase terms number last) from (ack_bytes number) (holding after x.state)

    still_open : (last : Bool) (sink : Holding) (after : List ℕ) →
        standing (end_after x (stored_turn last after) (Sink sink))
        ≡ Open_end (end_after x (stored_turn last after) (Sink sink))
    still_open true sink after = refl
    still_open false sink after = refl

    stores_as : (last : Bool) (sink : Holding) (bytes_now after : List ℕ) → nat_lt (length piece) terms.size ≡ last →
        h.turn ≡ stored_turn last after → h.held ≡ Sink sink →
        sink.bytes ≡ x.stored ++ bytes_now →
        Decoded x.state.role.mode x.state.position.held_back piece bytes_now after →
        (y : OpenEnd) × HasStored terms number piece y
    stores_as last sink bytes_now after is turns held same d = (
      end_after x (stored_turn last after) (Sink sink),
      record {
        phase = ap (stored_phase terms number) (sym is);
        received = ap (λ (z : List ℕ). wire_text x.state.role.mode z ++ after) same
            ∙ sym
            (stored_more x.state.role.mode x.stored x.state.position.held_back piece bytes_now after
            (goes_on_with x.state.role.mode x.state.position.held_back piece bytes_now after holds d));
        holds = held_fits x.state.role.mode x.state.position.held_back piece bytes_now after holds d;
        armed = sym (ap is_armed held);
        becomes = turned (stored_turn last after) (Sink sink) turns held (still_open last sink after);
      },
    )

    -- a commit that was not refused
    commits_as : (mid sink : Holding) (bytes_now after : List ℕ) → nat_lt (length piece) terms.size ≡ true →
        h.held ≡ Sink sink → mid.bytes ≡ x.stored ++ bytes_now →
        Decoded x.state.role.mode x.state.position.held_back piece bytes_now after →
        (answer : Result Done StoreFault) → h.turn ≡ committed_turn terms number from (holding after x.state) answer →
        Kept_all mid sink answer → (y : OpenEnd) × HasStored terms number piece y
    commits_as mid sink bytes_now after is held same d answer t (For_good ok kept_bytes done) =
        stores_as true sink bytes_now after is (t ∙ ap (committed_turn terms number from (holding after x.state)) ok)
        held (kept_bytes ∙ same) d
    commits_as mid sink bytes_now after is held same d answer t (Not_yet fault err kept_bytes still) =
        absurd
        (fault_none (commit_reply fault) (holding after x.state)
        (t ∙ ap (committed_turn terms number from (holding after x.state)) err))

    appends_as : (mid sink : Holding) (bytes_now after : List ℕ) (answer : Result Done StoreFault) (last : Bool) →
        nat_lt (length piece) terms.size ≡ last → h.held ≡ Sink sink →
        Decoded x.state.role.mode x.state.position.held_back piece bytes_now after →
        Took (holding_of x) mid bytes_now answer →
        GoesOn (world_sink refuses_commit) terms number from x.state last after mid answer h.turn sink →
        (y : OpenEnd) × HasStored terms number piece y
    appends_as mid sink bytes_now after (Err fault) last is held d took_now g = absurd (fault_none DiskFull x.state g.0)
    appends_as mid sink bytes_now after (Ok done) last is held d (Some_of_it fault kept err begins same un) g =
        absurd (let e : Ok done ≡ Err fault = err in cc)
    appends_as mid sink bytes_now after (Ok done) true is held d (All_of_it ok same un) g =
        commits_as mid sink bytes_now after is held same d g.answer g.answers
        (kept_by mid.refuses mid sink g.answer g.commits)
    appends_as mid sink bytes_now after (Ok done) false is held d (All_of_it ok same un) g =
        stores_as false sink bytes_now after is g.0 held (ap (λ (z : Holding). z.bytes) g.1 ∙ same) d

    pub handles_data : Spells (Data number piece) bytes →
        datagram_action x.state from bytes (Some (Data number piece)) ≡ Store terms number →
        is_sender x.state.role.side ≡ false →
        (y : OpenEnd) × HasStored terms number piece y
    handles_data spelled is receiver =
        let f = stores_here terms number piece spelled is receiver in
        let b = f.2 in
        appends_as b.mid f.0 b.bytes b.after b.answer (nat_lt (length piece) terms.size) refl f.1 b.decoded
        (took (world_sink refuses_commit) (λ sink. refl) (holding_of x) b.mid b.bytes b.answer b.appended) b.rest
