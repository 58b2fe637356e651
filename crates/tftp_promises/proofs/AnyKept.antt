-- In the end state of the traces what a receiver was handed is what its peer's file gave: the invariant by the run
-- says it of a text that is padded, and no padding is part of what is claimed.
use Rattle.std.proofs.Common.{rules as std_rules}
use Rattle.tftp_promises.proofs.Common.{List, ℕ, ◌≡◌, rules, sym, Endpoint, refl, ◌∙◌, ap, SourceMeaning, Some, subst}
use Rattle.tftp_promises.proofs.Common.{inl, StoreMeaning, inr, SinkMeaning, false, true, Programs, EndState, Files}
use Rattle.tftp_promises.proofs.Common.{length, slice_get, TransferState, joined, ClientOf, OpenEnd, is_sender}
use Rattle.tftp_promises.proofs.Common.{endpoint, same_Some, IsStranger, open_view, Mode, moved_in, EndView, not}
use Rattle.tftp_promises.proofs.Common.{IsPrefixOf, is_client, all_of, moved_at, is_complete, Role, IsAmong, client_end}
use Rattle.tftp_promises.proofs.Common.{HasOpened, ArePortsFresh, Phase, ProgramEnd, IsEnd, wire_text, transfer_end}
use Rattle.tftp_promises.proofs.Common.{KeepAnyFiles, IsOurs, has_of, Moved, if◌then◌else◌}
use Rattle.tftp_rules.specs.OpenEnds.{received_text}
use Rattle.tftp_rules.specs.Safety.{AreSafe, IsSenderAt, SafetyView}
use Rattle.tftp_rules.specs.ViewSafety.{safety_view}
use Rattle.tftp_rules.proofs.ViewSafe.{shown_safe}
use Rattle.tftp_promises.specs.AnyFiles.{HasGot, HasPut, peer_of, safety_of}
use Rattle.tftp_promises.proofs.ClientTraces.{run_role}
use Rattle.tftp_promises.proofs.ClientsServed.{one_there, served_by}
use Rattle.tftp_promises.proofs.Invariant.{AnySink, ClientGiven, FileSo, GaveSo, IsGiven, IsTaken, IsKept, IsViewed}
use Rattle.tftp_promises.proofs.Invariant.{SendsText, TookSo, length_of, client_kept}
use Rattle.tftp_promises.proofs.KeptViews.{view_there}
use Rattle.tftp_promises.proofs.Places.{strangers_elsewhere}
use Rattle.tftp_promises.proofs.Texts.{begin_each_other, begins_unpadded, pad_length, pad_to}
use Rattle.tftp_promises.proofs.MovedInAll.{was_opened, was_given, was_taken, has_given}

-- what a complete receiver has is what its sink was handed
whole_text : (e : EndState) (stored : List ℕ) (phase : Phase) → e.position.phase ≡ phase →
    is_complete phase ≡ true → received_text e stored ≡ wire_text e.role.mode stored
whole_text e stored phase is complete = search rules

-- what moved at an end whose file is known
file_moves : {S K : Type 0} (Given : S → OpenEnd → Moved → Type 0) (Taken : K → OpenEnd → Moved → Type 0)
    (x : OpenEnd) (moved : Moved) (files : Files S K) → FileSo Given Taken files x moved →
    (is_sender x.state.role.side ≡ true → GaveSo x moved) × (is_sender x.state.role.side ≡ false → TookSo x moved)
file_moves Given Taken x moved files h = search rules

-- ends are safe if those are that have the same claims, and of whose peers as many are ours
module _ {E V : Type 0} {view : E → SafetyView} {other : V → SafetyView} {IsEnd : E → Type 0} {IsOther : V → Type 0}
    {IsOurs IsOwn : Endpoint → Type 0} (safe : AreSafe other IsOther IsOwn)
    (onto : (x : E) → IsEnd x → (v : V) × IsOther v × (view x ≡ other v))
    (from : (v : V) → IsOther v → (x : E) × IsEnd x × (other v ≡ view x))
    (own : (p : Endpoint) → IsOurs p → IsOwn p) (ours : (p : Endpoint) → IsOwn p → IsOurs p) where
  safe_by : AreSafe view IsEnd IsOurs
  safe_by = record {
    same_size = λ x y is_x is_y px py. search (rules, onto, safe.same_size);
    ours = λ x p is_x client peer.
        let v = onto x is_x in
        ours p (safe.ours v.0 p v.1 (rw (← v.2) client) (rw (← v.2) peer));
    is_empty = λ x is_x receives none. search (rules, onto, safe.is_empty);
    is_prefix = λ x p is_x receives peer our.
        let v = onto x is_x in
        let at = safe.is_prefix v.0 p v.1 (rw (← v.2) receives) (rw (← v.2) peer) (own p our) in
        let y = from at.0 at.1.is_end in
        (y.0, search rules, search rules);
    is_committed = λ x is_x receives complete. search (rules, onto, safe.is_committed);
    is_whole = λ x is_x receives complete.
        let v = onto x is_x in
        let all = safe.is_whole v.0 v.1 (rw (← v.2) receives) (rw (← v.2) complete) in (
          all.0,
          search rules,
          λ our.
              let at = all.2 (own all.0 our) in
              let y = from at.0 at.1.is_end in
              (y.0, search rules, search rules, search rules, search rules),
        );
    sender_last = λ x is_x sends complete.
        let v = onto x is_x in
        let last = safe.sender_last v.0 v.1 (rw (← v.2) sends) (rw (← v.2) complete) in (
          last.0,
          search rules,
          λ our.
              let at = last.2 (own last.0 our) in
              let y = from at.0 at.1.is_end in
              (y.0, search rules),
        );
  }

module _ {S F D G K : Type 0} {stores : StoreMeaning S D} {sources : SourceMeaning F} {inputs : SourceMeaning G}
    {outputs : SinkMeaning K} (programs : Programs stores sources inputs outputs) (fresh : ArePortsFresh programs)
    (kept : (pad : ℕ) → IsKept pad (all_of programs)) where
  abbrev Client : Type 0
  Client = ClientOf programs

  abbrev views : ℕ → List EndView
  views pad = (kept pad).views

  -- ---- the ends
  -- what stands for an end among the views
  record StandsFor (pad : ℕ) (x : ProgramEnd) : Type 0 where
    end : OpenEnd
    address : end.address ≡ x.address
    state : end.state ≡ x.state
    viewed : IsViewed (joined programs) (SendsText programs pad) (views pad) (kept pad).messages end
    text : is_sender end.state.role.side ≡ true → end.text ≡ pad_to pad end.state.role.length x.moved.bytes
    gave : is_sender end.state.role.side ≡ true → GaveSo end x.moved
    took : is_sender end.state.role.side ≡ false → TookSo end x.moved

  -- each end stands among the views
  of_client : (pad k : ℕ) (client : Client) → slice_get programs.clients k ≡ Some client →
      StandsFor pad (client_end programs client)
  of_client pad k client found =
      let h = client_kept (kept pad) k client found in
      let moves = file_moves (ClientGiven programs client) AnySink h.end _ client.files h.has.file in
      search std_rules

  of_transfer : (pad port : ℕ) (transfer : TransferState F D) (a : Endpoint) → HasOpened programs port transfer a →
      StandsFor pad (transfer_end programs transfer a)
  of_transfer pad port transfer a opened =
      let h = (kept pad).transfers port transfer a opened in
      let run = programs.server.run in
      let moves = file_moves (IsGiven programs run) (IsTaken programs run) h.end _ transfer.files h.has.file in
      let long = ap length_of h.has.opened.opened ∙ ap (λ (r : Role). r.length) h.has.opened.role in
      search std_rules

  stands : (pad : ℕ) (x : ProgramEnd) → IsEnd programs x → StandsFor pad x
  stands pad x (inl of) = subst (λ (z : ProgramEnd). StandsFor pad z) (sym of.3) (of_client pad of.0 of.1 of.2)
  stands pad x (inr of) = subst (λ (z : ProgramEnd). StandsFor pad z) (sym of.4) (of_transfer pad of.0 of.1 of.2 of.3)

  -- and each view is of an end
  viewed_end : (pad : ℕ) (view : EndView) → IsAmong (views pad) view →
      (x : ProgramEnd) × IsEnd programs x × (view.address ≡ x.address)
  viewed_end pad view among = elim ((kept pad).only view among) [
    | inl of ↦ (client_end programs of.client, inl (of.k, of.client, of.found, refl), of.address)
    | inr of ↦ (
      transfer_end programs of.transfer view.address,
      inr (of.port, of.transfer, view.address, of.is_transfer, refl),
      refl,
    )
  ]

  -- ---- the promises, of texts that are padded
  -- the text of a sender, padded, or what a receiver has
  abbrev text_of : ℕ → ProgramEnd → List ℕ
  text_of pad x = if is_sender x.state.role.side then pad_to pad x.state.role.length x.moved.bytes else has_of x

  abbrev padded : ℕ → ProgramEnd → SafetyView
  padded pad x =
      record (safety_of x) {
        sent = text_of pad x;
        length = length (text_of pad x);
        has = text_of pad x;
        committed = is_complete x.state.position.phase;
      }

  -- which its view says
  says : (pad : ℕ) (x : ProgramEnd) (s : StandsFor pad x) → padded pad x ≡ safety_view (open_view s.end)
  says pad x s = search rules

  from_views : (pad : ℕ) (v : EndView) → IsAmong (views pad) v →
      (x : ProgramEnd) × IsEnd programs x × (safety_view v ≡ padded pad x)
  from_views pad v among =
      let e = viewed_end pad v among in
      let s = stands pad e.0 e.1 in
      let own = view_there (kept pad).shown s.viewed among (e.2 ∙ sym s.address) in
      (e.0, e.1, ap safety_view own ∙ sym (says pad e.0 s))

  safe : (pad : ℕ) → AreSafe (padded pad) (IsEnd programs) (IsOurs programs)
  safe pad =
      safe_by (shown_safe (joined programs) (views pad) (kept pad).messages (kept pad).shown)
      (λ x is_end. let s = stands pad x is_end in
      (open_view s.end, (s.viewed.index, s.viewed.viewed), says pad x s)) (from_views pad)
      (λ p ours e. ours ((strangers_elsewhere programs p).0 e))
      (λ p own strange. own ((strangers_elsewhere programs p).1 strange))

  -- ---- the promises
  unique : (x y : ProgramEnd) → IsEnd programs x → IsEnd programs y → x.address ≡ y.address → x ≡ y
  unique = one_there programs (kept 0) fresh

  -- a transfer whose peer is ours is at its port
  at_its_port : (port : ℕ) (transfer : TransferState F D) (a p : Endpoint) → HasOpened programs port transfer a →
      peer_of (transfer_end programs transfer a) ≡ Some p → IsOurs programs p → a ≡ endpoint programs.ip port
  at_its_port port transfer a p opened peer ours =
      let h = (kept 0).transfers port transfer a opened in
      elim h.seat [
        | inl here ↦ here
        | inr s ↦
            let same : s.peer ≡ p = search std_rules in
            absurd (ours (subst (λ (b : Endpoint). IsStranger programs b) same s.strange))
      ]

  -- what a receiver has begins what its sender gave, however that is padded
  begins_so : (x y : ProgramEnd) → is_sender x.state.role.side ≡ false → is_sender y.state.role.side ≡ true →
      ((pad : ℕ) → IsPrefixOf (text_of pad x) (text_of pad y)) → IsPrefixOf (has_of x) y.moved.bytes
  begins_so x y receives sends h =
      let n = y.state.role.length in
      let padded_so : (pad : ℕ) → IsPrefixOf (has_of x) (pad_to pad n y.moved.bytes) =
      λ pad. rw (receives, sends) at (h pad) in
      begins_unpadded n n y.moved.bytes (has_of x) (padded_so 0) (padded_so 1)

  prefix : (x : ProgramEnd) (p : Endpoint) → IsEnd programs x → is_sender x.state.role.side ≡ false →
      peer_of x ≡ Some p → IsOurs programs p →
      (y : ProgramEnd) × IsSenderAt safety_of (IsEnd programs) p x.state.role.mode y
      × IsPrefixOf (has_of x) y.moved.bytes
  prefix x p is_end receives peer ours =
      let at = λ (pad : ℕ). (safe pad).is_prefix x p is_end receives peer ours in
      let y = (at 0).0 in
      let one = (at 0).1 in
      let same =
      λ (pad : ℕ). unique (at pad).0 y (at pad).1.is_end one.is_end ((at pad).1.address ∙ sym one.address) in (
        y,
        record { is_end = one.is_end; address = one.address; sends = one.sends; mode = one.mode },
        begins_so x y receives one.sends (λ pad. (rw (← same pad) (at pad).2)),
      )

  -- what a sender gave is all that a receiver has, which has its text
  all_given : (x y : ProgramEnd) (is_y : IsEnd programs y) → is_sender x.state.role.side ≡ false →
      is_sender y.state.role.side ≡ true → IsPrefixOf (has_of x) y.moved.bytes → text_of 0 x ≡ text_of 0 y →
      (has_of x ≡ y.moved.bytes) × (length y.moved.bytes ≡ y.state.role.length)
  all_given x y is_y receives sends begun same =
      let s = stands 0 y is_y in
      let n = y.state.role.length in
      let text : has_of x ≡ pad_to 0 n y.moved.bytes = search rules in
      let sender = ap (λ (e : EndState). is_sender e.role.side) s.state ∙ sends in
      let end_text : s.end.text ≡ has_of x = search std_rules in
      let gave = subst (λ (t : List ℕ). IsPrefixOf y.moved.bytes t) end_text (s.gave sender).prefix in
      let all : has_of x ≡ y.moved.bytes = begin_each_other (has_of x) y.moved.bytes begun gave in
      (all, ap (λ (t : List ℕ). length t) (sym all ∙ text) ∙ pad_length 0 n y.moved.bytes)

  promised : AreSafe safety_of (IsEnd programs) (IsOurs programs)
  promised = record {
    same_size = (safe 0).same_size;
    ours = (safe 0).ours;
    is_empty = λ x is_end receives none. let h = (safe 0).is_empty x is_end receives none in search rules;
    is_prefix = prefix;
    is_committed = λ x is_end receives complete.
        let s = stands 0 x is_end in
        let receiver = ap (λ (e : EndState). is_sender e.role.side) s.state ∙ receives in
        (s.took receiver).committed (s.viewed.kept.committed receiver
        ∙ (ap (λ (e : EndState). is_complete e.position.phase) s.state ∙ complete));
    is_whole = λ x is_end receives complete.
        let all = (safe 0).is_whole x is_end receives complete in (
          all.0,
          all.1,
          λ ours.
              let at = all.2 ours in
              let begun = prefix x all.0 is_end receives all.1 ours in
              let same = unique at.0 begun.0 at.1.is_end begun.1.is_end (at.1.address ∙ sym begun.1.address) in
              let all =
              all_given x begun.0 begun.1.is_end receives begun.1.sends begun.2 (rw (same) at at.3) in
              (begun.0, begun.1, rw (same) at at.2, all.0, all.1),
        );
    sender_last = λ x is_end sends complete.
        let last = (safe 0).sender_last x is_end sends complete in (
          last.0,
          last.1,
          λ ours.
              let y = last.2 ours in
              (y.0, record { is_end = y.1.is_end; address = y.1.address; peer = y.1.peer; complete = y.1.complete }),
        );
  }

  -- what the end v sent is all that the receiver x has
  record WholeOf (x v : ProgramEnd) : Type 0 where
    sends : is_sender v.state.role.side ≡ true
    mode : v.state.role.mode ≡ x.state.role.mode
    text : wire_text x.state.role.mode x.moved.bytes ≡ v.moved.bytes
    measured : length v.moved.bytes ≡ v.state.role.length

  -- so it is if x is complete, and v is at its peer
  whole_of : (x v : ProgramEnd) (is_x : IsEnd programs x) → is_sender x.state.role.side ≡ false →
      is_complete x.state.position.phase ≡ true → IsEnd programs v → peer_of x ≡ Some v.address →
      IsOurs programs v.address → WholeOf x v
  whole_of x v is_x receives complete is_v peer ours =
      let w = promised.is_whole x is_x receives complete in
      let there : w.0 ≡ v.address = same_Some w.0 v.address (sym w.1 ∙ peer) in
      let y = w.2 (subst (λ (p : Endpoint). IsOurs programs p) (sym there) ours) in
      subst (λ (z : ProgramEnd). WholeOf x z) (unique y.0 v y.1.is_end is_v (y.1.address ∙ there)) (search (sym
      (whole_text x.state x.moved.bytes x.state.position.phase refl complete) ∙ y.3))

  -- a complete client
  module _ (k : ℕ) (client : Client) (found : slice_get programs.clients k ≡ Some client)
      (complete : is_complete client.last.end.position.phase ≡ true) where
    abbrev its_end : ProgramEnd
    its_end = client_end programs client

    in_it : IsEnd programs its_end
    in_it = inl (k, client, found, refl)

    its_role : client.last.end.role ≡ client.first.role
    its_role = run_role client.runs

    its_peer : (p : Endpoint) → peer_of its_end ≡ Some p → IsOurs programs p
    its_peer p peer =
        let h = client_kept (kept 0) k client found in
        promised.ours its_end p in_it (ap (λ (e : EndState). is_client e.role.side) (sym h.state) ∙ h.side) peer

    -- what it was handed
    has_got : is_sender client.first.role.side ≡ false → HasGot programs client
    has_got receiver =
        let receives = ap (λ (r : Role). is_sender r.side) its_role ∙ receiver in
        let all = promised.is_whole its_end in_it receives complete in
        let s = served_by programs (kept 0) k client all.0 found all.1 in
        let w =
        whole_of its_end (transfer_end programs s.transfer all.0) in_it receives complete (inr (
          s.port,
          s.transfer,
          all.0,
          s.opened,
          refl,
        )) all.1 (its_peer all.0 all.1) in
        let given = was_given programs (kept 0) s.port s.transfer all.0 s.opened w.sends in
        search (
          w.mode ∙ ap (λ (r : Role). r.mode) its_role,
          ap (λ (r : Role). wire_text r.mode (moved_in
              client.runs).bytes) (sym its_role) ∙ w.text,
          given.since.whole w.measured,
          w.measured ∙ given.long,
          promised.is_committed its_end in_it receives complete,
        )

    -- what it sent
    has_put : is_sender client.first.role.side ≡ true → HasPut programs client
    has_put sender =
        let sends = ap (λ (r : Role). is_sender r.side) its_role ∙ sender in
        let last = promised.sender_last its_end in_it sends complete in
        let s = served_by programs (kept 0) k client last.0 found last.1 in
        let x = transfer_end programs s.transfer last.0 in
        let is_x = inr (s.port, s.transfer, last.0, s.opened, refl) in
        let receives = s.other ∙ ap not sends in
        let y = last.2 (its_peer last.0 last.1) in
        let done = rw (unique y.0 x y.1.is_end is_x y.1.address) at y.1.complete in
        let w = whole_of x its_end is_x receives done in_it s.peer (λ stranger. stranger.clients k client found refl) in
        let mode = sym w.mode ∙ ap (λ (r : Role). r.mode) its_role in
        let given = has_given programs (kept 0) k client found sender in
        search (
          was_taken programs (kept 0) s.port s.transfer last.0 s.opened receives,
          ap (λ (n : Mode). wire_text n
              (moved_at programs last.0 programs.server.run).bytes) (sym mode) ∙ w.text,
          given.since.whole w.measured,
          w.measured ∙ ap (λ (r : Role). r.length) its_role,
          promised.is_committed x is_x receives done,
        )

  pub any_kept : KeepAnyFiles programs
  any_kept = record {
    safe = promised;
    unique = unique;
    served = λ k client p found peer. served_by programs (kept 0) k client p found peer;
    at_port = at_its_port;
    opened = was_opened programs (kept 0);
    given = was_given programs (kept 0);
    taken = was_taken programs (kept 0);
    got = λ k client found receiver complete. has_got k client found complete receiver;
    gave = has_given programs (kept 0);
    put = λ k client found sender complete. has_put k client found complete sender;
  }
