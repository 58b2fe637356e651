-- A transfer that opens has not closed. For Receipts and Counting.
use Rattle.std.proofs.Common.{rules}
use Rattle.tftp_loop.proofs.Common.{◌≡◌, ℕ, Bool, List, Some, None, refl, sym, ap, subst, arith, ◌∙◌, inl, inr}
use Rattle.tftp_loop.proofs.Common.{slice_index_or, All, if◌then◌else◌, SourceMeaning, Endpoint, record_of}
use Rattle.tftp_loop.proofs.Common.{StoreMeaning, SocketEvent, at, draft_of, taken_of, with_new, Came, A_transfer}
use Rattle.tftp_loop.proofs.Common.{left_by, Ask, Run, Start, Then, LoopState, AreSettled, Concludes, IsOpen}
use Rattle.tftp_loop.proofs.Common.{ReceivedFew, after_request, All-push}
use Rattle.tftp_loop.specs.MayWait.{Notes_it, Prepares, Sets_store}
use Rattle.tftp_loop.proofs.LoopStays.{all_opened, if_any, some_none, work_keeps}
use Rattle.tftp_loop.proofs.RequestRuns.{concludes_run}
use Rattle.tftp_loop.proofs.OpenedEnds.{OpensIn, opens_begins, opens_for}
use Rattle.tftp_loop.proofs.Tables.{inserted_apart, inserted_own}
use Rattle.tftp_loop.proofs.NewStates.{answer_is}

module _ {S F D : Type 0} (meaning : StoreMeaning S D) (sources : SourceMeaning F) where
  -- what is done first adds events and sets the store: what holds whatever these are stays so
  prepared : (P : LoopState S F D → Type 0)
      → ((s : LoopState S F D) (events : List SocketEvent) → P s → P (record s { events = events }))
      → ((s : LoopState S F D) (store : S) → P s → P (record s { server = record s.server { store = store } }))
      → (s t : LoopState S F D) → Run (Prepares meaning sources) s t → P s → P t
  prepared P noted set s t Start h = h
  prepared P noted set s t (Then {middle} run (Notes_it d)) h =
      subst P (sym d.is) (noted middle _ (prepared P noted set s middle run h))
  prepared P noted set s t (Then {middle} run (Sets_store d)) h =
      subst P (sym d.is) (set middle d.store (prepared P noted set s middle run h))

  abbrev AreOpen : LoopState S F D → Type 0
  AreOpen s = All (IsOpen s.server.held) s.timers

  -- what was unclosed stays so, and what opened is
  answered_open : (s : LoopState S F D) (from : Endpoint) (bytes : List ℕ) (tid : ℕ) (ask : Ask) (came : Came S F D)
      → at tid s.server.held ≡ None → AreSettled s.server.held s.timers
      → OpensIn meaning sources s.server from bytes ask came
      → AreOpen (after_request s from (left_by came s.server from tid))
  answered_open s from bytes tid ask (A_transfer transfer store) free settled opens =
      let held = with_new tid transfer s.server.held in
      All-push (IsOpen held) s.timers _
      (λ k d h.
      let port = (slice_index_or s.timers k d).port in
      ap taken_of (inserted_apart tid port (λ e. some_none (at port s.server.held) (settled.kept.each k d h).there
      (ap (λ (p : ℕ). at p s.server.held) e ∙ free)) transfer s.server.held) ∙ settled.none_closed k d h)
      (ap taken_of (inserted_own tid transfer s.server.held)
      ∙ ap (λ (b : Bool). if b then Some (record_of transfer.end, draft_of transfer.files) else None)
      (opens_begins meaning sources s.server from bytes opens).still)
  answered_open s from bytes tid ask came free settled opens = settled.none_closed

  -- an answer leaves each transfer unclosed, with its timer
  pub concludes_settled : (s t : LoopState S F D) → Concludes meaning sources s t → AreSettled s.server.held s.timers →
      AreSettled t.server.held t.timers
  concludes_settled s t c settled =
      let m = c.middle in
      let was = prepared (λ u. AreSettled u.server.held u.timers) (λ u events h. h) (λ u store h. h) s m c.prepares settled in
      record {
        kept = (work_keeps meaning sources s t (concludes_run meaning sources s t c)).kept settled.kept;
        none_closed = elim c.ends [
          | inl d ↦ subst AreOpen (sym (answer_is d))
              (answered_open m d.from d.bytes d.tid _ d.steps.came d.free was
              (opens_for meaning sources m.server d.from d.bytes _ d.steps.came d.steps.goes))
          | inr d ↦ subst AreOpen (sym d.is) was.none_closed
        ];
      }

  -- it leaves what was asked: that is counted anew only after a wait
  pub concludes_asked : (s t : LoopState S F D) → Concludes meaning sources s t → t.asked ≡ s.asked
  concludes_asked s t c =
      let was = prepared (λ u. u.asked ≡ s.asked) (λ u events h. h) (λ u store h. h) s c.middle c.prepares refl in
      search rules

  -- and few datagrams stay few, since a port that opens has received none
  pub concludes_few : (most : ℕ) (s t : LoopState S F D) → Concludes meaning sources s t
      → All (ReceivedFew most) s.timers → All (ReceivedFew most) t.timers
  concludes_few most s t c few =
      let Few : LoopState S F D → Type 0 = λ u. All (ReceivedFew most) u.timers in
      let was = prepared Few (λ u events h. h) (λ u store h. h) s c.middle c.prepares few in
      elim c.ends [
        | inl d ↦ subst Few (sym d.is)
            (all_opened (ReceivedFew most) c.middle d.from d.left.opened.tid d.left.new.held was
            (if_any d.left.opened.tid (λ port. omega arith)))
        | inr d ↦ subst Few (sym d.is) was
      ]
