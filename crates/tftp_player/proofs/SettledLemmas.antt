-- `settle` makes as many deliveries as an accepted transfer needs, if its limit is not below. For
-- `a_straight_run_completes` and RecoveriesSettled.
use Rattle.tftp_player.proofs.Common.{◌≡◌, ◌≢◌, ℕ, ◌+◌, ◌≤◌, List, [], ◌∷◌, length, Option, Some, None, refl, sym, ap}
use Rattle.tftp_player.proofs.Common.{◌∙◌, rules, slice_get, true≢false, same_Some, Files, Source, Sink, Holding}
use Rattle.tftp_player.proofs.Common.{Outcome, outcome_of, Turn, Endpoint, OpenEnd, end_after, TookAll, AllTaken}
use Rattle.tftp_player.proofs.Common.{read_adds, write_adds, WorldState, ClosedEnd, WorldEnd, Open_end, Closed_end}
use Rattle.tftp_player.proofs.Common.{is_closed, closed_end, by_outcome, standing, Settles, Get, Put, Report, WorldStep}
use Rattle.tftp_player.proofs.Common.{armed_end, Event, Deliver, Ends, RunsStraight, closed_at}
use Rattle.tftp_player.specs.Settling.{Settled}
use Rattle.tftp_player.specs.Straight.{HaveTaken, IsThrough, ReadsStraight, WritesStraight, ReadsSettle, WritesSettle}
use Rattle.tftp_player.proofs.StraightOpenings.{reads_complete, writes_complete}
use Rattle.tftp_player.proofs.Changes.{Changes, IsTurn, Stayed, Answered, Opened, Turned, Armed, Came, Was, Began}
use Rattle.tftp_player.proofs.Changes.{Was_armed, Moved, changes, event_came, lasts}
use Rattle.tftp_player.proofs.StraightRuns.{set_at}

settled_ends : (old begun new : WorldState) (most made count : ℕ) →
    (s : Settled begun (length old.sent) most made new) → count ≤ most → Ends old new (length s.reports) count →
    (made ≡ count) × IsThrough old new count
settled_ends old begun new most made count s enough ends = search rules

-- ---- if no end has closed since because of its store, no delivery was refused by one
after_outcome : (x : OpenEnd) (turn : Turn) (held : Files (List ℕ) Holding) →
    outcome_of (end_after x turn held).state.position.phase ≡ outcome_of turn.position.phase
after_outcome x turn (Source left) = refl
after_outcome x turn (Sink holding) = refl

outcome_at : (at : Endpoint) (o : Option Outcome) (c : ℕ × Outcome) → closed_at at o ≡ Some c → o ≡ Some c.1
outcome_at at o c e = search rules

-- an end that closed so, and was open
record ClosedAs (old w : WorldState) (outcome : Outcome) : Type 0 where
  pub k : ℕ
  pub x : ClosedEnd
  pub was_open : OpenEnd
  pub before : slice_get old.ends k ≡ Some (Open_end was_open)
  pub there : slice_get w.ends k ≡ Some (Closed_end x)
  pub outcome_is : x.recorded.outcome ≡ Some outcome

none_closed : (w v : WorldState) (report : Report) (c : ℕ × Outcome) → report.closed ≡ None → report.closed ≡ Some c →
    ClosedAs w v c.1
none_closed w v report c none some = absurd (let e : None ≡ Some c = sym none ∙ some in cc)

closing : (w v : WorldState) (report : Report) (c : ℕ × Outcome) → Changes (IsTurn w) w report v →
    report.closed ≡ Some c → ClosedAs w v c.1
closing w v report c (Stayed s) e = none_closed w v report c (ap (λ (r : Report). r.closed) s.reports) e
closing w v report c (Answered d from reports is) e = none_closed w v report c (ap (λ (r : Report). r.closed) reports) e
closing w v report c (Opened x o s) e = none_closed w v report c (ap (λ (r : Report). r.closed) s.reports) e
closing w v report c (Turned k x turn held there h t) e =
    let y = end_after x turn held in
    let o =
    outcome_at x.address (outcome_of turn.position.phase) c (sym (ap (λ (r : Report). r.closed) t.reports) ∙ e) in
    let closes : outcome_of y.state.position.phase ≡ Some c.1 = after_outcome x turn held ∙ o in
    record {
      k = k;
      x = closed_end y;
      was_open = x;
      before = there;
      there =
          set_at w v k (Open_end x) (standing y) (ap (λ (u : WorldState). u.ends) t.is) there
          ∙ ap (λ (z : Option Outcome). Some (by_outcome z y)) closes;
      outcome_is = closes;
    }
closing w v report c (Armed k x there reports is) e = none_closed w v report c (ap (λ (r : Report). r.closed) reports) e

-- a closed end stays
came_closed : (w : WorldState) (k : ℕ) (x : ClosedEnd) (z : WorldEnd) → slice_get w.ends k ≡ Some (Closed_end x) →
    Came (IsTurn w) w k z → z ≡ Closed_end x
came_closed w k x z there (Was y i) = same_Some y (Closed_end x) (sym i ∙ there)
came_closed w k x z there (Began y none o) = absurd (let f : None ≡ Some (Closed_end x) = sym none ∙ there in cc)
came_closed w k x z there (Was_armed y i) = ap armed_end (same_Some y (Closed_end x) (sym i ∙ there))
came_closed w k x z there (Moved y turn held i t) =
    absurd (true≢false (ap is_closed (same_Some (Closed_end x) (Open_end y) (sym there ∙ i))))

closed_stays : (w v : WorldState) (event : Event) (report : Report) (k : ℕ) (x : ClosedEnd) →
    WorldStep w event report v → slice_get w.ends k ≡ Some (Closed_end x) → slice_get v.ends k ≡ Some (Closed_end x)
closed_stays w v event report k x s there =
    let z = lasts (IsTurn w) w v report (changes w v event report s) k (Closed_end x) there in
    z.1 ∙ ap Some (came_closed w k x z.0 there (event_came w v event report s k z.0 z.1))

stay_closed : (reports : List Report) (w v : WorldState) (i k : ℕ) (x : ClosedEnd) → Settles w i reports v →
    slice_get w.ends k ≡ Some (Closed_end x) → slice_get v.ends k ≡ Some (Closed_end x)
stay_closed [] w v i k x s there = ap (λ (u : WorldState). slice_get u.ends k) s ∙ there
stay_closed (report ∷ reports) w v i k x s there =
    stay_closed reports s.0 v (i + 1) k x s.2
    (closed_stays w s.0 (Deliver i) report k x s.1 there)

-- the closed ends of a world are those of a later one
abbrev StayClosed : WorldState → WorldState → Type 0
StayClosed first w = (k : ℕ) (x : ClosedEnd) → slice_get first.ends k ≡ Some (Closed_end x) →
    slice_get w.ends k ≡ Some (Closed_end x)

-- an open end was not closed before
not_closed : (first w : WorldState) (k : ℕ) (x : ClosedEnd) (y : OpenEnd) → StayClosed first w →
    slice_get w.ends k ≡ Some (Open_end y) → slice_get first.ends k ≢ Some (Closed_end x)
not_closed first w k x y stay is e = search rules

-- if none has closed so, no delivery was refused
pub took_all : (first : WorldState) (reports : List Report) (w v : WorldState) (i : ℕ) → StayClosed first w →
    Settles w i reports v → HaveTaken first v → AllTaken reports
took_all first [] w v i stay s taken = tt
took_all first (report ∷ reports) w v i stay s taken =
    (took report.closed refl, took_all first reports s.0 v (i + 1) stay_next s.2 taken) where
      stay_next : StayClosed first s.0
      stay_next k x e = closed_stays w s.0 (Deliver i) report k x s.1 (stay k x e)

      took : (closed : Option (ℕ × Outcome)) → report.closed ≡ closed → TookAll closed
      took None e = tt
      took (Some c) e = λ fault.
          let f = closing w s.0 report c (changes w s.0 (Deliver i) report s.1) e in
          taken f.k f.x (stay_closed reports s.0 v (i + 1) f.k f.x s.2 f.there)
          (not_closed first w f.k f.x f.was_open stay f.before) (f.outcome_is ∙ ap Some fault)

-- a read settles
pub reads_settle : ReadsSettle
reads_settle strangers old begun new report name mode asked file agreed most made ok asks accepts s enough =
    let run : RunsStraight old (Get name mode asked) new =
    record { report = report; asked = begun; asks = asks; reports = s.reports; settles = s.delivered } in
    let read : ReadsStraight old new name mode asked file agreed = record { run = run; accepts = accepts } in
    settled_ends old begun new most made (read_adds mode file agreed) s enough
    (reads_complete strangers old new name mode asked file agreed ok read)

-- a write settles
pub writes_settle : WritesSettle
writes_settle strangers old begun new report name mode asked file agreed most made ok asks accepts s have enough =
    let taken = took_all begun s.reports begun new (length old.sent) (λ k x e. e) s.delivered have in
    let run : RunsStraight old (Put name mode asked file) new =
    record { report = report; asked = begun; asks = asks; reports = s.reports; settles = s.delivered } in
    let write : WritesStraight old new name mode asked file agreed =
    record { run = run; accepts = accepts; taken = taken } in
    settled_ends old begun new most made (write_adds mode file agreed) s enough
    (writes_complete strangers old new name mode asked file agreed ok write)
