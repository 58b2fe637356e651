-- What is left of a run of deliveries, and that it ends. For ten other files.
use Rattle.tftp_player.proofs.Common.{◌≡◌, ℕ, ◌+◌, ◌<◌, ◌≤◌, suc, Bool, true, false, List, [], ◌∷◌, length, Some, ap}
use Rattle.tftp_player.proofs.Common.{subst, arith, rules, slice_get, ⊤, slice_get_within, is_client, OpenEnd, TookAll}
use Rattle.tftp_player.proofs.Common.{AllTaken, WorldState, WorldEnd, IsComplete, WorldStep, Settles, Deliver, Report}
use Rattle.tftp_player.proofs.Common.{Ends}

-- ---- the premise on the stores of a run that does not read: for a client that reads it follows
-- the claim holds of writes
abbrev pub UnlessReads : Bool → Type 0 → Type 0
UnlessReads true claim = ⊤
UnlessReads false claim = claim

-- a client that reads was not set to refuse
abbrev pub IsWilling : Bool → OpenEnd → Type 0
IsWilling true x = (is_client x.state.role.side ≡ true) × (x.refuses ≡ false)
IsWilling false x = ⊤

-- ---- what is left of a run of deliveries
-- a run of deliveries that leads from one world to another
pub record IsLeft (reads : Bool) (w : WorldState) (i : ℕ) (v : WorldState) : Type 0 where
  pub reports : List Report
  pub settles : Settles w i reports v
  pub taken : UnlessReads reads (AllTaken reports)

-- a datagram that is to be delivered is delivered next
pub record GoesOn (reads : Bool) (w : WorldState) (i : ℕ) (v : WorldState) : Type 0 where
  pub mid : WorldState
  pub report : Report
  pub step : WorldStep w (Deliver i) report mid
  pub taken : UnlessReads reads (TookAll report.closed)
  pub left : IsLeft reads mid (i + 1) v

-- both ends are complete at these indices, and `count` datagrams were sent
pub record IsOver (v : WorldState) (one other count : ℕ) : Type 0 where
  pub x : WorldEnd
  pub y : WorldEnd
  pub x_at : slice_get v.ends one ≡ Some x
  pub y_at : slice_get v.ends other ≡ Some y
  pub x_done : IsComplete x
  pub y_done : IsComplete y
  pub counted : length v.sent ≡ count

-- `rest` deliveries, of the datagrams from index i on, complete both ends at these indices, and
-- `made` of them were made
pub record Reaches (v : WorldState) (one other i made rest : ℕ) : Type 0 where
  pub few : made ≤ rest
  pub goes_on : made < rest → length v.sent ≡ i + made + 1
  pub over : made ≡ rest → IsOver v one other (i + rest)

more_few : (made rest : ℕ) → made ≤ rest → suc made ≤ rest + 1
more_few made rest h = omega (arith, h)

-- the run stops before a datagram that is to be delivered, or that is delivered
pub walks : (reads : Bool) (w v : WorldState) (one other i rest : ℕ) → length w.sent ≡ i + 1 →
    (l : IsLeft reads w i v) →
    ((g : GoesOn reads w i v) → Reaches v one other (i + 1) (length g.left.reports) rest) →
    Reaches v one other i (length l.reports) (rest + 1)
walks reads w v one other i rest more l then_on = by l.reports l.settles l.taken where
  by : (reports : List Report) → Settles w i reports v → UnlessReads reads (AllTaken reports) →
      Reaches v one other i (length reports) (rest + 1)
  by [] s taken = record {
    few = omega arith;
    goes_on = λ _. let e = ap (λ (u : WorldState). length u.sent) s in omega (arith, e, more);
    over = λ m. absurd (let e : 0 ≡ rest + 1 = m in omega (arith, e));
  }
  by (report ∷ reports) s taken =
      let g : GoesOn reads w i v = search rules in
      let r = then_on g in
      record {
        few = more_few (length reports) rest r.few;
        goes_on = λ m. let e = r.goes_on (let n : length reports < rest = omega (arith, m) in n) in omega (arith, e);
        over = λ m.
            let n : length reports ≡ rest = omega (arith, m) in
            let e : i + 1 + rest ≡ i + (rest + 1) = omega arith in
            subst (λ (c : ℕ). IsOver v one other c) e (r.over n);
      }

-- if no datagram is left to deliver the run is at its end
pub ends_here : (reads : Bool) (w v : WorldState) (one other i : ℕ) → IsOver w one other i → (l : IsLeft reads w i v) →
    Reaches v one other i (length l.reports) 0
ends_here reads w v one other i over l = by l.reports l.settles where
  by : (reports : List Report) → Settles w i reports v → Reaches v one other i (length reports) 0
  by [] s = record {
    few = omega arith;
    goes_on = λ m. absurd (let n : 0 < 0 = m in omega (arith, n));
    over = search rules;
  }
  by (report ∷ reports) s =
      absurd
      (let within = slice_get_within w.sent i s.1.0 s.1.1 in let none = over.counted in omega (arith, within, none))

-- a read ends after so many deliveries
pub reader_ends : (old new : WorldState) (made count : ℕ) →
    Reaches new (length old.ends + 1) (length old.ends) (length old.sent) made count → Ends old new made count
reader_ends old new made count r = search rules

-- a write ends after so many deliveries
pub writer_ends : (old new : WorldState) (made count : ℕ) →
    Reaches new (length old.ends) (length old.ends + 1) (length old.sent) made count → Ends old new made count
writer_ends old new made count r = search rules
