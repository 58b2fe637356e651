-- Each end that was opened has sent a datagram. For `World::apply` and `draw`.
use Rattle.tftp_player.proofs.Common.{common_steps, ◌≡◌, ℕ, ◌+◌, ◌<◌, ◌≤◌, suc, zero, List, [], ◌∷◌, length, sym, subst}
use Rattle.tftp_player.proofs.Common.{ap, refl, arith, rules, slice_index_or, Some, None, ltb-true, Record}
use Rattle.tftp_player.proofs.Common.{records_from, WorldState, WorldEnd, WorldStep, Event, Timeout, Report, ◌%◌, Lcg}
use Rattle.tftp_player.proofs.Common.{drawn}
use Rattle.std.proofs.lemmas.Bool.{eq-eqb, ne_eqb}
use Rattle.tftp_player.specs.Draw.{words_drawn}
use Rattle.tftp_player.specs.PlayedWorld.{HasSentEach}
use Rattle.tftp_player.proofs.Changes.{Changes, IsTurn, Stayed, Answered, Opened, Turned, Armed, changes}

each_sent : (old new : WorldState) (report : Report) → Changes (IsTurn old) old report new → HasSentEach old →
    HasSentEach new
each_sent old new report (Stayed s) h = subst HasSentEach (sym s.is) h
each_sent old new report (Answered d from reports is) h = grind (arith, common_steps)
each_sent old new report (Opened x o s) h = grind (arith, common_steps)
each_sent old new report (Turned k x turn held there t turns) h = grind (arith, common_steps)
each_sent old new report (Armed k x there reports is) h = search rules

-- in a step each end that opens sends a datagram
pub sends_each : (old new : WorldState) (event : Event) (report : Report) → WorldStep old event report new →
    HasSentEach old → HasSentEach new
sends_each old new event report s h = each_sent old new report (changes old new event report s) h

-- the record at an index has the port of the end there
pub record_port : (port : ℕ) (ends : List WorldEnd) (k : ℕ) (d : ℕ × Record) → k < length ends →
    (slice_index_or (records_from port ends) k d).0 ≡ port + k
record_port port [] k d within = absurd (let h : k < 0 = within in omega (arith, h))
record_port port (x ∷ ends) zero d within = omega arith
record_port port (x ∷ ends) (suc k) d within = let n = record_port (port + 1) ends k d (omega (arith, within)) in
    omega (arith, n)

-- there are as many records as ends
pub records_count : (port : ℕ) (ends : List WorldEnd) → length (records_from port ends) ≡ length ends
records_count port [] = refl
records_count port (x ∷ ends) = ap suc (records_count (port + 1) ends)

-- ---- what is drawn
module _ (w : WorldState) (kind index : ℕ) where
  -- with no ends no event is drawn
  pub draws_none : (records : List (ℕ × Record)) → records ≡ records_from 1024 w.ends → length records ≡ 0 →
      None ≡ drawn w kind index
  draws_none records are none = search (rules, eq-eqb, records_count)

  -- a timeout that is drawn is of one of the ends
  pub draws_timeout : (records : List (ℕ × Record)) (d : ℕ × Record) → records ≡ records_from 1024 w.ends →
      (length records ≡ 0 → ⊥) → 6 ≤ kind % 8 →
      Some (Timeout (slice_index_or records (index % length records) d).0) ≡ drawn w kind index
  draws_timeout records d are some high = search (rules, records_count, record_port, ne_eqb, ltb-true)

-- with no ends no more words are drawn
pub no_words : (w : WorldState) (g : Lcg) (records : List (ℕ × Record)) → records ≡ records_from 1024 w.ends →
    length records ≡ 0 → g ≡ words_drawn w g
no_words w g records are none = search (rules, eq-eqb, records_count)
