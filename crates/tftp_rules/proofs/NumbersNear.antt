-- How far apart the numbers of an end and of its peer are, in every run of the guarded machine.
-- For the laws of worlds on recovery and on blame (tftp_player).
use Rattle.std.proofs.Common.{rules as std_rules}
use Rattle.tftp_rules.proofs.Common.{◌≡◌, List, refl, sym, true, [], false, ℕ, ◌∷◌, arith, ◌∙◌, Some, Bool, ap, length}
use Rattle.tftp_rules.proofs.Common.{◌+◌, ◌<◌, ◌≤◌, ◌*◌, not, std_rules, true≢false, ltb-true, cases_eq, ◌≢◌}
use Rattle.tftp_rules.proofs.Common.{if◌then◌else◌, block, block_count, Holds, IsSoundParty, Endpoint, Network, Machine}
use Rattle.tftp_rules.proofs.Common.{Party, Elsewhere, start, Data, Rule, message, after, run, Guard, IsLegal, Appends}
use Rattle.tftp_rules.proofs.Common.{Fails_to_begin, party_after, actor}
use Rattle.std.proofs.Math.Nat.{div-lt_iff_lt-mul}
use Rattle.tftp_rules.proofs.Blocks.{length-block}
use Rattle.tftp_rules.proofs.Grows.{AllGrow, with_each}
use Rattle.tftp_rules.proofs.Keeps.{keeps, rule_all}
use Rattle.tftp_rules.proofs.Steps.{next_block, of_peer}

-- a block that is shorter than the others is the last one
short_is_last : (text : List ℕ) (n size : ℕ) → 0 < size → n * size ≤ length text →
    length (block text size (n + 1)) < size → n + 1 ≡ block_count text size
short_is_last text n size positive room short =
    search (std_rules, length-block, div-lt_iff_lt-mul, cases_eq)

module _ (network : Network) where
  -- a sender is one block ahead of its peer at most, and a receiver is not ahead of it; one that is
  -- complete has all blocks
  pub record IsNear (ends : Endpoint → Party) (x : Party) : Type 0 where
    pub sends : x.sender ≡ true → (p : Endpoint) → x.peer ≡ Some p → network.host_of p ≢ Elsewhere →
        x.number ≤ (ends p).number + 1
    pub stores : x.sender ≡ false → (p : Endpoint) → x.peer ≡ Some p → network.host_of p ≢ Elsewhere →
        x.number ≤ (ends p).number
    pub whole : x.sender ≡ false → x.complete ≡ true → (p : Endpoint) → x.peer ≡ Some p →
        network.host_of p ≢ Elsewhere → x.number ≡ block_count (ends p).text x.size

  -- so are the numbers of all ends
  abbrev pub AreNear : (Endpoint → Party) → Type 0
  AreNear ends = (a : Endpoint) → (ends a).is_open ≡ true → IsNear ends (ends a)

  -- so it is once other ends have gone on
  near_grows : (ends new : Endpoint → Party) (a : Endpoint) (x : Party) → AllGrow ends new →
      IsSoundParty network ends a x → IsNear ends x → IsNear new x
  near_grows ends new a x all h n = search std_rules

  -- an end that has no block but the first
  near_first : (ends : Endpoint → Party) (x : Party) → x.number ≤ 1 → (x.sender ≡ false → x.number ≡ 0) →
      x.complete ≡ false → IsNear ends x
  near_first ends x few none alive = search std_rules

  one_or_none : (b : Bool) → (if b then 1 else 0) ≤ 1
  one_or_none true = omega arith
  one_or_none false = omega arith

  none_unless : (b : Bool) → not b ≡ false → ◌≡◌ {A = ℕ} (if b then 0 else 1) 0
  none_unless true e = refl
  none_unless false e = absurd (true≢false e)

  at_most_one : (b : Bool) → (if b then 0 else 1) ≤ 1
  at_most_one true = omega arith
  at_most_one false = omega arith

  -- as a rule acts, its end is near as it was
  near_old : (r : Rule) (m : Machine) → Holds network m → AreNear m.party → Guard network r m →
      (m.party (actor r)).is_open ≡ true → IsNear (after network r m).party (m.party (actor r))
  near_old r m h n g o = search std_rules

  -- the acting end of a rule, after it
  near_now : (r : Rule) (m : Machine) → Holds network m → AreNear m.party → Guard network r m →
      (party_after r (m.party (actor r))).is_open ≡ true →
      IsNear (after network r m).party (party_after r (m.party (actor r)))
  near_now (Appends at peer bytes) m h n g o =
      let old = m.party at in
      let all = rule_all network (Appends at peer bytes) m h g in
      let new = (after network (Appends at peer bytes) m).party in
      let said = h.attested (message peer at (Data (old.number + 1) bytes)) g.3 in
      record {
        sends = λ s p e own. absurd (true≢false (sym s ∙ g.1));
        stores = search std_rules;
        whole = λ s d. of_peer network (λ (q : Endpoint). old.number + 1 ≡ block_count (new q).text old.size) old peer
            g.2 (λ own.
            let t = said own in
            let b = next_block _ m h at peer bytes g own in
            short_is_last _ _ _ b.positive b.room (rw (← b.bytes) (ltb-true (length bytes) old.size d)) ∙ ap (λ (z :
            List ℕ). block_count z old.size) (sym ((all.grows peer t.is_open).text t.sender)));
      }
  near_now (Fails_to_begin at peer size) m h n g o = search (std_rules, near_first)
  near_now r m h n g o = search (std_rules, near_first, at_most_one, none_unless, one_or_none, near_old, true≢false)

  -- each rule keeps the numbers near
  near_keeps : (r : Rule) (m : Machine) → Holds network m → AreNear m.party → Guard network r m →
      AreNear (after network r m).party
  near_keeps r m h n g =
      let new = (after network r m).party in
      with_each (λ (q : Endpoint) (x : Party). IsNear new x) m.party (actor r) (party_after r (m.party (actor r)))
      (near_now r m h n g)
      (λ q o. near_grows m.party new q (m.party q) (rule_all network r m h g) (h.ends q o) (n q o))

  -- so do all of them
  pub near_run : (rules : List Rule) (m : Machine) → Holds network m → AreNear m.party → IsLegal network rules m →
      AreNear (run network rules m).party
  near_run [] m h n g = n
  near_run (r ∷ rules) m h n g =
      near_run rules (after network r m) (keeps network r m h g.0) (near_keeps r m h n g.0) g.2

  -- no end is open at the start
  pub near_start : AreNear start.party
  near_start a o = absurd (true≢false (sym o))
