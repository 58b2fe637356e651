-- What a world that is played keeps, by whether a stray has arrived. For four functions.
use Rattle.tftp_player.proofs.Common.{◌≡◌, ℕ, ◌+◌, suc, arith, Bool, true, false, List, [], ◌∷◌, ◌++◌, length, ap}
use Rattle.tftp_player.proofs.Common.{subst, ◌∙◌, rules, WorldState, Refines, WorldStep, Settles, Event, Deliver, Stray}
use Rattle.tftp_player.proofs.Common.{Report, HasPeersAtHome}
use Rattle.std.proofs.lemmas.List.{length-append}
use Rattle.tftp_player.specs.PlayedWorld.{strayed_after}
use Rattle.tftp_player.proofs.WorldRuns.{ok_at_home, step_keeps}

shifted : (from n : ℕ) → from + suc n ≡ (from + 1) + n
shifted from n = omega arith

-- a world without strangers is also one in which strangers may have sent
kept_anyway : (w : WorldState) → Refines false w → Refines true w
kept_anyway w ok = search rules

-- each event keeps the world, by whether a stray has arrived
pub played_keeps : (strayed : Bool) (w v : WorldState) (event : Event) (report : Report) → Refines strayed w →
    WorldStep w event report v → Refines (strayed_after strayed event) v
played_keeps true w v event report ok s = step_keeps true w v event report tt ok s
played_keeps false w v (Stray from to bytes) report ok s =
    step_keeps true w v (Stray from to bytes) report tt (kept_anyway w ok) s
played_keeps false w v event report ok s = step_keeps false w v event report tt ok s

-- without strays every peer is at home
pub home_of : (strayed : Bool) (w : WorldState) → Refines strayed w → strayed ≡ false → HasPeersAtHome w
home_of strayed w ok e = ok_at_home w (subst (λ (b : Bool). Refines b w) e ok)

-- one more delivery
pub delivered_more : (old mid new : WorldState) (from : ℕ) (reports : List Report) (report : Report) →
    Settles old from reports mid → WorldStep mid (Deliver (from + length reports)) report new →
    Settles old from (reports ++ report ∷ []) new
delivered_more old mid new from [] report d s = search rules
delivered_more old mid new from (r ∷ reports) report d s = (
  d.0,
  d.1,
  delivered_more d.0 mid new (from + 1) reports report d.2
      (subst (λ (n : ℕ). WorldStep mid (Deliver n) report new) (shifted from (length reports)) s),
)

-- a run of deliveries continues
pub delivers_on : (old mid new : WorldState) (from count : ℕ) (report : Report) →
    ((reports : List Report) × Settles old from reports mid × (length reports ≡ count)) →
    WorldStep mid (Deliver (from + count)) report new →
    (reports : List Report) × Settles old from reports new × (length reports ≡ count + 1)
delivers_on old mid new from count report d s = (
  d.0 ++ report ∷ [],
  delivered_more old mid new from d.0 report d.1 (rw (d.2) s),
  length-append d.0 (report ∷ []) ∙ ap (λ (n : ℕ). n + 1) d.2,
)
