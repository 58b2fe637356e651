-- A transfer that took a step is held as before. For `Server::handle_datagram` and `Server::handle_timeout`.
use Rattle.std.proofs.Common.{◌≡◌, ℕ, Bool, List, [], ◌∷◌, Some, IsSome, Result, Ok, Err, OnOk, refl, rules}
use mathlib.Core.Bool.{cond}
use Rattle.std.specs.Map.{lookup, set_value}
use Rattle.std.specs.BTreeMap.{is_at}
use Rattle.std.specs.Ordering.{nat_cmp}
use Rattle.tftp_server.specs.State.{at, with_next}

-- the value that is set is found
set_step : {T : Type 0} (test : ℕ → Bool) (e : ℕ × T) (es : List (ℕ × T)) (was now : T) (b : Bool) →
    test e.0 ≡ b → (lookup test es ≡ Some was → lookup test (set_value test es now) ≡ Some now) →
    cond b (Some e.1) (lookup test es) ≡ Some was →
    lookup test (cond b ((e.0, now) ∷ es) (e ∷ set_value test es now)) ≡ Some now
set_step test e es was now b is more found = search rules

set_there : {T : Type 0} (test : ℕ → Bool) (es : List (ℕ × T)) (was now : T) →
    lookup test es ≡ Some was → lookup test (set_value test es now) ≡ Some now
set_there test [] was now h = absurd (cc)
set_there test (e ∷ es) was now h = set_step test e es was now (test e.0) refl (set_there test es was now) h

pub next_there : {T : Type 0} (tid : ℕ) (held : List (ℕ × T)) (was now : T) →
    at tid held ≡ Some was → at tid (with_next tid now held) ≡ Some now
next_there tid held was now h = set_there (is_at (nat_cmp tid)) held was now h

-- and so there is one, whatever the server returns
pub still_held : {T R E : Type 0} (tid : ℕ) (held : List (ℕ × T)) (was now : T) (r : Result R E) →
    Some was ≡ at tid held → OnOk r (IsSome (at tid (with_next tid now held)))
still_held {T = T} tid held was now (Ok done) found = search (rules, next_there)
still_held tid held was now (Err fault) found = tt
