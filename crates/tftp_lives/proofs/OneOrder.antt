-- The acts of two ends in one order: where each stands, and how many timeouts there are.
use Rattle.tftp_lives.proofs.Common.{List, ◌≡◌, ℕ, true, Some, None, inl, false, ◌∷◌, refl, inr, sym, ap, subst, arith}
use Rattle.tftp_lives.proofs.Common.{◌∙◌, ◌≤◌, Bool, [], ◌+◌, suc, ◌++◌, length, Endpoint, Act, Took, Timed, Has}
use Rattle.tftp_lives.proofs.Common.{IsNext, next_of, timed, rules, HandlesAll, OneAct, acts_of, timeouts}
use Rattle.tftp_lives.specs.Lives.{IsNoLoss, IsReceipt}
use Rattle.tftp_lives.proofs.Stands.{all_has}

-- ---- lists
pub nothing_left : {T P : Type 0} (xs : List T) (y : T) (ys : List T) → ◌≡◌ {A = List T} [] (xs ++ y ∷ ys) → P
nothing_left [] y ys e = absurd (let n : 0 ≡ suc (length ys) = ap length e in omega (arith, n))
nothing_left (x ∷ xs) y ys e = absurd (let n : 0 ≡ suc (length (xs ++ y ∷ ys)) = ap length e in omega (arith, n))

pub heads : {T : Type 0} (x y : T) (xs ys : List T) → ◌≡◌ {A = List T} (x ∷ xs) (y ∷ ys) → (x ≡ y) × (xs ≡ ys)
heads x y xs ys e = (cc, cc)

-- one of them stands at a place
pub split_at : {T : Type 0} (x : T) (ys : List T) → Has x ys → (later : List T) × (earlier : List T) × (ys ≡ later ++ x ∷ earlier)
split_at x [] h = absurd h
split_at {T = T} x (y ∷ ys) (inl e) = ([], ys, ap (λ (z : T). z ∷ ys) e)
split_at {T = T} x (y ∷ ys) (inr h) =
    let s = split_at x ys h in (y ∷ s.0, s.1, ap (λ (zs : List T). y ∷ zs) s.2)

-- what is one of a part is one of all
pub has_first : {T : Type 0} (x : T) (xs ys : List T) → Has x xs → Has x (xs ++ ys)
has_first x [] ys h = absurd h
has_first x (z ∷ xs) ys (inl e) = inl e
has_first x (z ∷ xs) ys (inr h) = inr (has_first x xs ys h)

pub has_last : {T : Type 0} (x : T) (xs ys : List T) → Has x ys → Has x (xs ++ ys)
has_last x [] ys h = h
has_last x (z ∷ xs) ys h = inr (has_last x xs ys h)

pub has_there : {T : Type 0} (later : List T) (x : T) (earlier ys : List T) → ys ≡ later ++ x ∷ earlier → Has x ys
has_there later x earlier ys e = subst (Has x) (sym e) (has_last x later (x ∷ earlier) (inl refl))

-- what comes next is the last of what comes later
pub last_more : (y : Act) (acts : List Act) (act : Act) → IsNext (next_of (Some y) acts) act →
    (later : List Act) × (y ∷ acts ≡ later ++ act ∷ [])
last_more y [] act is = ([], ap (λ (z : Act). z ∷ []) is)
last_more y (z ∷ acts) act is =
    let rest = last_more z acts act is in (y ∷ rest.0, ap (λ (zs : List Act). y ∷ zs) rest.1)

pub last_of : (acts : List Act) (act : Act) → IsNext (next_of None acts) act →
    (later : List Act) × (acts ≡ later ++ act ∷ [])
last_of [] act is = absurd is
last_of (y ∷ acts) act is = last_more y acts act is

-- ---- the acts of one end
pub acts_append : (first : Bool) (xs ys : List OneAct) → acts_of first (xs ++ ys) ≡ acts_of first xs ++ acts_of first ys
acts_append first [] ys = refl
acts_append true ((true, act) ∷ xs) ys = ap (λ (zs : List Act). act ∷ zs) (acts_append true xs ys)
acts_append true ((false, act) ∷ xs) ys = acts_append true xs ys
acts_append false ((true, act) ∷ xs) ys = acts_append false xs ys
acts_append false ((false, act) ∷ xs) ys = ap (λ (zs : List Act). act ∷ zs) (acts_append false xs ys)

pub own_act : (first : Bool) (act : Act) (order : List OneAct) → acts_of first ((first, act) ∷ order) ≡ act ∷ acts_of first order
own_act true act order = refl
own_act false act order = refl

-- an act of the end at a place in the order is one of its acts
pub acts_there : (first : Bool) (later : List OneAct) (act : Act) (earlier order : List OneAct) →
    order ≡ later ++ (first, act) ∷ earlier →
    acts_of first order ≡ acts_of first later ++ act ∷ acts_of first earlier
acts_there first later act earlier order e = search (rules, acts_append, own_act)

-- and each of its acts stands at a place in the order
pub record Placed (first : Bool) (order : List OneAct) (later : List Act) (act : Act) (earlier : List Act) : Type 0 where
  pub newer : List OneAct
  pub older : List OneAct
  pub is : order ≡ newer ++ (first, act) ∷ older
  pub later_is : acts_of first newer ≡ later
  pub earlier_is : acts_of first older ≡ earlier

-- behind an act of the other end
pub placed_past : (first : Bool) (e : OneAct) (order : List OneAct) (later : List Act) (act : Act) (earlier : List Act) →
    ((zs : List OneAct) → acts_of first (e ∷ zs) ≡ acts_of first zs) → Placed first order later act earlier →
    Placed first (e ∷ order) later act earlier
placed_past first e order later act earlier skips p =
    search (e ∷ p.newer, ap (λ (zs : List OneAct). e ∷ zs) p.is, skips p.newer ∙ p.later_is)

-- at an act of this end, or behind it
pub placed_own : (first : Bool) (own : Act) (order : List OneAct) (later : List Act) (act : Act) (earlier : List Act) →
    own ∷ acts_of first order ≡ later ++ act ∷ earlier →
    ((more : List Act) → acts_of first order ≡ more ++ act ∷ earlier → Placed first order more act earlier) →
    Placed first ((first, own) ∷ order) later act earlier
placed_own first own order [] act earlier e rest =
    let h = heads own act (acts_of first order) earlier e in
    record {
      newer = [];
      older = order;
      is = ap (λ (z : Act). (first, z) ∷ order) h.0;
      later_is = refl;
      earlier_is = h.1;
    }
placed_own first own order (y ∷ later) act earlier e rest =
    let h = heads own y (acts_of first order) (later ++ act ∷ earlier) e in
    let p = rest later h.1 in
    record {
      newer = (first, own) ∷ p.newer;
      older = p.older;
      is = ap (λ (zs : List OneAct). (first, own) ∷ zs) p.is;
      later_is = search rules;
      earlier_is = p.earlier_is;
    }

pub placed : (first : Bool) (order : List OneAct) (later : List Act) (act : Act) (earlier : List Act) →
    acts_of first order ≡ later ++ act ∷ earlier → Placed first order later act earlier
placed first [] later act earlier e = nothing_left _ _ _ e
placed true ((true, own) ∷ order) later act earlier e = placed_own _ _ _ _ _ _ e (λ more h. placed _ _ _ _ _ h)
placed true ((false, own) ∷ order) later act earlier e = placed_past _ _ _ _ _ _ (λ zs. refl) (placed _ _ _ _ _ e)
placed false ((true, own) ∷ order) later act earlier e = placed_past _ _ _ _ _ _ (λ zs. refl) (placed _ _ _ _ _ e)
placed false ((false, own) ∷ order) later act earlier e = placed_own _ _ _ _ _ _ e (λ more h. placed _ _ _ _ _ h)

-- ---- timeouts
pub timeouts_append : (xs ys : List OneAct) → timeouts (xs ++ ys) ≡ timeouts xs + timeouts ys
timeouts_append [] ys = omega arith
timeouts_append ((first, Timed) ∷ xs) ys = let e = timeouts_append xs ys in omega (arith, e)
timeouts_append ((first, act) ∷ xs) ys = timeouts_append xs ys

-- those of one end are among those of both
pub timed_few : (first : Bool) (order : List OneAct) → timed (acts_of first order) ≤ timeouts order
timed_few first [] = omega arith
timed_few true ((true, Timed) ∷ order) = let h = timed_few true order in omega (arith, h)
timed_few true ((false, Timed) ∷ order) = let h = timed_few true order in omega (arith, h)
timed_few false ((true, Timed) ∷ order) = let h = timed_few false order in omega (arith, h)
timed_few false ((false, Timed) ∷ order) = let h = timed_few false order in omega (arith, h)
timed_few first ((who, act) ∷ order) = timed_few first order

-- ---- timeouts of one end
abbrev pub owns : Bool → List OneAct → ℕ
owns first order = timed (acts_of first order)

pub timed_append : (xs ys : List Act) → timed (xs ++ ys) ≡ timed xs + timed ys
timed_append [] ys = omega arith
timed_append (Timed ∷ xs) ys = let e = timed_append xs ys in omega (arith, e)
timed_append (act ∷ xs) ys = timed_append xs ys

pub owns_append : (first : Bool) (xs ys : List OneAct) → owns first (xs ++ ys) ≡ owns first xs + owns first ys
owns_append first xs ys = ap timed (acts_append first xs ys) ∙ timed_append (acts_of first xs) (acts_of first ys)

-- ---- what an end received
-- it handled that, if it loses nothing
pub handled_it : (from : Endpoint) (bytes : List ℕ) (act : Act) → IsReceipt from bytes act → IsNoLoss act → act ≡ Took from bytes
handled_it from bytes act is no_loss = search rules

pub took_it : (first : Bool) (from : Endpoint) (bytes : List ℕ) (order newer older : List OneAct) (receipt : Act) →
    IsReceipt from bytes receipt → HandlesAll (acts_of first order) → order ≡ newer ++ (first, receipt) ∷ older →
    receipt ≡ Took from bytes
took_it first from bytes order newer older receipt is handles e =
    handled_it _ _ _ is (all_has _ _ _ handles (has_there _ _ _ _ (acts_there _ _ _ _ _ e)))
