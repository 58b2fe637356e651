-- Elements of lists; the events of one step, of which what was sent is the answer; what one program noted of an order
-- of events; and lists with one element per client.
use Rattle.tftp_promises.proofs.Common.{List, ℕ, ◌≡◌, rules, sym, Endpoint, refl, [], ◌∙◌, ap, Some, inl, inr, ◌∷◌}
use Rattle.tftp_promises.proofs.Common.{false, true, None, ◌++◌, Bool, ◌⊎◌, Contains, SocketEvent, Option, arith}
use Rattle.tftp_promises.proofs.Common.{length, slice_get, Sent, if◌then◌else◌, same_Some, suc, Noted, ◌==◌, zero}
use Rattle.tftp_promises.proofs.Common.{Contains-push, Reply, Elapsed, eq-eqb, append_cancel_right, map, Printed}
use Rattle.tftp_promises.proofs.Common.{events_of, Contains-append_cases, answered, Contains-append_left, set}
use Rattle.tftp_promises.proofs.Common.{common_steps, Contains-append_right, AllByRecursion, option_map, cond-true}
use Rattle.std.proofs.lemmas.Option.{get_or_from_slice_get, slice_get_within}

pub nothing_in : {X : Type 0} (x : X) → Contains [] x → ⊥
nothing_in x h = let l = h.1 in omega arith

pub found_in : {X : Type 0} (xs : List X) (k : ℕ) (x : X) → slice_get xs k ≡ Some x → Contains xs x
found_in xs k x e = (k, slice_get_within xs k x e, get_or_from_slice_get xs k x x e)

pub one_in : {X : Type 0} (x y : X) → Contains (y ∷ []) x → y ≡ x
one_in x y i = search rules

-- an event is the first one, or one of the others
pub first_or_more : {X : Type 0} (x y : X) (xs : List X) → Contains (x ∷ xs) y → (x ≡ y) ⊎ Contains xs y
first_or_more x y xs c = search rules

-- nothing was sent
abbrev pub IsSilent : List SocketEvent → Type 0
IsSilent events = (port : ℕ) (to : Endpoint) (bytes : List ℕ) → Contains events (Sent port to bytes) → ⊥

-- only this answer was sent, from this port
abbrev pub SendsOnly : ℕ → Option Reply → List SocketEvent → Type 0
SendsOnly own reply events =
    (port : ℕ) (to : Endpoint) (bytes : List ℕ) → Contains events (Sent port to bytes) →
    (own ≡ port) × (reply ≡ Some (record { to = to; bytes = bytes }))

-- the events that a step adds
pub added_by : (port : ℕ) (reply : Option Reply) (events rest added : List SocketEvent) →
    answered port reply (events ++ rest) ≡ added ++ rest → answered port reply events ≡ added
added_by port None events rest added e = append_cancel_right events added rest e
added_by port (Some reply) events rest added e =
    append_cancel_right (Sent port reply.to reply.bytes ∷ events) added rest e

-- they have all others
pub answered_has : (port : ℕ) (reply : Option Reply) (events : List SocketEvent) (e : SocketEvent) → Contains events e →
    Contains (answered port reply events) e
answered_has port None events e c = c
answered_has port (Some reply) events e c = Contains-append_right (Sent port reply.to reply.bytes ∷ []) events e c

-- and the answer
same_sent : (own port : ℕ) (reply : Reply) (to : Endpoint) (bytes : List ℕ) →
    Sent own reply.to reply.bytes ≡ Sent port to bytes →
    (own ≡ port) × (Some reply ≡ Some (record { to = to; bytes = bytes }))
same_sent own port reply to bytes e = search rules

pub answered_sends : (own : ℕ) (reply : Option Reply) (events : List SocketEvent) → IsSilent events →
    SendsOnly own reply (answered own reply events)
answered_sends own None events silent port to bytes c = absurd (silent port to bytes c)
answered_sends own (Some reply) events silent port to bytes c =
    elim (first_or_more (Sent own reply.to reply.bytes) (Sent port to bytes) events c) [
      | inl e ↦ same_sent own port reply to bytes e
      | inr more ↦ absurd (silent port to bytes more)
    ]

-- no datagram that was sent
abbrev pub IsUnsent : SocketEvent → Type 0
IsUnsent (Sent port to bytes) = ⊥
IsUnsent event = Unit {0}

pub unsent_silent : (events : List SocketEvent) → AllByRecursion IsUnsent events → IsSilent events
unsent_silent events unsent port to bytes c = grind (arith, common_steps)

-- a timeout was due
pub elapsed_silent : (own time : ℕ) → IsSilent (Elapsed own time ∷ [])
elapsed_silent own time port to bytes c = search rules

pub none_silent : IsSilent []
none_silent port to bytes c = nothing_in (Sent port to bytes) c

-- a step that adds no event
pub added_none : (events added : List SocketEvent) → events ≡ added ++ events → [] ≡ added
added_none events added e = append_cancel_right [] added events e

-- a line was printed
pub printed_silent : (line : List ℕ) → IsSilent (Printed line ∷ [])
printed_silent line port to bytes c = search rules

-- What one program noted of an order of events, and lists with one element per client.

-- ---- elements

pub first_in : {X : Type 0} (x : X) (xs : List X) → Contains (x ∷ xs) x
first_in x xs = Contains-append_left (x ∷ []) xs x (Contains-push [] x)

pub later_in : {X : Type 0} (y : X) (xs : List X) (x : X) → Contains xs x → Contains (y ∷ xs) x
later_in y xs x i = Contains-append_right (y ∷ []) xs x i

-- ---- the events of one program

pub events_own : (p : ℕ) (e : SocketEvent) (order : List Noted) → events_of p ((p, e) ∷ order) ≡ e ∷ events_of p order
events_own p e order = cond-true (p == p) (e ∷ events_of p order) (events_of p order) (eq-eqb p p refl)

either_in : (b : Bool) (x e : SocketEvent) (events : List SocketEvent) → Contains events e →
    Contains (if b then x ∷ events else events) e
either_in true x e events i = later_in x events e i
either_in false x e events i = i

pub noted_in : (p : ℕ) (e : SocketEvent) (order : List Noted) → Contains order (p, e) → Contains (events_of p order) e
noted_in p e [] i = absurd (nothing_in (p, e) i)
noted_in p e (x ∷ order) i = elim (Contains-append_cases (x ∷ []) order (p, e) i) [
  | inl here ↦
      rw (one_in (p, e) x here, eq-eqb p p refl) (first_in e (events_of p order))
  | inr later ↦ either_in (x.0 == p) x.1 e (events_of p order) (noted_in p e order later)
]

-- ---- lists with one element per client

pub set_own : {X : Type 0} (xs : List X) (k : ℕ) (x : X) → slice_get xs k ≡ Some x → set xs k x ≡ xs
set_own [] k x e = refl
set_own (z ∷ xs) zero x e = ap (λ y. y ∷ xs) (sym (same_Some z x e))
set_own (z ∷ xs) (suc k) x e = ap (λ ys. z ∷ ys) (set_own xs k x e)

pub all_are : {X Y : Type 0} (xs : List X) (ys : List Y) (y : Y) → length ys ≡ length xs →
    ((k : ℕ) (x : X) → slice_get xs k ≡ Some x → slice_get ys k ≡ Some y) → map (λ (x : X). y) xs ≡ ys
all_are [] [] y n are = refl
all_are [] (z ∷ ys) y n are = absurd (let m : suc (length ys) ≡ 0 = n in omega (arith, m))
all_are (x ∷ xs) [] y n are = absurd (let m : 0 ≡ suc (length xs) = n in omega (arith, m))
all_are {Y = Y} (x ∷ xs) (z ∷ ys) y n are =
    let m : suc (length ys) ≡ suc (length xs) = n in
    let one = same_Some z y (are zero x refl) in
    let others = all_are xs ys y (omega (arith, m)) (λ k w i. are (suc k) w i) in
    ap (λ (w : Y). w ∷ map (λ (v : _). y) xs) (sym one) ∙ ap (λ (ws : List Y). z ∷ ws) others

pub mapped : {X Y : Type 0} (f : X → Y) (o : Option X) (y : Y) → option_map f o ≡ Some y →
    (x : X) × (o ≡ Some x) × (f x ≡ y)
mapped f None y e = absurd (let n : None ≡ Some y = e in cc)
mapped f (Some x) y e = (x, refl, same_Some (f x) y e)

-- ---- of what is pending
pub both_parts : (a b : Endpoint) (x y : List ℕ) (o : Option (Endpoint × List ℕ)) → o ≡ Some (a, x) →
    o ≡ Some (b, y) → (a ≡ b) × (x ≡ y)
both_parts a b x y o e f = search rules
