-- Which ports an order has. For four functions.
use Rattle.tftp_loop.proofs.Common.{arith, ◌≡◌, ◌≤◌, ◌<◌, ◌+◌, ◌-◌, ℕ, zero, suc, true, List, [], ◌∷◌, ◌++◌, length}
use Rattle.tftp_loop.proofs.Common.{Option, Some, None, ap, refl, sym, subst, All, IfSome, range_with_len, SocketEvent}
use Rattle.tftp_loop.proofs.Common.{Quiet, is_among, Start, Then, IsOneOf, coming, drawn_from, TriesPorts, PortRange}
use Rattle.std.proofs.Common.{rules}
use Rattle.std.specs.Prelude.{IsPermutation, IsSome, MatchOption}
use Rattle.std.proofs.lemmas.List.Elements.{All-nil, All-cons, All-head, All-tail, All-same, All-append, All-push}
use Rattle.std.proofs.lemmas.List.Sorted.{All-permutation, IsPermutation-append_comm, IsPermutation-sym}
use Rattle.std.proofs.lemmas.List.Sorted.{IsPermutation-trans, length_permutation}
use Rattle.tftp_sockets.specs.Trace.QuietEvent.{New_socket, No_socket}
use Rattle.tftp_sockets.specs.declared.sockets.ServerSocket.{ServerSocket}
use Rattle.tftp_loop.specs.PortOrder.{HasPorts, IsOrderOf, Mixes, UsesNext, ports_of}
use Rattle.tftp_loop.specs.PortPool.{AreAllMissed, Binds, Tries, TriesInVain, after_bind, missed_last}
use Rattle.tftp_loop.specs.PortsInTurn.{DrawsNext}
use Rattle.tftp_loop.specs.declared.port_order.PortOrder.{PortOrder}
use Rattle.tftp_loop.proofs.PortUses.{ComesLast, rest_long}

all_counted : (P : ℕ → Type 0) (a n : ℕ) → ((x : ℕ) → a ≤ x → x < a + n → P x) → All P (range_with_len a n)
all_counted P a zero f = All-nil P
all_counted P a (suc n) f =
    All-cons P a (range_with_len (a + 1) n) (f a (omega arith) (omega arith))
    (all_counted P (a + 1) n (λ x h k. f x (omega (arith, h)) (omega (arith, k))))

-- each port of a range is one of it
all_within : (range : PortRange) → All (IsOneOf (Some range)) (ports_of range)
all_within range =
    All-append (IsOneOf (Some range)) (range_with_len range.first (range.last - range.first)) (range.last ∷ [])
    (all_counted (IsOneOf (Some range)) range.first (range.last - range.first)
    (λ x h k is. (h, omega (arith, k, is.1))))
    (All-cons (IsOneOf (Some range)) range.last [] (λ is. (is.1, omega arith)) (All-nil (IsOneOf (Some range))))

pushed_some : (xs : List ℕ) (x : ℕ) → 1 ≤ length (xs ++ x ∷ [])
pushed_some [] x = omega arith
pushed_some (y ∷ xs) x = omega arith

-- an order of a range has ports, and each is one of it
pub order_within : (range : PortRange) (order : PortOrder) → IsOrderOf range order → HasPorts order
order_within range order is =
    let long = length_permutation (ports_of range) (coming order) is.all in
    let some = pushed_some (range_with_len range.first (range.last - range.first)) range.last in
    record {
      all = rw (is.same) is.all;
      some = omega (arith, long, some);
      each = rw (is.same)
          (All-permutation (IsOneOf (Some range)) (ports_of range) (coming order) is.all (all_within range));
    }

module _ (old new : PortOrder) (port : ℕ) (has : HasPorts old) (uses : UsesNext old new port) where
  comes : All (IsOneOf (Some old.range)) (port ∷ uses.others)
  comes = All-same (IsOneOf (Some old.range)) (port ∷ uses.others) (coming old) (sym uses.was) has.each

  -- so is the port that is used
  pub used_within : IsOneOf (Some old.range) port
  used_within = All-head (IsOneOf (Some old.range)) port uses.others comes

  -- and those that come then
  pub next_has_ports : HasPorts new
  next_has_ports = record {
    all =
        let was = subst (λ (xs : List ℕ). IsPermutation (ports_of old.range) xs) uses.was has.all in
        let moved = IsPermutation-trans (ports_of old.range) (port ∷ uses.others) (uses.others ++ port ∷ []) was
        (IsPermutation-append_comm (port ∷ []) uses.others) in
        rw (uses.range, uses.is) moved;
    some = rw (uses.is) (pushed_some uses.others port);
    each = rw (uses.range) (All-same (IsOneOf (Some old.range)) (coming new) (uses.others ++ port ∷ []) uses.is
        (All-push (IsOneOf (Some old.range)) uses.others port (All-tail (IsOneOf (Some old.range)) port uses.others
        comes) used_within));
  }

-- an order whose first ports are mixed has them still
pub mixed_within : (among : ℕ) (old new : PortOrder) → HasPorts old → Mixes among old new → HasPorts new
mixed_within among old new has mixes =
    let long = length_permutation (coming old) (coming new) mixes.all in
    record {
      all = rw (mixes.range)
          (IsPermutation-trans (ports_of old.range) (coming old) (coming new) has.all mixes.all);
      some = omega (arith, long, has.some);
      each = rw (mixes.range)
          (All-permutation (IsOneOf (Some old.range)) (coming old) (coming new) mixes.all has.each);
    }

-- a port that is drawn from few of those that come, and used
pub draws_few : {range : PortRange} (old new : PortOrder) (among port half : ℕ)
    → (mixed : PortOrder) × Mixes among old mixed × UsesNext mixed new port → half ≡ drawn_from range
    → old.range ≡ range → among ≤ half → DrawsNext old new port
draws_few old new among port half draws is same few =
    let from = ap drawn_from same in
    record { among = among; few = omega (arith, few, is, from); mixed = draws.0; mixes = draws.1; uses = draws.2 }

-- the same, whether or not a port comes
abbrev MayUseNext : PortOrder → PortOrder → Option ℕ → Type 0
MayUseNext old new made = MatchOption made ((coming old ≡ []) × (new ≡ old)) (λ port. UsesNext old new port)

-- the next port leaves the range of the order
pub same_range : (old new : PortOrder) (made : Option ℕ) → MayUseNext old new made → new.range ≡ old.range
same_range old new None uses = ap (λ (o : PortOrder). o.range) uses.1
same_range old new (Some port) uses = uses.range

-- and the order has its ports still
pub still_within : (old new : PortOrder) (made : Option ℕ) → HasPorts old → MayUseNext old new made → HasPorts new
still_within old new made has uses = search (rules, next_has_ports)

-- the next port is one of the range
pub next_within : (old new : PortOrder) (made : Option ℕ) → HasPorts old → MayUseNext old new made
    → IfSome made (IsOneOf (Some old.range))
next_within old new None has uses = tt
next_within old new (Some port) has uses = used_within old new port has uses

-- the next port, if there is one, is used
pub next_uses : (old new : PortOrder) (made : Option ℕ) → MayUseNext old new made → IfSome made (UsesNext old new)
next_uses old new None uses = tt
next_uses old new (Some port) uses = uses

-- a port comes
pub next_some : (old new : PortOrder) (made : Option ℕ) → HasPorts old → MayUseNext old new made → IsSome made
next_some old new made has uses = search rules

-- ---- what the trace says of ports that were tried
-- the port that was bound ends the tries
pub binds : {range : Option PortRange} (port : ℕ) (es fs gs : List SocketEvent) → gs ≡ Quiet (New_socket port) ∷ fs
    → TriesPorts range es fs → Binds range es gs port
binds port es fs gs is tries = record { between = fs; earlier = tries; is = is }

-- one more port of the range was tried and missed
pub tried_more : {range : Option PortRange} (port : ℕ) (es fs gs : List SocketEvent) → IsOneOf range port
    → gs ≡ Quiet (No_socket port) ∷ fs → TriesPorts range es fs → TriesPorts range es gs
tried_more port es fs gs within is tries = Then tries (record { port = port; within = within; is = is })

-- if all were missed with it, no try bound a socket
pub in_vain : {range : Option PortRange} (port : ℕ) (es fs gs : List SocketEvent) → IsOneOf range port
    → gs ≡ Quiet (No_socket port) ∷ fs → TriesPorts range es fs → AreAllMissed range gs → TriesInVain range es gs
in_vain port es fs gs within is tries missed = search rules

-- without an order one port is tried
pub tries_any : (es fs : List SocketEvent) (made : Option ServerSocket) → fs ≡ after_bind 0 made es
    → Tries None es fs made
tries_any es fs None is = in_vain 0 es es fs tt is Start tt
tries_any es fs (Some socket) is = binds socket.port es es fs is Start

-- ---- each port of the range was tried
-- no socket was bound to the port
abbrev pub IsMissed : List SocketEvent → ℕ → Type 0
IsMissed events port = is_among port (missed_last events) ≡ true

module _ (port : ℕ) (es fs : List SocketEvent) (is : fs ≡ Quiet (No_socket port) ∷ es) where
  missed_still : (p : ℕ) → IsMissed es p → IsMissed fs p
  missed_still p h = search rules

  missed_now : IsMissed fs port
  missed_now = search rules

  -- all that were missed, and this one
  pub missed_more : (ports : List ℕ) → All (IsMissed es) ports → All (IsMissed fs) (ports ++ port ∷ [])
  missed_more ports all = All-push (IsMissed fs) ports port (λ k d h. missed_still _ (all k d h)) missed_now

none_left : (xs : List ℕ) → length xs ≡ 0 → xs ≡ []
none_left [] h = refl
none_left (x ∷ xs) h = absurd (omega (arith, h))

-- as many ports as come were used and missed: these are all of the range
pub all_missed : (range : PortRange) (before used after : List ℕ) (es : List SocketEvent)
    → IsPermutation (ports_of range) before → ComesLast before used after → length used ≡ length before
    → All (IsMissed es) used → AreAllMissed (Some range) es
all_missed range before used after es has last whole all =
    let many = rest_long before used after last in
    let none : length last.rest ≡ 0 = omega (arith, many, whole) in
    let come : All (IsMissed es) after = search (rules, none_left) in
    All-permutation (IsMissed es) after (ports_of range) (IsPermutation-sym (ports_of range) after (IsPermutation-trans
    (ports_of range) before after has last.all)) come
