-- The order in which a server uses its ports (ours).
use Rattle.std.specs.Prelude.{ℕ, ◌≡◌, ◌≤◌, ◌-◌, ◌+◌, ◌/◌, ⊤, List, [], ◌∷◌, ◌++◌, length, drop}
use Rattle.std.specs.Prelude.{Option, Some, None, All, IsPermutation}
use Rattle.std.specs.List.{range_with_len}
use Rattle.tftp_loop.specs.declared.port_order.PortOrder.{PortOrder}
use Rattle.tftp_loop.specs.declared.port_order.PortRange.{PortRange}

-- the ports of a range, from the first to the last
abbrev pub ports_of : PortRange → List ℕ
ports_of range = range_with_len range.first (range.last - range.first) ++ range.last ∷ []

-- how many ports a range has
abbrev pub port_count : PortRange → ℕ
port_count range = (range.last - range.first) + 1

-- a range of ports that a socket can be bound to: 0 stands for any port
abbrev pub IsRange : PortRange → Type 0
IsRange range = (1 ≤ range.first) × (range.first ≤ range.last)

-- the port is one of the range, if there is a range
abbrev pub IsOneOf : Option PortRange → ℕ → Type 0
IsOneOf None port = ⊤
IsOneOf (Some range) port = IsRange range → (range.first ≤ port) × (port ≤ range.last)

-- the ports in the order in which they come next, each once: the first is unused for longest
abbrev pub coming : PortOrder → List ℕ
coming order = order.ports.items

-- how many ports the next one is drawn from: the half of them that is unused for longest
abbrev pub drawn_from : PortRange → ℕ
drawn_from range = (port_count range + 1) / 2

-- an order of the ports of this range
pub record IsOrderOf (range : PortRange) (order : PortOrder) : Type 0 where
  pub same : order.range ≡ range
  pub all : IsPermutation (ports_of range) (coming order)

-- some port comes, each that comes is one of the range, and each of the range comes
pub record HasPorts (order : PortOrder) : Type 0 where
  pub all : IsPermutation (ports_of order.range) (coming order)
  pub some : 1 ≤ length (coming order)
  pub each : All (IsOneOf (Some order.range)) (coming order)

-- the ports that come next, so many, are mixed: those behind them come as before
pub record Mixes (among : ℕ) (old new : PortOrder) : Type 0 where
  pub range : new.range ≡ old.range
  pub all : IsPermutation (coming old) (coming new)
  pub rest : drop among (coming new) ≡ drop among (coming old)

-- the first port is used: it comes last then
pub record UsesNext (old new : PortOrder) (port : ℕ) : Type 0 where
  pub range : new.range ≡ old.range
  pub others : List ℕ
  pub was : coming old ≡ port ∷ others
  pub is : coming new ≡ others ++ port ∷ []
