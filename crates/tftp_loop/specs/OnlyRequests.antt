-- What a server drops at its request port that handles only requests there.
use Rattle.std.specs.Prelude.{ℕ, ◌≡◌, ◌==◌, ◌&&◌, ◌||◌, Bool, true, false, List, [], ◌∷◌}

-- the datagram begins with the opcode of RRQ, 1, or of WRQ, 2 (RFC 1350, section 5)
abbrev pub begins_as_request : List ℕ → Bool
begins_as_request (high ∷ low ∷ rest) = high == 0 && ((low == 1) || (low == 2))
begins_as_request (high ∷ []) = false
begins_as_request [] = false

-- a datagram is handled, if only requests are or all datagrams
abbrev pub IsHandledBy : Bool → List ℕ → Type 0
IsHandledBy only bytes = only ≡ true → begins_as_request bytes ≡ true
