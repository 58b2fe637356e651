-- Facts of endpoints and texts, for the proofs of the machine and of the crates above.
use Rattle.std.specs.Prelude.{ℕ, ◌≡◌, ◌+◌, ◌*◌, ◌-◌, List, [], ◌++◌, length, take, min}
use Rattle.tftp_ends.specs.declared.endpoint.Endpoint.{Endpoint}
use Rattle.tftp_file.specs.Block.{block, IsPrefixOf}

-- an endpoint is its address and its port
abbrev pub EndpointsAreTheirParts : Type 0
EndpointsAreTheirParts = (a b : Endpoint) → a.ip ≡ b.ip → a.port ≡ b.port → a ≡ b

-- the next block follows the blocks before it
abbrev pub BlocksGoOn : Type 0
BlocksGoOn =
    (text : List ℕ) (n size : ℕ)
    → take (n * size) text ++ block text size (n + 1) ≡ take ((n + 1) * size) text

-- a block has the block size, or the length that is left
abbrev pub BlocksHaveLengths : Type 0
BlocksHaveLengths =
    (text : List ℕ) (n size : ℕ)
    → length (block text size (n + 1)) ≡ min size (length text - n * size)

-- a prefix of a prefix is one
abbrev pub PrefixesJoin : Type 0
PrefixesJoin =
    (xs ys zs : List ℕ) → IsPrefixOf xs ys → IsPrefixOf ys zs → IsPrefixOf xs zs

-- only the empty text is a prefix of the empty text
abbrev pub OnlyNothingBeginsNothing : Type 0
OnlyNothingBeginsNothing = (xs : List ℕ) → IsPrefixOf xs [] → xs ≡ []
