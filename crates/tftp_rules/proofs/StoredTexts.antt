-- The wire text of what a receiver has stored, after more was stored. For NextBlocks, SinkMoves and the crate
-- tftp_player.
use Rattle.std.proofs.Common.{rules}
use Rattle.tftp_rules.proofs.Common.{◌≡◌, List, ℕ, arith, ◌++◌, append_assoc, common_steps, Mode, IsPrefixOf, wire_text}
use Rattle.tftp_file.proofs.PrefixLemmas.{wire_begins}

-- a block continues with what is stored of it and the text that is held back then
pub stored_more : (mode : Mode) (stored held bytes more after : List ℕ) → held ++ bytes ≡ wire_text mode more ++ after →
    (wire_text mode stored ++ held) ++ bytes ≡ wire_text mode (stored ++ more) ++ after
stored_more mode stored held bytes more after e = grind (arith, common_steps)

-- a prefix of what was to be stored is a prefix on the wire
pub stored_some : (mode : Mode) (stored kept more : List ℕ) → IsPrefixOf kept more →
    IsPrefixOf (wire_text mode (stored ++ kept)) (wire_text mode (stored ++ more))
stored_some mode stored kept more b = search (rules, wire_begins, append_assoc)
