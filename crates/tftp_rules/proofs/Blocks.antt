-- The blocks of a text, in sequence. For `texts_go_on`, four other files and the crate tftp_player.
use Rattle.tftp_rules.proofs.Common.{◌≡◌, List, ℕ, rules, arith, ◌++◌, length, ◌+◌, ◌<◌, ◌≤◌, ◌*◌, drop, take}
use Rattle.tftp_rules.proofs.Common.{length-take, length-drop, take-append-drop, block, block_count, IsPrefixOf}
use Rattle.std.proofs.Math.Seq.{take-add}
use Rattle.std.proofs.lemmas.List.{take_all}
use Rattle.tftp_rules.specs.Texts.{BlocksGoOn, BlocksHaveLengths}

-- the first elements of a list are a prefix of it
pub prefix_by_take : (n : ℕ) (xs : List ℕ) → IsPrefixOf (take n xs) xs
prefix_by_take n xs = (drop n xs, take-append-drop n xs)

-- the next block follows the blocks before it
pub take-block : BlocksGoOn
take-block text n size = search (rules, take-add)

-- each block has the length that its number and the text give it
pub length-block : BlocksHaveLengths
length-block text n size = search (rules, length-take, length-drop)

-- a block that is shorter is the last one
pub last_block : (text : List ℕ) (n size : ℕ) → length (block text size (n + 1)) < size →
    take (n * size) text ++ block text size (n + 1) ≡ text
last_block text n size h = search (rules, length-block, take-block, take_all)

-- if the next block is full, the text is as long as all blocks up to it
pub full_block : (text : List ℕ) (n size : ℕ) → 0 < size → n * size ≤ length text →
    size ≤ length (block text size (n + 1)) → (n + 1) * size ≤ length text
full_block text n size p r h = search (rules, length-block)

-- after all blocks no text is left for another
pub count_is_past : (text : List ℕ) (n size : ℕ) → 0 < size → block_count text size ≤ n → length text < n * size
count_is_past text n size p h = grind arith
