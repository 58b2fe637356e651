-- Sample transfers that complete without loss: reads and writes, with and without options. For
-- `a_straight_run_completes`, `some_worlds_transfer` and four other files.
use Rattle.tftp_player.proofs.Common.{ℕ, List, [], ◌∷◌, refl, arith, rules, Octet, Blksize, Get, Put, Netascii}
use Rattle.tftp_player.proofs.Common.{Transfers, SomeReadIsStraight, SomeWriteIsStraight}
use Rattle.tftp_negotiate.specs.Options.{number_of, name_of}
use Rattle.tftp_negotiate.specs.declared.known.Kind.TheVariants.{Read, Write}
use Rattle.tftp_player.specs.Completing.{nothing_asked, blocks_of_8, two_blocks, three_blocks}
use Rattle.tftp_player.proofs.Witness.{Sample, Runs, name, read_is_straight_by, transfers_by, write_is_straight_by}
use Rattle.tftp_negotiate.specs.Answer.{answered_option}
use Rattle.std.specs.Fmt.{digits}
use Rattle.tftp_negotiate.specs.Negotiation.{occurrences_of}
use Rattle.tftp_negotiate.specs.Agreement.{taken_option}

-- in octet a block stands for its own bytes
abbrev same : List ℕ → List ℕ
same piece = piece

-- ---- a read of one byte in octet, without options
-- a read of one byte
abbrev pub read : Sample
read = record { mode = Octet; asked = nothing_asked; agreed = []; file = 65 ∷ []; count = 2; host = same }

-- the read of a byte, without options
pub read_runs : Runs Read read
unfolding occurrences_of
read_runs = search rules

-- its file arrives
pub read_transfers : Transfers (Get name Octet nothing_asked) (65 ∷ [])
read_transfers = transfers_by Read read read_runs (search rules)

-- it is straight
pub read_is_straight : SomeReadIsStraight Octet nothing_asked (65 ∷ []) []
read_is_straight = read_is_straight_by read read_runs refl

-- ---- a write of one byte in octet, without options
-- a write of one byte
abbrev pub write : Sample
write = record { mode = Octet; asked = nothing_asked; agreed = []; file = 65 ∷ []; count = 3; host = same }

-- the write of a byte, without options
pub write_runs : Runs Write write
unfolding occurrences_of
write_runs = search rules

-- its file arrives
pub write_transfers : Transfers (Put name Octet nothing_asked (65 ∷ [])) (65 ∷ [])
write_transfers = transfers_by Write write write_runs (search rules)

-- it is straight
pub write_is_straight : SomeWriteIsStraight Octet nothing_asked (65 ∷ []) []
write_is_straight = write_is_straight_by write write_runs (omega arith) (tt, (tt, ((λ e. cc), tt))) refl

-- ---- a read of a line end in netascii, without options
abbrev text : Sample
text =
    record { mode = Netascii; asked = nothing_asked; agreed = []; file = 10 ∷ []; count = 2; host = λ piece. 10 ∷ [] }

text_runs : Runs Read text
unfolding occurrences_of
text_runs = search rules

-- a file in netascii arrives
pub netascii_transfers : Transfers (Get name Netascii nothing_asked) (10 ∷ [])
netascii_transfers = transfers_by Read text text_runs (search rules)

-- its read is straight
pub netascii_is_straight : SomeReadIsStraight Netascii nothing_asked (10 ∷ []) []
netascii_is_straight = read_is_straight_by text text_runs refl

-- ---- a read of one byte in blocks of 8: the OACK is acknowledged, and then DATA 1
abbrev options : Sample
options = record { mode = Octet; asked = blocks_of_8; agreed = Blksize 8 ∷ []; file = 65 ∷ []; count = 4; host = same }

options_run : Runs Read options
unfolding occurrences_of name_of number_of digits answered_option taken_option
options_run = record {
  may = record { valid = search rules; options = search rules };
  spelled = search rules;
  accepts = refl;
  answered = (Blksize 8 ∷ [], refl);
  all = search rules;
}

-- a read with an option brings its file
pub options_transfer : Transfers (Get name Octet blocks_of_8) (65 ∷ [])
unfolding occurrences_of name_of number_of digits answered_option taken_option
options_transfer = transfers_by Read options options_run (search rules)

-- ---- a read of 17 bytes in three blocks of 8
-- a read of three blocks
abbrev pub blocks : Sample
blocks =
    record { mode = Octet; asked = blocks_of_8; agreed = Blksize 8 ∷ []; file = three_blocks; count = 8; host = same }

-- the read of three blocks of 8 bytes
pub blocks_run : Runs Read blocks
unfolding occurrences_of name_of number_of digits answered_option taken_option
blocks_run = record {
  may = record { valid = search rules; options = search rules };
  spelled = search rules;
  accepts = refl;
  answered = (Blksize 8 ∷ [], refl);
  all = search rules;
}

-- it is straight
pub blocks_are_straight : SomeReadIsStraight Octet blocks_of_8 three_blocks (Blksize 8 ∷ [])
blocks_are_straight = read_is_straight_by blocks blocks_run refl

-- ---- a write of 9 bytes in two blocks of 8, which an OACK answers
-- a write of two blocks
abbrev pub oack : Sample
oack = record { mode = Octet; asked = blocks_of_8; agreed = Blksize 8 ∷ []; file = two_blocks; count = 5; host = same }

-- the write of two blocks of 8 bytes
pub oack_runs : Runs Write oack
unfolding occurrences_of name_of number_of digits answered_option taken_option
oack_runs = record {
  may = record { valid = search rules; options = search rules; fits = omega arith };
  spelled = search rules;
  accepts = refl;
  answered = (Blksize 8 ∷ [], refl);
  all = search rules;
}

-- it is straight
pub oack_is_straight : SomeWriteIsStraight Octet blocks_of_8 two_blocks (Blksize 8 ∷ [])
unfolding occurrences_of name_of number_of digits answered_option taken_option
oack_is_straight = write_is_straight_by oack oack_runs (omega arith) (tt, (tt, (tt, (tt, ((λ e. cc), tt))))) refl
