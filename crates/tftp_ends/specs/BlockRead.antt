-- Internal to the code: whether a read gave the whole block.
use Rattle.std.specs.Prelude.{Bool, true, false}
use Rattle.tftp_ends.specs.declared.end.sending.BlockRead.{BlockRead}
use Rattle.tftp_ends.specs.declared.end.sending.BlockRead.TheVariants.{Whole, Changed}

-- the whole block was read
abbrev pub is_whole : BlockRead → Bool
is_whole Whole = true
is_whole Changed = false
