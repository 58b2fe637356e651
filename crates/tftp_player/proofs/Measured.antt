-- The measured length of a file is its length, if its blocks can be numbered. For ServerLemmas and WorldKeeps.
use Rattle.tftp_player.proofs.Common.{◌≡◌, ◌+◌, ℕ, ◌*◌, ◌<◌, ◌≤◌, List, length, arith, rules, min, MAX_BLOCK, Mode}
use Rattle.tftp_player.proofs.Common.{Fits, wire_text, measured}
use Rattle.tftp_file.specs.declared.length.TheConstants.{MAX_WIRE}

-- a length that was counted to the end is the whole
counted_whole : (n size : ℕ) → size ≤ MAX_BLOCK → min n (MAX_WIRE + 1) < 65535 * size → min n (MAX_WIRE + 1) ≡ n
counted_whole n size small few = omega arith

-- the length of a file whose blocks can be numbered was counted to the end
pub measured_whole : (mode : Mode) (file : List ℕ) (size : ℕ) → size ≤ MAX_BLOCK → measured mode file < 65535 * size →
    measured mode file ≡ length (wire_text mode file)
measured_whole mode file size small few = counted_whole (length (wire_text mode file)) size small few

-- a text of that measured length has no more blocks than can be numbered
pub measured_fits : (mode : Mode) (file : List ℕ) (size : ℕ) → size ≤ MAX_BLOCK → measured mode file < 65535 * size →
    Fits (wire_text mode file) size
measured_fits mode file size small few = search rules
