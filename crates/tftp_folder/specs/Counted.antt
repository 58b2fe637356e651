-- How long the text of a file is, as one pass over it counted (ours).
use Rattle.std.specs.Prelude.{ℕ, ℤ, pos, ◌<ℤ◌, ◌-ℤ◌, ◌≡◌, ◌+◌, ◌/◌, ◌≤◌, min, true, List, length, Some}
use Rattle.tftp_wire.specs.declared.mode.Mode.TheVariants.{Netascii}
use Rattle.tftp_file.specs.Netascii.{wire_text}
use Rattle.tftp_file.specs.declared.length.TheConstants.{MAX_WIRE}
use Rattle.tftp_disk.specs.DiskTrace.{DiskEvent}
use Rattle.tftp_disk.specs.Found.{is_same_file}
use Rattle.tftp_disk.specs.Given.{examined, given, is_at_end}
use Rattle.tftp_disk.specs.declared.found.Found.{Found}
use Rattle.tftp_folder.specs.declared.wire_lengths.TheConstants.{LENGTH_COST}

-- the same file was found twice, as long, and last changed at the same time
pub record IsUnchanged (first last : Found) : Type 0 where
  pub same : is_same_file first.id last.id ≡ true
  pub bytes : first.bytes ≡ last.bytes
  pub changed : first.changed ≡ last.changed
  pub nanos : first.changed_nanos ≡ last.changed_nanos

-- a change, by its seconds, was more than two seconds before these
abbrev pub IsSettled : ℤ → ℤ → Type 0
IsSettled changed seconds = changed <ℤ (seconds -ℤ pos 2)

-- the length of the text of these bytes in netascii, or one more than the longest that can be sent
-- if it is longer
abbrev pub length_counted : List ℕ → ℕ
length_counted bytes = min (length (wire_text Netascii bytes)) (MAX_WIRE + 1)

-- how many lengths are remembered in so many bytes of memory
abbrev pub lengths_in : ℕ → ℕ
lengths_in bytes = bytes / LENGTH_COST

-- by these calls on an open file the system said that it is this one, as long, and last changed at
-- the same time, and one pass over it counted this length: that of the text of the bytes that it
-- read, to the end of the file unless their text is too long
pub record IsCounted (found : Found) (calls : List DiskEvent) (counted : ℕ) : Type 0 where
  pub seen : Found
  pub told : examined calls ≡ Some seen
  pub unchanged : IsUnchanged seen found
  pub long : counted ≡ length_counted (given calls)
  pub whole : counted ≤ MAX_WIRE → is_at_end calls ≡ true
