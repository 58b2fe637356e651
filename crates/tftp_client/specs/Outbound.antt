-- A file to send, as it is when its transfer begins, by the calls on it (own).
use Rattle.std.specs.Prelude.{ℕ, ◌≡◌, List, length, Some}
use Rattle.tftp_wire.specs.declared.mode.Mode.{Mode}
use Rattle.tftp_wire.specs.declared.mode.Mode.TheVariants.{Octet, Netascii}
use Rattle.tftp_file.specs.Netascii.{wire_text}
use Rattle.tftp_disk.specs.DiskTrace.{DiskEvent}
use Rattle.tftp_disk.specs.Given.{examined, passed}
use Rattle.tftp_disk.specs.declared.found.Found.{Found}

-- its length in bytes, as the system said it last
pub record IsLongAs (bytes : ℕ) (events : List DiskEvent) : Type 0 where
  pub found : Found
  pub told : examined events ≡ Some found
  pub long : bytes ≡ found.bytes

-- one pass over it, to its end, read so many bytes, whose text has so many in netascii
pub record IsPassed (bytes wire : ℕ) (events : List DiskEvent) : Type 0 where
  pub text : List ℕ
  pub read : passed events ≡ Some text
  pub count : bytes ≡ length text
  pub long : wire ≡ length (wire_text Netascii text)

-- it has so many bytes, and so many on the wire in this mode: in octet as the system said; in
-- netascii as one pass over it counted
abbrev pub HasLength : Mode → ℕ → ℕ → List DiskEvent → Type 0
HasLength Octet bytes wire events = IsLongAs bytes events × (wire ≡ bytes)
HasLength Netascii bytes wire events = IsPassed bytes wire events
