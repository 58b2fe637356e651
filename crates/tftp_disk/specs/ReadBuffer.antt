-- A buffer of the wire text of bytes that were read of a file (ours).
use Rattle.std.specs.Prelude.{ℕ, ◌≡◌, List, [], ◌++◌}
use Rattle.tftp_wire.specs.declared.mode.Mode.{Mode}
use Rattle.tftp_file.specs.Netascii.{wire_text}
use Rattle.tftp_disk.specs.DiskTrace.{DiskEvent}
use Rattle.tftp_disk.specs.Given.{GaveBytes, IsAtEnd}

-- the wire text of the bytes that these calls read is added to what is left, and nothing is left
-- only where the newest read returned none
pub record Refills (mode : Mode) (before after : List DiskEvent) (left left_after : List ℕ)
    : Type 0 where
  pub bytes : List ℕ
  pub reads : GaveBytes before after bytes
  pub added : left_after ≡ left ++ wire_text mode bytes
  pub end : left_after ≡ [] → IsAtEnd after

-- these calls read some bytes, of which nothing is said
abbrev pub ReadsSome : List DiskEvent → List DiskEvent → Type 0
ReadsSome before after = (bytes : List ℕ) × GaveBytes before after bytes
