-- One pass over a file, by the calls on it (ours).
use Rattle.std.specs.Prelude.{ℕ, ◌≡◌, List, ◌∷◌, length, Option, IfSome, option_map}
use Rattle.std.specs.declared.io.Error.{Error}
use Rattle.tftp_wire.specs.declared.mode.Mode.TheVariants.{Netascii}
use Rattle.tftp_file.specs.Length.{up_to}
use Rattle.tftp_file.specs.Netascii.{wire_text}
use Rattle.tftp_file.specs.declared.length.TheConstants.{MAX_WIRE}
use Rattle.tftp_disk.specs.DiskTrace.{DiskEvent}
use Rattle.tftp_disk.specs.DiskTrace.DiskEvent.{Not_given}
use Rattle.tftp_disk.specs.Given.{IsAtEnd, GaveBytes, examined, opened_at}
use Rattle.tftp_disk.specs.declared.disk_file.DiskFile.{DiskFile}
use Rattle.tftp_disk.specs.declared.measuring.TextLength.{TextLength}

module _ {F : Type 0} where
  -- the calls on an open file
  abbrev pub calls_on : DiskFile F → List DiskEvent
  calls_on file = file.trace.events

  -- calls on an open file, after which it is the same, and what was last said of it too
  pub record StaysOpen (before after : DiskFile F) : Type 0 where
    pub place : opened_at (calls_on after) ≡ opened_at (calls_on before)
    pub found : examined (calls_on after) ≡ examined (calls_on before)

-- the newest of these calls is a read that failed with this error
abbrev pub IsNotGiven : List DiskEvent → Error → Type 0
IsNotGiven calls error = (before : List DiskEvent) × (calls ≡ Not_given error ∷ before)

-- one read counted its bytes, and so much wire text in netascii: none only at the end of the file
pub record CountsChunk (before after : List DiskEvent) (counted : TextLength) : Type 0 where
  pub bytes : List ℕ
  pub reads : GaveBytes before after bytes
  pub count : counted.bytes ≡ length bytes
  pub wire : counted.wire_bytes ≡ length (wire_text Netascii bytes)
  pub end : counted.wire_bytes ≡ 0 → IsAtEnd after

-- one pass over a file read these bytes, to its end unless their text is too long: it counted them,
-- and the length of their text in netascii
pub record CountsPass (before after : List DiskEvent) (counted : Option TextLength) : Type 0 where
  pub bytes : List ℕ
  pub reads : GaveBytes before after bytes
  pub count : IfSome counted (λ text. text.bytes ≡ length bytes)
  pub wire : option_map (λ text. text.wire_bytes) counted
      ≡ up_to MAX_WIRE (length (wire_text Netascii bytes))
  pub end : IfSome counted (λ text. IsAtEnd after)
