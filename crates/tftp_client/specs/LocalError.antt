-- Why a file here cannot be used, in words (own).
use Rattle.std.specs.Prelude.{ℕ, ◌≡◌, List, codes}
use Rattle.std.specs.IoError.{error_kind, raw_os_error}
use Rattle.std.specs.declared.io.ErrorKind.TheVariants as kinds
use Rattle.tftp_lines.specs.Reason.{reason_of, reason_text}
use Rattle.tftp_client.specs.declared.local_error.LocalError.{LocalError}
use Rattle.tftp_client.specs.declared.local_error.LocalError.TheVariants as errors

-- the words
abbrev pub local_error_text : LocalError → List ℕ
local_error_text errors.EmptyPath = codes "the path is empty"
local_error_text errors.Exists = codes "exists (--replace replaces it)"
local_error_text errors.NotAFile = codes "not a file"
local_error_text errors.PartIsAFolder = codes "a folder has this name with .part"
local_error_text errors.PartReplaced = codes "another file has this name with .part"
local_error_text errors.LengthUnknown = codes "length unknown"
local_error_text errors.Unreadable = codes "cannot be read"
local_error_text errors.TooLong = codes "file too large"
local_error_text (errors.System error) = reason_text (reason_of (raw_os_error error))

-- a call had no memory
abbrev pub IsOutOfMemory : LocalError → Type 0
IsOutOfMemory (errors.System error) = error_kind error ≡ kinds.OutOfMemory
IsOutOfMemory error = ⊥
