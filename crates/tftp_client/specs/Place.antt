-- Whether a file may be fetched to a path, by the looks at it (own).
use Rattle.std.specs.Prelude.{ℕ, ◌≡◌, ◌≢◌, ◌⊎◌, List, [], ◌∷◌, Option, Some, None, Result, Ok, Err}
use Rattle.std.specs.IoError.{error_kind}
use Rattle.std.specs.declared.io.Error.{Error}
use Rattle.std.specs.declared.io.ErrorKind.TheVariants as kinds
use Rattle.tftp_disk.specs.DiskTrace.{DiskEvent, Done}
use Rattle.tftp_disk.specs.DiskTrace.DiskEvent.{Folder_opened, Looked}
use Rattle.tftp_disk.specs.Folder.{IsFolderOf}
use Rattle.tftp_disk.specs.declared.existing.Existing.{Existing}
use Rattle.tftp_disk.specs.declared.existing.Existing.TheVariants.{Refused, Replaced}
use Rattle.tftp_disk.specs.declared.found.Found.{Found}
use Rattle.tftp_disk.specs.declared.found.Kind.TheVariants.{Regular, Folder}
use Rattle.tftp_client.specs.Fetched.{Paths}
use Rattle.tftp_client.specs.LocalError.{IsOutOfMemory}
use Rattle.tftp_client.specs.declared.local_error.LocalError.{LocalError}
use Rattle.tftp_client.specs.declared.local_error.LocalError.TheVariants as errors

-- a regular file that was found at the name: it is to be replaced, or is a fault
abbrev pub replacing : Existing → Found → Result (Option Found) LocalError
replacing Replaced found = Ok (Some found)
replacing Refused found = Err errors.Exists

-- what was found at the name is to be replaced, or is a fault: only a regular file is replaced
abbrev pub IsReplacedBy : Existing → Found → Result (Option Found) LocalError → Type 0
IsReplacedBy existing found result =
    ((found.kind ≡ Regular) × (result ≡ replacing existing found))
    ⊎ ((found.kind ≢ Regular) × (result ≡ Err errors.NotAFile))

-- the same by a look at the name: where nothing was found, nothing is replaced
abbrev pub ReplacesAt : Existing → Result Found Error → Result (Option Found) LocalError → Type 0
ReplacesAt existing (Ok found) result = IsReplacedBy existing found result
ReplacesAt existing (Err error) result =
    ((error_kind error ≡ kinds.NotFound) × (result ≡ Ok None))
    ⊎ ((error_kind error ≢ kinds.NotFound) × (result ≡ Err (errors.System error)))

-- the name is free by this look: nothing was found at it, or a regular file that is to be replaced
abbrev pub IsFree : Existing → Result Found Error → Type 0
IsFree existing found = (replaced : Option Found) × ReplacesAt existing found (Ok replaced)

-- by this look at the other name, a file that has it can be removed: it is no folder, or absent
abbrev pub IsPartFree : Result Found Error → Type 0
IsPartFree (Ok found) = found.kind ≢ Folder
IsPartFree (Err error) = error_kind error ≡ kinds.NotFound

-- by this look at the other name there is no place, for this reason: it is a folder's, or cannot be
-- looked at
abbrev pub IsPartFault : Result Found Error → LocalError → Type 0
IsPartFault (Ok found) error = (found.kind ≡ Folder) × (error ≡ errors.PartIsAFolder)
IsPartFault (Err failure) error =
    (error_kind failure ≢ kinds.NotFound) × (error ≡ errors.System failure)

-- between these calls both names were looked at, and found free, and then their folder was opened,
-- or may not be read
pub record FindsPlace (paths : Paths) (existing : Existing) (before after : List DiskEvent)
    : Type 0 where
  pub at_local : Result Found Error
  pub free : IsFree existing at_local
  pub at_part : Result Found Error
  pub part_free : IsPartFree at_part
  pub folder : List ℕ
  pub answer : Done
  pub after_is : after ≡ Folder_opened folder answer
      ∷ Looked paths.part at_part ∷ Looked paths.local at_local ∷ before

-- between these calls there was no place for the file, for this reason: its path is empty, or a
-- call had no memory; the look at the name found it taken; that at the other name did; or the folder
-- could not be opened
pub data FindsNone (paths : Paths) (existing : Existing) (before : List DiskEvent)
    : LocalError → List DiskEvent → Type 0 where
  IsEmpty : paths.local ≡ [] → FindsNone paths existing before errors.EmptyPath before
  HasNoMemory : {error : LocalError} → IsOutOfMemory error
      → FindsNone paths existing before error before
  IsTaken : {error : LocalError} (at_local : Result Found Error)
      → ReplacesAt existing at_local (Err error)
      → FindsNone paths existing before error (Looked paths.local at_local ∷ before)
  PartIsTaken : {error : LocalError} (at_local at_part : Result Found Error)
      → IsFree existing at_local → IsPartFault at_part error
      → FindsNone paths existing before error
      (Looked paths.part at_part ∷ Looked paths.local at_local ∷ before)
  HasNoFolder : {failure : Error} (at_local at_part : Result Found Error) (folder : List ℕ)
      (answer : Done) → IsFree existing at_local → IsPartFree at_part
      → IsFolderOf paths.local folder
      → FindsNone paths existing before (errors.System failure)
      (Folder_opened folder answer ∷ Looked paths.part at_part
      ∷ Looked paths.local at_local ∷ before)
