-- What the system says of a file (ours).
use Rattle.std.specs.Prelude.{◌≡◌, Bool, ◌==◌, ◌&&◌, Result, Ok, Err}
use Rattle.std.specs.Fs.{file_type, metadata_len, metadata_mode, IsDir, IsFile, IsSymlink}
use Rattle.std.specs.declared.fs.attrs.FileType.{FileType}
use Rattle.std.specs.declared.fs.attrs.Metadata.{Metadata}
use Rattle.std.specs.declared.io.Error.{Error}
use Rattle.tftp_disk.specs.declared.found.FileId.{FileId}
use Rattle.tftp_disk.specs.declared.found.Found.{Found}
use Rattle.tftp_disk.specs.declared.found.Kind.{Kind}
use Rattle.tftp_disk.specs.declared.found.Kind.TheVariants.{Regular, Folder, Link, Special}

-- the two are one file
abbrev pub is_same_file : FileId → FileId → Bool
is_same_file a b = a.device == b.device && a.inode == b.inode

-- the kind of a file of this type
abbrev pub IsKind : Kind → FileType → Type 0
IsKind Regular type = IsFile type
IsKind Folder type = IsDir type
IsKind Link type = IsSymlink type
IsKind Special type = (IsFile type → ⊥) × (IsDir type → ⊥) × (IsSymlink type → ⊥)

-- what the system says of a file, by what std returned of it: its kind, its length in bytes, and
-- its mode
pub record IsOf (metadata : Metadata) (found : Found) : Type 0 where
  pub kind : IsKind found.kind (file_type metadata)
  pub bytes : found.bytes ≡ metadata_len metadata
  pub mode : found.mode ≡ metadata_mode metadata

-- what the system says of a file, or the error, as std returned it
abbrev pub FoundBy : Result Metadata Error → Result Found Error → Type 0
FoundBy (Ok metadata) (Ok found) = IsOf metadata found
FoundBy (Err error) (Err same) = same ≡ error
FoundBy answer found = ⊥
