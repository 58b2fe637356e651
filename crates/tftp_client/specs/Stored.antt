-- The file that a client receives, and how many bytes it has (own).
use Rattle.std.specs.Prelude.{ℕ, ◌≡◌, Option, Some, None}
use Rattle.std.specs.declared.io.traits.Read as read
use Rattle.std.specs.declared.io.traits.Write as write
use Rattle.std.specs.declared.io.traits.Seek as seek
use Rattle.tftp_file.specs.declared.files.Files.{Files}
use Rattle.tftp_file.specs.declared.files.Files.TheVariants.{Source, Sink}
use Rattle.tftp_disk.specs.declared.disk.Looks as looks
use Rattle.tftp_client.specs.declared.local.LocalFile.{LocalFile}

-- the file is received
abbrev pub IsReceived : {S K : Type 0} → Files S K → Type 0
IsReceived (Source source) = ⊥
IsReceived (Sink sink) = Unit {0}

module _ {S D F V G : Type 0} {logs : looks.Ghosts D} {writes : write.Ghosts F}
    {views : looks.Ghosts V} {reads : read.Ghosts G} {seeks : seek.Ghosts G} where
  -- how many bytes were appended to a received file
  abbrev pub stored : Files S (LocalFile D F V G logs writes views reads seeks) → Option ℕ
  stored (Source source) = None
  stored (Sink local) = Some local.count

  -- the length of a file here: of what was appended to a received one, or of one that is sent
  abbrev pub count_of : ℕ → Files S (LocalFile D F V G logs writes views reads seeks) → ℕ
  count_of sent (Source source) = sent
  count_of sent (Sink local) = local.count

  -- the disk is that of a received file
  abbrev pub HasDisk : Files S (LocalFile D F V G logs writes views reads seeks) → D → Type 0
  HasDisk (Source source) disk = ⊥
  HasDisk (Sink local) disk = disk ≡ local.part.disk
