-- The file of the counts, by the calls of its disk (ours).
use Rattle.std.specs.Prelude.{ℕ, ◌≡◌, ⊤, List, [], ◌∷◌, ◌++◌, codes, Result, Ok, Err}
use Rattle.std.specs.IoError.{error_kind}
use Rattle.std.specs.declared.io.Error.{Error}
use Rattle.std.specs.declared.io.ErrorKind.{ErrorKind}
use Rattle.tftp_disk.specs.DiskTrace.{DiskEvent}
use Rattle.tftp_disk.specs.DiskTrace.DiskEvent.{Looked, Made, Linked, Renamed, Removed}
use Rattle.tftp_disk.specs.DiskTrace.DiskEvent.{Folder_opened, Folder_synced, Tried}
use Rattle.tftp_disk.specs.declared.found.Found.{Found}
use Rattle.tftp_disk.specs.declared.found.Kind.TheVariants.{Regular}
use Rattle.tftp_status.specs.Comments.{AreComments}
use Rattle.tftp_status.specs.Counts.{counts_of}
use Rattle.tftp_status.specs.Datagrams.{datagrams_in}
use Rattle.tftp_status.specs.StatusEvent.{StatusEvent, texts_in, told_in}
use Rattle.tftp_status.specs.StatusEvent.StatusEvent.{Told, Moved, Handed}
use Rattle.tftp_status.specs.StatusText.{status_text}
use Rattle.tftp_status.specs.declared.counts.Counts.{Counts}
use Rattle.tftp_status.specs.declared.datagrams.Datagrams.{Datagrams}
use Rattle.tftp_sockets.specs.declared.entry.Entry.{Entry}
use Rattle.tftp_status.specs.declared.status_text.Facts.{Facts}

-- the path of the temporary file of a file
abbrev pub draft_of : List ℕ → List ℕ
draft_of file = file ++ codes "~"

-- what is known of a status file: its path and that of its temporary file; the counts and the
-- datagrams; what was noted and written; and what its disk was asked
pub record Status : Type 0 where
  pub file : List ℕ
  pub draft : List ℕ
  pub counts : Counts
  pub datagrams : Datagrams
  pub events : List StatusEvent
  pub log : List DiskEvent

-- the call changes nothing but the file and its temporary file: that one is made and removed, and
-- gets the name of the file
abbrev pub IsStatusCall : List ℕ → List ℕ → DiskEvent → Type 0
IsStatusCall file draft (Made path answer) = path ≡ draft
IsStatusCall file draft (Removed path answer) = path ≡ draft
IsStatusCall file draft (Renamed state from to answer) = (from ≡ draft) × (to ≡ file)
IsStatusCall file draft (Linked state from to answer) = ⊥
IsStatusCall file draft (Tried path answer) = ⊥
IsStatusCall file draft (Folder_opened path answer) = ⊥
IsStatusCall file draft (Folder_synced path answer) = ⊥
IsStatusCall file draft event = ⊤

abbrev pub AllOwn : List ℕ → List ℕ → List DiskEvent → Type 0
AllOwn file draft [] = ⊤
AllOwn file draft (event ∷ events) = IsStatusCall file draft event × AllOwn file draft events

-- a look found a regular file, or nothing
abbrev pub IsReplaceable : Result Found Error → Type 0
IsReplaceable (Ok found) = found.kind ≡ Regular
IsReplaceable (Err error) = error_kind error ≡ ErrorKind.NotFound

-- the newest look was at this path itself, and found a regular file there, or nothing
abbrev pub FoundReplaceable : List ℕ → List DiskEvent → Type 0
FoundReplaceable path [] = ⊥
FoundReplaceable path (Looked looked answer ∷ before) = (looked ≡ path) × IsReplaceable answer
FoundReplaceable path (event ∷ before) = FoundReplaceable path before

-- whatever was removed or replaced was found to be a regular file, or nothing, by the newest look
-- before
abbrev pub ReplacesFiles : List DiskEvent → Type 0
ReplacesFiles [] = ⊤
ReplacesFiles (Removed path answer ∷ before) = FoundReplaceable path before × ReplacesFiles before
ReplacesFiles (Renamed state from to answer ∷ before) =
    FoundReplaceable to before × ReplacesFiles before
ReplacesFiles (event ∷ before) = ReplacesFiles before

-- the bytes of each file that was renamed
abbrev pub renamed_in : List DiskEvent → List (List ℕ)
renamed_in [] = []
renamed_in (Renamed state from to (Ok done) ∷ events) = state.written ∷ renamed_in events
renamed_in (event ∷ events) = renamed_in events

-- the text is that of the counts of these entries and of these datagrams, and its other lines are
-- comments
abbrev pub IsTextOf : List Entry → Datagrams → List ℕ → Type 0
IsTextOf entries datagrams text =
    (facts : Facts) × (lines : List ℕ) × AreComments lines
    × (text ≡ status_text (counts_of entries) datagrams facts lines)

-- each text that was written is that of what was counted by then
abbrev pub HandsCounts : List StatusEvent → Type 0
HandsCounts [] = ⊤
HandsCounts (Told entry ∷ before) = HandsCounts before
HandsCounts (Moved way ∷ before) = HandsCounts before
HandsCounts (Handed text ∷ before) =
    IsTextOf (told_in before) (datagrams_in before) text × HandsCounts before

-- what a call of the disk keeps: all that it was asked to change is the file and its temporary file,
-- and what it replaced was a regular file, or nothing
pub record KeepsFiles (file draft : List ℕ) (before after : List DiskEvent) : Type 0 where
  pub own : AllOwn file draft before → AllOwn file draft after
  pub replaces : ReplacesFiles before → ReplacesFiles after

-- the temporary file is that of the file; the counts are those of what was noted, and the datagrams
-- those that went; each text that was written is that of what was counted by then, and the files
-- that got its name had these texts, in their order; all that its disk was asked to change is
-- the file and its temporary file; and what it replaced was a regular file, or nothing
pub record KeepsCounts (status : Status) : Type 0 where
  pub beside : status.draft ≡ draft_of status.file
  pub counted : status.counts ≡ counts_of (told_in status.events)
  pub moved : status.datagrams ≡ datagrams_in status.events
  pub handed : HandsCounts status.events
  pub texts : renamed_in status.log ≡ texts_in status.events
  pub own : AllOwn status.file status.draft status.log
  pub replaces : ReplacesFiles status.log

-- a status file at this path, with its temporary file beside it, for which nothing was noted, and to
-- which nothing was written
pub record IsNewAt (file : List ℕ) (status : Status) : Type 0 where
  pub file_is : status.file ≡ file
  pub draft_is : status.draft ≡ draft_of file
  pub nothing : status.events ≡ []
  pub keeps : KeepsCounts status
