-- The file of a source of a folder, and how long its text is (ours).
use Rattle.std.specs.Prelude.{ℕ, ◌≡◌, ◌+◌, ◌<◌, ◌≤◌, min, true, List, [], Some}
use Rattle.std.specs.Option.{option_map_or}
use Rattle.tftp_wire.specs.declared.mode.Mode.{Mode}
use Rattle.tftp_wire.specs.declared.mode.Mode.TheVariants.{Octet, Netascii}
use Rattle.tftp_disk.specs.Changes.{changes}
use Rattle.tftp_disk.specs.DiskTrace.{DiskEvent}
use Rattle.tftp_disk.specs.DiskSource.{IsUnread, source_calls}
use Rattle.tftp_disk.specs.DiskSourceLaws.{GivenInOrder}
use Rattle.tftp_disk.specs.Given.{examined, is_at_start}
use Rattle.tftp_disk.specs.declared.disk_source.DiskSource.{DiskSource}
use Rattle.tftp_disk.specs.declared.found.Found.{Found}
use Rattle.tftp_file.specs.Source.{GivesInTurn, SourceMeaning}
use Rattle.tftp_file.specs.declared.length.TheConstants.{MAX_WIRE}
use Rattle.tftp_store.specs.declared.store.Opening.{Opening}
use Rattle.tftp_folder.specs.Counted.{IsCounted}
use Rattle.tftp_folder.specs.Inside.{AreInside}
use Rattle.tftp_folder.specs.Opened.{OpensAt}
use Rattle.tftp_folder.specs.declared.measured.StatedLength.{StatedLength}
use Rattle.tftp_folder.specs.declared.folder_source.FolderSource.{FolderSource}

module _ {V F : Type 0} where
  -- the text of the file that a source reads
  abbrev pub text_of : FolderSource V F → DiskSource F
  text_of source = source.text

  -- the calls on the open file of a source
  abbrev pub calls_of : FolderSource V F → List DiskEvent
  calls_of source = source_calls source.text

-- the calls on the file whose text was counted: none if none was
abbrev pub counted_by : StatedLength → List DiskEvent
counted_by stated = option_map_or (λ measured. measured.value.calls.value.events) stated.counted []

-- how long a file is said to be that was found so, if the longest that can be sent is so long: in
-- octet as long as the system says, whatever that is; in netascii too long if it is so by what the
-- system says, and else as one pass over it counted, by these calls
pub record StatesLength (longest : ℕ) (mode : Mode) (found : Found) (calls : List DiskEvent)
    (stated : ℕ) : Type 0 where
  pub octet : mode ≡ Octet → stated ≡ min found.bytes (MAX_WIRE + 1)
  pub long : mode ≡ Netascii → min longest MAX_WIRE < found.bytes → stated ≡ MAX_WIRE + 1
  pub netascii : mode ≡ Netascii → found.bytes ≤ min longest MAX_WIRE
      → IsCounted found calls stated

module _ {V F : Type 0} where
  -- the length of an opened file is stated by what the system said of it, and in netascii by one
  -- pass, of which the source has the calls
  pub record StatesOpened (longest : ℕ) (mode : Mode) (opening : Opening (FolderSource V F))
      : Type 0 where
    pub found : Found
    pub told : examined (calls_of opening.source) ≡ Some found
    pub states : StatesLength longest mode found (counted_by opening.source.stated.value)
        opening.length

module _ {V F : Type 0} (log : V → List DiskEvent) where
  -- the source of a file that was found at the path of a request and opened there, in this mode: it
  -- begins with the first byte, and has read nothing since. Its length is stated by what the system
  -- said of it. The calls that found the file changed nothing, and no path outside the root was
  -- passed to the system
  pub record OpensSource (root path : List ℕ) (mode : Mode) (stated : ℕ)
      (source : FolderSource V F) : Type 0 where
    pub opened : Found
    pub opens : OpensAt root path opened (log source.found) (calls_of source)
    pub start : is_at_start (calls_of source) ≡ true
    pub unread : IsUnread mode (text_of source)
    pub longest : ℕ
    pub states : StatesLength longest mode opened (counted_by source.stated.value) stated
    pub looks : changes (log source.found) ≡ []
    pub inside : AreInside root (log source.found)

  -- the model of a source of a folder: that of its text, and how a store opens it
  abbrev pub folder_source : SourceMeaning (DiskSource F) → SourceMeaning (FolderSource V F)
  folder_source texts =
      record {
        left = λ s. texts.left s.text;
        may_fail = λ s want. texts.may_fail s.text want;
        fails = λ s want. texts.fails s.text want;
        gives = λ s piece t. texts.gives s.text piece t.text;
        opens = OpensSource;
      }

  -- whatever calls there are of a source since it was opened, what they gave is a beginning of the
  -- wire text of what reads of that file returned, in order and each byte once, and it is all of it
  -- but what the source still has, unless a read failed
  abbrev pub GivesFile : SourceMeaning (FolderSource V F) → Type 0
  GivesFile sources =
      (root path : List ℕ) (mode : Mode) (stated : ℕ) (first last : FolderSource V F) (text : List ℕ)
      → OpensSource root path mode stated first → GivesInTurn sources first text last
      → GivenInOrder (text_of first) (text_of last) text
