-- What a source of a folder gives is what its text gives.
use Rattle.std.proofs.Common.{◌≡◌, ◌∙◌, ℕ, Bool, true, false, if◌then◌else◌, List, [], ◌∷◌, Ok, Err, append-nil, refl, subst, sym}
use Rattle.std.proofs.Common.{rules}
use Rattle.std.specs.declared.io.SeekFrom.TheVariants.{Start, End, Current}
use Rattle.tftp_disk.specs.DiskTrace.{DiskEvent}
use Rattle.tftp_disk.specs.DiskTrace.DiskEvent.{Looked, Followed, Resolved, Opened, Tried, Created, Made, Locked, Linked, Renamed, Removed}
use Rattle.tftp_disk.specs.DiskTrace.DiskEvent.{Folder_opened, Folder_synced, Examined, Given, Not_given, Sought}
use Rattle.tftp_disk.specs.DiskTrace.DiskEvent.{Written, Not_written, Synced, Mode_set}
use Rattle.tftp_disk.specs.Given.{given, is_at_start}
use Rattle.tftp_file.specs.Source.{GivesInTurn, SourceMeaning}
use Rattle.tftp_file.specs.Source.GivesInTurn.{Gave_more, Gave_nothing}
use Rattle.tftp_disk.specs.DiskSourceLaws.{GivesInOrder}
use Rattle.tftp_disk.specs.declared.disk_source.DiskSource.{DiskSource}
use Rattle.tftp_folder.specs.Source.{folder_source, text_of, GivesFile}
use Rattle.tftp_folder.specs.declared.folder_source.FolderSource.{FolderSource}

-- nothing was read since the start
pub nothing_given : (events : List DiskEvent) → is_at_start events ≡ true → given events ≡ []
nothing_given [] is = refl
nothing_given (Opened path (Ok done) ∷ events) is = refl
nothing_given (Given [] ∷ events) is = append-nil (given events) ∙ nothing_given events is
nothing_given (Sought (Start place) (Ok at) ∷ events) is =
    subst (λ (b : Bool). (if b then [] else given events) ≡ []) (sym is) refl
nothing_given (Looked path answer ∷ events) is = nothing_given events is
nothing_given (Followed path answer ∷ events) is = nothing_given events is
nothing_given (Resolved path answer ∷ events) is = nothing_given events is
nothing_given (Opened path (Err error) ∷ events) is = nothing_given events is
nothing_given (Tried path answer ∷ events) is = nothing_given events is
nothing_given (Created path calls ∷ events) is = nothing_given events is
nothing_given (Made path answer ∷ events) is = nothing_given events is
nothing_given (Locked path answer ∷ events) is = nothing_given events is
nothing_given (Linked file from to answer ∷ events) is = nothing_given events is
nothing_given (Renamed file from to answer ∷ events) is = nothing_given events is
nothing_given (Removed path answer ∷ events) is = nothing_given events is
nothing_given (Folder_opened path answer ∷ events) is = nothing_given events is
nothing_given (Folder_synced path answer ∷ events) is = nothing_given events is
nothing_given (Examined answer ∷ events) is = nothing_given events is
nothing_given (Not_given error ∷ events) is = nothing_given events is
nothing_given (Not_written error ∷ events) is = nothing_given events is
nothing_given (Synced answer ∷ events) is = nothing_given events is
nothing_given (Mode_set mode answer ∷ events) is = nothing_given events is
nothing_given (Given (byte ∷ bytes) ∷ events) is = absurd (let differ : true ≡ false = sym is in cc)
nothing_given (Sought (Start place) (Err error) ∷ events) is = absurd (let differ : true ≡ false = sym is in cc)
nothing_given (Sought (End place) answer ∷ events) is = absurd (let differ : true ≡ false = sym is in cc)
nothing_given (Sought (Current place) answer ∷ events) is = absurd (let differ : true ≡ false = sym is in cc)
nothing_given (Written bytes ∷ events) is = absurd (let differ : true ≡ false = sym is in cc)

module _ {V F : Type 0} (log : V → List DiskEvent) (texts : SourceMeaning (DiskSource F)) where
  text_gives : (first last : FolderSource V F) (all : List ℕ) → GivesInTurn (folder_source log texts) first all last
      → GivesInTurn texts (text_of first) all (text_of last)
  text_gives first last all Gave_nothing = Gave_nothing
  text_gives first last all (Gave_more {bytes} {piece} {before} {after} turn gives) =
      Gave_more (text_gives first before bytes turn) gives

  pub gives_its_file : GivesInOrder texts → GivesFile log (folder_source log texts)
  gives_its_file in_order root path mode stated first last text opens turn =
      search (rules, text_gives, nothing_given)
