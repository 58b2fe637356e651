-- What the calls of a source of a file have given (ours).
use Rattle.std.specs.Prelude.{ℕ, ◌≡◌, List, [], ◌++◌, refl}
use Rattle.std.proofs.Common.{sym, append-nil}
use Rattle.tftp_wire.specs.declared.mode.Mode.{Mode}
use Rattle.tftp_wire.specs.declared.mode.Mode.TheVariants.{Octet, Netascii}
use Rattle.tftp_file.specs.Netascii.{wire_text}
use Rattle.tftp_file.specs.Source.{GivesInTurn, SourceMeaning}
use Rattle.tftp_disk.specs.Given.{examined, given, opened_at, passed}
use Rattle.tftp_disk.specs.DiskSource.{GivesPiece, HasGiven, IsUnread}
use Rattle.tftp_disk.specs.DiskSource.{pending, source_calls, source_mode}
use Rattle.tftp_disk.specs.declared.disk_source.DiskSource.{DiskSource}

-- no bytes have no wire text
pub no_text : (mode : Mode) (left : List ℕ) → left ++ wire_text mode [] ≡ left
no_text Octet left = append-nil left
no_text Netascii left = append-nil left

-- without a call a source gives nothing
pub gives_nothing : {F : Type 0} (source : DiskSource F) → GivesPiece source [] source
gives_nothing source = record {
  mode = refl;
  bytes = [];
  reads = record {
    place = refl;
    found = refl;
    pass = refl;
    more = sym (append-nil (given (source_calls source)));
  };
  text = λ sound. (sound, no_text (source_mode source) (pending source));
  none = λ failed. refl;
}

-- a source has given this text since it was so: its file and its mode are the same, what was last
-- said of the file and the pass over it too, and the text is a beginning of that of what reads of
-- the file returned
pub record GivenInOrder {F : Type 0} (first last : DiskSource F) (text : List ℕ) : Type 0 where
  pub mode : source_mode last ≡ source_mode first
  pub place : opened_at (source_calls last) ≡ opened_at (source_calls first)
  pub found : examined (source_calls last) ≡ examined (source_calls first)
  pub pass : passed (source_calls last) ≡ passed (source_calls first)
  pub given : HasGiven last text

-- whatever calls of a source there are since it had read nothing of its file, what they gave
-- is such
abbrev pub GivesInOrder : {F : Type 0} → SourceMeaning (DiskSource F) → Type 0
GivesInOrder {F} sources =
    (mode : Mode) (first last : DiskSource F) (text : List ℕ) → GivesInTurn sources first text last
    → IsUnread mode first → given (source_calls first) ≡ [] → GivenInOrder first last text
