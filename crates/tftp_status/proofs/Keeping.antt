-- What keeps the counts of a status file true.
use Rattle.std.proofs.Common.{◌≡◌, ◌∙◌, ℕ, List, ◌∷◌, ap}
use Rattle.tftp_disk.specs.DiskTrace.{DiskEvent}
use Rattle.tftp_status.specs.Comments.{AreComments}
use Rattle.tftp_status.specs.Counts.{counts_of}
use Rattle.tftp_status.specs.StatusEvent.{told_in}
use Rattle.tftp_status.specs.StatusEvent.StatusEvent.{Handed}
use Rattle.tftp_status.specs.StatusFile.{KeepsCounts, KeepsFiles, Status, renamed_in}
use Rattle.tftp_status.specs.StatusText.{status_text}
use Rattle.tftp_status.specs.declared.counts.Counts.{Counts}
use Rattle.tftp_status.specs.declared.datagrams.Datagrams.{Datagrams}
use Rattle.tftp_status.specs.declared.status_text.Facts.{Facts}

-- a text that the file was handed
pub keeps_handed : (status : Status) (facts : Facts) (lines text : List ℕ) (log : List DiskEvent)
    → KeepsCounts status → AreComments lines
    → text ≡ status_text status.counts status.datagrams facts lines
    → KeepsFiles status.file status.draft status.log log
    → renamed_in log ≡ text ∷ renamed_in status.log
    → KeepsCounts (record status { events = Handed text ∷ status.events; log = log })
keeps_handed status facts lines text log keeps comments text_is files renamed = record {
  beside = keeps.beside;
  counted = keeps.counted;
  moved = keeps.moved;
  handed = (
    (
      facts,
      lines,
      comments,
      text_is
          ∙ ap (λ (counts : Counts). status_text counts status.datagrams facts lines) keeps.counted
          ∙ ap (λ (datagrams : Datagrams). status_text (counts_of (told_in status.events)) datagrams facts lines)
          keeps.moved,
    ),
    keeps.handed,
  );
  texts = renamed ∙ ap (λ (texts : List (List ℕ)). text ∷ texts) keeps.texts;
  own = files.own keeps.own;
  replaces = files.replaces keeps.replaces;
}
