-- What the run of a server changes on the disk of its counts, by the words of its command line (own).
use Rattle.std.specs.Prelude.{ℕ, ◌≡◌, ⊤, List, [], ◌∷◌, ◌++◌, Some, codes}
use Rattle.clap.specs.Simple.{matches_of}
use Rattle.tftp_arguments.specs.Read.{read_in}
use Rattle.tftp_status.specs.Datagrams.{datagrams_in}
use Rattle.tftp_status.specs.StatusEvent.{StatusEvent, told_in}
use Rattle.tftp_status.specs.StatusFile.{AllOwn, IsTextOf, ReplacesFiles, Status, draft_of}
use Rattle.tftp_status.specs.StatusFile.{renamed_in}
use Rattle.tftp_daemon.specs.Reports.{IsOwnFile, IsReportOf}
use Rattle.tftp_daemon.specs.Words.{WordsConfigure, tftpd_app}
use Rattle.tftp_daemon.specs.declared.daemon.DaemonConfig.{DaemonConfig}

-- the words have the option `--status` with this file
abbrev pub AskForStatus : List (List ℕ) → List ℕ → Type 0
AskForStatus words file =
    (read_in (matches_of tftpd_app words)).word (codes "status") ≡ Some file

-- the words name a configuration, and the status is that of its file
abbrev pub ReportsWords : List (List ℕ) → Status → Type 0
ReportsWords words status =
    (config : DaemonConfig) × WordsConfigure words config × IsReportOf config status

-- these events were all that was noted, at an earlier time
abbrev pub WereNoted : List StatusEvent → List StatusEvent → Type 0
WereNoted by_then events = (later : List StatusEvent) × (events ≡ later ++ by_then)

-- each of these texts, the newest first, is that of what was counted by then: entries, in the order in
-- which they were noted, and datagrams
abbrev pub AreTextsOf : List StatusEvent → List (List ℕ) → Type 0
AreTextsOf events [] = ⊤
AreTextsOf events (text ∷ earlier) =
    (by_then : List StatusEvent) × WereNoted by_then events
    × IsTextOf (told_in by_then) (datagrams_in by_then) text × AreTextsOf by_then earlier

-- the words name a status file; of a server alone that is its own, and that of one of several has its
-- number. All that its disk was asked to change is that file and its temporary file; what it removed
-- or replaced was a regular file, or nothing, by the newest look before; and the files that got its
-- name had the counts of what the server had noted by then
pub record ReportsAlone (words : List (List ℕ)) (status : Status) : Type 0 where
  pub file : List ℕ
  pub asked : AskForStatus words file
  pub config : DaemonConfig
  pub configured : WordsConfigure words config
  pub own : List ℕ
  pub is_own : IsOwnFile file config.instance.server own
  pub changes : AllOwn own (draft_of own) status.log
  pub replaces : ReplacesFiles status.log
  pub texts : AreTextsOf status.events (renamed_in status.log)

-- whatever the words, the datagrams and the answers of the system
abbrev pub RunReportsAlone : Type 0
RunReportsAlone =
    (words : List (List ℕ)) (status : Status) → ReportsWords words status
    → ReportsAlone words status
