-- The report of a run is that of the configuration that its words name.
use Rattle.std.proofs.Common.{◌≡◌, ◌∙◌, ℕ, List, [], ◌∷◌, Option, ap, refl, subst, sym}
use Rattle.std.specs.Prelude.{Some, None, IfSome, is_some, option_map}
use Rattle.tftp_status.specs.StatusEvent.{StatusEvent, texts_in}
use Rattle.tftp_status.specs.StatusEvent.StatusEvent.{Told, Moved, Handed}
use Rattle.tftp_status.specs.StatusFile.{AllOwn, HandsCounts, IsNewAt, KeepsCounts, Status, draft_of}
use Rattle.tftp_daemon.specs.CommandLine.{IfExit, IfRun}
use Rattle.tftp_daemon.specs.Reported.{AreTextsOf, ReportsWords, RunReportsAlone}
use Rattle.tftp_daemon.specs.Reports.{IsReportOf, ReportsAt}
use Rattle.tftp_daemon.specs.Words.{WordsConfigure}
use Rattle.tftp_daemon.specs.declared.command_line.CommandLine.{CommandLine}
use Rattle.tftp_daemon.specs.declared.command_line.CommandLine.TheVariants.{Run, Exit}
use Rattle.tftp_daemon.specs.declared.daemon.DaemonConfig.{DaemonConfig}

-- a new report at such a path is one of its configuration
reported : {config : DaemonConfig} {own : List ℕ} {status : Status} → ReportsAt config own → IsNewAt own status
    → IsReportOf config status
reported {own = own} at new = record {
  named = at.named;
  is_named = at.is_named;
  own = own;
  is_own = at.is_own;
  is_at = new.file_is;
  drains = at.drains;
  keeps = new.keeps;
}

-- so it is, if there is one, with settings that have its path
pub all_reported : {A B : Type 0} (config : DaemonConfig) (settings : Option B) (report : Option A) (path : B → List ℕ)
    (status : A → Status) → is_some report ≡ is_some settings → IfSome settings (λ b. ReportsAt config (path b))
    → IfSome settings (λ b. IfSome report (λ a. IsNewAt (path b) (status a)))
    → IfSome report (λ a. IsReportOf config (status a))
all_reported config settings None path status same at new = tt
all_reported config None (Some a) path status same at new = absurd (cc)
all_reported config (Some b) (Some a) path status same at new = reported at new

-- without a report nothing is to hold of one
pub none_reported : {A : Type 0} (P : A → Type 0) (report : Option A) → report ≡ None → IfSome report P
none_reported P None none = tt
none_reported P (Some a) none = absurd (cc)

-- a report whose file stays, and that keeps its counts, is one of its configuration to the end
pub reports_on : {A : Type 0} (config : DaemonConfig) (before after : Option A) (status : A → Status)
    → option_map (λ a. (status a).file) after ≡ option_map (λ a. (status a).file) before
    → IfSome after (λ a. KeepsCounts (status a)) → IfSome before (λ a. IsReportOf config (status a))
    → IfSome after (λ a. IsReportOf config (status a))
reports_on config before None status same keeps is = tt
reports_on config None (Some a) status same keeps is = absurd (cc)
reports_on config (Some b) (Some a) status same keeps is =
    let at : (status a).file ≡ (status b).file = cc in
    record {
      named = is.named;
      is_named = is.is_named;
      own = is.own;
      is_own = is.is_own;
      is_at = at ∙ is.is_at;
      drains = is.drains;
      keeps = keeps;
    }

-- the report is that of the configuration that the words name
pub reports_words : {A : Type 0} (words : List (List ℕ)) (line : CommandLine) (report : Option A) (status : A → Status)
    → IfRun line (WordsConfigure words) → IfRun line (λ config. IfSome report (λ a. IsReportOf config (status a)))
    → IfExit line (λ _. report ≡ None) → IfSome report (λ a. ReportsWords words (status a))
reports_words words line None status names is none = tt
reports_words words (Run config) (Some a) status names is none = (config, names, is)
reports_words words (Exit n) (Some a) status names is none = absurd (cc)

-- texts of what was noted are texts of that and one event more
later_noted : (event : StatusEvent) (events : List StatusEvent) (texts : List (List ℕ)) → AreTextsOf events texts
    → AreTextsOf (event ∷ events) texts
later_noted event events [] are = tt
later_noted event events (text ∷ earlier) (by_then, (later, is), is_text, before) =
    (by_then, (event ∷ later, ap (λ (all : List StatusEvent). event ∷ all) is), is_text, before)

-- each text that was handed is one of what was noted by then
texts_noted : (events : List StatusEvent) → HandsCounts events → AreTextsOf events (texts_in events)
texts_noted [] hands = tt
texts_noted (Told entry ∷ before) hands =
    later_noted (Told entry) before (texts_in before) (texts_noted before hands)
texts_noted (Moved way ∷ before) hands =
    later_noted (Moved way) before (texts_in before) (texts_noted before hands)
texts_noted (Handed text ∷ before) (is_text, hands) =
    (before, (Handed text ∷ [], refl), is_text, texts_noted before hands)

-- a run changes on the disk of its counts the file that its words name alone
pub reports_alone : RunReportsAlone
reports_alone words status (config, names, is) = record {
  file = is.named;
  asked = names.named.status ∙ is.is_named;
  config = config;
  configured = names;
  own = is.own;
  is_own = is.is_own;
  changes =
      subst (λ (own : List ℕ). AllOwn own (draft_of own) status.log) is.is_at
      (subst (λ (draft : List ℕ). AllOwn status.file draft status.log) is.keeps.beside is.keeps.own);
  replaces = is.keeps.replaces;
  texts = subst (AreTextsOf status.events) (sym is.keeps.texts) (texts_noted status.events is.keeps.handed);
}
