-- What a write of a status file leaves (ours).
use Rattle.std.specs.Prelude.{ℕ, ◌≡◌, true, false, not, ◌&&◌, ◌||◌, List, ◌∷◌}
use Rattle.std.specs.Prelude.{Option, is_some}
use Rattle.tftp_lines.specs.declared.reason.Reason.{Reason}
use Rattle.tftp_status.specs.Schedule.{has_missed, lacks, later, waiting_at}
use Rattle.tftp_status.specs.ServerFacts.{AreFactsAt}
use Rattle.tftp_status.specs.StatusEvent.StatusEvent.{Handed}
use Rattle.tftp_status.specs.StatusFile.{Status}
use Rattle.tftp_status.specs.StatusText.{status_text}
use Rattle.tftp_status.specs.declared.schedule.Schedule.{Schedule}
use Rattle.tftp_status.specs.declared.schedule.TheConstants.{LONGEST_AGE, PERIOD}
use Rattle.tftp_status.specs.declared.server_facts.ServerFacts.{ServerFacts}
use Rattle.tftp_status.specs.declared.status_text.Facts.{Facts}

-- a text was written of what was counted, of this server at this time in seconds since 1970 began in
-- UTC, and with these lines
abbrev pub HandsText : ℕ → ServerFacts → List ℕ → Status → Status → Type 0
HandsText time server lines old new =
    (facts : Facts) × AreFactsAt time server facts
    × (new.events ≡ Handed (status_text old.counts old.datagrams facts lines) ∷ old.events)

-- what a write at this time of the watch leaves: the next text is due a second later at the earliest;
-- nothing is written unless the newest text lacks something; if nothing lacks afterwards, a text was
-- written; and only the first failure is returned
pub record WritesAt (now : ℕ) (old new : Schedule) (Same Hands : Type 0) (said : Option Reason)
    : Type 0 where
  pub waits : new.due ≡ later now PERIOD
  pub idle : lacks now old ≡ false → (new ≡ waiting_at now old) × Same
  pub tried : lacks now old ≡ true → new.stale ≡ later now LONGEST_AGE
  pub hands : lacks now old ≡ true → new.is_changed ≡ false → Hands
  pub says : is_some said ≡ (has_missed now old new && not old.has_failed)
  pub notes : new.has_failed ≡ (old.has_failed || has_missed now old new)
