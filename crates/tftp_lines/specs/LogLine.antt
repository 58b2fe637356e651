-- The lines of `tftpd --log` (ours).
use Rattle.std.specs.Prelude.{ℕ, Bool, true, false, ◌&&◌, if◌then◌else◌, List, [], ◌++◌, codes}
use Rattle.std.specs.Prelude.{Option, Some, None, is_some}
use Rattle.std.specs.Fmt.{decimal}
use Rattle.tftp_ends.specs.Endpoint.{endpoint_text}
use Rattle.tftp_ends.specs.Outcome.{outcome_text}
use Rattle.tftp_ends.specs.declared.outcome.Outcome.{Outcome}
use Rattle.tftp_ends.specs.declared.outcome.Outcome.TheVariants as outcomes
use Rattle.tftp_lines.specs.declared.reason.Reason.{Reason}
use Rattle.tftp_lines.specs.declared.log_line.RequestLine.{RequestLine}
use Rattle.tftp_lines.specs.declared.log_line.Lost.{Lost as LostReason}
use Rattle.tftp_lines.specs.declared.log_line.Lost.TheVariants as lost_reasons
use Rattle.tftp_lines.specs.declared.log_line.LogLine.{LogLine}
use Rattle.tftp_lines.specs.declared.log_line.LogLine.TheVariants.{Opened, Refused, Ignored}
use Rattle.tftp_lines.specs.declared.log_line.LogLine.TheVariants.{Lost, Unsent, Closed}
use Rattle.tftp_lines.specs.declared.log_line.Logged.{Logged}
use Rattle.tftp_lines.specs.declared.log_line.Why.{Why}
use Rattle.tftp_lines.specs.declared.log_line.Why.TheVariants as whys
use Rattle.tftp_lines.specs.Hint.{hinted_text}
use Rattle.tftp_lines.specs.Reason.{reason_text}

-- the reason, if known
abbrev pub because_text : Option Reason → List ℕ
because_text (Some reason) = codes ", " ++ reason_text reason
because_text None = []

-- what a lost request lacked
abbrev pub lost_text : LostReason → List ℕ
lost_text (lost_reasons.Port reason) = codes "no port" ++ because_text reason
lost_text lost_reasons.Memory = codes "out of memory"
lost_text (lost_reasons.Client most) = decimal most ++ codes " transfers of this client"

-- why a transfer closed, if more is known than its outcome
abbrev pub why_text : Option Why → List ℕ
why_text (Some (whys.Refused reason)) = codes ", " ++ reason_text reason
why_text (Some (whys.Error line)) = codes ", " ++ line.now
why_text None = []

-- a datagram to the request port: its sender, and its packet's line
abbrev pub request_text : RequestLine → List ℕ
request_text request = endpoint_text request.peer ++ (codes " " ++ request.line.now)

-- what a transfer took: bytes of DATA, milliseconds, and datagrams that were sent again
abbrev pub amounts_text : ℕ → ℕ → ℕ → List ℕ
amounts_text bytes millis again =
    decimal bytes
    ++ (codes " bytes, "
    ++ (decimal millis ++ (codes " ms, " ++ (decimal again ++ codes " sent again"))))

-- a line, without its end
abbrev pub log_text : LogLine → List ℕ
log_text (Opened port request answer) =
    codes "opened "
    ++ (decimal port ++ (codes " " ++ (request_text request ++ (codes ": " ++ answer.now))))
log_text (Refused request answer reason) =
    codes "refused "
    ++ (request_text request ++ (codes ": " ++ (answer.now ++ because_text reason)))
log_text (Ignored request) = codes "ignored " ++ request_text request
log_text (Lost request lost) =
    codes "lost " ++ (request_text request ++ (codes ": " ++ lost_text lost))
log_text (Unsent port request reason) =
    codes "unsent "
    ++ (decimal port ++ (codes " " ++ (request_text request ++ (codes ": " ++ reason_text reason))))
log_text (Closed port request answer bytes millis again outcome why hint) =
    codes "closed "
    ++ (decimal port
    ++ (codes " "
    ++ (request_text request
    ++ (codes ": "
    ++ (answer.now
    ++ (codes ", "
    ++ (amounts_text bytes millis again
    ++ (codes ", " ++ (outcome_text outcome ++ (why_text why ++ hinted_text hint))))))))))

-- a transfer failed, and its peer did not end it
abbrev pub is_failure : Outcome → Bool
is_failure outcomes.Complete = false
is_failure (outcomes.PeerError code) = false
is_failure outcomes.TimedOut = true
is_failure outcomes.Illegal = true
is_failure (outcomes.Refused refusal) = true
is_failure outcomes.TooLarge = true
is_failure outcomes.StoreFault = true
is_failure outcomes.SourceFault = true
is_failure outcomes.NotNetascii = true

-- a line that is about something that an operator may have to change
abbrev pub is_warning : LogLine → Bool
is_warning (Opened port request answer) = false
is_warning (Refused request answer reason) = is_some reason
is_warning (Ignored request) = false
is_warning (Lost request lost) = true
is_warning (Unsent port request reason) = true
is_warning (Closed port request answer bytes millis again outcome why hint) = is_failure outcome

-- a line as it is written, without its end: a warning begins with its priority, if lines have one
abbrev pub logged_text : Logged → List ℕ
logged_text logged =
    if logged.has_priority && is_warning logged.line
    then codes "<4>" ++ log_text logged.line
    else log_text logged.line
