-- What an operator may have to set (ours).
use Rattle.std.specs.Prelude.{ℕ, Bool, true, false, ◌&&◌, ◌==◌, not, if◌then◌else◌}
use Rattle.std.specs.Prelude.{List, [], ◌++◌, codes, Option, Some, None}
use Rattle.tftp_ends.specs.declared.outcome.Outcome.{Outcome}
use Rattle.tftp_ends.specs.declared.outcome.Outcome.TheVariants as outcomes
use Rattle.tftp_lines.specs.declared.hint.Hint.{Hint}
use Rattle.tftp_lines.specs.declared.hint.Hint.TheVariants as hints

-- the peer ended the transfer by ERROR 5, since it does not know it (RFC 1350, appendix I)
abbrev pub is_unknown_tid : Outcome → Bool
is_unknown_tid outcomes.Complete = false
is_unknown_tid (outcomes.PeerError code) = code == 5
is_unknown_tid outcomes.TimedOut = false
is_unknown_tid outcomes.Illegal = false
is_unknown_tid (outcomes.Refused refusal) = false
is_unknown_tid outcomes.TooLarge = false
is_unknown_tid outcomes.StoreFault = false
is_unknown_tid outcomes.SourceFault = false
is_unknown_tid outcomes.NotNetascii = false

-- a server at each address of its host may answer from another one than was asked: the hint is for
-- just the transfers whose first datagram was answered by ERROR 5 (RFC 1350, section 4)
abbrev pub hint_of : Bool → Bool → Outcome → Option Hint
hint_of is_anywhere has_progressed outcome =
    if is_anywhere && not has_progressed && is_unknown_tid outcome then Some hints.Listen else None

-- its words
abbrev pub hint_text : Hint → List ℕ
hint_text hints.Listen = codes "answered from another address? --listen"

-- the end of a line that may have one
abbrev pub hinted_text : Option Hint → List ℕ
hinted_text (Some hint) = codes ", " ++ hint_text hint
hinted_text None = []
