-- The length of a file that is sent, by the calls on it.
use Rattle.std.proofs.Common.{rules}
use Rattle.tftp_client.proofs.Common.{◌≡◌, ℕ, Bool, true, List, [], ◌∷◌, append-nil, Some, None, Ok, Err, refl, sym, ap}
use Rattle.tftp_client.proofs.Common.{◌∙◌, if◌then◌else◌, true≢false, Mode, Octet, DiskEvent}
use Rattle.std.specs.declared.io.SeekFrom.TheVariants.{Start, End, Current}
use Rattle.tftp_disk.specs.DiskTrace.DiskEvent.{Opened, Given, Sought, Written}
use Rattle.tftp_disk.specs.Given.{examined, given, is_at_start, passed}
use Rattle.tftp_disk.specs.Measuring.{CountsPass}
use Rattle.tftp_disk.specs.declared.measuring.TextLength.{TextLength}
use Rattle.tftp_client.specs.Outbound.{HasLength, IsPassed}

-- nothing was given since the start
pub none_given : (events : List DiskEvent) → is_at_start events ≡ true → given events ≡ []
none_given [] start = absurd (true≢false (sym start))
none_given (Opened path (Ok done) ∷ events) start = refl
none_given (Opened path (Err error) ∷ events) start = none_given events start
none_given (Sought (Start offset) (Ok place) ∷ events) start =
    ap (λ (b : Bool). if b then [] else given events) start
none_given (Sought (End offset) (Ok place) ∷ events) start = absurd (true≢false (sym start))
none_given (Sought (Current offset) (Ok place) ∷ events) start = absurd (true≢false (sym start))
none_given (Sought to (Err error) ∷ events) start = absurd (true≢false (sym start))
none_given (Given [] ∷ events) start = append-nil (given events) ∙ none_given events start
none_given (Given (byte ∷ bytes) ∷ events) start = absurd (true≢false (sym start))
none_given (Written bytes ∷ events) start = absurd (true≢false (sym start))
none_given (event ∷ events) start = none_given events start

-- a count within a limit
within : (fits : Bool) (count counted : ℕ) → Some counted ≡ (if fits then Some count else None) → counted ≡ count
within fits count counted is = search rules

-- a pass from the start was counted, and then the file was set to its start again
pub is_passed : (before between after : List DiskEvent) (counted : TextLength) (place : ℕ)
    → is_at_start before ≡ true → CountsPass before between (Some counted)
    → after ≡ Sought (Start 0) (Ok place) ∷ between → IsPassed counted.bytes counted.wire_bytes after
is_passed before between after counted place start pass noted = search (rules, none_given, within)

-- the length of a file of which the system and the pass over it still say the same
pub same_length : (mode : Mode) (bytes wire sent : ℕ) (before after : List DiskEvent)
    → examined after ≡ examined before → passed after ≡ passed before → sent ≡ wire → HasLength mode bytes wire before
    → HasLength mode bytes sent after
same_length mode bytes wire sent before after found pass is long = search rules

-- in octet it is that on the wire
pub octet_length : (mode : Mode) (bytes wire : ℕ) (events : List DiskEvent) → HasLength mode bytes wire events
    → mode ≡ Octet → bytes ≡ wire
octet_length mode bytes wire events long octet = search rules
