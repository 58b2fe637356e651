-- What the printer of an instant writes. For `text_of`.
use Rattle.std.proofs.Common.{◌≡◌, ◌∙◌, ℕ, Bool, false, List, ◌++◌, Option, Some, None, pos, ◌*ℤ◌, ap}
use Rattle.jiff_core.specs.declared.timestamp.Timestamp.{Timestamp}
use Rattle.jiff_fmt.specs.Printer.{IsTimestampText, options}
use Rattle.jiff_fmt.specs.Text.{datetime_text, zulu_text}
use Rattle.jiff_fmt.specs.declared.temporal.printer.DateTimePrinter.{DateTimePrinter}
use Rattle.tftp_lines.specs.StampedLine.{IsUtcText}

-- an instant is printed in UTC, with three digits of its second
pub utc_text : (millis : ℕ) (made printer : DateTimePrinter) (instant : Timestamp) (text : List ℕ)
    → options made ≡ (false, 84, None) → options printer ≡ (made.lowercase, made.separator, Some 3)
    → instant.nanosecond ≡ pos millis *ℤ pos 1_000_000 → IsTimestampText printer instant text → IsUtcText millis text
utc_text millis made printer instant text plain precise nanos shows =
    let dt = shows.0 in
    let lower : printer.lowercase ≡ false =
    ap (λ (o : Bool × ℕ × Option ℕ). o.0) precise ∙ ap (λ (o : Bool × ℕ × Option ℕ). o.0) plain in
    let separator : printer.separator ≡ 84 =
    ap (λ (o : Bool × ℕ × Option ℕ). o.1) precise ∙ ap (λ (o : Bool × ℕ × Option ℕ). o.1) plain in
    let places : printer.precision ≡ Some 3 = ap (λ (o : Bool × ℕ × Option ℕ). o.2) precise in
    record {
      shown = dt;
      is = shows.1 ∙ nanos;
      spelled =
          shows.2
          ∙ (ap (λ (l : Bool). datetime_text l printer.separator printer.precision dt ++ zulu_text l) lower
          ∙ (ap (λ (s : ℕ). datetime_text false s printer.precision dt ++ zulu_text false) separator
          ∙ ap (λ (o : Option ℕ). datetime_text false 84 o dt ++ zulu_text false) places));
    }
