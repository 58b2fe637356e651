-- Digits that decode are shown as their datagram, or as a DATA with the same line.
use Rattle.std.proofs.Common.{ap, sym, ◌∙◌, ◌++◌}
use Rattle.std.specs.Prelude.{Ok}
use Rattle.std.specs.String.{string_bytes}
use Rattle.tftp_show.specs.Show.{decoded_shown, spells_packet}
use Rattle.tftp_show.proofs.show.show_line.Goals as goal

pub returns-in-Ok-clause-is_packet : goal.returns-in-Ok-clause-is_packet
returns-in-Ok-clause-is_packet c =
    c.in-Ok.ensures.is_packet
    ∙ ap spells_packet (ap Ok c.as_slice.ensures.value ∙ sym c.in_ok-decode_digits.ensures)

pub returns-in-Ok-clause-appended : goal.returns-in-Ok-clause-appended
returns-in-Ok-clause-appended c =
    c.in-Ok.ensures.appended
    ∙ ap (λ d. string_bytes c.args.text.now ++ decoded_shown d)
    (ap Ok c.as_slice.ensures.value ∙ sym c.in_ok-decode_digits.ensures)
