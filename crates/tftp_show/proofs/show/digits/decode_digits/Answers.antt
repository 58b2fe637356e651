-- The decoded bytes replace all others.
use Rattle.std.proofs.Common.{ap, sym, ◌∙◌, arith}
use Rattle.std.specs.Prelude.{Ok}
use Rattle.tftp_show.proofs.DigitsLemmas.{decodes, written}
use Rattle.tftp_show.proofs.show.digits.decode_digits.Goals as goal

pub returns : goal.returns
returns c =
    decodes _ c.requires ∙ ap Ok (sym c.decode_pairs.ensures)
    ∙ ap Ok (sym (written c.decode_pairs.new.bytes c.resize.new.self.items c.resize.new.self.len
    (omega (arith, c.decode_pairs.auto.bytes, c.resize.new.self.ok.0)) (omega (arith, c.decode_pairs.auto.bytes))))
