-- A text is split off at its zero byte.
use Rattle.std.proofs.Common.{rules}
use Rattle.tftp_wire.proofs.ReadingLemmas.{text_split}
use Rattle.tftp_wire.proofs.TextsLemmas.{texts_none, unended_all}
use Rattle.tftp_wire.proofs.reader.read_text.Goals as goal

pub returns-in-Some : goal.returns-in-Some
returns-in-Some c =
    let parts = rw c.in-Some.is at c.split_text.ensures in
    text_split _ _ _ parts.0 parts.1

pub returns-in-None : goal.returns-in-None
returns-in-None c = search (rules, texts_none, unended_all)
