-- A buffer with text left is not refilled. An empty one has the text of what the read returned.
use Rattle.std.proofs.lemmas.Grind.{common_steps}
use Rattle.std.proofs.Common.{◌∙◌, arith, rules, sym}
use Rattle.std.proofs.lemmas.List.{places, with_items_is}
use Rattle.tftp_disk.proofs.DiskSourceLemmas.{no_lines}
use Rattle.tftp_disk.proofs.ReadLemmas.{all_from_start, from_start, none_between, not_refilled, refilled, some_between}
use Rattle.tftp_disk.proofs.read_buffer.ReadBuffer.refill.Goals as goal

pub returns-then-self-clause-ok : goal.returns-then-self-clause-ok
returns-then-self-clause-ok g c = grind (arith, common_steps, places, not_refilled, some_between)

pub returns-in-Ok-clause-ok : goal.returns-in-Ok-clause-ok
returns-in-Ok-clause-ok g c =
    let count = c.in-Ok.count in
    let same = from_start _ _ count (with_items_is c.self.inside.text c.read.new.buffer (search (rules, places))) in
    rw (c.in-Octet.is) (refilled _ _ _ _ _ _ (none_between _ _ _ _ c.if-self.false c.self.view_is) same (λ none. sym
    same ∙ none) c.in-Ok.ensures.noted)

pub returns-in-Ok-read_lines-clause-ok : goal.returns-in-Ok-read_lines-clause-ok
returns-in-Ok-read_lines-clause-ok g c =
    rw (c.in-Netascii.is) (search (rules, places, all_from_start, refilled, no_lines, none_between))
