-- The bytes of one read are behind what was there.
use Rattle.std.proofs.Common.{rules}
use Rattle.std.proofs.lemmas.List.{with_items_is, places}
use Rattle.tftp_disk.proofs.DiskSourceLemmas.{appends_read}
use Rattle.tftp_disk.proofs.disk_source.read_into.Goals as goal

pub returns-in-Ok-clause-ok : goal.returns-in-Ok-clause-ok
returns-in-Ok-clause-ok g c =
    let read = c.in-Ok.ensures in
    appends_read _ _ _ _ _ _ _ _ _ _ _ (search (rules, places)) c.append_zeros.ensures.items
    c.as_mut_slice.ensures.value read.front read.bound (with_items_is c.append_zeros.new.out c.read_at.new.buffer
    (search (rules, places))) c.truncate.ensures.items read.noted
