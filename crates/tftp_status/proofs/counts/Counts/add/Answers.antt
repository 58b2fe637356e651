use Rattle.std.proofs.Common.{◌∷◌, ◌∙◌, ap, sym}
use Rattle.tftp_status.specs.declared.counts.Counts.{Counts}
use Rattle.tftp_sockets.specs.declared.entry.Entry.{Entry}
use Rattle.tftp_sockets.specs.declared.entry.Entry.TheVariants.{Closed}
use Rattle.tftp_status.specs.Counts.{after, counts_of}
use Rattle.tftp_status.proofs.CountsAfter.{counts_after}
use Rattle.tftp_status.proofs.counts.Counts.add.Goals as goal

pub returns-in-Closed-clause-counts : goal.returns-in-Closed-clause-counts
returns-in-Closed-clause-counts c entries same =
    let entry : Entry = Closed c.in-Closed.direction c.in-Closed.outcome c.in-Closed.bytes c.in-Closed.again in
    c.close.ensures ∙ ap (λ (counts : Counts). after entry counts) same ∙ sym (counts_after entry entries)
    ∙ ap (λ (e : Entry). counts_of (e ∷ entries)) (sym c.in-Closed.is)
