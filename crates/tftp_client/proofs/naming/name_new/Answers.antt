-- The file got its name by a link, or by a rename where the system made none.
use Rattle.std.proofs.Common.{rules}
use Rattle.tftp_client.proofs.Common.{inr, made_when, calls_of, handed, SyncsFolder, Refused, paths_of}
use Rattle.tftp_disk.specs.DiskTrace.{state_of}
use Rattle.tftp_client.proofs.Changing.{link_keeps}
use Rattle.tftp_client.proofs.NamedFile.{linked_named, on_ok}
use Rattle.tftp_client.proofs.StillThere.{left_as, left_there, lost_there, on_err}
use Rattle.tftp_client.proofs.naming.name_new.Goals as goal

pub returns-in-Ok-clause-keeps : goal.returns-in-Ok-clause-keeps
returns-in-Ok-clause-keeps g c = link_keeps _ _ _ _ _ _ _ c.in-Ok.ensures c.keep_one.ensures.ok c.keep_one.ensures.err

pub returns-in-Ok-clause-ok : goal.returns-in-Ok-clause-ok
returns-in-Ok-clause-ok g c =
    on_ok c.keep_one.result
    (λ kept. linked_named (SyncsFolder c.args.folder.now.folder) (paths_of c.args.names.now Refused)
    (handed c.args.written.now.writer) (state_of (calls_of c.args.written.now.writer))
    (g.D.Looks.log c.args.disk.now) (g.D.Looks.log c.link.new.disk) (g.D.Looks.log c.keep_one.new.disk)
    c.requires.whole c.requires.still c.in-Ok.ensures kept)
    c.keep_one.ensures.ok

pub returns-else-eq-clause-keeps : goal.returns-else-eq-clause-keeps
returns-else-eq-clause-keeps g c = search rules

pub returns-else-eq-clause-ok : goal.returns-else-eq-clause-ok
returns-else-eq-clause-ok g c =
    on_ok c.rename_new.result
    (λ renames. (
      state_of (calls_of c.args.written.now.writer),
      g.D.Looks.log c.args.disk.now,
      c.requires.whole,
      c.requires.still,
      inr (renames.0, (g.D.Looks.log c.link.new.disk, (c.in-Err.error, c.in-Err.ensures), renames.1), renames.2),
    ))
    c.rename_new.ensures.ok

pub returns-in-Ok-clause-err : goal.returns-in-Ok-clause-err
returns-in-Ok-clause-err g c =
    let paths = paths_of c.args.names.now Refused in
    let written = c.args.written.now in
    let after = g.D.Looks.log c.keep_one.new.disk in
    on_err c.keep_one.result
    (λ lost. left_as paths written after
    (lost_there paths (made_when (calls_of written.writer)) (state_of (calls_of written.writer))
    (g.D.Looks.log c.args.disk.now) (g.D.Looks.log c.link.new.disk) after c.args.names.now.apart c.in-Ok.ensures lost
    c.requires.still))
    c.keep_one.ensures.err

pub rename_new-requires-clause-still : goal.rename_new-requires-clause-still
rename_new-requires-clause-still g c =
    let names = c.args.names.now in
    let written = c.args.written.now in
    left_there _ _ _ _ _ tt c.in-Err.ensures c.requires.still

pub returns-then-eq-clause-err : goal.returns-then-eq-clause-err
returns-then-eq-clause-err g c =
    let names = c.args.names.now in
    let written = c.args.written.now in
    left_as (paths_of names Refused) written (g.D.Looks.log c.link.new.disk) (left_there _ _ _ _ _ tt c.in-Err.ensures
    c.requires.still)
