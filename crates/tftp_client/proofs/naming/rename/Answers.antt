-- The file has one name or the other.
use Rattle.tftp_client.proofs.Common.{List, ◌∷◌, Err, ap, ◌∙◌, DiskEvent, Folder_synced, path_in, paths_of}
use Rattle.tftp_client.proofs.StillThere.{left_as, left_there, moved_as}
use Rattle.tftp_client.proofs.naming.rename.Goals as goal

pub returns-in-Err-clause-err : goal.returns-in-Err-clause-err
returns-in-Err-clause-err g c =
    let names = c.args.names.now in
    let written = c.args.written.now in
    let after = g.D.Looks.log c.exchange.new.disk in
    left_as (paths_of names c.args.existing) written after (left_there _ _ _ _ _ tt c.in-Err.ensures c.requires.still)

pub returns-in-Err-sync_folder-clause-err : goal.returns-in-Err-sync_folder-clause-err
returns-in-Err-sync_folder-clause-err g c =
    let paths = paths_of c.args.names.now c.args.existing in
    let folder = path_in c.args.folder.now.folder in
    let error = c.in-Err-sync_folder.error in
    moved_as paths c.args.written.now (g.D.Looks.log c.args.disk.now) (g.D.Looks.log c.sync_folder.new.disk) folder error
    c.requires.whole c.requires.still
    (c.in-Err-sync_folder.ensures.err
    ∙ ap (λ (events : List DiskEvent). Folder_synced folder (Err error) ∷ events) c.in-Ok.ensures)
