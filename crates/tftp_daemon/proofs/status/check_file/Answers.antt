-- The view that was made looked for the place of the file.
use Rattle.std.proofs.Common.{List, subst}
use Rattle.std.proofs.lemmas.Result.{on_ok_weaker}
use Rattle.tftp_disk.specs.DiskTrace.{DiskEvent}
use Rattle.tftp_daemon.specs.Reports.{LooksOutside, folder_of}
use Rattle.tftp_daemon.proofs.status.check_file.Goals as goal

pub returns-in-Ok-clause-place : goal.returns-in-Ok-clause-place
returns-in-Ok-clause-place g c =
    on_ok_weaker c.check_file_and_drain.result
    (λ _. (
      c.check_place.new.looks,
      subst (λ (before : List DiskEvent). LooksOutside c.args.config.now.root.now (folder_of c.args.file.now) before
          (g.D.View.Looks.log c.check_place.new.looks)) c.view-looks.ensures c.in-Ok.ensures,
    ))
    c.check_file_and_drain.ensures
