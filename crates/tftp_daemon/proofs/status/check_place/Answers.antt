-- What the system led to, and what it did not.
use Rattle.std.proofs.Common.{◌≡◌, true}
use Rattle.std.specs.Path.{PathStartsWith, path_buf_bytes}
use Rattle.tftp_daemon.specs.Reports.LooksOutside.{Apart, No_folder, No_root}
use Rattle.tftp_daemon.proofs.status.check_place.Goals as goal

pub returns-in-Err : goal.returns-in-Err
returns-in-Err g c = No_root c.in-Err.field-0 (rw (c.in-Err.is) at c.resolve.ensures)

pub returns-in-Err-resolve : goal.returns-in-Err-resolve
returns-in-Err-resolve g c =
    No_folder (path_buf_bytes c.in-Ok.root) c.in-Err-resolve.field-0
    (rw (c.folder_of.ensures, c.in-Err-resolve.is, c.resolve.ensures, c.in-Ok.is) at c.resolve-2.ensures)

pub returns : goal.returns
returns g c =
    Apart (path_buf_bytes c.in-Ok.root) (path_buf_bytes c.in-Ok-resolve.folder)
    (rw (c.folder_of.ensures, c.in-Ok-resolve.is, c.resolve.ensures, c.in-Ok.is) at c.resolve-2.ensures)
    (λ (below : PathStartsWith (path_buf_bytes c.in-Ok-resolve.folder) (path_buf_bytes c.in-Ok.root)).
    let yes : c.starts_with.result ≡ true = c.starts_with.ensures.1 (rw (c.as_str.ensures) below) in
    let no = c.if-starts_with.false in absurd (cc))
