-- What the system led to, and what it did not.
use Rattle.std.proofs.Common.{◌≡◌, ℕ, List, subst, true}
use Rattle.std.specs.Prelude.{◌≢◌}
use Rattle.std.specs.Path.{path_buf_bytes}
use Rattle.tftp_daemon.specs.Refused.{name_in}
use Rattle.tftp_daemon.specs.Reports.LooksApartFrom.{No_drain, No_place, Two}
use Rattle.tftp_daemon.proofs.status.check_own.Goals as goal

pub returns-in-Err : goal.returns-in-Err
returns-in-Err g c = No_place c.in-Err.field-0 (rw (c.folder_of.ensures, c.in-Err.is) at c.resolve.ensures)

pub returns-in-Err-resolve : goal.returns-in-Err-resolve
returns-in-Err-resolve g c =
    No_drain (path_buf_bytes c.in-Ok.place) c.in-Err-resolve.field-0
    (rw (c.folder_of-2.ensures, c.in-Err-resolve.is, c.resolve.ensures, c.folder_of.ensures, c.in-Ok.is) at c.resolve-2.ensures)

pub returns-then-not-is_same : goal.returns-then-not-is_same
returns-then-not-is_same g c =
    Two (path_buf_bytes c.in-Ok.place) (path_buf_bytes c.in-Ok-resolve.other)
    (rw (c.folder_of-2.ensures, c.in-Ok-resolve.is, c.resolve.ensures, c.folder_of.ensures, c.in-Ok.is) at c.resolve-2.ensures)
    (λ (same : path_buf_bytes c.in-Ok.place ≡ path_buf_bytes c.in-Ok-resolve.other).
    let yes : c.is_same.result ≡ true = c.is_same.ensures (rw (c.as_str.ensures, c.as_str-2.ensures) same) in
    let no = c.if-not-is_same.true in absurd (cc))

pub returns-then-is_named_apart : goal.returns-then-is_named_apart
returns-then-is_named_apart g c =
    Two (path_buf_bytes c.in-Ok.place) (path_buf_bytes c.in-Ok-resolve.other)
    (rw (c.folder_of-2.ensures, c.in-Ok-resolve.is, c.resolve.ensures, c.folder_of.ensures, c.in-Ok.is) at c.resolve-2.ensures)
    (λ _. subst (λ (draft : List ℕ).
    (name_in c.args.drain.now ≢ name_in c.args.own.now) × (name_in c.args.drain.now ≢ name_in draft)) c.requires
    (c.is_named_apart.ensures c.if-is_named_apart.true))
