-- The folder is the parent's text.
use Rattle.std.proofs.Common.{◌∙◌, ℕ, List, Option, ap}
use Rattle.tftp_daemon.specs.Reports.{folder_in, or_here}
use Rattle.tftp_daemon.proofs.status.folder_of.Goals as goal

pub returns-in-Some : goal.returns-in-Some
returns-in-Some c =
    c.or_here.ensures ∙ ap (λ (path : List ℕ). or_here path) c.as_str.ensures
    ∙ ap (λ (path : Option (List ℕ)). folder_in path) (rw (c.in-Some.is, c.new.ensures) at c.parent.ensures)
