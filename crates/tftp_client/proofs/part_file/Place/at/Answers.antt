-- By the looks at both names, and then their folder.
use Rattle.tftp_client.proofs.Common.{◌≡◌, ℕ, List, ◌∷◌, ap, sym, ◌∙◌, subst, Result, Error, DiskEvent, Found, Looked}
use Rattle.tftp_client.proofs.Common.{paths_of}
use Rattle.tftp_disk.specs.DiskTrace.DiskEvent.{Folder_opened}
use Rattle.tftp_disk.specs.Folder.{IsFolderOf}
use Rattle.tftp_client.specs.Place.{FindsNone}
use Rattle.tftp_client.specs.Place.FindsNone.{HasNoFolder, IsTaken, PartIsTaken}
use Rattle.tftp_client.specs.declared.local_error.LocalError.TheVariants as errors
use Rattle.tftp_client.proofs.part_file.Place.at.Goals as goal

-- a look at a path that is this one
look_noted : (path : List ℕ) (answer : Result Found Error) (before : List DiskEvent) {at : List ℕ} {after : List DiskEvent}
    → after ≡ Looked at answer ∷ before → at ≡ path → after ≡ Looked path answer ∷ before
look_noted path answer before noted is = noted ∙ ap (λ (p : List ℕ). Looked p answer ∷ before) is

pub returns-in-Err-clause-refused : goal.returns-in-Err-clause-refused
returns-in-Err-clause-refused g c =
    let paths = paths_of c.args.names c.args.existing in
    let before = g.D.Looks.log c.args.disk.now in
    let looked = look_noted paths.local c.look.result before c.look.ensures c.as_str.ensures.value in
    rw (looked) (IsTaken c.look.result c.in-Err.ensures.looks)

pub returns-in-Err-check_part-clause-refused : goal.returns-in-Err-check_part-clause-refused
returns-in-Err-check_part-clause-refused g c =
    let paths = paths_of c.args.names c.args.existing in
    let before = g.D.Looks.log c.args.disk.now in
    let looked = look_noted paths.local c.look.result before c.look.ensures c.as_str.ensures.value in
    let looked_again = look_noted paths.part c.look-in-Ok.result (g.D.Looks.log c.look.new.self) c.look-in-Ok.ensures
    c.as_str-in-Ok.ensures.value ∙ ap (λ (log : List DiskEvent). Looked paths.part c.look-in-Ok.result ∷ log) looked in
    rw (looked_again) (PartIsTaken c.look.result c.look-in-Ok.result (c.in-Ok.field-0, c.in-Ok.ensures.looks)
    c.in-Err-check_part.ensures.taken)

pub returns-in-Err-of-clause-refused : goal.returns-in-Err-of-clause-refused
returns-in-Err-of-clause-refused g c =
    let paths = paths_of c.args.names c.args.existing in
    let before = g.D.Looks.log c.args.disk.now in
    let looked = look_noted paths.local c.look.result before c.look.ensures c.as_str.ensures.value in
    let looked_again = look_noted paths.part c.look-in-Ok.result (g.D.Looks.log c.look.new.self) c.look-in-Ok.ensures
    c.as_str-in-Ok.ensures.value ∙ ap (λ (log : List DiskEvent). Looked paths.part c.look-in-Ok.result ∷ log) looked in
    let opens = c.of.ensures.calls in
    let opened = opens.3 ∙ ap (λ (log : List DiskEvent). Folder_opened opens.0 opens.1 ∷ log) looked_again in
    subst (λ (log : List DiskEvent). FindsNone paths c.args.existing before (errors.System c.in-Err-of.error) log) (sym
    opened) (HasNoFolder c.look.result c.look-in-Ok.result opens.0 opens.1 (c.in-Ok.field-0, c.in-Ok.ensures.looks)
    c.in-Ok-check_part.ensures.free (subst (λ (p : List ℕ). IsFolderOf p opens.0)
    c.as_str-in-Ok-check_part.ensures.value opens.2))
