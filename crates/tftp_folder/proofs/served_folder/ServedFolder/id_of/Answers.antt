-- The root, or a folder below it, is looked at.
use Rattle.std.proofs.Common.{subst, sym}
use Rattle.std.specs.String.{string_bytes}
use Rattle.tftp_folder.specs.Inside.{IsInside}
use Rattle.tftp_folder.proofs.InsideLemmas.{folder_inside, look_inside}
use Rattle.tftp_folder.proofs.served_folder.ServedFolder.id_of.Goals as goal

pub returns-in-Ok-clause-inside : goal.returns-in-Ok-clause-inside
returns-in-Ok-clause-inside g c = λ inside.
    let root = string_bytes c.args.self.now.root in
    look_inside root c.folder_or_root.result.now c.look.result (g.L.Looks.log c.args.looks.now) (g.L.Looks.log c.look.new.self)
    c.look.ensures
    (subst (IsInside root) (sym c.folder_or_root.ensures) (folder_inside root c.args.path.now inside))

pub returns-in-Err-clause-inside : goal.returns-in-Err-clause-inside
returns-in-Err-clause-inside g c = λ inside.
    let root = string_bytes c.args.self.now.root in
    look_inside root c.folder_or_root.result.now c.look.result (g.L.Looks.log c.args.looks.now) (g.L.Looks.log c.look.new.self)
    c.look.ensures
    (subst (IsInside root) (sym c.folder_or_root.ensures) (folder_inside root c.args.path.now inside))
