use Rattle.std.proofs.Common.{◌≡◌, ◌++◌, rules, subst, sym}
use Rattle.std.specs.String.{string_bytes}
use Rattle.tftp_status.specs.Comments.{AreComments}
use Rattle.tftp_status.specs.Comments.AreComments.{More}
use Rattle.tftp_status.proofs.comments.push.Goals as goal

pub returns-in-Ok : goal.returns-in-Ok
returns-in-Ok c =
    let grown : string_bytes c.push_str.new.self ≡ string_bytes c.args.text.now ++ c.args.line.now = search rules in
    subst AreComments (sym grown)
    (More (string_bytes c.args.text.now) c.args.line.now c.requires.text c.requires.line)
