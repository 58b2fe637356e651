use Rattle.std.proofs.Common.{subst, sym}
use Rattle.tftp_status.specs.Comments.{AreComments}
use Rattle.tftp_status.specs.Comments.AreComments.{Nothing}
use Rattle.tftp_status.proofs.comments.Comments.new.Goals as goal

pub invariant_of-result : goal.invariant_of-result
invariant_of-result c = subst AreComments (sym c.new.ensures.bytes) Nothing
