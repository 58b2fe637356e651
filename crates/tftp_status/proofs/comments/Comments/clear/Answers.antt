use Rattle.std.proofs.Common.{subst, sym}
use Rattle.tftp_status.specs.Comments.{AreComments}
use Rattle.tftp_status.specs.Comments.AreComments.{Nothing}
use Rattle.tftp_status.proofs.comments.Comments.clear.Goals as goal

pub invariant_of-self : goal.invariant_of-self
invariant_of-self c = subst AreComments (sym c.clear.ensures.bytes) Nothing
