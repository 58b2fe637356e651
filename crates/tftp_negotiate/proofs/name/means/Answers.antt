-- A name has one spelling in lower case.
use Rattle.std.proofs.Common.{rules}
use Rattle.tftp_negotiate.proofs.name.means.Goals as goal

pub returns : goal.returns
returns c = search rules
