-- The lemma that is the law.
use Rattle.tftp_loop.proofs.PortUses.{uses_no_port_twice}
use Rattle.tftp_loop.proofs.laws.a_range_gives_no_port_twice.Goals as goal

pub returns : goal.returns
returns c = uses_no_port_twice
