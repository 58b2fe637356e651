-- A datagram states what its options state.
use Rattle.tftp_c.proofs.StatedLemmas.{stated_by, states_none}
use Rattle.tftp_c.proofs.stated.stated_length.Goals as goal

pub returns-in-Some : goal.returns-in-Some
returns-in-Some c = stated_by _ _ _ c.in-Some.ensures c.stated_tsize.ensures

pub returns-in-None : goal.returns-in-None
returns-in-None c = states_none _ c.in-None.ensures
