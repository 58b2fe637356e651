-- A draft is all that is made or removed.
use Rattle.tftp_folder.proofs.ChangingLemmas as changing
use Rattle.tftp_folder.proofs.laws.begin_stays_within.Goals as goal

pub returns : goal.returns
returns c = changing.begin_stays_within
