-- The draft was handed what it took, and its commit named it.
use Rattle.tftp_folder.proofs.StoredLemmas as stored
use Rattle.tftp_folder.proofs.laws.stores_what_it_took.Goals as goal

pub returns : goal.returns
returns g c = stored.stores_what_it_took _
