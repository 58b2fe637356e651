-- Each change is by a store that admits writes.
use Rattle.tftp_folder.proofs.ChangingLemmas as changing
use Rattle.tftp_folder.proofs.laws.read_only_changes_nothing.Goals as goal

pub returns : goal.returns
returns c = changing.read_only_changes_nothing
