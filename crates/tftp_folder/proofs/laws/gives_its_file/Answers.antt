-- The source gives what its text gives.
use Rattle.tftp_folder.proofs.SourceLemmas.{gives_its_file}
use Rattle.tftp_folder.proofs.laws.gives_its_file.Goals as goal

pub returns : goal.returns
returns g c = gives_its_file _ _ c.gives_in_order.ensures
