-- Each call of the source gives a piece.
use Rattle.tftp_disk.proofs.GivenLemmas as given
use Rattle.tftp_disk.proofs.laws.gives_in_order.Goals as goal

pub returns : goal.returns
returns g c = given.gives_in_order _ (λ before after piece gave. gave)
