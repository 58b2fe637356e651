-- The lemmas that are the law.
use Rattle.tftp_promises.proofs.Places.{clients_there, server_there, strangers_elsewhere}
use Rattle.tftp_promises.proofs.laws.programs_are_in_their_network.Goals as goal

pub returns-clause-clients : goal.returns-clause-clients
returns-clause-clients g c = λ programs. clients_there programs

pub returns-clause-server : goal.returns-clause-server
returns-clause-server g c = λ programs. server_there programs

pub returns-clause-strangers : goal.returns-clause-strangers
returns-clause-strangers g c = λ programs. strangers_elsewhere programs
