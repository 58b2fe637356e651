-- The consumed bytes are the chunk that was read and encoded.
use Rattle.std.proofs.lemmas.Grind.{common_steps}
use Rattle.std.proofs.Common.{arith}
use Rattle.tftp_file.proofs.Streaming.{gives_encoded}
use Rattle.tftp_file.proofs.stream.read_encoded.Goals as goal

pub returns-clause-gives : goal.returns-clause-gives
returns-clause-gives g c = grind (arith, common_steps, gives_encoded)
