-- The lemmas that are the law.
use Rattle.tftp_player.proofs.AnsweringWitness.{read_request_recovers, write_request_recovers}
use Rattle.tftp_player.proofs.RecoveringRequests.{read_requests_recover, write_requests_recover}
use Rattle.tftp_player.proofs.laws.a_request_recovers.Goals as goal

pub returns : goal.returns
returns g = record {
  reads = read_requests_recover;
  writes = write_requests_recover;
  read = read_request_recovers;
  write = write_request_recovers;
}
