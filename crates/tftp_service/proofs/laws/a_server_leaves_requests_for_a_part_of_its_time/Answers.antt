-- The lemma that is the law.
use Rattle.tftp_service.proofs.Leaving.{leaves_little}
use Rattle.tftp_service.proofs.laws.a_server_leaves_requests_for_a_part_of_its_time.Goals as goal

pub returns : goal.returns
returns c = leaves_little
