use Rattle.std.proofs.Common.{rules}
use Rattle.std.proofs.lemmas.Result.{IfOk-weaker}
use Rattle.tftp_status.specs.FileName.IsFileOf.{Before}
use Rattle.tftp_status.proofs.file_name.file_of_server.Goals as goal

pub returns-in-Some : goal.returns-in-Some
returns-in-Some c =
    IfOk-weaker c.format.result _ _
    (λ own same. Before c.in-Some.front.now c.in-Some.ending.now (search rules) same) c.format.ensures.ok
