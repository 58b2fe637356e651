-- The step that appends its answer is the one that lends it.
use Rattle.std.proofs.Common.{rules}
use Rattle.tftp_ends.specs.Step.{IsAnswered}
use Rattle.tftp_ends.proofs.Appending.{file_is_answered, passed}
use Rattle.tftp_server.proofs.StepsLemmas.{handled_alike}
use Rattle.tftp_server.proofs.transfer.Transfer.on_datagram.Goals as goal

pub returns-in-Err-clause-memory : goal.returns-in-Err-clause-memory
returns-in-Err-clause-memory g c = λ e.
    handled_alike IsAnswered c.args.from c.args.bytes.now c.self.view_is (c.in-Err.ensures.memory (passed _ _ e))

pub returns-in-Err-handle_datagram-clause-memory : goal.returns-in-Err-handle_datagram-clause-memory
returns-in-Err-handle_datagram-clause-memory g c = λ e.
    file_is_answered c.args.from c.args.bytes.now c.args.self.now.end (c.in-Err-handle_datagram.ensures.memory (passed _ _ e))

pub returns-in-Ok-extend_from_slice-clause-takes : goal.returns-in-Ok-extend_from_slice-clause-takes
returns-in-Ok-extend_from_slice-clause-takes g c = search rules

pub returns-in-Err-clause-why : goal.returns-in-Err-clause-why
returns-in-Err-clause-why g c = search rules

pub returns-in-Err-clause-err : goal.returns-in-Err-clause-err
returns-in-Err-clause-err g c = search rules

pub returns-in-Err-handle_datagram-clause-why : goal.returns-in-Err-handle_datagram-clause-why
returns-in-Err-handle_datagram-clause-why g c = search rules

pub returns-in-Err-clause-closed : goal.returns-in-Err-clause-closed
returns-in-Err-clause-closed g c = search rules

pub returns-in-Err-clause-unmoved : goal.returns-in-Err-clause-unmoved
returns-in-Err-clause-unmoved g c = search rules

pub returns-in-Err-handle_datagram-clause-closed : goal.returns-in-Err-handle_datagram-clause-closed
returns-in-Err-handle_datagram-clause-closed g c = search rules

pub returns-in-Err-handle_datagram-clause-unmoved : goal.returns-in-Err-handle_datagram-clause-unmoved
returns-in-Err-handle_datagram-clause-unmoved g c = search rules

pub returns-in-Err-handle_datagram-clause-err : goal.returns-in-Err-handle_datagram-clause-err
returns-in-Err-handle_datagram-clause-err g c = search rules

pub returns-in-Ok-extend_from_slice-clause-closed : goal.returns-in-Ok-extend_from_slice-clause-closed
returns-in-Ok-extend_from_slice-clause-closed g c = search rules
