use Rattle.tftp_loop.proofs.Common.{◌≡◌, ◌++◌, map, take, drop, woken_if}
use Rattle.tftp_loop.proofs.transfer_port.wake_all.Given as goal

abbrev pub invariant-loop-port : goal.invariant-loop-port
invariant-loop-port l =
    l.ports
    ≡ map (woken_if l.time l.reported) (take l.port-index l.initial.ports) ++ drop l.port-index l.initial.ports
