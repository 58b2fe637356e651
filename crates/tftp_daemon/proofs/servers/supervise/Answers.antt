-- The supervisor ran with the command lines of the configuration.
use Rattle.std.proofs.Common.{◌≡◌, Result, Ok, map, subst}
use Rattle.std.specs.Prelude.{OnOk}
use Rattle.std.specs.String.{string_bytes}
use Rattle.tftp_supervisor.specs.declared.supervisor_fault.SupervisorFault.{SupervisorFault}
use Rattle.tftp_daemon.proofs.Supervising.{supervised_so}
use Rattle.tftp_daemon.proofs.servers.supervise.Goals as goal

-- what holds of a result that is Ok
if_ok : (result : Result (Unit {0}) SupervisorFault) (done : Unit {0}) (P : Type 0) → result ≡ Ok done →
    OnOk result P → P
if_ok result done P is holds = subst (λ (r : Result (Unit {0}) SupervisorFault). OnOk r P) is holds

pub returns-in-Ok : goal.returns-in-Ok
returns-in-Ok g c =
    let events = g.R.Supervise.supervised c.supervise-ended.result.1 in (
      c.supervise-ended.result.1,
      supervised_so (λ line. map string_bytes line.items) c.args.config.now c.in_ok-servers.servers.items
          c.as_slice-2.result.now events c.as_slice-2.ensures.value c.in_ok-servers.ensures.count
          c.in_ok-servers.ensures.named
          (if_ok _ _ _ c.in-Ok.is c.supervise-ended.ensures.all)
          (if_ok _ _ _ c.in-Ok.is c.supervise-ended.ensures.succeeded)
          (if_ok _ _ _ c.in-Ok.is c.supervise-ended.ensures.passed),
    )
