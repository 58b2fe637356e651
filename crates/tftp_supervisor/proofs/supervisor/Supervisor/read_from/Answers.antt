-- One output was read, and what is to be printed of it is.
use Rattle.std.proofs.Common.{◌<◌, ◌∙◌, List, ℕ, ap, arith, length, refl}
use Rattle.std.specs.Vec.{with_item}
use Rattle.tftp_supervisor.specs.ProcessEvent.{after_print}
use Rattle.tftp_supervisor.specs.Watching.{IsWatching}
use Rattle.tftp_supervisor.specs.declared.supervisor.Supervisor.{Supervisor}
use Rattle.tftp_supervisor.proofs.Following.{goes_on_print, ok_so, watched_on}
use Rattle.tftp_supervisor.proofs.supervisor.Supervisor.read_from.Goals as goal

pub returns-clause-watching : goal.returns-clause-watching
returns-clause-watching g c =
    let within : c.saturating_sub-index.result < length c.args.self.now.servers.items =
    omega (arith, c.in-Some.ensures.variant.0 refl, c.args.self.now.servers.ok.0) in
    let ends = c.print.ensures ∙ ap (λ (o : List ℕ). after_print o (g.P.ServerProcesses.log c.read_of.new.processes))
    c.as_slice.ensures.value in
    ok_so c.print.result (watched_on _ _ _ _ _ _ _ _ _ c.requires within c.in-Some.ensures.value refl refl
    c.in_ok-read_of.ensures.ok ends)

pub returns-clause-goes_on : goal.returns-clause-goes_on
returns-clause-goes_on g c =
    let within : c.saturating_sub-index.result < length c.args.self.now.servers.items =
    omega (arith, c.in-Some.ensures.variant.0 refl, c.args.self.now.servers.ok.0) in
    let ends = c.print.ensures ∙ ap (λ (o : List ℕ). after_print o (g.P.ServerProcesses.log c.read_of.new.processes))
    c.as_slice.ensures.value in
    let new : Supervisor = record {
      alloc = c.args.self.now.alloc;
      servers = with_item c.args.self.now.servers c.saturating_sub-index.result c.read_of.new.server;
      count = c.args.self.now.count;
      announced = c.read_of.new.announced;
      out = c.read_of.new.out;
    } in
    let watching : IsWatching (g.P.ServerProcesses.log c.print.new.processes) new =
    watched_on _ _ _ _ _ _ _ _ _ c.requires within c.in-Some.ensures.value refl refl c.in_ok-read_of.ensures.ok ends in
    goes_on_print _ _ _ _ _ watching c.in_ok-read_of.ensures.goes_on ends
