-- A run that is complete, and then its line; or one that stopped, and then its file was written.
use Rattle.std.proofs.Common.{rules}
use Rattle.tftp_client.proofs.Common.{refl, ap, ℕ, state_of, printed}
use Rattle.tftp_client.specs.Runs.{line_by}
use Rattle.tftp_client.proofs.LeftBytes.{written_out}
use Rattle.tftp_client.proofs.NamedOnDisk.{kept, kept_then}
use Rattle.tftp_client.proofs.Running.{goes_on}
use Rattle.tftp_client.proofs.transfer.converse.Goals as goal

pub conclude-requires-clause-ready : goal.conclude-requires-clause-ready
conclude-requires-clause-ready g c = c.in-Ok.ensures.ready

pub returns-in-Ok : goal.returns-in-Ok
returns-in-Ok g c =
    let last = state_of c.run-ended.new.self (g.N.Udp.log c.run-ended.new.net) in
    record {
      ok =
          record {
            ends = c.conclude.ensures.ends;
            last = last;
            files = c.run-ended.new.files;
            converses = c.run-ended.ensures.converses;
            complete = c.in-Ok.ensures.complete;
            stays =
                goes_on _ _ c.run-ended.ensures.counted c.run-ended.ensures.port (ap (λ (n : ℕ). printed (line_by
                c.conclude.result n) last) c.count_of-count.ensures) c.conclude.ensures.goes;
            kept = search (rules, kept);
          };
      err = tt;
      keeps = search (rules, kept_then, kept);
      counts = search rules;
    }

pub returns-in-Err : goal.returns-in-Err
returns-in-Err g c =
    record {
      ok = tt;
      err = (
        c.in-Err.outcome,
        c.failed.ensures,
        record {
          last = state_of c.run-ended.new.self (g.N.Udp.log c.run-ended.new.net);
          files = c.write_out.new.files;
          converses = written_out _ _ c.write_out.new.files c.write_out.ensures.works c.run-ended.ensures.converses;
          events = refl;
          incomplete = c.in-Err.ensures.incomplete;
          ends = c.in-Err.ensures.failed;
        },
        refl,
        c.write_out.ensures.out,
      );
      keeps = search (rules, kept, written_out);
      counts = search rules;
    }
