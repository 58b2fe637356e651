-- One more line is that of the next server.
use Rattle.std.proofs.Common.{◌∙◌, ℕ, ◌+◌, length, map, ap}
use Rattle.std.specs.String.{string_bytes}
use Rattle.std.proofs.lemmas.List.{length_push}
use Rattle.tftp_daemon.proofs.Supervising.{lines_pushed}
use Rattle.tftp_daemon.proofs.servers.add_lines.Goals as goal

pub loop-before-preserved : goal.loop-before-preserved
loop-before-preserved g c =
    record {
      count =
          ap length c.in_ok-add_line.ensures ∙ (length_push c.loop-before.lines.items c.in_ok-line.line
          ∙ ap (λ (n : ℕ). n + 1) c.loop-before.invariant.count);
      named =
          lines_pushed (λ line. map string_bytes line.items) c.args.config.now c.loop-before.lines.items
          c.add_line.new.lines.items c.in_ok-line.line c.loop-before.before c.in_ok-add_line.ensures
          c.loop-before.invariant.count c.loop-before.invariant.named c.in_ok-line.ensures;
    }
