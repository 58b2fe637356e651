-- The names so far are those of other servers.
use Rattle.std.specs.String.{string_bytes}
use Rattle.tftp_folder.specs.Begin.{DraftCalls}
use Rattle.tftp_folder.proofs.served_folder.ServedFolder.make_later.Given as goal

abbrev pub invariant-loop-turn : goal.invariant-loop-turn
invariant-loop-turn g l =
    DraftCalls (string_bytes l.self.drafts) l.port (g.D.Looks.log l.fn.disk) (g.D.Looks.log l.disk)
