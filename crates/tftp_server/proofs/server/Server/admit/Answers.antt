-- The tests that ask no store find the transfers in the table.
use Rattle.std.proofs.Common.{◌≡◌, ap, length, ◌∙◌}
use Rattle.tftp_server.specs.State.{ServerState}
use Rattle.tftp_server.proofs.RequestLemmas.{admits_so, acts_so, repeats_in}
use Rattle.tftp_server.proofs.server.Server.admit.Goals as goal

pub returns-in-Ok-clause-admits : goal.returns-in-Ok-clause-admits
returns-in-Ok-clause-admits g c =
    let count : c.len.result ≡ length c.args.self.now.held =
    c.len.ensures ∙ ap (λ (s : ServerState g.row.S.Denot g.row.S-Source.Denot g.row.S-Draft.Denot). length s.held)
    c.self.view_is in
    admits_so c.args.self.now c.args.from c.args.bytes.now _ c.is_repeated.result c.decode_packet-decoded.ensures
    (repeats_in c.args.self.now _ c.args.from _ _ c.self.view_is c.is_repeated.ensures) _ (rw (
      ← count,
      ← c.self.view_is,
    ) c.in-Ok.ensures.asks)

pub returns-in-Err-clause-acts : goal.returns-in-Err-clause-acts
returns-in-Err-clause-acts g c =
    let count : c.len.result ≡ length c.args.self.now.held =
    c.len.ensures ∙ ap (λ (s : ServerState g.row.S.Denot g.row.S-Source.Denot g.row.S-Draft.Denot). length s.held)
    c.self.view_is in
    acts_so c.args.self.now c.args.from c.args.bytes.now _ c.is_repeated.result c.decode_packet-decoded.ensures
    (repeats_in c.args.self.now _ c.args.from _ _ c.self.view_is c.is_repeated.ensures) (rw (
      ← count,
      ← c.self.view_is,
    ) c.in-Err.ensures.acts)
