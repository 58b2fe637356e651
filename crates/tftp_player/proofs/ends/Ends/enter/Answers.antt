-- The ends with another client are consistent.
use Rattle.tftp_player.proofs.Common.{refl, ap, ◌∙◌, Endpoint, client_end, WorldEnd, end_address}
use Rattle.tftp_player.proofs.HostEnds.{pushed_so}
use Rattle.tftp_player.proofs.Standing.{standing_address}
use Rattle.tftp_player.proofs.ends.Ends.enter.Goals as goal

pub returns-clause-consistent : goal.returns-clause-consistent
returns-clause-consistent c =
    pushed_so c.args.self.now.server c.args.self.now.server c.args.self.now.players.items
    c.args.self.now.records.items c.requires.consistent refl c.requires.consistent.quiet c.args.port
    c.of_client-player.result c.record.result c.reserve.new.self.items _ c.reserve-2.new.self.items _ c.requires.port
    (ap (λ (x : WorldEnd). (end_address x).port) c.of_client-player.ensures
    ∙ ap (λ (a : Endpoint). a.port) (standing_address (client_end c.args.port c.args.client)))
    c.record.ensures c.in-Ok.ensures.items c.push_reserved-2.ensures.items c.in-Ok-reserve.ensures.items
    c.push_reserved.ensures.items
