-- What the request port answers is what it does in the world, and an end that opens is recorded.
use Rattle.tftp_player.proofs.Common.{◌∙◌, [], ◌∷◌, ◌++◌, List, ap, Endpoint, served_end, PlayedServer, WorldEnd}
use Rattle.tftp_player.proofs.Common.{end_address}
use Rattle.tftp_player.proofs.AskingLemmas.{not_opened_asks, opened_kept, opened_asks}
use Rattle.tftp_player.proofs.HostEnds.{pushed_so}
use Rattle.tftp_player.proofs.Standing.{standing_address}
use Rattle.tftp_player.proofs.ends.Ends.ask.Goals as goal

pub returns-in_default-opened-clause-asks : goal.returns-in_default-opened-clause-asks
returns-in_default-opened-clause-asks c =
    not_opened_asks c.args.from c.args.bytes.now c.args.self.now.server c.args.self.now.players.items
    c.occupancy_of-occupancy.result c.in-Some.port c.in-Some.ensures.some c.in-Some.ensures.fits _
    (c.deref.ensures.value ∙ c.in-Ok.ensures.items) c.occupancy_of-occupancy.ensures.count
    c.occupancy_of-occupancy.ensures.repeated c.in-Ok-ask_server.answer c.in-Ok-ask_server.ensures.answers
    c.ask_server.new.server c.reserve.new.self.items c.from-bytes.result c.ask_server.ensures.server
    c.in_default-opened.is c.in-Ok.ensures.items c.from-bytes.ensures

pub of_server-player-requires : goal.of_server-player-requires
of_server-player-requires c =
    opened_kept c.args.from c.args.bytes.now c.args.self.now.server c.args.self.now.players.items
    c.occupancy_of-occupancy.result c.in-Some.port c.in-Some.ensures.some c.in-Some.ensures.fits _
    (c.deref.ensures.value ∙ c.in-Ok.ensures.items) c.occupancy_of-occupancy.ensures.count
    c.occupancy_of-occupancy.ensures.repeated c.in-Ok-ask_server.answer c.in-Ok-ask_server.ensures.answers
    c.in-Some-opened.served c.in-Some-opened.is

pub returns-clause-asks : goal.returns-clause-asks
returns-clause-asks c =
    opened_asks c.args.from c.args.bytes.now c.args.self.now.server c.args.self.now.players.items
    c.occupancy_of-occupancy.result c.in-Some.port c.in-Some.ensures.some c.in-Some.ensures.fits _
    (c.deref.ensures.value ∙ c.in-Ok.ensures.items) c.occupancy_of-occupancy.ensures.count
    c.occupancy_of-occupancy.ensures.repeated c.in-Ok-ask_server.answer c.in-Ok-ask_server.ensures.answers
    c.in-Some-opened.served c.server_at.result c.ask_server.new.server c.push_reserved-2.new.self.items
    c.from-bytes.result c.ask_server.ensures.server c.in-Some-opened.is c.server_at.ensures
    (c.push_reserved-2.ensures.items
    ∙ (ap (λ (es : List WorldEnd). es ++ c.of_server-player.result ∷ []) c.in-Ok.ensures.items
    ∙ ap (λ (y : WorldEnd). c.args.self.now.players.items ++ y ∷ []) c.of_server-player.ensures)) c.from-bytes.ensures

pub returns-clause-consistent : goal.returns-clause-consistent
returns-clause-consistent c =
    pushed_so c.args.self.now.server c.ask_server.new.server c.args.self.now.players.items
    c.args.self.now.records.items c.requires.consistent
    (ap (λ (s : PlayedServer). s.held) c.ask_server.ensures.server)
    (ap (λ (s : PlayedServer). s.store.refuses) c.ask_server.ensures.server ∙ c.requires.consistent.quiet)
    c.in-Some.port c.of_server-player.result c.record.result c.reserve.new.self.items _ c.reserve-2.new.self.items _
    c.in-Some.ensures.some
    (ap (λ (x : WorldEnd). (end_address x).port) c.of_server-player.ensures
    ∙ ap (λ (a : Endpoint). a.port) (standing_address (served_end c.in-Some.port c.in-Some-opened.served)))
    c.record.ensures c.in-Ok.ensures.items c.push_reserved-2.ensures.items c.in-Ok-reserve.ensures.items
    c.push_reserved.ensures.items
