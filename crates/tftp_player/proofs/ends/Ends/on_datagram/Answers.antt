-- A datagram is a step of the end at its index, if that is its destination.
use Rattle.tftp_player.proofs.Common.{◌<◌, length, rules, subst, sym, ap, ℕ, slice_set, PlayedServer}
use Rattle.tftp_player.proofs.Common.{ArePartsConsistent}
use Rattle.tftp_player.proofs.HostEnds.{list_get, moved_consistent, records_within, same_set, takes_at}
use Rattle.tftp_player.proofs.ends.Ends.on_datagram.Goals as goal

pub index_mut-requires : goal.index_mut-requires
index_mut-requires c =
    let within : c.args.index < length c.args.self.now.records.items =
    records_within c.args.self.now.server c.args.self.now.players.items c.args.self.now.records.items c.args.index
    c.requires.consistent c.requires.index.0 in
    search rules

pub returns-then-differs-clause-steps : goal.returns-then-differs-clause-steps
returns-then-differs-clause-steps c = search (rules, list_get, same_set)

pub returns-in-Ok-clause-steps : goal.returns-in-Ok-clause-steps
returns-in-Ok-clause-steps c = search (rules, list_get)

pub returns-in-Ok-clause-consistent : goal.returns-in-Ok-clause-consistent
returns-in-Ok-clause-consistent c =
    subst
    (λ (n : ℕ).
    ArePartsConsistent c.on_datagram.new.server
    (slice_set c.args.self.now.players.items c.args.index c.on_datagram.new.self)
    (slice_set c.args.self.now.records.items c.args.index (n, c.record.result))) (sym c.requires.index.1)
    (moved_consistent c.args.self.now.server c.on_datagram.new.server c.args.self.now.players.items
    c.args.self.now.records.items c.requires.consistent
    (ap (λ (s : PlayedServer). s.held) c.on_datagram.ensures.rest) c.on_datagram.ensures.quiet c.args.index
    c.index_mut-player.result.now c.on_datagram.new.self c.record.result
    (list_get c.args.self.now.players.items c.args.index c.index_mut-player.result.now c.requires.index.0
    c.index_mut-player.ensures.value)
    (takes_at c.args.self.now.server.config.overwrite c.args.from c.args.bytes.now c.index_mut-player.result.now
    c.on_datagram.new.self c.args.self.now.server.store.files c.on_datagram.new.server.store.files c.in-Ok.effect
    c.in-Ok.ensures.takes)
    c.record.ensures)
