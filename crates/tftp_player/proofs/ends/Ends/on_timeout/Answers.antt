-- A timeout is a step of the end at its index.
use Rattle.tftp_player.proofs.Common.{◌<◌, length, refl, rules, subst, sym, ℕ, slice_set, ArePartsConsistent}
use Rattle.tftp_player.proofs.HostEnds.{list_get, moved_consistent, records_within, stays_at}
use Rattle.tftp_player.proofs.ends.Ends.on_timeout.Goals as goal

pub index_mut-requires : goal.index_mut-requires
index_mut-requires c =
    let within : c.args.index < length c.args.self.now.records.items =
    records_within c.args.self.now.server c.args.self.now.players.items c.args.self.now.records.items c.args.index
    c.requires.consistent c.requires.index.0 in
    search rules

pub returns-in-Ok-clause-times_out : goal.returns-in-Ok-clause-times_out
returns-in-Ok-clause-times_out c = search (rules, list_get)

pub returns-in-Ok-clause-consistent : goal.returns-in-Ok-clause-consistent
returns-in-Ok-clause-consistent c =
    subst
    (λ (n : ℕ).
    ArePartsConsistent c.args.self.now.server (slice_set c.args.self.now.players.items c.args.index c.on_timeout.new.self)
    (slice_set c.args.self.now.records.items c.args.index (n, c.record.result))) (sym c.requires.index.1)
    (moved_consistent c.args.self.now.server c.args.self.now.server c.args.self.now.players.items
    c.args.self.now.records.items c.requires.consistent refl c.requires.consistent.quiet c.args.index
    c.index_mut-player.result.now c.on_timeout.new.self c.record.result
    (list_get c.args.self.now.players.items c.args.index c.index_mut-player.result.now c.requires.index.0
    c.index_mut-player.ensures.value)
    (stays_at c.index_mut-player.result.now c.on_timeout.new.self c.in-Ok.effect c.in-Ok.ensures.turns)
    c.record.ensures)
