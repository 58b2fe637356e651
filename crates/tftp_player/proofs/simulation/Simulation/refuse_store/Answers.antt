-- The end at the port is set to refuse, if there is one.
use Rattle.tftp_player.proofs.Common.{sym, subst, rules, slice_set, ArePartsConsistent, world_of, RefuseStore, WorldEnd}
use Rattle.tftp_player.proofs.Common.{no_report, WorldStep}
use Rattle.tftp_player.proofs.HostEnds.{list_get}
use Rattle.tftp_player.proofs.PlayLemmas.{armed_step, armed_consistent}
use Rattle.tftp_player.proofs.simulation.Simulation.refuse_store.Goals as goal

pub returns-in_default-clause-refused : goal.returns-in_default-clause-refused
returns-in_default-clause-refused c = search rules

pub invariant_of-self : goal.invariant_of-self
invariant_of-self c = (
  c.self.invariant.0,
  subst
      (λ (y : WorldEnd).
      ArePartsConsistent c.self.inside.ends.server (slice_set c.self.inside.ends.players.items c.in-Some.index y)
      c.self.inside.ends.records.items) (sym c.refuse_next.ensures)
      (armed_consistent c.self.inside.config c.self.inside.sent.items c.self.inside.ends.server
      c.self.inside.ends.players.items c.args.self.now c.self.view_is c.args.port c.in-Some.index
      c.index_mut-player.result.now
      (list_get c.self.inside.ends.players.items c.in-Some.index c.index_mut-player.result.now
      c.in-Some.ensures.some.1 c.index_mut-player.ensures.value) c.self.inside.ends.records.items c.self.invariant.1),
  c.self.invariant.2,
)

pub returns-clause-steps : goal.returns-clause-steps
returns-clause-steps c =
    subst
    (λ (y : WorldEnd).
    WorldStep c.args.self.now (RefuseStore c.args.port) no_report
    (world_of c.self.inside.config c.self.inside.sent.items c.self.inside.ends.server
    (slice_set c.self.inside.ends.players.items c.in-Some.index y))) (sym c.refuse_next.ensures)
    (armed_step c.self.inside.config c.self.inside.sent.items c.self.inside.ends.server
    c.self.inside.ends.players.items c.args.self.now c.self.view_is c.args.port c.in-Some.index
    c.index_mut-player.result.now
    (list_get c.self.inside.ends.players.items c.in-Some.index c.index_mut-player.result.now
    c.in-Some.ensures.some.1 c.index_mut-player.ensures.value) c.in-Some.ensures.some.0)
