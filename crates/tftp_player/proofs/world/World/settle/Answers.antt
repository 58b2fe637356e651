-- A settling is one delivery after another, each of which leaves the world safe.
use Rattle.tftp_player.proofs.Common.{◌∙◌, refl, rules, subst, IsHome, WasPlayed, IsSafe, PlayedWorld}
use Rattle.std.proofs.Math.Bool.{or-false}
use Rattle.tftp_player.proofs.PlayedKeeps.{delivers_on, home_of}
use Rattle.tftp_player.proofs.WorldSafe.{kept_is_safe}
use Rattle.tftp_player.proofs.world.World.settle.Goals as goal

pub loop-count-init : goal.loop-count-init
loop-count-init c = record {
  delivered = search rules;
  bounded = search rules;
  strayed = refl;
  safe =
      subst (λ (w : PlayedWorld). IsSafe w.state) c.self.view_is
      (kept_is_safe c.self.inside.strayed c.self.inside.simulation c.self.invariant.0);
  home = subst IsHome c.self.view_is (home_of c.self.inside.strayed c.self.inside.simulation c.self.invariant.0);
  played = subst WasPlayed c.self.view_is c.self.invariant.0;
}

pub loop-count-preserved : goal.loop-count-preserved
loop-count-preserved c = record {
  delivered =
      delivers_on c.args.self.now.state c.loop-count.self.state c.apply.new.self.state c.args.from c.loop-count.count
      c.in-Ok.field-0 c.loop-count.invariant.delivered c.in-Ok.ensures.steps;
  bounded = search rules;
  strayed = c.in-Ok.ensures.strayed ∙ (or-false c.loop-count.self.strayed ∙ c.loop-count.invariant.strayed);
  safe = c.apply.ensures.safe;
  home = c.apply.ensures.home;
  played = c.apply.ensures.played;
}
