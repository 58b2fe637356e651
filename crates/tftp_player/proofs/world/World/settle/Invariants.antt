-- `count` deliveries were made, and the world is safe after each.
use Rattle.tftp_player.proofs.Common.{◌≡◌, ◌-◌, ◌≤◌, List, length, IsHome, WasPlayed, IsSafe, Settles, Report}
use Rattle.tftp_player.proofs.world.World.settle.Given as goal

abbrev pub invariant-loop-count : goal.invariant-loop-count
invariant-loop-count l = record {
  delivered : (reports : List Report) × Settles l.fn.self.state l.from reports l.self.state
      × (length reports ≡ l.count);
  bounded : l.count ≤ l.most;
  strayed : l.self.strayed ≡ l.fn.self.strayed;
  safe : IsSafe l.self.state;
  home : IsHome l.self;
  played : WasPlayed l.self;
}

abbrev pub decreases-loop-count : goal.decreases-loop-count
decreases-loop-count l = l.most - l.count
