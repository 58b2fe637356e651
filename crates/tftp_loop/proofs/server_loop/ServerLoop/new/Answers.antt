use Rattle.tftp_loop.proofs.Common.{ℕ, Watch, ap, map, refl, timer_of}
use Rattle.tftp_loop.specs.PortPool.{PoolState}
use Rattle.tftp_loop.proofs.LoopRuns.{same_state}
use Rattle.tftp_loop.proofs.server_loop.ServerLoop.new.Goals as goal

pub returns-clause-starts : goal.returns-clause-starts
returns-clause-starts g c =
    let bound = c.requires in
    let started_at : ℕ → Watch = λ n. record { now = n; reading = c.args.sockets.watch.reading } in
    record {
      state =
          λ buffer events.
          same_state _ _ refl (ap (λ (pool : PoolState). pool.range) bound.pool) refl refl refl refl refl refl
          (ap (map timer_of) c.new.ensures.items)
          (ap started_at bound.time) bound.limit refl bound.marked bound.asked c.of.ensures refl refl refl;
      none = c.new.ensures.items;
    }
