use Rattle.tftp_loop.proofs.Common.{◌≡◌, IsSettled, false}
use Rattle.tftp_loop.specs.LoopStates.{HasRoom, ServesRounds}
use Rattle.tftp_loop.specs.MayWait.{HasFew}
use Rattle.tftp_loop.proofs.server_loop.ServerLoop.take_rounds.Given as goal

-- the run so far, and that a round may follow
abbrev pub invariant-loop-fault : goal.invariant-loop-fault
invariant-loop-fault g l =
    record {
      serves : ServesRounds g.S.Store.meaning g.S.Source.Source.meaning l.fn.request l.fn.self (g.N.Udp.log l.fn.net) l.request
          l.self (g.N.Udp.log l.net);
      settled : IsSettled l.self;
      few : HasFew 0 l.self;
      first : l.self.sockets.has_received ≡ false;
      file : g.N.Udp.file l.net ≡ g.N.Udp.file l.fn.net;
      room : HasRoom l.self;
    }

abbrev pub decreases-loop-fault : goal.decreases-loop-fault
decreases-loop-fault g l = l.self.rounds
