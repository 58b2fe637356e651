use Rattle.tftp_loop.proofs.Common.{◌≡◌, AwaitVisit, WereVisited, IsSettled}
use Rattle.tftp_loop.specs.LoopStates.{HasRoom, OnlyWorks}
use Rattle.tftp_loop.proofs.server_loop.ServerLoop.pass_over.Given as goal

-- the ports from the index on were visited
abbrev pub invariant-loop-index : goal.invariant-loop-index
invariant-loop-index g l =
    record {
      works : OnlyWorks g.S.Store.meaning g.S.Source.Source.meaning l.initial.self (g.N.Udp.log l.initial.net) l.self
          (g.N.Udp.log l.net);
      settled : IsSettled l.self;
      visited : WereVisited l.fn.pass l.index l.self (g.N.Udp.log l.net);
      waiting : AwaitVisit l.fn.pass l.index l.self;
      asked : l.self.sockets.has_received ≡ l.initial.self.sockets.has_received;
      file : g.N.Udp.file l.net ≡ g.N.Udp.file l.initial.net;
      rounds : l.self.rounds ≡ l.initial.self.rounds;
      room : HasRoom l.initial.self → HasRoom l.self;
    }

abbrev pub decreases-loop-index : goal.decreases-loop-index
decreases-loop-index g l = l.index
