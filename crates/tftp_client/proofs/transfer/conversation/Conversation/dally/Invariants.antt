-- The file stays one of the end's side, the port the same, an open end may wait, and the client has
-- done nothing but the steps of its end.
use Rattle.tftp_client.proofs.Common.{◌+◌, AreFilesOf, waits, state_of, Converses}
use Rattle.std.specs.Prelude.{◌≡◌}
use Rattle.tftp_client.specs.Conversation.{IsReady}
use Rattle.tftp_client.proofs.transfer.conversation.Conversation.dally.Given as goal

abbrev pub invariant-loop : goal.invariant-loop
invariant-loop g l =
    record {
      fit : AreFilesOf l.self.end.role.side l.files;
      port : l.self.socket.port ≡ l.initial.self.socket.port;
      ready : IsReady l.self;
      waits : waits (g.N.Udp.log l.net) ≡ l.counter + waits (g.N.Udp.log l.initial.net);
      converses : Converses g.S.Source.meaning g.K.Sink.meaning l.initial.self.socket.port
          (state_of l.initial.self (g.N.Udp.log l.initial.net)) l.initial.files (state_of l.self (g.N.Udp.log l.net)) l.files;
    }
