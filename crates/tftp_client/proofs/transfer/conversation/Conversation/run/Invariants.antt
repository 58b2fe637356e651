-- The file stays one of the end's side, the port the same, the end is open, not complete and may wait, each turn
-- was one wait, and the client has done nothing but the steps of its end.
use Rattle.tftp_client.proofs.Common.{◌+◌, is_complete, AreFilesOf, waits, state_of, Converses, IsOpen}
use Rattle.std.specs.Prelude.{◌≡◌, false}
use Rattle.tftp_client.specs.Conversation.{IsReady}
use Rattle.tftp_client.proofs.transfer.conversation.Conversation.run.Given as goal

abbrev pub invariant-loop-made : goal.invariant-loop-made
invariant-loop-made g l =
    record {
      fit : AreFilesOf l.self.end.role.side l.files;
      port : l.self.socket.port ≡ l.initial.self.socket.port;
      not_closed : IsOpen l.self.end;
      incomplete : is_complete l.self.end.position.phase ≡ false;
      ready : IsReady l.self;
      waits : waits (g.N.Udp.log l.net) ≡ l.made + waits (g.N.Udp.log l.initial.net);
      left : l.waits + l.made ≡ l.initial.waits;
      converses : Converses g.S.Source.meaning g.K.Sink.meaning l.initial.self.socket.port
          (state_of l.initial.self (g.N.Udp.log l.initial.net)) l.initial.files (state_of l.self (g.N.Udp.log l.net)) l.files;
    }
