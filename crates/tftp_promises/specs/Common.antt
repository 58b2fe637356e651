-- The names that many definitions of this crate cite, passed on from one place. Declares nothing.
pub use Rattle.tftp_wire.specs.Spelling.{Spells, canonical}
pub use Rattle.tftp_wire.specs.declared.mode.Mode.{Mode}
pub use Rattle.tftp_wire.specs.declared.packet.Packet.{Packet}
pub use Rattle.tftp_wire.specs.declared.packet.Packet.TheVariants.{Read}
pub use Rattle.tftp_negotiate.specs.declared.asked.Asked.{Asked}
pub use Rattle.tftp_negotiate.specs.declared.known.Known.{Known}
pub use Rattle.tftp_file.specs.Netascii.{wire_text}
pub use Rattle.tftp_file.specs.Path.{path_of_name}
pub use Rattle.tftp_file.specs.Sink.{SinkMeaning}
pub use Rattle.tftp_file.specs.Source.{SourceMeaning}
pub use Rattle.tftp_file.specs.declared.files.Files.{Files}
pub use Rattle.tftp_file.specs.declared.files.Files.TheVariants.{Sink, Source}
pub use Rattle.tftp_store.specs.Store.{StoreMeaning}
pub use Rattle.tftp_store.specs.declared.store.Opening.{Opening}
pub use Rattle.tftp_ends.specs.End.{EndState, is_complete, is_sender, outcome_of, record_of}
pub use Rattle.tftp_ends.specs.End.{is_client}
pub use Rattle.tftp_ends.specs.Opening.{request_of}
pub use Rattle.tftp_ends.specs.Run.{IsOpen}
pub use Rattle.tftp_ends.specs.declared.backoff.Backoff.{Backoff}
pub use Rattle.tftp_ends.specs.declared.outcome.Outcome.{Outcome}
pub use Rattle.tftp_lives.specs.Lives.{Took, Said, Timed, Lost, Act}
pub use Rattle.tftp_lives.specs.Outlasting.{OneAct}
pub use Rattle.tftp_lives.specs.Unanswered.{IsOver}
pub use Rattle.tftp_server.specs.Draft.{drafting_sink}
pub use Rattle.tftp_server.specs.Request.{Error_reply, Nothing, A_transfer}
pub use Rattle.tftp_server.specs.State.{TransferState, at, ServerState, is_open}
pub use Rattle.tftp_rules.specs.Machine.{Endpoint, is_same, Network, At_server, At_client}
pub use Rattle.tftp_rules.specs.Machine.{Elsewhere}
pub use Rattle.tftp_sockets.specs.Trace.{SocketEvent, QuietEvent}
pub use Rattle.tftp_sockets.specs.Trace.QuietEvent.{Empty, Failed, Slept}
pub use Rattle.tftp_sockets.specs.Trace.SocketEvent.{Sent, Received, Elapsed, Printed, Quiet}
pub use Rattle.tftp_sockets.specs.Trace.SocketEvent.{Watched}
pub use Rattle.tftp_sockets.specs.declared.watch.Watch.{Watch}
pub use Rattle.tftp_loop.specs.Run.{Run}
pub use Rattle.tftp_loop.specs.Run.Run.{Then, Start}
pub use Rattle.tftp_loop.specs.Steps.{LoopStep, LoopState, Request_answered, at_start, PortStep}
pub use Rattle.tftp_loop.specs.Steps.{PortState, Transfer_closed}
pub use Rattle.tftp_loop.specs.declared.serving.LoopConfig.{LoopConfig}
pub use Rattle.tftp_client.specs.Converses.{State, HandlesReceived, MayElapse}
pub use Rattle.tftp_client.specs.Converses.HandlesReceived.{Answers, Loses}
pub use Rattle.tftp_client.specs.Runs.{begun, printed, Dallies}
