-- The names that many definitions of this crate cite, passed on from one place. Declares nothing.
pub use Rattle.tftp_ends.specs.Action.{Decodes}
pub use Rattle.tftp_ends.specs.End.{EndState, is_client, is_sender, outcome_of}
pub use Rattle.tftp_ends.specs.Files.{AreFilesOf, AreSame}
pub use Rattle.tftp_ends.specs.Step.{Reply, Turn, after_turn, error_bytes, timeout_turn}
pub use Rattle.tftp_ends.specs.declared.outcome.Outcome.{Outcome}
pub use Rattle.tftp_ends.specs.declared.phase.Phase.{Phase}
pub use Rattle.tftp_ends.specs.declared.phase.Phase.TheVariants.{Receiving, Sending, Waiting}
pub use Rattle.tftp_ends.specs.declared.record.Record.{Record}
pub use Rattle.tftp_ends.specs.declared.side.Side.{Side}
pub use Rattle.tftp_file.specs.Block.{Fits, block_count}
pub use Rattle.tftp_file.specs.Memory.{memory_source}
pub use Rattle.tftp_file.specs.Netascii.{wire_text}
pub use Rattle.tftp_file.specs.Path.{path_of_name}
pub use Rattle.tftp_file.specs.Sink.{Holding}
pub use Rattle.tftp_file.specs.declared.files.Files.{Files}
pub use Rattle.tftp_file.specs.declared.files.Files.TheVariants.{Sink, Source}
pub use Rattle.tftp_negotiate.specs.Agreed.{size}
pub use Rattle.tftp_negotiate.specs.Ranges.{IsBlockSize}
pub use Rattle.tftp_negotiate.specs.declared.asked.Asked.{Asked}
pub use Rattle.tftp_negotiate.specs.declared.known.Known.{Known}
pub use Rattle.tftp_negotiate.specs.declared.limits.TheConstants.{DEFAULT_BLOCK}
pub use Rattle.tftp_player.specs.declared.datagram.Datagram.{Datagram}
pub use Rattle.tftp_player.specs.declared.effect.Effect.{Effect}
pub use Rattle.tftp_player.specs.declared.event.Event.{Event}
pub use Rattle.tftp_player.specs.declared.event.Event.TheVariants.{Deliver, Get, Put, Stray}
pub use Rattle.tftp_player.specs.declared.event.Event.TheVariants.{Timeout}
pub use Rattle.tftp_player.specs.declared.fault.WorldFault.{WorldFault}
pub use Rattle.tftp_player.specs.declared.fault.WorldFault.TheVariants.{BadRequest, Memory, NoPort}
pub use Rattle.tftp_player.specs.declared.fault.WorldFault.TheVariants.{NoSuchDatagram, NoSuchEnd}
pub use Rattle.tftp_player.specs.declared.report.Report.{Report}
pub use Rattle.tftp_rules.specs.Hosts.{client_ip, host_of, request_port, server_ip}
pub use Rattle.tftp_rules.specs.Machine.{At_server, Elsewhere, Endpoint}
pub use Rattle.tftp_rules.specs.OpenEnds.{OpenEnd, end_after, files_of, peer_of}
pub use Rattle.tftp_rules.specs.Shows.{EndView, requested}
pub use Rattle.tftp_server.specs.Port.{Refused, Sends, Service, Silent, Takes}
pub use Rattle.tftp_server.specs.declared.config.Config.{Config}
pub use Rattle.tftp_store.specs.Store.{Drafted, new_draft}
pub use Rattle.tftp_wire.specs.Spelling.{Spells}
pub use Rattle.tftp_wire.specs.declared.mode.Mode.{Mode}
pub use Rattle.tftp_wire.specs.declared.packet.Packet.{Packet}
pub use Rattle.tftp_wire.specs.declared.packet.Request.{Request}
