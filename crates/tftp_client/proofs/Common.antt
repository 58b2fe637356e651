-- The names that many proofs of this crate cite, passed on from one place. Declares nothing.
pub use Rattle.std.proofs.Common.{◌∙◌, refl, List, ℕ, sym, ap, ◌≡◌, subst, inl, inr, Some, true, ◌∷◌, Bool, false}
pub use Rattle.std.proofs.Common.{arith, Option, Err, Ok, length, None, Result, [], ◌++◌, ◌≤◌, ◌<◌, ◌⊎◌, append-nil}
pub use Rattle.std.proofs.Common.{rules, codes, OnOk, IsSome, take}
pub use Rattle.clap.specs.Simple.{App, new_app}
pub use Rattle.std.proofs.Math.Logic.{∥∥₁_map}
pub use Rattle.std.proofs.Math.Nat.{lt_of_not-le}
pub use Rattle.std.proofs.lemmas.Bool.{true≢false}
pub use Rattle.std.proofs.lemmas.Option.{same_Some}
pub use Rattle.std.proofs.lemmas.Result.{IfOk-weaker}
pub use Rattle.std.specs.Prelude.{◌+◌, nat_lt, ◌*◌, if◌then◌else◌, min, ◌==◌, ◌-◌, ◌&&◌}
pub use Rattle.std.specs.String.{string_bytes}
pub use Rattle.std.specs.declared.io.Error.{Error}
pub use Rattle.tftp_wire.specs.declared.mode.Mode.{Mode}
pub use Rattle.tftp_wire.specs.declared.mode.Mode.TheVariants.{Octet, Netascii}
pub use Rattle.tftp_wire.specs.declared.packet.Packet.{Packet}
pub use Rattle.tftp_wire.specs.declared.packet.Packet.TheVariants.{Data, Ack, Read, Oack}
pub use Rattle.tftp_negotiate.specs.Agreement.{agreement}
pub use Rattle.tftp_negotiate.specs.declared.asked.Asked.{Asked}
pub use Rattle.tftp_negotiate.specs.declared.known.Kind.{Kind}
pub use Rattle.tftp_negotiate.specs.declared.known.Kind.TheVariants.{Write}
pub use Rattle.tftp_negotiate.specs.declared.known.Known.{Known}
pub use Rattle.tftp_negotiate.specs.declared.refusal.Refusal.{Refusal}
pub use Rattle.tftp_file.specs.Sink.{SinkMeaning, Holding, UnlessArmed, AppendsFreely, CommitsFreely, Commits, Appends}
pub use Rattle.tftp_file.specs.Sink.{disarmed}
pub use Rattle.tftp_file.specs.Source.{SourceMeaning, StaysKnown}
pub use Rattle.tftp_file.specs.declared.fault.StoreFault.{StoreFault}
pub use Rattle.tftp_file.specs.declared.fault.StoreFault.TheVariants.{Full}
pub use Rattle.tftp_file.specs.declared.files.Files.{Files}
pub use Rattle.tftp_file.specs.declared.files.Files.TheVariants.{Source, Sink}
pub use Rattle.tftp_ends.specs.Action.{datagram_action, timeout_response, packet_action, garbled_response}
pub use Rattle.tftp_ends.specs.Backoff.{wait_of}
pub use Rattle.tftp_ends.specs.End.{EndState, is_complete, outcome_of, Position, is_sender, is_client, terms_of}
pub use Rattle.tftp_ends.specs.Files.{KeepsFiles, KeepsHolding, AreFilesOf}
pub use Rattle.tftp_ends.specs.Receiver.{dally_response}
pub use Rattle.tftp_ends.specs.Sender.{illegal_action}
pub use Rattle.tftp_ends.specs.Step.{Turn, Acts, after_turn, Done, GoesOn, response_turn, committed_turn, timeout_turn}
pub use Rattle.tftp_ends.specs.Step.{data_bytes, Appended, DatagramStep, holding, block_length, refused_turn}
pub use Rattle.tftp_ends.specs.Step.{result_count_is, sent_turn, after}
pub use Rattle.tftp_ends.specs.Waiting.{default_terms, reader_action, writer_action, begin_action, begin_with_action}
pub use Rattle.tftp_ends.specs.Waiting.{refusal_action, agreed_terms, no_answer}
pub use Rattle.tftp_ends.specs.declared.action.Action.{Action}
pub use Rattle.tftp_ends.specs.declared.action.Action.TheVariants.{Respond, Send, Store}
pub use Rattle.tftp_ends.specs.declared.action.Response.{Response}
pub use Rattle.tftp_ends.specs.declared.action.Response.TheVariants.{Retransmit, Close, Complete, Ignore, WrongPeer}
pub use Rattle.tftp_ends.specs.declared.action.Response.TheVariants.{ResendReply, Wait, Refuse, Accept}
pub use Rattle.tftp_ends.specs.declared.backoff.Backoff.{Backoff}
pub use Rattle.tftp_ends.specs.declared.endpoint.Endpoint.{Endpoint}
pub use Rattle.tftp_ends.specs.declared.error_reply.ErrorReply.TheVariants.{FileTooLarge}
pub use Rattle.tftp_ends.specs.declared.outcome.Outcome.{Outcome}
pub use Rattle.tftp_ends.specs.declared.phase.Dally.TheVariants.{Fresh, Waited}
pub use Rattle.tftp_ends.specs.declared.phase.Phase.{Phase}
pub use Rattle.tftp_ends.specs.declared.phase.Phase.TheVariants.{Waiting, Sending, Receiving, Dallying, Closed}
pub use Rattle.tftp_ends.specs.declared.phase.Terms.{Terms}
pub use Rattle.tftp_arguments.proofs.Commands.{commands_grow}
pub use Rattle.tftp_arguments.specs.Rules.{IsApp}
pub use Rattle.tftp_disk.specs.DiskTrace.{DiskEvent, made_when, FileState}
pub use Rattle.tftp_disk.specs.DiskTrace.DiskEvent.{Folder_synced, Linked, Looked, Removed, Made}
pub use Rattle.tftp_disk.specs.DiskWriter.{calls_of, handed}
pub use Rattle.tftp_disk.specs.NamedFolder.{SyncsFolder, path_in}
pub use Rattle.tftp_disk.specs.Still.{IsStillAt}
pub use Rattle.tftp_disk.specs.declared.disk_source.DiskSource.{DiskSource}
pub use Rattle.tftp_disk.specs.declared.existing.Existing.TheVariants.{Refused}
pub use Rattle.tftp_disk.specs.declared.found.Found.{Found}
pub use Rattle.tftp_sockets.specs.Quiet.{waits}
pub use Rattle.tftp_sockets.specs.Trace.{SocketEvent, QuietEvent}
pub use Rattle.tftp_sockets.specs.Watch.{last_moment}
pub use Rattle.tftp_sockets.specs.declared.watch.Watch.{Watch}
pub use Rattle.tftp_client.specs.Conversation.{state_of}
pub use Rattle.tftp_client.specs.Converses.{State, Converses, HandlesReceived, MayElapse, IsOpen, WorksOnFile}
pub use Rattle.tftp_client.specs.Converses.{deadline_at, MayWait, IsReadBy, elapsed, waited, AnswersReceived}
pub use Rattle.tftp_client.specs.Converses.Converses.{Begins, Receives, Waits, Times, Rests}
pub use Rattle.tftp_client.specs.Converses.HandlesReceived.{Answers, Loses}
pub use Rattle.tftp_client.specs.Converses.MayElapse.{Stays, Elapses}
pub use Rattle.tftp_client.specs.Fetched.{Paths, Keeps, WasNamed, KeepsPlace, NamesBytes}
pub use Rattle.tftp_client.specs.Moved.{nothing_moved, run_moves, Moved, acts_move, handling_moves}
pub use Rattle.tftp_client.specs.OnDisk.{job_paths, IsFor}
pub use Rattle.tftp_client.specs.Runs.{opens, begun, IsFileOf, IsNew, plain, RunsAs, MayOpen, IsCountOf, Transfers}
pub use Rattle.tftp_client.specs.Runs.{printed}
pub use Rattle.tftp_client.specs.Silence.{seconds_in}
pub use Rattle.tftp_client.specs.Words.{tftp_app}
pub use Rattle.tftp_client.specs.Written.{paths_of, held_of, bytes_in, IsLeftIn}
pub use Rattle.tftp_client.specs.declared.local.LocalFile.{LocalFile}
pub use Rattle.tftp_client.specs.declared.transfer.Job.{Job}
pub use Rattle.tftp_client.specs.declared.written.Written.{Written}
