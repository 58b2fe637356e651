-- The names that many proofs of this crate cite, passed on from one place. Declares nothing.
pub use Rattle.std.proofs.Common.{◌≡◌, ap, refl, ◌∙◌, ℕ, sym, arith, subst, List, ◌≤◌, Option, Some, true, false, ◌∷◌}
pub use Rattle.std.proofs.Common.{inl, Bool, None, inr, ◌+◌, [], length, ◌<◌, map, ◌⊎◌, ◌-◌, ◌++◌, suc, IsSome, ◌||◌}
pub use Rattle.std.proofs.Common.{not, zero, ◌&&◌, ◌==◌, take, ◌*◌, cond, drop, max, min}
pub use Rattle.std.proofs.lemmas.Bool.{cases_eq, ne_eqb, true≢false, eq-eqb}
pub use Rattle.std.proofs.lemmas.List.{length-map, append_assoc}
pub use Rattle.std.proofs.lemmas.List.Elements.{All-push}
pub use Rattle.std.proofs.lemmas.Option.{none-some, same_Some}
pub use Rattle.std.specs.BTreeMap.{is_at}
pub use Rattle.std.specs.List.{swap_remove, list_any, range_with_len, AllByRecursion}
pub use Rattle.std.specs.Map.{lookup, values_of}
pub use Rattle.std.specs.Ordering.{nat_cmp}
pub use Rattle.std.specs.Prelude.{is_some, All, slice_index_or, if◌then◌else◌, slice_set, Err, Ok, Result, ⊤, IfSome}
pub use Rattle.std.specs.Prelude.{option_map, ◌≢◌, nat_lt}
pub use Rattle.tftp_wire.specs.Reading.{has_error_opcode}
pub use Rattle.tftp_wire.specs.declared.mode.Mode.{Mode}
pub use Rattle.tftp_wire.specs.declared.options.RawOption.{RawOption}
pub use Rattle.tftp_wire.specs.declared.packet.Packet.{Packet}
pub use Rattle.tftp_wire.specs.declared.packet.Packet.TheVariants.{Read, Write}
pub use Rattle.tftp_wire.specs.declared.packet.Request.{Request}
pub use Rattle.tftp_negotiate.specs.declared.known.Known.{Known}
pub use Rattle.tftp_negotiate.specs.declared.limits.Limits.{Limits}
pub use Rattle.tftp_file.specs.Path.{path_of_name}
pub use Rattle.tftp_file.specs.Sink.{SinkMeaning}
pub use Rattle.tftp_file.specs.Source.{SourceMeaning}
pub use Rattle.tftp_file.specs.declared.fault.StoreFault.{StoreFault}
pub use Rattle.tftp_file.specs.declared.files.Files.{Files}
pub use Rattle.tftp_file.specs.declared.files.Files.TheVariants.{Source, Sink}
pub use Rattle.tftp_store.specs.Store.{StoreMeaning}
pub use Rattle.tftp_store.specs.declared.store.Opening.{Opening}
pub use Rattle.tftp_ends.specs.Action.{datagram_action}
pub use Rattle.tftp_ends.specs.Backoff.{wait_of}
pub use Rattle.tftp_ends.specs.End.{EndState, outcome_of, record_of, Position, is_complete, is_progress}
pub use Rattle.tftp_ends.specs.Opening.{ServesRead, serving_write}
pub use Rattle.tftp_ends.specs.Step.{Reply, timeout_turn, after_turn, Turn, Acts, DatagramStep, block_length}
pub use Rattle.tftp_ends.specs.Step.{response_turn, error_bytes, lent}
pub use Rattle.tftp_ends.specs.declared.action.Action.{Action}
pub use Rattle.tftp_ends.specs.declared.action.Action.TheVariants.{Respond, Send, Store}
pub use Rattle.tftp_ends.specs.declared.action.Response.{Response}
pub use Rattle.tftp_ends.specs.declared.action.Response.TheVariants.{Retransmit, Close}
pub use Rattle.tftp_ends.specs.declared.backoff.Backoff.{Backoff}
pub use Rattle.tftp_ends.specs.declared.endpoint.Endpoint.{Endpoint}
pub use Rattle.tftp_ends.specs.declared.error_reply.ErrorReply.{ErrorReply}
pub use Rattle.tftp_ends.specs.declared.outcome.Outcome.{Outcome}
pub use Rattle.tftp_ends.specs.declared.phase.Dally.TheVariants.{Fresh}
pub use Rattle.tftp_ends.specs.declared.phase.Phase.{Phase}
pub use Rattle.tftp_ends.specs.declared.phase.Phase.TheVariants.{Waiting, Sending, Receiving, Dallying, Closed}
pub use Rattle.tftp_ends.specs.declared.phase.Terms.{Terms}
pub use Rattle.tftp_ends.specs.declared.record.Record.{Record}
pub use Rattle.tftp_ends.specs.declared.record.Step.{Step}
pub use Rattle.tftp_server.specs.Draft.{drafting_sink}
pub use Rattle.tftp_server.specs.Port.{Ask, Ignores, Refuses, Reads, Writes, Refused, Sends, Service}
pub use Rattle.tftp_server.specs.Request.{Came, Left, left_by, Nothing, Error_reply, A_transfer, Sent, Goes, CarriesOut}
pub use Rattle.tftp_server.specs.Request.{Taken}
pub use Rattle.tftp_server.specs.State.{ServerState, at, TransferState, taken_of, with_new, without, draft_of}
pub use Rattle.tftp_server.specs.State.{is_closed, with_next}
pub use Rattle.tftp_server.specs.Steps.{KeepsHeld, with_end}
pub use Rattle.tftp_server.specs.Work.{WorksAt}
pub use Rattle.tftp_server.specs.declared.config.Config.{Config}
pub use Rattle.tftp_lines.specs.Printed.{line_text}
pub use Rattle.tftp_sockets.specs.Quiet.{was_tried, is_among, is_drained}
pub use Rattle.tftp_sockets.specs.Trace.{SocketEvent, replied, answered}
pub use Rattle.tftp_sockets.specs.Trace.QuietEvent.{Empty, Failed}
pub use Rattle.tftp_sockets.specs.Trace.SocketEvent.{Received, Elapsed, Quiet, Watched, Printed}
pub use Rattle.tftp_sockets.specs.Watch.{deadline_of, last_moment}
pub use Rattle.tftp_sockets.specs.declared.port.Port.{Port}
pub use Rattle.tftp_sockets.specs.declared.watch.TheConstants.{LONGEST_WAIT}
pub use Rattle.tftp_sockets.specs.declared.watch.Watch.{Watch}
pub use Rattle.tftp_loop.specs.Expiry.{in_millis, waits_of, IsIdleAt, ReceivesNoneAt, ClosesInSilence}
pub use Rattle.tftp_loop.specs.Leaving.{An_ack, A_block}
pub use Rattle.tftp_loop.specs.LoopStates.{timer_of, loop_state, state_of, Work_by, pending_in}
pub use Rattle.tftp_loop.specs.MayWait.{AreKept, ReceivedFew, IsHeld, KeepsTries, IsSettled, HavePortsApart, AreSettled}
pub use Rattle.tftp_loop.specs.MayWait.{IsUnclosed, woken_if, IsRead, Concludes, IsOpen, IsTimed, AwaitVisit}
pub use Rattle.tftp_loop.specs.MayWait.{WereVisited, before_visit, timers_of, HasRead, IsTended}
pub use Rattle.tftp_loop.specs.PortOrder.{IsOneOf, coming, drawn_from}
pub use Rattle.tftp_loop.specs.PortPool.{TriesPorts}
pub use Rattle.tftp_loop.specs.Reported.{IsNoWait}
pub use Rattle.tftp_loop.specs.Run.{Run}
pub use Rattle.tftp_loop.specs.Run.Run.{Start, Then}
pub use Rattle.tftp_loop.specs.Steps.{LoopState, Timer, LoopStep, PortState, PortStep, port_state, with_timer}
pub use Rattle.tftp_loop.specs.Steps.{interval_at, set_by, started, at_start, marked_by, timer_after, is_draining}
pub use Rattle.tftp_loop.specs.Steps.{Waits, answering_port, deadline_by, restarted, wait_in, WorksAtPort, note_event}
pub use Rattle.tftp_loop.specs.Steps.{round_end, most_in_round, AnswersRequest, LosesRequest, until_look}
pub use Rattle.tftp_loop.specs.Steps.{reads_requests, timeouts_after, after_request, RequestNote, Found_no_port}
pub use Rattle.tftp_loop.specs.Steps.{Found_port, Found_no_memory, marked_as}
pub use Rattle.tftp_loop.specs.Steps.LoopStep.{At_port, Request_received, No_request_found, Request_not_received}
pub use Rattle.tftp_loop.specs.Steps.LoopStep.{Request_noted, Request_answered, Request_lost, Clock_read, Store_set}
pub use Rattle.tftp_loop.specs.Steps.LoopStep.{Transfer_closed, Drain_begun, Waited}
pub use Rattle.tftp_loop.specs.Steps.PortStep.{Work, A_datagram, A_lost_datagram, A_late_datagram, Nothing_found}
pub use Rattle.tftp_loop.specs.Steps.PortStep.{A_failed_receive, A_timeout, A_missed_timeout}
pub use Rattle.tftp_loop.specs.declared.port_order.PortRange.{PortRange}
pub use Rattle.tftp_loop.specs.declared.port_visit.TheConstants.{MOST_AT_ONCE}
pub use Rattle.tftp_loop.specs.declared.server_loop.ServerLoop.{ServerLoop}
pub use Rattle.tftp_loop.specs.declared.serving.LoopConfig.{LoopConfig}
pub use Rattle.tftp_loop.specs.declared.transfer_port.TransferSocket.{TransferSocket}
