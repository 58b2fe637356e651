-- The names that many proofs of this crate cite, passed on from one place. Declares nothing.
pub use Rattle.std.proofs.Common.{List, ℕ, ◌≡◌, rules, sym, refl, [], ◌∙◌, ap, Some, subst, inl, inr, ◌∷◌, false, true}
pub use Rattle.std.proofs.Common.{None, ◌++◌, Bool, Option, arith, length, suc, zero, ◌≤◌, not, ◌<◌, ◌+◌, Ok, map}
pub use Rattle.std.proofs.Common.{append_assoc, set, ◌*◌, Result, Err, ◌^◌, take, cond, drop, replicate}
pub use Rattle.std.proofs.lemmas.Bool.{true≢false, cases_Bool, cases_eq, eq-eqb, eqb-true, ne_eqb, ltb-true, cond-true}
pub use Rattle.std.proofs.lemmas.Grind.{common_steps}
pub use Rattle.std.proofs.lemmas.List.{append_cancel_right, append-nil, length-append}
pub use Rattle.std.proofs.lemmas.List.Elements.{Contains-push, Contains-append_cases, Contains-append_left}
pub use Rattle.std.proofs.lemmas.List.Elements.{Contains-append_right}
pub use Rattle.std.proofs.lemmas.Option.{same_Some, slice_get-map, slice_get_read}
pub use Rattle.std.specs.BTreeMap.{is_at}
pub use Rattle.std.specs.List.{Contains, AllByRecursion}
pub use Rattle.std.specs.Ordering.{nat_cmp, is_eq, match_ordering}
pub use Rattle.std.specs.Prelude.{◌⊎◌, ◌≢◌, slice_get, if◌then◌else◌, ◌==◌, ◌&&◌, is_some, nat_lt, ⊤, option_to_list}
pub use Rattle.std.specs.Prelude.{option_map, IsSome, is_none, nat_le, slice_set, slice_index_or, IfSome}
pub use Rattle.std.specs.declared.cmp.Ordering.{Ordering}
pub use Rattle.std.specs.declared.cmp.Ordering.TheVariants.{Equal, Less, Greater}
pub use Rattle.tftp_wire.proofs.SpellingLemmas.{one_meaning}
pub use Rattle.tftp_wire.specs.Reading.{has_error_opcode}
pub use Rattle.tftp_wire.specs.Spelling.{Spells, IsValid, canonical}
pub use Rattle.tftp_wire.specs.declared.limits.TheConstants.{MAX_BLOCK}
pub use Rattle.tftp_wire.specs.declared.mode.Mode.{Mode}
pub use Rattle.tftp_wire.specs.declared.mode.Mode.TheVariants.{Octet}
pub use Rattle.tftp_wire.specs.declared.options.RawOption.{RawOption}
pub use Rattle.tftp_wire.specs.declared.packet.Packet.{Packet as WirePacket, Packet}
pub use Rattle.tftp_wire.specs.declared.packet.Packet.TheVariants.{Ack, Read, Error, Data, Oack, Write}
pub use Rattle.tftp_wire.specs.declared.packet.Request.{Request as WireRequest}
pub use Rattle.tftp_negotiate.specs.Agreed.{size, agreed_options}
pub use Rattle.tftp_negotiate.specs.Agreement.{agreement}
pub use Rattle.tftp_negotiate.specs.Answer.{answer}
pub use Rattle.tftp_negotiate.specs.Asked.{asked_options}
pub use Rattle.tftp_negotiate.specs.Ranges.{IsBlockSize}
pub use Rattle.tftp_negotiate.specs.declared.asked.Asked.{Asked}
pub use Rattle.tftp_negotiate.specs.declared.known.Known.{Known}
pub use Rattle.tftp_negotiate.specs.declared.limits.Limits.{Limits}
pub use Rattle.tftp_negotiate.specs.declared.limits.TheConstants.{DEFAULT_BLOCK}
pub use Rattle.tftp_negotiate.specs.declared.refusal.Refusal.{Refusal}
pub use Rattle.tftp_file.specs.Block.{IsPrefixOf, block}
pub use Rattle.tftp_file.specs.Memory.{memory_source, memory_sink}
pub use Rattle.tftp_file.specs.Netascii.{wire_text}
pub use Rattle.tftp_file.specs.Path.{path_of_name}
pub use Rattle.tftp_file.specs.Sink.{SinkMeaning, Holding}
pub use Rattle.tftp_file.specs.Source.{SourceMeaning, GivesInTurn, Gave_nothing, Gave_more}
pub use Rattle.tftp_file.specs.declared.fault.StoreFault.{StoreFault}
pub use Rattle.tftp_file.specs.declared.files.Files.{Files}
pub use Rattle.tftp_file.specs.declared.files.Files.TheVariants.{Sink, Source}
pub use Rattle.tftp_store.specs.Drafts.{TakesInTurn}
pub use Rattle.tftp_store.specs.Memory.{memory_meaning}
pub use Rattle.tftp_store.specs.Store.{StoreMeaning}
pub use Rattle.tftp_store.specs.declared.store.Opening.{Opening}
pub use Rattle.tftp_ends.specs.Action.{datagram_action, packet_action, is_wrong_peer, garbled_response, Decodes}
pub use Rattle.tftp_ends.specs.Action.{same_address, timeout_response}
pub use Rattle.tftp_ends.specs.End.{EndState, outcome_of, is_sender, is_client, is_complete, terms_of, Position}
pub use Rattle.tftp_ends.specs.End.{record_of}
pub use Rattle.tftp_ends.specs.ErrorReply.{error_packet}
pub use Rattle.tftp_ends.specs.Files.{AreSame, KeepsFiles}
pub use Rattle.tftp_ends.specs.Opening.{request_of, serving_read, oack_bytes, serving_write, getting}
pub use Rattle.tftp_ends.specs.Receiver.{next_action, data_action}
pub use Rattle.tftp_ends.specs.Run.{has_opcode}
pub use Rattle.tftp_ends.specs.Sender.{illegal_action, sender_action}
pub use Rattle.tftp_ends.specs.Step.{Turn, after_turn, Reply, timeout_turn, DatagramStep, Acts, error_bytes}
pub use Rattle.tftp_ends.specs.Step.{response_turn, block_length, data_bytes, Done, committed_turn, ack_bytes}
pub use Rattle.tftp_ends.specs.Step.{filled_turn, sent_turn, result_count_is, refused_turn, with_position, holding}
pub use Rattle.tftp_ends.specs.Step.{GoesOn}
pub use Rattle.tftp_ends.specs.Text.{is_readable}
pub use Rattle.tftp_ends.specs.Waiting.{writer_action, agreed_terms, accept_action, reader_action, begin_with_action}
pub use Rattle.tftp_ends.specs.Waiting.{begin_action}
pub use Rattle.tftp_ends.specs.declared.action.Action.{Action}
pub use Rattle.tftp_ends.specs.declared.action.Action.TheVariants.{Respond, Store, Send}
pub use Rattle.tftp_ends.specs.declared.action.Response.{Response}
pub use Rattle.tftp_ends.specs.declared.action.Response.TheVariants.{Accept, WrongPeer, Ignore, Refuse, Close, Complete}
pub use Rattle.tftp_ends.specs.declared.action.Response.TheVariants.{Wait}
pub use Rattle.tftp_ends.specs.declared.backoff.Backoff.{Backoff}
pub use Rattle.tftp_ends.specs.declared.backoff.Backoff.TheVariants.{Constant}
pub use Rattle.tftp_ends.specs.declared.error_reply.ErrorReply.{ErrorReply}
pub use Rattle.tftp_ends.specs.declared.error_reply.ErrorReply.TheVariants.{UnknownTransferId, FileChanged}
pub use Rattle.tftp_ends.specs.declared.outcome.Outcome.{Outcome}
pub use Rattle.tftp_ends.specs.declared.phase.Phase.{Phase}
pub use Rattle.tftp_ends.specs.declared.phase.Phase.TheVariants.{Waiting, Sending, Closed, Receiving, Dallying}
pub use Rattle.tftp_ends.specs.declared.phase.Terms.{Terms}
pub use Rattle.tftp_ends.specs.declared.role.Role.{Role}
pub use Rattle.tftp_lives.proofs.OneOrder.{heads}
pub use Rattle.tftp_lives.specs.Lives.{Act, Has, Took, Said, Lost, Timed, with_reply, newest, Life, Times, Opens, Hears}
pub use Rattle.tftp_lives.specs.Lives.{HasCopies}
pub use Rattle.tftp_lives.specs.Outlasting.{OneAct}
pub use Rattle.tftp_lives.specs.Unanswered.{Begins, IsOver, AreOpposite}
pub use Rattle.tftp_server.specs.Draft.{drafting_sink, files_in, Drafting, KeepsStore}
pub use Rattle.tftp_server.specs.Port.{Ask}
pub use Rattle.tftp_server.specs.Request.{A_transfer, Came, left_by, Nothing, Left, Error_reply, AsksToRead}
pub use Rattle.tftp_server.specs.State.{TransferState, at, ServerState, with_next, is_closed, is_open, without}
pub use Rattle.tftp_server.specs.State.{with_new}
pub use Rattle.tftp_server.specs.Steps.{KeepsHeld, StepIn, with_end}
pub use Rattle.tftp_server.specs.Work.{WorksAt}
pub use Rattle.tftp_server.specs.declared.config.Config.{Config}
pub use Rattle.tftp_rules.proofs.Actions.{says_error}
pub use Rattle.tftp_rules.proofs.EndMoves.{valid_error}
pub use Rattle.tftp_rules.proofs.EndTurns.{datagram_goes, timeout_goes}
pub use Rattle.tftp_rules.proofs.Endpoints.{same_self, same_ip, same_other}
pub use Rattle.tftp_rules.proofs.Entries.{numbers, lookup-insert_other, lookup-remove_other, lookup-set_same}
pub use Rattle.tftp_rules.proofs.Entries.{lookup-insert_same, lookup-set_other}
pub use Rattle.tftp_rules.proofs.Indices.{slice_get-set_same, slice_get-set_other, slice_get-set_cases}
pub use Rattle.tftp_rules.proofs.Indices.{slice_get-push_new}
pub use Rattle.tftp_rules.proofs.PhaseMoves.{if_acts, same_ips}
pub use Rattle.tftp_rules.proofs.Refines.{shown_by}
pub use Rattle.tftp_rules.proofs.SaidLemmas.{spells_own}
pub use Rattle.tftp_rules.proofs.Steps.{own_client}
pub use Rattle.tftp_rules.proofs.UnblamedEnds.{IsUnblamed, unblamed_still, timeout_unblamed}
pub use Rattle.tftp_rules.specs.EndKept.{EndKept, PhaseKept, IsAnswer, IsFromServer}
pub use Rattle.tftp_rules.specs.EndOpens.{AreGranted}
pub use Rattle.tftp_rules.specs.EndShown.{Goes, Stands}
pub use Rattle.tftp_rules.specs.Facts.{Attests, Holds}
pub use Rattle.tftp_rules.specs.KnownFiles.{known_sink, known_source}
pub use Rattle.tftp_rules.specs.Machine.{Endpoint, Message, Elsewhere, Network, At_server, Machine, Party, Request}
pub use Rattle.tftp_rules.specs.Machine.{At_client, is_same, Host, start}
pub use Rattle.tftp_rules.specs.OpenEnds.{OpenEnd, open_view, peer_of, end_after, files_of, holding_of}
pub use Rattle.tftp_rules.specs.Rules.{message, run}
pub use Rattle.tftp_rules.specs.Said.{said}
pub use Rattle.tftp_rules.specs.Shows.{EndView, IsShown, requested, Matches, Shows, NoneAt}
pub use Rattle.tftp_rules.specs.ViewSafety.{IsAmong}
pub use Rattle.tftp_sockets.specs.Trace.{SocketEvent, answered, QuietEvent}
pub use Rattle.tftp_sockets.specs.Trace.QuietEvent.{Slept, Woke, Empty}
pub use Rattle.tftp_sockets.specs.Trace.SocketEvent.{Sent, Received, Elapsed, Watched, Printed, Quiet}
pub use Rattle.tftp_sockets.specs.declared.watch.Watch.{Watch}
pub use Rattle.tftp_loop.proofs.NewStates.{state_is, server_is, trace_is}
pub use Rattle.tftp_loop.proofs.PortStays.{stays_at}
pub use Rattle.tftp_loop.specs.Run.{Run}
pub use Rattle.tftp_loop.specs.Run.Run.{Then, Start}
pub use Rattle.tftp_loop.specs.Steps.{LoopState, LoopStep, PortStep, Request_answered, PortState, AnswersRequest}
pub use Rattle.tftp_loop.specs.Steps.{port_state, ServesPort, at_start, after_request, Timer, ReceivesAndHandles}
pub use Rattle.tftp_loop.specs.Steps.LoopStep.{At_port, Transfer_closed, Request_lost, Waited, Request_received}
pub use Rattle.tftp_loop.specs.Steps.LoopStep.{Store_set}
pub use Rattle.tftp_loop.specs.Steps.PortStep.{A_datagram, Work, A_timeout, A_lost_datagram, A_late_datagram}
pub use Rattle.tftp_loop.specs.declared.serving.LoopConfig.{LoopConfig}
pub use Rattle.tftp_client.specs.Converses.{State, HandlesReceived, MayElapse, received, IsOpen, wait_at, turned}
pub use Rattle.tftp_client.specs.Converses.{elapsed, waited, MayWait, IsReadBy, renewed}
pub use Rattle.tftp_client.specs.Converses.HandlesReceived.{Answers, Loses}
pub use Rattle.tftp_client.specs.Converses.MayElapse.{Elapses, Stays}
pub use Rattle.tftp_client.specs.Runs.{begun}
pub use Rattle.tftp_promises.specs.Alone.{heard_with, alone}
pub use Rattle.tftp_promises.specs.AnyFiles.{client_end, ServesClient, ProgramEnd, IsEnd, transfer_end, KeepAnyFiles}
pub use Rattle.tftp_promises.specs.AnyFiles.{IsOurs, has_of, peer_of as peer_at}
pub use Rattle.tftp_promises.specs.Blamed.{MayCloseAs, NoneIsBlamed}
pub use Rattle.tftp_promises.specs.ClientRuns.{moved_in, Receives_one, ClientDoes, Waits_until, Goes_on, ClientRun}
pub use Rattle.tftp_promises.specs.ClientRuns.{Starts, Times_out, File_works, Prints_line, Reads_clock, client_moves}
pub use Rattle.tftp_promises.specs.ClientRuns.{line_printed}
pub use Rattle.tftp_promises.specs.Drafts.{HadStore, WasCommitted, StoreBegan}
pub use Rattle.tftp_promises.specs.Failed.{IsRefusal, HasFailed}
pub use Rattle.tftp_promises.specs.Given.{GaveSince, StoreOpened}
pub use Rattle.tftp_promises.specs.GivesUp.{WasHeld, IsSeenUnanswered}
pub use Rattle.tftp_promises.specs.Joined.{AreJoined}
pub use Rattle.tftp_promises.specs.Joint.{WasSentBefore, CanTake, Client_asks, Server_does, Client_does, All_begin}
pub use Rattle.tftp_promises.specs.Joint.{TracesAreJoint, Joint}
pub use Rattle.tftp_promises.specs.Lived.{acts_in, acts_at, IsNoActAt, AreNotedWhileOpen, Begins_so, Tells, IsLiving}
pub use Rattle.tftp_promises.specs.Lived.{first_act, port_acts, Sends, AreNoted}
pub use Rattle.tftp_promises.specs.Moved.{Moved, step_moves, came_if, acts_move, port_moves, first_moved, or_before}
pub use Rattle.tftp_promises.specs.Moved.{opening_moves, with_more, nothing_moved, handling_moves}
pub use Rattle.tftp_promises.specs.Network.{joined, HasOpened}
pub use Rattle.tftp_promises.specs.Openings.{our_ports, place_at, moved_at, opened_at, HasClosed, ArePortsFresh}
pub use Rattle.tftp_promises.specs.Openings.{is_ours, place, above, ours_by, opens_at}
pub use Rattle.tftp_promises.specs.Order.{Programs, ClientOf, IsStranger, Noted, requests_at, events_of, MayCome}
pub use Rattle.tftp_promises.specs.Order.{IsHonest, IsError, CanCome, IsOrder, ips, IsAtOf, WasSent, IsAt, IsHonestOf}
pub use Rattle.tftp_promises.specs.Order.{CanComeOf}
pub use Rattle.tftp_promises.specs.Others.{TakesOwn, DoesOwn, HandlesOwn, IsOtherAnswer}
pub use Rattle.tftp_promises.specs.Outlasting.{IsEventOf, AreBounded, HasOrder}
pub use Rattle.tftp_promises.specs.Ports.{opened_ports, AreDistinct, Removes, opened_by}
pub use Rattle.tftp_promises.specs.Programs.{client_at, endpoint, ClientOpens, To_read, ClientProgram, To_write}
pub use Rattle.tftp_promises.specs.Programs.{ServerProgram, request_packet, OpensToWrite, OpensToRead, has_port}
pub use Rattle.tftp_promises.specs.Several.{number_of, OneClient, Several, OneServer}
pub use Rattle.tftp_promises.specs.Snapshots.{Snapshot, server_did, all_of, Has_asked, ClientStage, Unasked, client_did}
pub use Rattle.tftp_promises.specs.Snapshots.{just_asked, noted_by}
pub use Rattle.tftp_promises.specs.Witness.{reader, read_file, blocks_of_8, agreed, read_request, read_name, requests}
pub use Rattle.tftp_promises.specs.Witness.{read_port, client_ip}
