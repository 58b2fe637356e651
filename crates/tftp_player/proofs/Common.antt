-- The names that many proofs of this crate cite, passed on from one place. Declares nothing.
pub use Rattle.std.proofs.Common.{rules, ℕ, ◌≡◌, List, Some, ap, refl, subst, sym, ◌∙◌, true, false, Bool, arith}
pub use Rattle.std.proofs.Common.{length, slice_get, [], ◌∷◌, None, ◌+◌, ◌<◌, Option, inr, ◌≤◌, inl, ◌++◌, ◌≢◌}
pub use Rattle.std.proofs.Common.{if◌then◌else◌, not, ◌*◌, slice_set, suc, ◌⊎◌, zero, Ok, is_some, Result, take}
pub use Rattle.std.proofs.Common.{option_map, map, ◌&&◌, ◌-◌, Err, drop, nat_lt, set, min, nat_eq, slice_index_or, ◌%◌}
pub use Rattle.std.proofs.Common.{◌/◌}
pub use Rattle.std.proofs.lemmas.Bool.{true≢false, cases_eq, ltb-true, cases_Bool}
pub use Rattle.std.proofs.lemmas.Grind.{common_steps}
pub use Rattle.std.proofs.lemmas.List.{append-nil, map-set}
pub use Rattle.std.proofs.lemmas.List.Elements.{Contains-append_cases, Contains-append_left, Contains-append_right}
pub use Rattle.std.proofs.lemmas.List.Elements.{Contains-push}
pub use Rattle.std.proofs.lemmas.Option.{same_Some, slice_get_within, slice_get-map, slice_get_past}
pub use Rattle.std.specs.Cmp.Lexicographic.{pointwise}
pub use Rattle.std.specs.List.{Contains, AllByRecursion}
pub use Rattle.std.specs.Prelude.{⊤}
pub use Rattle.tftp_wire.proofs.SpellingLemmas.{one_meaning, spelled_has_no_fault}
pub use Rattle.tftp_wire.specs.Parts.{packet_in}
pub use Rattle.tftp_wire.specs.Spelling.{Spells, canonical}
pub use Rattle.tftp_wire.specs.declared.limits.TheConstants.{MAX_BLOCK}
pub use Rattle.tftp_wire.specs.declared.mode.Mode.{Mode}
pub use Rattle.tftp_wire.specs.declared.mode.Mode.TheVariants.{Octet, Netascii}
pub use Rattle.tftp_wire.specs.declared.options.RawOption.{RawOption}
pub use Rattle.tftp_wire.specs.declared.packet.Packet.{Packet, Packet as WirePacket}
pub use Rattle.tftp_wire.specs.declared.packet.Packet.TheVariants.{Oack, Data, Ack, Error, Read, Write}
pub use Rattle.tftp_negotiate.specs.Agreed.{size, agreed_options}
pub use Rattle.tftp_negotiate.specs.Agreement.{agreement, taken_option}
pub use Rattle.tftp_negotiate.specs.Answer.{answer, answered_option}
pub use Rattle.tftp_negotiate.specs.Ranges.{IsBlockSize}
pub use Rattle.tftp_negotiate.specs.declared.asked.Asked.{Asked}
pub use Rattle.tftp_negotiate.specs.declared.known.Kind.{Kind}
pub use Rattle.tftp_negotiate.specs.declared.known.Known.{Known}
pub use Rattle.tftp_negotiate.specs.declared.known.Known.TheVariants.{Blksize}
pub use Rattle.tftp_negotiate.specs.declared.limits.TheConstants.{DEFAULT_BLOCK}
pub use Rattle.tftp_negotiate.specs.declared.refusal.Refusal.{Refusal}
pub use Rattle.tftp_file.specs.Block.{block_count, block, Fits}
pub use Rattle.tftp_file.specs.Memory.{memory_source}
pub use Rattle.tftp_file.specs.Netascii.{wire_text}
pub use Rattle.tftp_file.specs.Sink.{Holding, UnlessArmed}
pub use Rattle.tftp_file.specs.declared.fault.StoreFault.{StoreFault}
pub use Rattle.tftp_file.specs.declared.files.Files.{Files}
pub use Rattle.tftp_file.specs.declared.files.Files.TheVariants.{Sink, Source}
pub use Rattle.tftp_store.specs.Memory.{memory_meaning}
pub use Rattle.tftp_store.specs.Store.{Stored, Drafted, FileList, measured, is_taken, with_file}
pub use Rattle.tftp_ends.specs.Action.{datagram_action, Decodes, is_wrong_peer, packet_action, timeout_response}
pub use Rattle.tftp_ends.specs.Action.{same_address}
pub use Rattle.tftp_ends.specs.End.{is_client, is_sender, terms_of, outcome_of, EndState, is_complete, size_of}
pub use Rattle.tftp_ends.specs.End.{is_progress, record_of, Position}
pub use Rattle.tftp_ends.specs.Files.{AreFilesOf, AreSame}
pub use Rattle.tftp_ends.specs.Opening.{oack_bytes, serving_read}
pub use Rattle.tftp_ends.specs.Receiver.{next_action, receiver_action, dally_response}
pub use Rattle.tftp_ends.specs.Step.{Turn, timeout_turn, ack_bytes, data_bytes, response_turn, Acts, DatagramStep}
pub use Rattle.tftp_ends.specs.Step.{Reply, AcksAgain, error_bytes, holding, Appended, Done, GoesOn, after_turn}
pub use Rattle.tftp_ends.specs.Step.{commit_reply, committed_turn, refused_turn, reply_bytes, sent_turn, block_length}
pub use Rattle.tftp_ends.specs.Step.{with_position}
pub use Rattle.tftp_ends.specs.Waiting.{default_terms, agreed_terms, writer_action, accept_action, begin_action}
pub use Rattle.tftp_ends.specs.Waiting.{begin_with_action, reader_action, refusal_action}
pub use Rattle.tftp_ends.specs.declared.action.Action.{Action}
pub use Rattle.tftp_ends.specs.declared.action.Action.TheVariants.{Respond, Send, Store}
pub use Rattle.tftp_ends.specs.declared.action.Response.{Response}
pub use Rattle.tftp_ends.specs.declared.action.Response.TheVariants.{Accept, Complete, Ignore, ResendReply, Retransmit}
pub use Rattle.tftp_ends.specs.declared.action.Response.TheVariants.{Refuse, WrongPeer}
pub use Rattle.tftp_ends.specs.declared.error_reply.ErrorReply.{ErrorReply}
pub use Rattle.tftp_ends.specs.declared.error_reply.ErrorReply.TheVariants.{DiskFull, FileTooLarge, IllegalOperation}
pub use Rattle.tftp_ends.specs.declared.error_reply.ErrorReply.TheVariants.{UnknownTransferId}
pub use Rattle.tftp_ends.specs.declared.outcome.Outcome.{Outcome}
pub use Rattle.tftp_ends.specs.declared.phase.Dally.TheVariants.{Fresh}
pub use Rattle.tftp_ends.specs.declared.phase.Phase.{Phase}
pub use Rattle.tftp_ends.specs.declared.phase.Phase.TheVariants.{Receiving, Waiting, Sending, Dallying, Closed}
pub use Rattle.tftp_ends.specs.declared.phase.Terms.{Terms}
pub use Rattle.tftp_ends.specs.declared.record.Record.{Record}
pub use Rattle.tftp_server.specs.Draft.{drafting_sink, files_in, KeepsStore}
pub use Rattle.tftp_server.specs.Port.{Service, Sends, Takes, Refused, Silent, Ask, by_file, Refuses, accept_reply}
pub use Rattle.tftp_server.specs.Port.{by_draft, by_length, by_name, by_options, by_packet}
pub use Rattle.tftp_server.specs.Steps.{StepIn}
pub use Rattle.tftp_server.specs.declared.config.Config.{Config}
pub use Rattle.tftp_rules.proofs.ActionCases.{MayTake, datagram_takes}
pub use Rattle.tftp_rules.proofs.BlamelessActions.{decoded_is}
pub use Rattle.tftp_rules.proofs.Granted.{answer_granted}
pub use Rattle.tftp_rules.proofs.HostLemmas.{host_server}
pub use Rattle.tftp_rules.proofs.Indices.{slice_get-push_cases, slice_get-push_old, slice_get-set_cases}
pub use Rattle.tftp_rules.proofs.Indices.{slice_get-set_other, slice_get-push_new, slice_get-set_same}
pub use Rattle.tftp_rules.proofs.Refines.{shown_by}
pub use Rattle.tftp_rules.proofs.SaidLemmas.{spells_own, taken_oack, own_oack, says_spelled}
pub use Rattle.tftp_rules.proofs.SinkMoves.{text_else, Kept_all, kept_by}
pub use Rattle.tftp_rules.proofs.SourceMoves.{number_fits, text_if}
pub use Rattle.tftp_rules.proofs.Steps.{own_of, same_size}
pub use Rattle.tftp_rules.proofs.TurnCases.{TurnBy, acts_by, Has_stored, Responds, Sends_data}
pub use Rattle.tftp_rules.proofs.WaitingMoves.{agreed_size}
pub use Rattle.tftp_rules.specs.EndKept.{PhaseKept, HeldBackFits, IsUnderWay, EndKept}
pub use Rattle.tftp_rules.specs.Facts.{Attests, Holds, home}
pub use Rattle.tftp_rules.specs.Hosts.{request_port, two_hosts, server_ip, client_ip, host_of}
pub use Rattle.tftp_rules.specs.Machine.{Endpoint, Elsewhere, Machine, Message, At_server, Party, start}
pub use Rattle.tftp_rules.specs.OpenEnds.{OpenEnd, end_after, files_of, peer_of, goes_on, holding_of, received_text}
pub use Rattle.tftp_rules.specs.OpenEnds.{in_state, open_view, with_phase}
pub use Rattle.tftp_rules.specs.Rules.{message, Rule}
pub use Rattle.tftp_rules.specs.Said.{said}
pub use Rattle.tftp_rules.specs.Shows.{EndView, Matches, IsShownWithin, IsShownAt, Shows, requested}
pub use Rattle.tftp_player.specs.Arriving.{EndsAsk}
pub use Rattle.tftp_player.specs.Closing.{Blames}
pub use Rattle.tftp_player.specs.Effect.{report_by, said_by}
pub use Rattle.tftp_player.specs.EndSteps.{EndTakes, EndHandles, EndTimesOut}
pub use Rattle.tftp_player.specs.Openings.{receiving_end, sending_end, reading_client, writing_client, MayGet, MayPut}
pub use Rattle.tftp_player.specs.Played.{served_end, client_end, records_from, stands}
pub use Rattle.tftp_player.specs.PlayedWorld.{IsHome, WasPlayed, PlayedWorld}
pub use Rattle.tftp_player.specs.Recovering.{IsReached, Behaves, TakesPeer, left_to_add, AsksAgain, StoresTake}
pub use Rattle.tftp_player.specs.Requests.{service, IsRepeated, open_transfers, Repeats, served, AnyRepeats, opened_of}
pub use Rattle.tftp_player.specs.Requests.{begun_of}
pub use Rattle.tftp_player.specs.Room.{answer_room, AgreesWithin}
pub use Rattle.tftp_player.specs.ServerEnd.{PlayedServer, CommitsLast, ServerEndKept, ServerTransfer}
pub use Rattle.tftp_player.specs.Simulation.{world_of, ArePartsConsistent}
pub use Rattle.tftp_player.specs.Straight.{IsAccepted, read_adds, write_adds, TookAll, AllTaken, Ends, RunsStraight}
pub use Rattle.tftp_player.specs.Straight.{SomeReadIsStraight, SomeWriteIsStraight, TakesAnswer}
pub use Rattle.tftp_player.specs.World.{WorldState, WorldEnd, Open_end, datagram, file_at, Closed_end, end_address}
pub use Rattle.tftp_player.specs.World.{standing, in_the_way, StoredFile, view_of_end, end_record, world_after}
pub use Rattle.tftp_player.specs.World.{new_world, report_of, no_report, has_committed, opened_in, sent_report}
pub use Rattle.tftp_player.specs.World.{ClosedEnd, end_file, is_closed, replied, by_outcome, closed_end, end_stored}
pub use Rattle.tftp_player.specs.World.{next_port, said_in, closed_at, end_committed, end_mode, end_text, end_wire}
pub use Rattle.tftp_player.specs.WorldKept.{Refines, HasPorts, IsKeptIn, HasAsker, RefinesAt, RefinesWithin, WasAsked}
pub use Rattle.tftp_player.specs.WorldRuns.{PlaysAll, MayHappen}
pub use Rattle.tftp_player.specs.WorldSafety.{IsComplete, HasPeer, IsSafe, HasPeersAtHome, IsReceiver}
pub use Rattle.tftp_player.specs.WorldSteps.{WorldStep, Delivery, ServiceStep, At_open_end, At_request_port}
pub use Rattle.tftp_player.specs.WorldSteps.{OpeningStep, armed_end, world_sink, At_closed_end, At_nobody}
pub use Rattle.tftp_player.specs.WorldSteps.{may_refuse_commit, Stays, TimeoutStep, Turns, EndStep, FilesAfter, Settles}
pub use Rattle.tftp_player.specs.WorldSteps.{HasPort, OnDatagram, WorldRefuses, IsAtPort, IsStored, StepAt}
pub use Rattle.tftp_player.specs.declared.datagram.Datagram.{Datagram}
pub use Rattle.tftp_player.specs.declared.effect.Effect.{Effect}
pub use Rattle.tftp_player.specs.declared.event.Event.{Event}
pub use Rattle.tftp_player.specs.declared.event.Event.TheVariants.{Deliver, Timeout, Get, Put, RefuseStore, Stray}
pub use Rattle.tftp_player.specs.declared.fault.WorldFault.{WorldFault}
pub use Rattle.tftp_player.specs.declared.report.Report.{Report}
pub use Rattle.tftp_player.specs.declared.server_end.ServerEnd.{ServerEnd}
pub use Rattle.rand_pcg.specs.Lcg.{Lcg}
pub use Rattle.std.proofs.lemmas.Result.{IfOk-weaker}
pub use Rattle.std.specs.Fmt.{digits}
pub use Rattle.tftp_ends.specs.OtherSinks.{SinksModel, SourcesModel, step_as}
pub use Rattle.tftp_ends.specs.Text.{Decoded}
pub use Rattle.tftp_file.specs.declared.fault.StoreFault.TheVariants.{Full}
pub use Rattle.tftp_file.specs.declared.path.PathFault.{PathFault}
pub use Rattle.tftp_negotiate.specs.Negotiation.{occurrences_of}
pub use Rattle.tftp_negotiate.specs.Options.{name_of}
pub use Rattle.tftp_negotiate.specs.declared.limits.Limits.{Limits}
pub use Rattle.tftp_player.specs.Answer.{AnswersAs, released_end}
pub use Rattle.tftp_player.specs.Completing.{Transfers}
pub use Rattle.tftp_player.specs.Draw.{drawn}
pub use Rattle.tftp_player.specs.declared.ends.asking.Answer.{Answer}
pub use Rattle.tftp_rules.proofs.Grows.{AllGrow}
pub use Rattle.tftp_rules.proofs.PhaseMoves.{same_ips}
pub use Rattle.tftp_rules.specs.EndShown.{IsThere}
pub use Rattle.tftp_server.specs.State.{at}
pub use Rattle.tftp_wire.specs.Borrowed.{owned}
pub use Rattle.tftp_wire.specs.Reading.{has_error_opcode}
