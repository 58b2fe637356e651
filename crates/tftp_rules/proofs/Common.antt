-- The names that many proofs of this crate cite, passed on from one place. Declares nothing.
pub use Rattle.std.proofs.Common.{◌≡◌, List, refl, sym, true, [], false, ℕ, rules, ◌∷◌, arith, ◌∙◌, Some, Bool, ◌++◌}
pub use Rattle.std.proofs.Common.{ap, subst, length, ◌+◌, ◌<◌, ◌≤◌, inl, None, inr, ◌*◌, Option, Ok, not, drop, Result}
pub use Rattle.std.proofs.Common.{Err, take, set, ◌^◌, append_assoc, rules as std_rules, min, arith as std_arith, suc}
pub use Rattle.std.proofs.Common.{zero, cond}
pub use Rattle.std.proofs.lemmas.Bool.{true≢false, cases_Bool, eqb-true, ltb-true, ltb-false, eq-eqb, cases_eq}
pub use Rattle.std.proofs.lemmas.Bool.{cond-true}
pub use Rattle.std.proofs.lemmas.Grind.{common_steps, common_steps as std_common_steps}
pub use Rattle.std.proofs.lemmas.List.{append-nil, length-take, length-drop, take-append-drop}
pub use Rattle.std.proofs.lemmas.List.Elements.{Contains-append_cases, Contains-append_left}
pub use Rattle.std.proofs.lemmas.Option.{same_Some}
pub use Rattle.std.specs.List.{Contains, AllByRecursion}
pub use Rattle.std.specs.Prelude.{◌≢◌, if◌then◌else◌, nat_lt, ◌&&◌, ◌==◌, ◌⊎◌, slice_get, is_some, is_none, option_map}
pub use Rattle.std.specs.Prelude.{⊤, ◌/◌}
pub use Rattle.tftp_wire.specs.Reading.{has_error_opcode}
pub use Rattle.tftp_wire.specs.Spelling.{Spells, IsValid, canonical}
pub use Rattle.tftp_wire.specs.declared.limits.TheConstants.{MAX_BLOCK}
pub use Rattle.tftp_wire.specs.declared.mode.Mode.{Mode}
pub use Rattle.tftp_wire.specs.declared.mode.Mode.TheVariants.{Octet, Netascii}
pub use Rattle.tftp_wire.specs.declared.options.RawOption.{RawOption}
pub use Rattle.tftp_wire.specs.declared.packet.Packet.TheVariants.{Oack, Read, Write}
pub use Rattle.tftp_negotiate.specs.Agreed.{size, IsAgreeable, agreed_options}
pub use Rattle.tftp_negotiate.specs.Agreement.{agreement}
pub use Rattle.tftp_negotiate.specs.declared.asked.Asked.{Asked}
pub use Rattle.tftp_negotiate.specs.declared.known.Kind.{Kind}
pub use Rattle.tftp_negotiate.specs.declared.known.Known.{Known}
pub use Rattle.tftp_negotiate.specs.declared.limits.TheConstants.{DEFAULT_BLOCK}
pub use Rattle.tftp_negotiate.specs.declared.refusal.Refusal.{Refusal}
pub use Rattle.tftp_file.specs.Block.{block, block_count, Fits, IsPrefixOf}
pub use Rattle.tftp_file.specs.Netascii.{wire_text, netascii_text}
pub use Rattle.tftp_file.specs.Sink.{Holding, SinkMeaning}
pub use Rattle.tftp_file.specs.Source.{SourceMeaning}
pub use Rattle.tftp_file.specs.declared.fault.StoreFault.{StoreFault}
pub use Rattle.tftp_file.specs.declared.files.Files.{Files}
pub use Rattle.tftp_file.specs.declared.files.Files.TheVariants.{Source, Sink}
pub use Rattle.tftp_ends.specs.Action.{is_wrong_peer, datagram_action, Decodes, same_address, garbled_response}
pub use Rattle.tftp_ends.specs.Action.{packet_action}
pub use Rattle.tftp_ends.specs.End.{is_sender, EndState, terms_of, outcome_of, is_client, is_complete, Position}
pub use Rattle.tftp_ends.specs.Receiver.{receiver_action, next_action, dally_response}
pub use Rattle.tftp_ends.specs.Sender.{sender_action}
pub use Rattle.tftp_ends.specs.Step.{Turn, response_turn, Acts, SendsFrom, StoresIn, timeout_turn, block_length}
pub use Rattle.tftp_ends.specs.Step.{sent_turn, refused_turn, after_turn, DatagramStep, GoesOn, Done, committed_turn}
pub use Rattle.tftp_ends.specs.Step.{commit_reply, result_count_is, holding, ack_bytes, data_bytes}
pub use Rattle.tftp_ends.specs.Text.{is_readable, ends_in_cr}
pub use Rattle.tftp_ends.specs.Waiting.{default_terms, reader_action, writer_action, accept_action, refusal_action}
pub use Rattle.tftp_ends.specs.Waiting.{agreed_terms, begin_action, begin_with_action}
pub use Rattle.tftp_ends.specs.declared.action.Action.{Action}
pub use Rattle.tftp_ends.specs.declared.action.Action.TheVariants.{Respond, Send, Store}
pub use Rattle.tftp_ends.specs.declared.action.Response.{Response}
pub use Rattle.tftp_ends.specs.declared.action.Response.TheVariants.{Close, Refuse, Ignore, WrongPeer, Complete}
pub use Rattle.tftp_ends.specs.declared.action.Response.TheVariants.{ResendReply, Accept, Retransmit}
pub use Rattle.tftp_ends.specs.declared.error_reply.ErrorReply.{ErrorReply}
pub use Rattle.tftp_ends.specs.declared.outcome.Outcome.{Outcome}
pub use Rattle.tftp_ends.specs.declared.phase.Dally.TheVariants.{Fresh}
pub use Rattle.tftp_ends.specs.declared.phase.Phase.{Phase}
pub use Rattle.tftp_ends.specs.declared.phase.Phase.TheVariants.{Sending, Receiving, Dallying, Waiting, Closed}
pub use Rattle.tftp_ends.specs.declared.phase.Terms.{Terms}
pub use Rattle.tftp_rules.specs.EndKept.{EndKept, PhaseKept, IsFromServer, IsAnswer, HeldBackFits}
pub use Rattle.tftp_rules.specs.EndShown.{Goes, IsThere, IsOpenAt, Replies}
pub use Rattle.tftp_rules.specs.Facts.{Holds, Attests, HasReceived, IsSoundParty}
pub use Rattle.tftp_rules.specs.Hosts.{client_ip, server_ip}
unfoldable pub use Rattle.tftp_rules.specs.Hosts.{host_of}
pub use Rattle.tftp_rules.specs.KnownFiles.{known_source, known_sink}
pub use Rattle.tftp_rules.specs.Machine.{Endpoint, Network, Message, Machine, Party, Elsewhere, with_end, start, Data}
pub use Rattle.tftp_rules.specs.Machine.{Packet, Ack, Error, At_server, Request, At_client, is_same, is_same_ip, nobody}
pub use Rattle.tftp_rules.specs.Machine.{Ack as Says_ack, Data as Says_data}
pub use Rattle.tftp_rules.specs.OpenEnds.{OpenEnd, open_view, files_of, in_state, end_after, with_phase, has_failed}
pub use Rattle.tftp_rules.specs.OpenEnds.{goes_on, text_of as text_of_end, holding_of, received_text}
pub use Rattle.tftp_rules.specs.Rules.{Rule, message, after, Asks, run, Opens_with, Guard, IsLegal, Opens_plainly}
pub use Rattle.tftp_rules.specs.Rules.{Takes_oack, Appends, Sends_next, Completes, Fails, Says_error, Repeats}
pub use Rattle.tftp_rules.specs.Rules.{Takes_ack, Takes_data, Fails_with, Fails_to_begin, Strays, party_after, actor}
pub use Rattle.tftp_rules.specs.Rules.{asking, opened, taken, HasAccepted, MayAct, Waits, IsNext, IsLive, packets}
pub use Rattle.tftp_rules.specs.Rules.{IsAcked, HasText, OpensNoDuplicate, AreOver}
pub use Rattle.tftp_rules.specs.Said.{said, oack_size}
pub use Rattle.tftp_rules.specs.Shows.{EndView, Matches, IsShownAt, IsShownWithin, ActInTurn, party_then, sent_by}
pub use Rattle.tftp_rules.specs.Shows.{Shows, OpensEnd, AsksUnanswered, NoneAt, party_of, IsShown, requested}
pub use Rattle.tftp_wire.specs.declared.packet.Packet.{Packet as WirePacket}
pub use Rattle.tftp_wire.specs.declared.packet.Request.{Request as WireRequest}
pub use Rattle.tftp_ends.proofs.RunMoves.{if_either}
pub use Rattle.tftp_wire.proofs.SpellingLemmas.{one_meaning}
pub use Rattle.tftp_negotiate.specs.declared.name.Name.TheVariants.{Timeout, Tsize}
unfoldable pub use Rattle.tftp_negotiate.specs.Options.{name_of, number_of}
pub use Rattle.tftp_rules.specs.Recorded.{AreRecorded}
pub use Rattle.std.specs.Cmp.Lexicographic.{same_text}
pub use Rattle.tftp_file.proofs.CutLemmas.{begins_front}
pub use Rattle.tftp_negotiate.specs.declared.name.Name.{Name}
pub use Rattle.tftp_negotiate.proofs.LawsLemmas.{numbers_are_printed}
