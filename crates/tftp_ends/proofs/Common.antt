-- The names that many proofs of this crate cite, passed on from one place. Declares nothing.
pub use Rattle.std.proofs.Common.{◌≡◌, ℕ, List, ◌∙◌, ap, length, refl, false, Some, sym, rules, Bool, true, arith}
pub use Rattle.std.proofs.Common.{Option, subst, Result, Ok, Err, ◌≤◌, [], None, ◌<◌, ◌*◌, ◌++◌, ◌≢◌, take, ◌∷◌}
pub use Rattle.std.proofs.lemmas.Bool.{ne_eqb, true≢false, lt-ltb, eqb-true, eq-eqb, le-ltb}
pub use Rattle.std.specs.Prelude.{◌==◌, if◌then◌else◌, nat_lt, ◌&&◌, ◌+◌, ◌||◌, not, codes, nat_le, is_none, is_some}
pub use Rattle.tftp_wire.specs.Options.{options_bytes}
pub use Rattle.tftp_wire.specs.Reading.{has_error_opcode}
pub use Rattle.tftp_wire.specs.Spelling.{Spells}
pub use Rattle.tftp_wire.specs.declared.packet.Packet.{Packet}
pub use Rattle.tftp_wire.specs.declared.packet.Packet.TheVariants.{Data, Ack, Error, Read, Write, Oack}
pub use Rattle.tftp_negotiate.specs.Agreed.{agreed_options}
pub use Rattle.tftp_negotiate.specs.Agreement.{agreement}
pub use Rattle.tftp_negotiate.specs.declared.asked.Asked.{Asked}
pub use Rattle.tftp_negotiate.specs.declared.known.Known.{Known}
pub use Rattle.tftp_negotiate.specs.declared.limits.TheConstants.{DEFAULT_BLOCK}
pub use Rattle.tftp_negotiate.specs.declared.refusal.Refusal.{Refusal}
pub use Rattle.tftp_file.specs.Sink.{SinkMeaning}
pub use Rattle.tftp_file.specs.Source.{SourceMeaning}
pub use Rattle.tftp_file.specs.declared.fault.StoreFault.{StoreFault}
pub use Rattle.tftp_file.specs.declared.files.Files.{Files}
pub use Rattle.tftp_ends.specs.Action.{packet_action, Decodes, is_wrong_peer, garbled_response}
pub use Rattle.tftp_ends.specs.End.{EndState, terms_of, is_sender, number_of, is_progress, step_of, outcome_of}
pub use Rattle.tftp_ends.specs.Fits.{BytesFit}
pub use Rattle.tftp_ends.specs.Phase.{refused}
pub use Rattle.tftp_ends.specs.Receiver.{next_action, receiver_action}
pub use Rattle.tftp_ends.specs.Rows.{Handled, RefusesBy}
pub use Rattle.tftp_ends.specs.Run.{IsOpen}
pub use Rattle.tftp_ends.specs.Sender.{illegal_action}
pub use Rattle.tftp_ends.specs.Step.{Turn, Lends, ack_bytes, reported, Done, response_turn, sent_turn, refused_turn}
pub use Rattle.tftp_ends.specs.Step.{holding, with_position, GoesOn, committed_turn, data_bytes, block_length}
pub use Rattle.tftp_ends.specs.Step.{timeout_turn}
pub use Rattle.tftp_ends.specs.Text.{is_readable}
pub use Rattle.tftp_ends.specs.Waiting.{reader_action, writer_action, accept_action, begin_action, begin_with_action}
pub use Rattle.tftp_ends.specs.Waiting.{refusal_action, default_terms, agreed_terms, no_answer}
pub use Rattle.tftp_ends.specs.declared.action.Action.{Action}
pub use Rattle.tftp_ends.specs.declared.action.Action.TheVariants.{Respond, Send, Store}
pub use Rattle.tftp_ends.specs.declared.action.Response.{Response}
pub use Rattle.tftp_ends.specs.declared.action.Response.TheVariants.{Ignore, Refuse, ResendReply, Complete, WrongPeer}
pub use Rattle.tftp_ends.specs.declared.action.Response.TheVariants.{Close}
pub use Rattle.tftp_ends.specs.declared.endpoint.Endpoint.{Endpoint}
pub use Rattle.tftp_ends.specs.declared.error_reply.ErrorReply.{ErrorReply}
pub use Rattle.tftp_ends.specs.declared.error_reply.ErrorReply.TheVariants.{FileTooLarge, NotNetascii, IllegalOperation}
pub use Rattle.tftp_ends.specs.declared.error_reply.ErrorReply.TheVariants.{DiskFull}
pub use Rattle.tftp_ends.specs.declared.outcome.Outcome.{Outcome}
pub use Rattle.tftp_ends.specs.declared.outgoing.Outgoing.{Outgoing}
pub use Rattle.tftp_ends.specs.declared.phase.Dally.TheVariants.{Fresh}
pub use Rattle.tftp_ends.specs.declared.phase.Phase.{Phase}
pub use Rattle.tftp_ends.specs.declared.phase.Phase.TheVariants.{Receiving, Sending, Dallying, Waiting, Closed}
pub use Rattle.tftp_ends.specs.declared.phase.Terms.{Terms}
pub use Rattle.tftp_ends.specs.declared.record.Step.{Step}
