-- The names that many proofs of this crate cite, passed on from one place. Declares nothing.
pub use Rattle.std.proofs.Common.{List, ◌≡◌, ℕ, true, Some, None, inl, false, ◌∷◌, Option, refl, inr, sym, ap, subst}
pub use Rattle.std.proofs.Common.{arith, ◌∙◌, ◌≤◌, Bool, [], ◌+◌, ◌<◌, suc, ◌++◌, Result, Ok, Err, length, not, ◌*◌}
pub use Rattle.std.proofs.Common.{rules, zero}
pub use Rattle.std.proofs.lemmas.Bool.{true≢false, eqb-true, cases_eq}
pub use Rattle.std.specs.List.{AllByRecursion}
pub use Rattle.std.specs.Prelude.{◌==◌, ◌⊎◌, if◌then◌else◌, ◌&&◌, is_some, nat_lt, option_map}
pub use Rattle.tftp_wire.specs.Spelling.{Spells, canonical, IsValid}
pub use Rattle.tftp_wire.specs.declared.limits.TheConstants.{MAX_BLOCK}
pub use Rattle.tftp_wire.specs.declared.packet.Packet.{Packet}
pub use Rattle.tftp_wire.specs.declared.packet.Packet.TheVariants.{Data, Ack, Oack, Error}
pub use Rattle.tftp_negotiate.specs.Asked.{IsAskable}
pub use Rattle.tftp_negotiate.specs.declared.asked.Asked.{Asked}
pub use Rattle.tftp_file.specs.Sink.{SinkMeaning}
pub use Rattle.tftp_file.specs.Source.{SourceMeaning}
pub use Rattle.tftp_file.specs.declared.files.Files.{Files}
pub use Rattle.tftp_ends.proofs.RunMoves.{if_either}
pub use Rattle.tftp_ends.specs.Action.{is_wrong_peer, datagram_action, same_address, Decodes, packet_action}
pub use Rattle.tftp_ends.specs.End.{EndState, is_sender, is_client, outcome_of, is_complete, terms_of, is_progress}
pub use Rattle.tftp_ends.specs.End.{number_of}
pub use Rattle.tftp_ends.specs.Phase.{closed}
pub use Rattle.tftp_ends.specs.Run.{IsOpen}
pub use Rattle.tftp_ends.specs.Step.{Reply, Turn, after_turn, Acts, with_position, response_turn, timeout_turn}
pub use Rattle.tftp_ends.specs.Step.{ack_bytes, DatagramStep}
pub use Rattle.tftp_ends.specs.declared.action.Action.TheVariants.{Respond}
pub use Rattle.tftp_ends.specs.declared.action.Response.{Response}
pub use Rattle.tftp_ends.specs.declared.action.Response.TheVariants.{Ignore, WrongPeer, Close, Accept}
pub use Rattle.tftp_ends.specs.declared.endpoint.Endpoint.{Endpoint}
pub use Rattle.tftp_ends.specs.declared.outcome.Outcome.{Outcome}
pub use Rattle.tftp_ends.specs.declared.phase.Phase.{Phase}
pub use Rattle.tftp_ends.specs.declared.phase.Phase.TheVariants.{Receiving, Sending, Waiting, Dallying}
pub use Rattle.tftp_ends.specs.declared.phase.Terms.{Terms}
pub use Rattle.tftp_ends.specs.declared.role.Role.{Role}
pub use Rattle.tftp_lives.specs.Lives.{Act, Took, newest, Said, with_reply, Timed, Has, IsNext, next_of, Life, Opens}
pub use Rattle.tftp_lives.specs.Lives.{Hears, Loses, Times, timed, HandlesAll, HasCopies}
pub use Rattle.tftp_lives.specs.Unanswered.{IsOver, AreOpposite, Awaits, HasSaid, Begins, IsUnanswered}
pub use Rattle.tftp_lives.specs.Unanswered.{AnswersWhatItHandled}
pub use Rattle.tftp_ends.specs.Receiver.{receiver_action}
pub use Rattle.tftp_wire.specs.declared.mode.Mode.{Mode}
pub use Rattle.tftp_ends.specs.declared.action.Action.{Action}
pub use Rattle.tftp_lives.specs.Outlasting.{GaveUp, OneAct, acts_of, timeouts}
pub use Rattle.tftp_negotiate.specs.declared.known.Known.{Known}
pub use Rattle.tftp_negotiate.specs.Agreed.{size}
pub use Rattle.tftp_ends.specs.Waiting.{agreed_terms, default_terms}
pub use Rattle.std.proofs.lemmas.Option.{same_Some}
