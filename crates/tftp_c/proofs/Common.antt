-- The names that many proofs of this crate cite, passed on from one place. Declares nothing.
pub use Rattle.std.proofs.Common.{refl, subst, sym, ◌≡◌, [], ◌∷◌, List, ◌++◌, ◌∙◌, ap, inl, inr}
pub use Rattle.core.proofs.alloc.Calls.{Goes-blank, handle_tells, Al}
pub use Rattle.std.proofs.raw_atomic.Walks.{proved_at, leaves}
pub use Rattle.std.specs.Prelude.{Option, Some, IsSome, None, ℕ, length, take, false}
pub use Rattle.std_alloc.specs.Box.Ownership.{box_owns}
pub use Rattle.std_heap.proofs.Global.TheLaws.{the_row_laws}
pub use Rattle.std_heap.specs.contracts.GlobalAllocator.TheImpl.{ghosts}
pub use base.Fml.{ftrue, flft, Fml, fsep}
pub use base.Logic.{SProp, ent, id⊢, emp, never, fst∗}
pub use contract.Monad.{fact, fact_i}
pub use contract.Running.{tables}
pub use denote.Builtin.{RawPtr}
pub use denote.Exit.{no, yes}
pub use denote.RattleType.{RattleType, owns, Valss}
pub use denote.RawPtr.{block_ptr, Ptr, null_ptr, in_a_block, ptr_val}
pub use denote.Signature.{types_at, plain}
pub use denote.Steps.{nothing, heard}
pub use denote.Struct.Owning.{shape}
pub use denote.Struct.Struct.{within}
pub use denote.Triple.Walked.{Stays, walk_of, stay_dropped}
pub use lib.Dec.{T}
pub use mathlib.Core.Bool.{not}
pub use mir.Syntax.{dnil, impl, tnil}
pub use mir.Val.{Val, vptr, vstruct, of_list, vcons, vnil}
pub use prog.Wp.{WpFn}
pub use seplogic.Ra.Ura.{Ura}
pub use types.ByLocal.{alloc_all, pass_all, free_all, look_at, sets, get, get_in, env}
pub use types.Kit.{‵, ◌$◌, fsplit, fjoin, raw, ◌⊛◌, ◌∵◌, !, qed, keep, split, move, by, suffices, use0, use1, rewrite}
pub use types.Kit.{Item, drop, fpack, fpick, feq_i, feq_l, some, later, split3, join, pick, await, Goal, Seq, Step}
pub use types.Kit.{step, at_ret}
pub use types.Logic.{sem, Logic}
pub use types.Part.{sub, whole, agg}
pub use types.Run.{returns, enter, stop, fld, of_opd, no_more, and_then, first, blocks, exec}
pub use Rattle.tftp_wire.specs.Borrowed.{owned}
pub use Rattle.tftp_wire.specs.declared.packet.Packet.{Packet}
pub use Rattle.tftp_file.specs.Sink.{sink_through}
pub use Rattle.tftp_ends.specs.End.{EndState}
pub use Rattle.tftp_ends.specs.OneFile.{ReceiverStep}
pub use Rattle.tftp_ends.specs.Step.{Lends, Turn, reported}
pub use Rattle.tftp_ends.specs.declared.endpoint.Endpoint.{Endpoint}
pub use Rattle.tftp_ends.specs.declared.outgoing.Outgoing.{Outgoing}
pub use Rattle.tftp_server.specs.State.{at}
pub use Rattle.tftp_c.specs.HeldServer.{Table}
pub use Rattle.tftp_c.specs.Owned.{owned_at}
pub use Rattle.tftp_c.specs.Reports.{endpoint_of}
pub use Rattle.tftp_c.specs.declared.event.TftpEndpoint.{TftpEndpoint}
pub use Rattle.tftp_c.specs.declared.event.TftpEvent.{TftpEvent}
