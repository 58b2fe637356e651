-- The names that many proofs of this crate cite, passed on from one place. Declares nothing.
pub use Rattle.std.proofs.Common.{rules, Bool, Err, List, None, Ok, Result, Some, [], ap, append_assoc, arith, false, inl, inr}
pub use Rattle.std.proofs.Common.{length, refl, subst, suc, sym, true, zero, ℕ, ◌++◌, ◌+◌, ◌<◌, ◌∙◌, ◌∷◌, ◌≡◌}
pub use Rattle.std.proofs.lemmas.Bool.{cond-false, cond-true, eqb-false, eqb-true, ne_eqb}
pub use Rattle.std.proofs.lemmas.List.{length-append}
pub use Rattle.std.proofs.lemmas.Option.{same_Some}
pub use Rattle.std.specs.List.{AllByRecursion}
pub use Rattle.std.specs.Prelude.{codes, map, slice_get, ◌==◌, ◌≢◌, ◌⊎◌}
pub use Rattle.std.specs.String.{string_bytes}
pub use Rattle.std.specs.declared.io.Error.{Error}
pub use Rattle.tftp_sockets.proofs.WitnessAddress.{server}
pub use Rattle.tftp_client.specs.Moved.{Moved}
pub use Rattle.tftp_client.specs.Ordered.{RunsWords}
pub use Rattle.tftp_client.specs.Runs.{IsFileOf, moved_by, printed}
pub use Rattle.tftp_client.specs.Witness.{local_sink, local_source}
pub use Rattle.tftp_daemon.specs.Configured.{ServesWords}
pub use Rattle.tftp_daemon.specs.Leaves.{RunKeepsSettings}
pub use Rattle.tftp_daemon.specs.Witness.{sources, stores}
pub use Rattle.tftp_disk.specs.DiskTrace.{DiskEvent, FileState}
pub use Rattle.tftp_disk.specs.DiskTrace.DiskEvent.{Linked, Locked, Looked, Made, Removed, Renamed}
pub use Rattle.tftp_disk.specs.Still.{AllLeave, LeavesPath}
pub use Rattle.tftp_ends.specs.declared.endpoint.Endpoint.{Endpoint}
pub use Rattle.tftp_ends.specs.declared.side.Side.TheVariants.{ClientRead, ClientWrite}
pub use Rattle.tftp_file.specs.Netascii.{wire_text}
pub use Rattle.tftp_file.specs.Sink.{SinkMeaning}
pub use Rattle.tftp_file.specs.Source.{SourceMeaning}
pub use Rattle.tftp_file.specs.declared.files.Files.{Files}
pub use Rattle.tftp_file.specs.declared.files.Files.TheVariants.{Sink, Source}
pub use Rattle.tftp_file.specs.declared.length.TheConstants.{MAX_WIRE}
pub use Rattle.tftp_folder.specs.Changing.{Limits}
pub use Rattle.tftp_folder.specs.Commit.{IsFreeLocked, lock_of}
pub use Rattle.tftp_folder.specs.Locks.{KeepLock}
pub use Rattle.tftp_folder.specs.Stored.{IsStoredAt}
pub use Rattle.tftp_folder.specs.declared.folder_store.FolderStore.{FolderStore}
pub use Rattle.tftp_loop.specs.LoopStates.{noted_at_end}
pub use Rattle.tftp_loop.specs.Run.{Run}
pub use Rattle.tftp_loop.specs.Steps.{LoopState, LoopStep}
pub use Rattle.tftp_loop.specs.declared.serving.LoopFault.{LoopFault}
pub use Rattle.tftp_negotiate.specs.declared.known.Kind.{Kind}
pub use Rattle.tftp_negotiate.specs.declared.known.Kind.TheVariants.{Read, Write}
pub use Rattle.tftp_promises.proofs.TwoAlone.{each, honest_if}
pub use Rattle.tftp_promises.specs.Alone.{alone}
pub use Rattle.tftp_promises.specs.AnyFiles.{KeepAnyFiles}
pub use Rattle.tftp_promises.specs.ClientPrograms.{ClientsArePrograms, IsCounted}
pub use Rattle.tftp_promises.specs.ClientRuns.{moved_in}
pub use Rattle.tftp_promises.specs.Drafts.{StoreBegan}
pub use Rattle.tftp_promises.specs.Given.{StoreOpened}
pub use Rattle.tftp_promises.specs.Openings.{ArePortsFresh, our_ports}
pub use Rattle.tftp_promises.specs.Order.{IsStranger, Noted, Programs, events_of}
pub use Rattle.tftp_promises.specs.Programs.{ClientProgram, ServerProgram, To_read, To_write, endpoint}
pub use Rattle.tftp_promises.specs.Several.{Several}
pub use Rattle.tftp_sockets.specs.Trace.{SocketEvent}
pub use Rattle.tftp_sockets.specs.Trace.SocketEvent.{Received, Sent}
pub use Rattle.tftp_store.specs.Store.{StoreMeaning}
pub use Rattle.tftp_wire.specs.declared.mode.Mode.{Mode}
pub use Rattle.tftp_words.specs.EndToEnd.{FileDone, GotFile, PutFile, RanComplete, WordsComplete, WordsMoveFiles}
pub use Rattle.tftp_words.specs.FromDisk.{ClientStored, ran_of}
pub use Rattle.tftp_words.specs.OverSeveral.{SeveralMoveFiles}
pub use Rattle.tftp_words.specs.PutFromDisk.{ClientSent, run_of}
pub use Rattle.tftp_words.specs.Ran.{AllAsk, AreAllRuns, AreRunsOf, ClientRan, HoldsOfEach, HoldsOfOne, HoldsOfSeveral}
pub use Rattle.tftp_words.specs.Ran.{IsRunFor, IsServerRan, Job, LastDid, ServerRan, finished_in, side_of}
pub use Rattle.tftp_words.specs.SharedDrafts.{Holds, IsHeldAlone}
pub use Rattle.tftp_words.specs.SharedFolder.{Agrees, AllKeepLock, AllLeaveIt, AnswersAgree, FolderCall, GivesTo}
pub use Rattle.tftp_words.specs.SharedFolder.{IsLinkTo, calls_by}
pub use Rattle.tftp_words.specs.SharedFolder.GivesTo.{Links, Makes, Renames}
