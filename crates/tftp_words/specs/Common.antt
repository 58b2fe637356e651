-- The names that many definitions of this crate cite, passed on from one place. Declares nothing.
pub use Rattle.tftp_client.specs.Ordered.{RunsWords}
pub use Rattle.tftp_client.specs.Runs.{moved_by}
pub use Rattle.tftp_client.specs.declared.local.LocalFile.{LocalFile}
pub use Rattle.tftp_disk.specs.DiskTrace.{DiskEvent, FileState}
pub use Rattle.tftp_disk.specs.DiskTrace.DiskEvent.{Linked, Made, Removed, Renamed}
pub use Rattle.tftp_disk.specs.Still.{AllLeave}
pub use Rattle.tftp_disk.specs.declared.disk_source.DiskSource.{DiskSource}
pub use Rattle.tftp_file.specs.Netascii.{wire_text}
pub use Rattle.tftp_file.specs.Sink.{SinkMeaning}
pub use Rattle.tftp_file.specs.Source.{SourceMeaning}
pub use Rattle.tftp_file.specs.declared.files.Files.{Files}
pub use Rattle.tftp_file.specs.declared.files.Files.TheVariants.{Sink, Source}
pub use Rattle.tftp_folder.specs.Changing.{IsDraftIn, Limits}
pub use Rattle.tftp_folder.specs.Stored.{IsStoredAt}
pub use Rattle.tftp_folder.specs.Uploads.{path_below}
pub use Rattle.tftp_folder.specs.declared.folder_draft.FolderDraft.{FolderDraft}
pub use Rattle.tftp_folder.specs.declared.folder_source.FolderSource.{FolderSource}
pub use Rattle.tftp_folder.specs.declared.folder_store.FolderStore.{FolderStore}
pub use Rattle.tftp_promises.specs.Alone.{IsPassedOver, IsServed, alone}
pub use Rattle.tftp_promises.specs.AnyFiles.{KeepAnyFiles}
pub use Rattle.tftp_promises.specs.ClientRuns.{moved_in}
pub use Rattle.tftp_promises.specs.Openings.{ArePortsFresh}
pub use Rattle.tftp_promises.specs.Order.{IsHonest, IsOrder, Noted, Programs}
pub use Rattle.tftp_promises.specs.Programs.{endpoint}
pub use Rattle.tftp_promises.specs.Several.{OneClient, OneServer, Several}
pub use Rattle.tftp_sockets.specs.Trace.{SocketEvent}
pub use Rattle.tftp_store.specs.Store.{StoreMeaning}
