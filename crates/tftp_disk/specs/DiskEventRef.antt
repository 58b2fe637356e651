-- The events that the calls note, as events of a disk trace (ours).
use Rattle.std.specs.Prelude.{length}
use Rattle.tftp_disk.specs.Calls.{path_text, read_event, write_event}
use Rattle.tftp_disk.specs.DiskTrace.{DiskEvent, state_of, folder_at}
use Rattle.tftp_disk.specs.DiskTrace.DiskEvent.{Looked, Followed, Resolved, Opened, Tried, Created}
use Rattle.tftp_disk.specs.DiskTrace.DiskEvent.{Made, Locked, Linked, Renamed, Removed, Folder_opened}
use Rattle.tftp_disk.specs.DiskTrace.DiskEvent.{Folder_synced, Examined, Sought, Synced, Mode_set}
use Rattle.tftp_disk.specs.declared.disk_event_ref.DiskEventRef.{DiskEventRef}
use Rattle.tftp_disk.specs.declared.disk_event_ref.DiskEventRef.TheVariants as refs

-- the event of these values: an open file is what its own calls made it
abbrev pub disk_event : DiskEventRef → DiskEvent
disk_event (refs.Looked path answer) = Looked path.now answer
disk_event (refs.Followed path answer) = Followed path.now answer
disk_event (refs.Resolved path answer) = Resolved path.now (path_text answer.now)
disk_event (refs.Opened path answer) = Opened path.now answer
disk_event (refs.Tried path answer) = Tried path.now answer
disk_event (refs.Created path disk) = Created path.now (length disk.now.events)
disk_event (refs.Made path answer) = Made path.now answer
disk_event (refs.Locked path answer) = Locked path.now answer
disk_event (refs.Linked file from to answer) =
    Linked (state_of file.now.events) from.now to.now answer
disk_event (refs.Renamed file from to answer) =
    Renamed (state_of file.now.events) from.now to.now answer
disk_event (refs.Removed path answer) = Removed path.now answer
disk_event (refs.FolderOpened path answer) = Folder_opened path.now answer
disk_event (refs.FolderSynced folder answer) =
    Folder_synced (folder_at folder.now.events) answer
disk_event (refs.Examined answer) = Examined answer
disk_event (refs.Read buffer answer) = read_event answer buffer.now
disk_event (refs.Sought to answer) = Sought to answer
disk_event (refs.Wrote bytes answer) = write_event answer bytes.now
disk_event (refs.Synced answer) = Synced answer
disk_event (refs.ModeSet mode answer) = Mode_set mode answer
