-- The settings of a store over a folder (ours).
use Rattle.std.specs.Prelude.{◌≡◌, List}
use Rattle.std.specs.String.{string_bytes}
use Rattle.tftp_disk.specs.DiskTrace.{DiskEvent}
use Rattle.tftp_folder.specs.declared.folder_store.FolderStore.{FolderStore}

module _ {D G H K : Type 0} where
  -- the store has its root and its folder of drafts, refuses all writes if it did, and takes them
  -- below the same folder as before
  pub record SameSettings (before after : FolderStore D G H K) : Type 0 where
    pub read_only : after.is_read_only ≡ before.is_read_only
    pub uploads : after.uploads ≡ before.uploads
    pub root : string_bytes after.folder.root ≡ string_bytes before.folder.root
    pub drafts : string_bytes after.folder.drafts ≡ string_bytes before.folder.drafts

module _ {D G H K : Type 0} (log : D → List DiskEvent) where
  -- the store has its settings, and asked nothing of the disk on a path
  pub record AsksNothing (before after : FolderStore D G H K) : Type 0 where
    pub settings : SameSettings before after
    pub calls : log after.disk ≡ log before.disk
