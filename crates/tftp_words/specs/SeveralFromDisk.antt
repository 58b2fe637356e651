-- From disk to disk with several servers at one address, which may share a folder: a complete get
-- and a complete put, with the server whose answer the client took (RFC 1350, section 4).
use Rattle.tftp_words.specs.Common.{SinkMeaning, SourceMeaning, StoreMeaning, LocalFile, DiskEvent}
use Rattle.tftp_words.specs.Common.{DiskSource, FolderDraft, FolderSource, FolderStore, Noted}
use Rattle.tftp_words.specs.Common.{Several}
use Rattle.std.specs.Prelude.{ℕ, List, map}
use Rattle.std.specs.List.{AllByRecursion}
use Rattle.tftp_words.specs.EndToEnd.{RanComplete}
use Rattle.tftp_words.specs.FromDisk.{ClientStored, FileReaches, ran_of}
use Rattle.tftp_words.specs.OverSeveral.{FileThere}
use Rattle.tftp_words.specs.PutFromDisk.{ClientSent, FileLeaves, run_of}
use Rattle.tftp_words.specs.Ran.{HoldsOfSeveral, ServerRan}
use Rattle.std.specs.declared.io.traits.Read as read
use Rattle.std.specs.declared.io.traits.Write as write
use Rattle.std.specs.declared.io.traits.Seek as seek
use Rattle.tftp_disk.specs.declared.disk.Looks as looks

-- ---- gets
module _ {S D F U I : Type 0} {logs : looks.Ghosts D} {writes : write.Ghosts F}
    {views : looks.Ghosts U} {reads : read.Ghosts I} {seeks : seek.Ghosts I}
    (inputs : SourceMeaning S)
    (outputs : SinkMeaning (LocalFile D F U I logs writes views reads seeks)) where
  module _ {R G H W V E B : Type 0} (looked : V → List DiskEvent)
      {stores : StoreMeaning (FolderStore R G H W) B} {sources : SourceMeaning (FolderSource V E)}
      (several : Several stores sources inputs outputs) (order : List Noted) where
    -- of a complete get, what moved in its run went from the disk of the server that serves it to
    -- that of the client
    abbrev pub ReachesDiskThere : ClientStored inputs outputs → Type 0
    ReachesDiskThere client =
        RanComplete inputs outputs (FileThere several order
        (λ programs. FileReaches inputs outputs looked programs client.calls))
        (ran_of inputs outputs client)

  -- each file that a complete get named has just the bytes that reads of the file of its name
  -- returned, in the folder of the server that serves it
  abbrev pub SeveralFromDiskToDisk : {R G H W V E B : Type 0} (log : R → List DiskEvent)
      (looked : V → List DiskEvent) (stores : StoreMeaning (FolderStore R G H W) B)
      (sources : SourceMeaning (FolderSource V E)) → Type 0
  SeveralFromDiskToDisk log looked stores sources =
      (ip : List ℕ) (port : ℕ) (servers : List (ServerRan log stores sources))
      (clients : List (ClientStored inputs outputs))
      → HoldsOfSeveral ip port servers (map (ran_of inputs outputs) clients)
      (λ several order. AllByRecursion (ReachesDiskThere looked several order) clients)

-- ---- puts
module _ {L K : Type 0} (inputs : SourceMeaning (DiskSource L)) (outputs : SinkMeaning K) where
  module _ {R G H W E B : Type 0} (log : R → List DiskEvent)
      {stores : StoreMeaning (FolderStore R G H W) (FolderDraft B)} {sources : SourceMeaning E}
      (several : Several stores sources inputs outputs) (order : List Noted) where
    -- of a complete put, what moved in its run went from the disk of the client to that of the
    -- server that serves it
    abbrev pub LeavesDiskThere : ClientSent inputs outputs → Type 0
    LeavesDiskThere client =
        RanComplete inputs outputs (FileThere several order (FileLeaves inputs outputs log))
        (run_of inputs outputs client)

  -- what reads of LOCAL returned to each complete put is what the server that serves it wrote to
  -- the file that it made and named
  abbrev pub SeveralPutsFromDiskToDisk : {R G H W E B : Type 0} (log : R → List DiskEvent)
      (stores : StoreMeaning (FolderStore R G H W) (FolderDraft B)) (sources : SourceMeaning E)
      → Type 0
  SeveralPutsFromDiskToDisk log stores sources =
      (ip : List ℕ) (port : ℕ) (servers : List (ServerRan log stores sources))
      (clients : List (ClientSent inputs outputs))
      → HoldsOfSeveral ip port servers (map (run_of inputs outputs) clients)
      (λ several order. AllByRecursion (LeavesDiskThere log several order) clients)
