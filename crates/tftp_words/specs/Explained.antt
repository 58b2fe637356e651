-- Why a `tftp` did not complete: a file or a store failed or was too long, an ERROR came, or all
-- copies of one datagram, or all answers to them, were lost.
use Rattle.tftp_words.specs.Common.{SinkMeaning, SourceMeaning, DiskEvent, StoreMeaning}
use Rattle.tftp_words.specs.Common.{FolderStore}
use Rattle.std.specs.Prelude.{ℕ, List}
use Rattle.tftp_promises.specs.Explained.{EachIsExplained}
use Rattle.tftp_words.specs.Ran.{ClientRan, HoldsOfEach, HoldsOfOne, HoldsOfSeveral, ServerRan}

module _ {R G H W F D I K : Type 0} (log : R → List DiskEvent)
    (stores : StoreMeaning (FolderStore R G H W) D) (sources : SourceMeaning F)
    (inputs : SourceMeaning I) (outputs : SinkMeaning K) where
  -- the programs of a command that did not complete have stopped (`AreRunsOf`), and each that is
  -- not complete is so for a stated reason
  abbrev pub EachCommandIsExplained : Type 0
  EachCommandIsExplained =
      (server : ServerRan log stores sources) (port : ℕ) (clients : List (ClientRan inputs outputs))
      → HoldsOfOne server port clients EachIsExplained

  -- the same of several `tftpd`: of each of them and each client that it serves
  abbrev pub EachOfSeveralIsExplained : Type 0
  EachOfSeveralIsExplained =
      (ip : List ℕ) (port : ℕ) (servers : List (ServerRan log stores sources))
      (clients : List (ClientRan inputs outputs))
      → HoldsOfSeveral ip port servers clients (HoldsOfEach EachIsExplained)
