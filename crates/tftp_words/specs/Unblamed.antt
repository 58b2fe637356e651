-- What `tftpd` and `tftp` ran for their words closes for no other cause than a file, a store, or no
-- answer.
use Rattle.tftp_words.specs.Common.{SinkMeaning, SourceMeaning, DiskEvent, StoreMeaning}
use Rattle.tftp_words.specs.Common.{FolderStore}
use Rattle.std.specs.Prelude.{ℕ, List}
use Rattle.tftp_promises.specs.Blamed.{NoneIsBlamed}
use Rattle.tftp_words.specs.Ran.{ClientRan, HoldsOfEach, HoldsOfOne, HoldsOfSeveral, ServerRan}

module _ {R G H W F D I K : Type 0} (log : R → List DiskEvent)
    (stores : StoreMeaning (FolderStore R G H W) D) (sources : SourceMeaning F)
    (inputs : SourceMeaning I) (outputs : SinkMeaning K) where
  -- of the programs that `tftpd` and `tftp` ran none is blamed
  abbrev pub NoCommandIsBlamed : Type 0
  NoCommandIsBlamed =
      (server : ServerRan log stores sources) (port : ℕ) (clients : List (ClientRan inputs outputs))
      → HoldsOfOne server port clients NoneIsBlamed

  -- the same of several `tftpd`: of each of them and each client that it serves
  abbrev pub NoneOfSeveralIsBlamed : Type 0
  NoneOfSeveralIsBlamed =
      (ip : List ℕ) (port : ℕ) (servers : List (ServerRan log stores sources))
      (clients : List (ClientRan inputs outputs))
      → HoldsOfSeveral ip port servers clients (HoldsOfEach NoneIsBlamed)
