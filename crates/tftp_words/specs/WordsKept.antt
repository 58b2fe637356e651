-- What `tftpd` and `tftp` ran for their words keeps the promises of a transfer.
use Rattle.tftp_words.specs.Common.{SinkMeaning, SourceMeaning, DiskEvent, StoreMeaning}
use Rattle.tftp_words.specs.Common.{FolderStore, IsPassedOver, alone, KeepAnyFiles, OneClient}
use Rattle.tftp_words.specs.Common.{OneServer}
use Rattle.std.specs.Prelude.{ℕ, ◌≡◌, List, slice_get, Some}
use Rattle.tftp_promises.specs.Alone.{HasNothing, just_asking}
use Rattle.tftp_words.specs.Ran.{ClientRan, HoldsOfEach, HoldsOfOne, HoldsOfSeveral, ServerRan}

module _ {R G H W F D I K : Type 0} (log : R → List DiskEvent)
    (stores : StoreMeaning (FolderStore R G H W) D) (sources : SourceMeaning F)
    (inputs : SourceMeaning I) (outputs : SinkMeaning K) where
  -- the programs that `tftpd` and `tftp` ran keep the promises
  abbrev pub WordsKeepAnyFiles : Type 0
  WordsKeepAnyFiles =
      (server : ServerRan log stores sources) (port : ℕ) (clients : List (ClientRan inputs outputs))
      → HoldsOfOne server port clients KeepAnyFiles

  -- of several `tftpd`, each and each client that it serves keep the promises; one that a client
  -- passes over has nothing of it
  abbrev pub SeveralKeepAnyFiles : Type 0
  SeveralKeepAnyFiles =
      (ip : List ℕ) (port : ℕ) (servers : List (ServerRan log stores sources))
      (clients : List (ClientRan inputs outputs))
      → HoldsOfSeveral ip port servers clients (λ several order.
      HoldsOfEach KeepAnyFiles several order
      × ((i : ℕ) (server : OneServer several) (k : ℕ) (client : OneClient several)
      → slice_get several.servers i ≡ Some server → slice_get several.clients k ≡ Some client
      → IsPassedOver several order i server k client
      → HasNothing several client (alone several i server (just_asking several client))))
