-- The network of the programs, and the transfers that their server opened.
use Rattle.std.specs.Prelude.{ℕ, ◌≡◌, Some, ◌⊎◌}
use Rattle.tftp_promises.specs.Common.{SourceMeaning, StoreMeaning, Endpoint, SinkMeaning}
use Rattle.tftp_promises.specs.Common.{TransferState, at, Network}
use Rattle.tftp_promises.specs.Openings.{HasClosed, place_at}
use Rattle.tftp_promises.specs.Order.{Programs}
use Rattle.tftp_promises.specs.Programs.{arrived, network_of}

module _ {S F D G K : Type 0} {stores : StoreMeaning S D} {sources : SourceMeaning F}
    {inputs : SourceMeaning G} {outputs : SinkMeaning K}
    (programs : Programs stores sources inputs outputs) where
  -- the network of the programs
  abbrev pub joined : Network
  joined = network_of programs.others programs.clients

  -- the server holds the transfer, which is at this place, or has closed it
  abbrev pub HasOpened : ℕ → TransferState F D → Endpoint → Type 0
  HasOpened port transfer a =
      ((at port (arrived stores sources programs.server).server.held ≡ Some transfer)
      × (a ≡ place_at programs port programs.server.run))
      ⊎ HasClosed programs programs.server.run port transfer a
