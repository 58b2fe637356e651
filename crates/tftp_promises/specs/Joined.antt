-- The ends of programs in an honest network keep the promises of a transfer.
use Rattle.std.specs.Prelude.{ℕ, ◌≡◌, List, Some, [], slice_get}
use Rattle.tftp_promises.specs.Common.{SourceMeaning, StoreMeaning, SinkMeaning}
use Rattle.tftp_promises.specs.AnyFiles.{KeepAnyFiles}
use Rattle.tftp_promises.specs.Openings.{ArePortsFresh}
use Rattle.tftp_promises.specs.Order.{Noted, Programs, IsOrder, IsHonest, ClientOf}
use Rattle.tftp_promises.specs.Others.{TakesOwn}

module _ {S F D G K : Type 0} {stores : StoreMeaning S D} {sources : SourceMeaning F}
    {inputs : SourceMeaning G} {outputs : SinkMeaning K} where
  -- the programs noted the events of this order, over an honest network with fresh ports
  pub record AreJoined (programs : Programs stores sources inputs outputs) (order : List Noted)
      : Type 0 where
    pub is_order : IsOrder programs order
    pub honest : IsHonest programs order
    pub fresh : ArePortsFresh programs
    -- no client takes another server at the address as its peer
    pub own : (k : ℕ) (client : ClientOf programs) → slice_get programs.clients k ≡ Some client →
        TakesOwn programs.ip programs.others client.runs

module _ {S F D G K : Type 0} (stores : StoreMeaning S D) (sources : SourceMeaning F)
    (inputs : SourceMeaning G) (outputs : SinkMeaning K) where
  -- of a server that is alone at its address no more is asked than the order, the network and the
  -- ports
  abbrev pub ServersAloneAreJoined : Type 0
  ServersAloneAreJoined =
      (programs : Programs stores sources inputs outputs) (order : List Noted)
      → programs.others ≡ [] → IsOrder programs order → IsHonest programs order
      → ArePortsFresh programs → AreJoined programs order

  -- this is so of all programs that are joined
  abbrev pub OfJoined : (Programs stores sources inputs outputs → Type 0) → Type 0
  OfJoined Holds =
      (programs : Programs stores sources inputs outputs) (order : List Noted)
      → AreJoined programs order → Holds programs

  -- over any files: what a receiver handed to its file is what its peer's file gave
  abbrev pub ProgramsKeepAnyFiles : Type 0
  ProgramsKeepAnyFiles = OfJoined KeepAnyFiles
