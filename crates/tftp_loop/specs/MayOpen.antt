-- Whether a datagram to the request port may open a transfer, and what it lacks memory for (RFC
-- 1350, section 4).
use Rattle.std.specs.Prelude.{ℕ, ◌≡◌, true, List}
use Rattle.tftp_file.specs.Source.{SourceMeaning}
use Rattle.tftp_ends.specs.declared.endpoint.Endpoint.{Endpoint}
use Rattle.tftp_server.specs.Port.{Ask, asks_store}
use Rattle.tftp_server.specs.Request.{Admits}
use Rattle.tftp_server.specs.Shortage.{RequestLacksMemory}
use Rattle.tftp_server.specs.State.{ServerState}
use Rattle.tftp_store.specs.Store.{StoreMeaning}
use Rattle.tftp_loop.specs.declared.reserved.TheConstants.{LONGEST_ANSWER}

module _ {S F D : Type 0} (server : ServerState S F D) (from : Endpoint) (bytes : List ℕ) where
  -- a datagram to the request port may open a transfer: the store is asked
  pub record MayOpen : Type 0 where
    pub ask : Ask
    pub admits : Admits server from bytes ask
    pub asks : asks_store ask ≡ true

module _ {S F D : Type 0} (meaning : StoreMeaning S D) (sources : SourceMeaning F)
    (server : ServerState S F D) (from : Endpoint) (bytes : List ℕ) where
  -- memory was refused for the path that it names, or for the transfer that it opens; never for the
  -- list of ports, and never for an ERROR, since its answer has room
  abbrev pub LacksMemoryToOpen : Type 0
  LacksMemoryToOpen = RequestLacksMemory LONGEST_ANSWER 0 meaning sources server from bytes
