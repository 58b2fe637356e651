-- Why a client is not complete: its file or its store failed or is too long, an ERROR came, or all
-- copies of one datagram, or all answers to them, were lost (RFC 1350, sections 2 and 7).
use Rattle.std.specs.Prelude.{ℕ, ◌≡◌, Some, slice_get, ◌⊎◌, true, false, None}
use Rattle.tftp_promises.specs.Common.{SourceMeaning, StoreMeaning, Endpoint, SinkMeaning}
use Rattle.tftp_promises.specs.Common.{is_complete, is_sender, IsOver, IsOpen}
use Rattle.tftp_promises.specs.Alone.{OfEachServed}
use Rattle.tftp_promises.specs.AnyFiles.{client_end, peer_of}
use Rattle.tftp_promises.specs.Failed.{HasFailed}
use Rattle.tftp_promises.specs.Fates.{WasReceived, WasSettled}
use Rattle.tftp_promises.specs.GivesUp.{GaveUpUnheard, IsSeenUnanswered}
use Rattle.tftp_promises.specs.Joined.{OfJoined}
use Rattle.tftp_promises.specs.Order.{Programs, ClientOf}
use Rattle.tftp_promises.specs.Programs.{client_at}
use Rattle.tftp_promises.specs.TooLong.{IsTooLong}

module _ {S F D G K : Type 0} {stores : StoreMeaning S D} {sources : SourceMeaning F}
    {inputs : SourceMeaning G} {outputs : SinkMeaning K}
    (programs : Programs stores sources inputs outputs) where
  -- a client without a peer: of its request all copies were lost, or all answers. It sent that once
  -- and for each retry, and handled nothing from the address that it asked; if the server received
  -- a copy, then it has answered or lost that, or is yet to
  pub record RequestWasLost (client : ClientOf programs) : Type 0 where
    pub unheard : GaveUpUnheard programs client
    pub settled :
        WasReceived (client_at client) client.last.end.position.last_sent programs.server.run →
        (programs.server.last.pending ≡ Some (client_at client, client.last.end.position.last_sent))
        ⊎ WasSettled (client_at client) client.last.end.position.last_sent programs.server.run

  -- a client and the transfer that serves it: of the newest datagram of the client all copies were
  -- lost, or all answers. It sent that once and for each retry, and handled no answer; if the
  -- transfer handled a copy, then it has answered, or failed; or it is complete, if the client
  -- sends
  pub record DatagramWasLost (client : ClientOf programs) (p : Endpoint) : Type 0 where
    pub seen : IsSeenUnanswered programs client p
    pub over : IsOver seen.gave_up.serves.transfer.end → HasFailed seen.gave_up.serves.transfer.end
        ⊎ ((is_sender client.last.end.role.side ≡ true)
        × (is_complete seen.gave_up.serves.transfer.end.position.phase ≡ true))

  -- why a client is not complete
  pub data IsExplained (client : ClientOf programs) : Type 0 where
    -- its end is open: it goes on, or its program ended, as by its waits
    Goes_on : IsOpen client.last.end → IsExplained client
    -- its file or its store failed, an ERROR came, or the file of its peer is no netascii
    Failed : HasFailed client.last.end → IsExplained client
    -- it has no peer, since its file is too long for what its server answered
    Too_long : peer_of (client_end programs client) ≡ None → IsTooLong programs client
        → IsExplained client
    -- or a datagram was lost
    Of_request : peer_of (client_end programs client) ≡ None → RequestWasLost client
        → IsExplained client
    Of_transfer : (p : Endpoint) → peer_of (client_end programs client) ≡ Some p
        → DatagramWasLost client p → IsExplained client

  -- so it is of each client that is not complete
  abbrev pub EachIsExplained : Type 0
  EachIsExplained =
      (k : ℕ) (client : ClientOf programs) → slice_get programs.clients k ≡ Some client
      → is_complete client.last.end.position.phase ≡ false → IsExplained client

module _ {S F D G K : Type 0} (stores : StoreMeaning S D) (sources : SourceMeaning F)
    (inputs : SourceMeaning G) (outputs : SinkMeaning K) where
  -- of a server and its clients
  abbrev pub ProgramsAreExplained : Type 0
  ProgramsAreExplained = OfJoined stores sources inputs outputs EachIsExplained

  -- of each of several servers and a client that takes its answer
  abbrev pub SeveralAreExplained : Type 0
  SeveralAreExplained = OfEachServed stores sources inputs outputs EachIsExplained
