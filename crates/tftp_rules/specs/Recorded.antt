-- The datagrams that were sent, by the states of the ends of the guarded machine.
use Rattle.std.specs.Prelude.{◌≡◌, ◌≢◌, ◌≤◌, true, false, not, List, Some}
use Rattle.std.specs.List.{Contains}
use Rattle.tftp_file.specs.Block.{block_count}
use Rattle.tftp_rules.specs.Machine.{Endpoint, Elsewhere, Request, Ack}
use Rattle.tftp_rules.specs.Machine.{Oack, Message, Party, Machine, Network}
use Rattle.tftp_rules.specs.Rules.{message}

-- ACK 0 is sent by a server's end opened without options, or by a client with an OACK of that peer
abbrev pub IsFirstAck : List Message → Endpoint → Party → Endpoint → Type 0
IsFirstAck sent y x p =
    (x.client ≡ false → x.plain ≡ true)
    × (x.client ≡ true → Contains sent (message p y (Oack x.size)))

module _ (network : Network) where
  -- the datagrams that were sent, by the state of the end x at this endpoint
  pub record IsRecorded (sent : List Message) (a : Endpoint) (x : Party) : Type 0 where
    -- the peer of a server's end sent the request that it answers
    pub requested : x.client ≡ false → (p : Endpoint) → x.peer ≡ Some p →
        Contains sent (message p network.request_port (Request (not x.sender) x.request))
    -- a server's end that was opened with options sent its OACK
    pub oack : x.client ≡ false → x.plain ≡ false → (p : Endpoint) → x.peer ≡ Some p →
        Contains sent (message a p (Oack x.size))
    -- if it is a sender that has begun, its peer sent ACK 0
    pub begun : x.client ≡ false → x.sender ≡ true → x.plain ≡ false → 1 ≤ x.number →
        (p : Endpoint) → x.peer ≡ Some p → Contains sent (message p a (Ack 0))
    -- a sender that is complete has its last block acknowledged
    pub ended : x.sender ≡ true → x.complete ≡ true → (p : Endpoint) → x.peer ≡ Some p →
        Contains sent (message p a (Ack (block_count x.text x.size)))

  -- of every open end, and of every ACK 0 that the server and its clients sent
  pub record AreRecorded (m : Machine) : Type 0 where
    pub ends : (a : Endpoint) → (m.party a).is_open ≡ true → IsRecorded m.sent a (m.party a)
    pub first : (y p : Endpoint) → network.host_of y ≢ Elsewhere →
        Contains m.sent (message y p (Ack 0)) → IsFirstAck m.sent y (m.party y) p
