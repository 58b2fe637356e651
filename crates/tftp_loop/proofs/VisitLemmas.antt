-- A visit of the port of a transfer, call by call. For three functions.
use Rattle.tftp_loop.proofs.Common.{arith, ◌≡◌, ◌≤◌, ◌+◌, ℕ, List, ◌∷◌, refl, SourceMeaning, StoreMeaning, SocketEvent}
use Rattle.tftp_loop.proofs.Common.{Elapsed, Received, Quiet, Start}
use Rattle.std.proofs.Common.{MutBor, rules}
use Rattle.tftp_sockets.specs.Trace.{QuietEvent}
use Rattle.tftp_loop.specs.declared.datagram.Datagram.{Datagram}
use Rattle.tftp_loop.specs.declared.port_visit.PortVisit.{PortVisit}
use Rattle.tftp_loop.specs.Fair.{ReceivesAtMost}
use Rattle.tftp_loop.specs.PortVisit.{AnswersReceived, IsSameVisit, IsTried, ServesVisit}
use Rattle.tftp_loop.proofs.PortStays.{stays_along}
use Rattle.tftp_loop.proofs.RunLemmas.{onward}

-- an event that is no datagram
pub receives_none : (event : QuietEvent) (most : ℕ) (es es' : List SocketEvent) → es' ≡ Quiet event ∷ es →
    ReceivesAtMost most es es'
receives_none event most es es' noted = search rules

-- a timeout receives no datagram
pub elapses_none : (port time : ℕ) (es before es' : List SocketEvent) → before ≡ Elapsed port time ∷ es →
    ReceivesAtMost 0 before es' → ReceivesAtMost 0 es es'
elapses_none port time es before es' noted none = search rules

module _ {N S F D : Type 0} where
  -- a visit that stays the same twice stays the same
  pub same_onward : {a b c : PortVisit N S F D} → IsSameVisit a b → IsSameVisit b c → IsSameVisit a c
  same_onward x y = search rules

  module _ (log : N → List SocketEvent) (meaning : StoreMeaning S D) (sources : SourceMeaning F) where
    -- nothing was done
    pub idles : (most : ℕ) (visit : PortVisit N S F D) → ServesVisit log meaning sources most visit visit
    idles most visit = record {
      same = record { server = refl; port = refl; net = refl; now = refl; active = refl };
      serves = Start;
      received = omega arith;
    }

    pub serves_onward : (m n most : ℕ) (a b c : PortVisit N S F D) → m + n ≤ most → ServesVisit log meaning sources m a b →
        ServesVisit log meaning sources n b c → ServesVisit log meaning sources most a c
    serves_onward m n most a b c fits x y = search (rules, same_onward, onward)

    -- a datagram was received, and then answered
    pub serves_received : (datagram : Datagram) (old new : PortVisit N S F D) (net : MutBor N) →
        net.ghost_name ≡ old.net.ghost_name → (log net.now)
        ≡ Received old.port.now.socket.udp.port datagram.from datagram.bytes.now ∷ (log old.net.now) →
        AnswersReceived log meaning sources datagram (record old { net = net }) new →
        ServesVisit log meaning sources 1 old new
    serves_received datagram old new net name noted answers = search rules

    -- and so the port was read
    pub tried_received : (datagram : Datagram) (old new : PortVisit N S F D) (net : MutBor N) →
        (log net.now) ≡ Received old.port.now.socket.udp.port datagram.from datagram.bytes.now ∷ (log old.net.now)
        → AnswersReceived log meaning sources datagram (record old { net = net }) new → IsTried log new
    tried_received datagram old new net noted answers =
        let same = (stays_along meaning sources old.now _ _ (answers.serves (log old.net.now) noted)).port in
        search rules
