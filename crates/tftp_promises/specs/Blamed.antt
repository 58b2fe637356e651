-- How an end of the programs closes whose peer is no stranger: never because of what that peer
-- sent, except where a file was no netascii.
use Rattle.std.specs.Prelude.{ℕ, ◌≡◌, List, Some, true, length, ⊤}
use Rattle.tftp_promises.specs.Common.{SourceMeaning, StoreMeaning, Endpoint, SinkMeaning}
use Rattle.tftp_promises.specs.Common.{is_sender, Mode, record_of, Outcome, wire_text}
use Rattle.tftp_file.specs.Block.{IsPrefixOf}
use Rattle.tftp_ends.specs.declared.outcome.Outcome.TheVariants as outcomes
use Rattle.tftp_promises.specs.Alone.{OfEachServed}
use Rattle.tftp_promises.specs.AnyFiles.{IsEnd, IsOurs, ProgramEnd, peer_of}
use Rattle.tftp_promises.specs.Joined.{OfJoined}
use Rattle.tftp_promises.specs.Order.{Programs}

-- the bytes begin what a file in this mode, of this length on the wire, is sent as
pub record BeginsFile (mode : Mode) (long : ℕ) (bytes : List ℕ) : Type 0 where
  pub file : List ℕ
  pub begins : IsPrefixOf bytes (wire_text mode file)
  pub measured : length (wire_text mode file) ≡ long

module _ {S F D G K : Type 0} {stores : StoreMeaning S D} {sources : SourceMeaning F}
    {inputs : SourceMeaning G} {outputs : SinkMeaning K}
    (programs : Programs stores sources inputs outputs) where
  -- why the end x may close whose peer is at p: it is complete, no retry was left, an ERROR was
  -- received, or its store refused; as SourceFault only if it sends, since its own source failed,
  -- and as NotNetascii only if what the source of its peer gave begins no netascii of the length
  -- that was measured
  abbrev pub MayCloseAs : ProgramEnd → Endpoint → Outcome → Type 0
  MayCloseAs x p outcomes.Complete = ⊤
  MayCloseAs x p outcomes.TimedOut = ⊤
  MayCloseAs x p (outcomes.PeerError code) = ⊤
  MayCloseAs x p outcomes.StoreFault = ⊤
  MayCloseAs x p outcomes.SourceFault = is_sender x.state.role.side ≡ true
  MayCloseAs x p outcomes.NotNetascii =
      (y : ProgramEnd) → IsEnd programs y → y.address ≡ p
      → BeginsFile x.state.role.mode y.state.role.length y.moved.bytes → ⊥
  MayCloseAs x p outcome = ⊥

  -- every end whose peer is no stranger closes so, and as nothing else
  abbrev pub NoneIsBlamed : Type 0
  NoneIsBlamed =
      (x : ProgramEnd) (p : Endpoint) (outcome : Outcome) → IsEnd programs x
      → peer_of x ≡ Some p → IsOurs programs p → (record_of x.state).outcome ≡ Some outcome
      → MayCloseAs x p outcome

module _ {S F D G K : Type 0} (stores : StoreMeaning S D) (sources : SourceMeaning F)
    (inputs : SourceMeaning G) (outputs : SinkMeaning K) where
  -- of a server and its clients
  abbrev pub ProgramsAreUnblamed : Type 0
  ProgramsAreUnblamed = OfJoined stores sources inputs outputs NoneIsBlamed

  -- of each of several servers and a client that takes its answer
  abbrev pub EachIsUnblamed : Type 0
  EachIsUnblamed = OfEachServed stores sources inputs outputs NoneIsBlamed
