-- A transfer completes once the network behaves, whatever it has done so far.
use Rattle.std.specs.Prelude.{ℕ, ◌≡◌, ◌+◌, ◌*◌, ◌-◌, ◌<◌, ◌≤◌, ◌⊎◌, true, false, ⊤, List, length}
use Rattle.std.specs.Prelude.{slice_get, Some, Bool}
use Rattle.tftp_player.specs.Common.{Mode, size, Asked, Known, IsBlockSize, block_count, Fits}
use Rattle.tftp_player.specs.Common.{wire_text, Service, Sends, Takes, Config, Waiting, Sending}
use Rattle.tftp_player.specs.Common.{Receiving, is_client, OpenEnd, peer_of, Datagram, Event}
use Rattle.tftp_player.specs.Common.{Timeout, Deliver, Report}
use Rattle.tftp_negotiate.specs.declared.known.Kind.TheVariants as kinds
use Rattle.tftp_ends.specs.declared.action.Action.{Action}
use Rattle.tftp_ends.specs.declared.action.Action.TheVariants.{Respond, Send, Store}
use Rattle.tftp_ends.specs.declared.action.Response.TheVariants.{Accept}
use Rattle.tftp_ends.specs.declared.phase.Terms.{Terms}
use Rattle.tftp_ends.specs.Action.{HandledBy}
use Rattle.tftp_ends.specs.Step.{ack_bytes}
use Rattle.tftp_player.specs.Settling.{Settled}
use Rattle.tftp_player.specs.Straight.{AllTaken, HaveTaken, IsAccepted, TakesAnswer, read_adds}
use Rattle.tftp_player.specs.Straight.{write_adds}
use Rattle.tftp_player.specs.World.{WorldState, StoredFile, WorldEnd, Open_end, new_world, file_at}
use Rattle.tftp_player.specs.World.{datagram, end_address, end_record, is_closed}
use Rattle.tftp_player.specs.WorldKept.{Refines}
use Rattle.tftp_player.specs.WorldRuns.{PlaysAll}
use Rattle.tftp_player.specs.WorldSafety.{IsIn, IsReceiver, IsComplete, HasPeer}
use Rattle.tftp_player.specs.WorldSteps.{WorldStep, Settles}

-- some list of events leads to this world
pub record IsReached (w : WorldState) : Type 0 where
  pub files : List StoredFile
  pub config : Config
  pub events : List Event
  pub max_block : IsBlockSize config.limits.max_block
  pub plays : PlaysAll (new_world files config) events w

-- the open ends at these indices are each other's peers; the first sends, and its newest block has
-- this number (0: its OACK is not acknowledged yet)
pub record IsEstablished (w : WorldState) (one other : ℕ) (x y : OpenEnd) (terms : Terms)
    (number : ℕ) : Type 0 where
  pub sender_at : slice_get w.ends one ≡ Some (Open_end x)
  pub receiver_at : slice_get w.ends other ≡ Some (Open_end y)
  pub sends : x.state.position.phase ≡ Sending terms number
  pub to_receiver : terms.peer ≡ y.address
  pub to_sender : peer_of y.state.position.phase ≡ Some x.address

-- no store refuses; of a receiver that is a client, and that no event set to refuse, it follows
abbrev pub StoresTake : OpenEnd → List Report → Type 0
StoresTake y reports =
    AllTaken reports ⊎ ((is_client y.state.role.side ≡ true) × (y.refuses ≡ false))

-- the end x times out and has a retry left, and then each datagram that is added from then on is
-- delivered once, in order, one for each report; the receiver y stores what it gets
pub record Behaves (old : WorldState) (x y : OpenEnd) (new : WorldState) : Type 0 where
  pub retries : 0 < x.state.position.retries_left
  pub report : Report
  pub mid : WorldState
  pub times_out : WorldStep old (Timeout x.address.port) report mid
  pub reports : List Report
  pub settles : Settles mid (length old.sent) reports new
  pub taken : StoresTake y reports

-- both ends at these indices are complete, and `count` datagrams were added
pub record AreThrough (old new : WorldState) (one other count : ℕ) : Type 0 where
  pub x : WorldEnd
  pub y : WorldEnd
  pub x_at : slice_get new.ends one ≡ Some x
  pub y_at : slice_get new.ends other ≡ Some y
  pub x_done : IsComplete x
  pub y_done : IsComplete y
  pub counted : length new.sent ≡ length old.sent + count

-- a run of `made` deliveries ends after `count`: there are no more, before the last one a datagram
-- is to be delivered, and after it both ends are complete and none is
pub record EndsAfter (old new : WorldState) (one other made count : ℕ) : Type 0 where
  pub few : made ≤ count
  pub goes_on : made < count → length new.sent ≡ length old.sent + made + 1
  pub through : made ≡ count → AreThrough old new one other count

-- the blocks that a sender has to send still, its newest one again, and an ACK for each
abbrev pub left_to_add : OpenEnd → Terms → ℕ → ℕ
left_to_add x terms number = 2 + 2 * (block_count x.text terms.size - number)

-- in every world that events can lead to: an established transfer whose sender has a retry left
-- completes at both ends, once the network behaves, after exactly that many datagrams
abbrev pub TransfersRecover : Type 0
TransfersRecover =
    (w new : WorldState) (one other : ℕ) (x y : OpenEnd) (terms : Terms) (number : ℕ) →
    IsReached w → IsEstablished w one other x y terms number → (run : Behaves w x y new) →
    EndsAfter w new one other (length run.reports) (left_to_add x terms number)

-- some established transfer recovers whose sender's newest block has this number
abbrev pub SomeTransferRecovers : ℕ → Type 0
SomeTransferRecovers number =
    (w : WorldState) × (new : WorldState) × (one : ℕ) × (other : ℕ) × (x : OpenEnd) × (y : OpenEnd)
    × (terms : Terms) × IsReached w × IsEstablished w one other x y terms number
    × (run : Behaves w x y new) × (length run.reports ≡ left_to_add x terms number)

-- the client accepts what it waits for: it takes a peer
abbrev pub TakesPeer : Action → Type 0
TakesPeer (Respond (Accept terms)) = ⊤
TakesPeer (Respond response) = ⊥
TakesPeer (Send terms number) = ⊤
TakesPeer (Store terms number) = ⊤

-- an open end of the server whose client, open at the other index, has no peer yet, and would
-- accept the end's newest datagram
pub record IsAnswering (w : WorldState) (one other : ℕ) (x y : OpenEnd) (asked : Asked)
    (limit : ℕ) : Type 0 where
  pub server_at : slice_get w.ends one ≡ Some (Open_end x)
  pub client_at : slice_get w.ends other ≡ Some (Open_end y)
  pub to_client : peer_of x.state.position.phase ≡ Some y.address
  pub waits : y.state.position.phase ≡ Waiting asked limit
  pub takes : HandledBy TakesPeer x.address x.state.position.last_sent y.state

-- a read recovers whose client has no peer yet, and would accept the newest datagram of the
-- server's end: that end times out, and the same count holds
abbrev pub ReadsRecover : Type 0
ReadsRecover =
    (w new : WorldState) (one other : ℕ) (x y : OpenEnd) (asked : Asked) (limit : ℕ) (terms : Terms)
    (number : ℕ) →
    IsReached w → IsAnswering w one other x y asked limit →
    x.state.position.phase ≡ Sending terms number → (run : Behaves w x y new) →
    EndsAfter w new one other (length run.reports) (left_to_add x terms number)

-- so does a write: by ACK 0 or the OACK once more, and all blocks with their ACKs
abbrev pub WritesRecover : Type 0
WritesRecover =
    (w new : WorldState) (one other : ℕ) (x y : OpenEnd) (asked : Asked) (limit : ℕ) (terms : Terms)
    (number : ℕ) →
    IsReached w → IsAnswering w one other x y asked limit →
    x.state.position.phase ≡ Receiving terms number → (run : Behaves w x x new) →
    EndsAfter w new one other (length run.reports) (1 + 2 * block_count y.text terms.size)

-- the same run by `settle`: it delivers what was added from the timeout on, `made` datagrams and
-- `most` at most; no end has closed since because of its store, or y is a client not set to refuse
pub record SettlesAfter (old : WorldState) (x y : OpenEnd) (most made : ℕ) (new : WorldState)
    : Type 0 where
  pub retries : 0 < x.state.position.retries_left
  pub report : Report
  pub mid : WorldState
  pub times_out : WorldStep old (Timeout x.address.port) report mid
  pub settles : Settled mid (length old.sent) most made new
  pub taken : HaveTaken mid new
      ⊎ ((is_client y.state.role.side ≡ true) × (y.refuses ≡ false))

-- `settle` made just that many deliveries, and both ends are complete
abbrev pub HasSettled : WorldState → WorldState → (one other made count : ℕ) → Type 0
HasSettled old new one other made count = (made ≡ count) × AreThrough old new one other count

-- `settle` makes as many deliveries as the recovery of a transfer needs, if its limit is not below:
-- of an established one, of a read and of a write
abbrev pub TransfersSettle : Type 0
TransfersSettle =
    (w new : WorldState) (one other : ℕ) (x y : OpenEnd) (terms : Terms) (number most made : ℕ) →
    IsReached w → IsEstablished w one other x y terms number → SettlesAfter w x y most made new →
    left_to_add x terms number ≤ most → HasSettled w new one other made (left_to_add x terms number)

abbrev pub AnsweredReadsSettle : Type 0
AnsweredReadsSettle =
    (w new : WorldState) (one other : ℕ) (x y : OpenEnd) (asked : Asked) (limit : ℕ) (terms : Terms)
    (number most made : ℕ) →
    IsReached w → IsAnswering w one other x y asked limit →
    x.state.position.phase ≡ Sending terms number → SettlesAfter w x y most made new →
    left_to_add x terms number ≤ most → HasSettled w new one other made (left_to_add x terms number)

abbrev pub AnsweredWritesSettle : Type 0
AnsweredWritesSettle =
    (w new : WorldState) (one other : ℕ) (x y : OpenEnd) (asked : Asked) (limit : ℕ) (terms : Terms)
    (number most made : ℕ) →
    IsReached w → IsAnswering w one other x y asked limit →
    x.state.position.phase ≡ Receiving terms number → SettlesAfter w x x most made new →
    1 + 2 * block_count y.text terms.size ≤ most →
    HasSettled w new one other made (1 + 2 * block_count y.text terms.size)

-- a client waits at this index, and sends its request again as if it had never arrived: in the
-- world after the timeout the server's port accepts it, and opens the next end
pub record AsksAgain (w new : WorldState) (k : ℕ) (y : OpenEnd) (asked : Asked) (limit : ℕ)
    (accepts : Service) : Type 0 where
  pub client_at : slice_get w.ends k ≡ Some (Open_end y)
  pub waits : y.state.position.phase ≡ Waiting asked limit
  pub run : Behaves w y y new
  pub accepted : IsAccepted run.mid y accepts

-- a read recovers whose request was lost: its client times out, the server's port accepts it, the
-- client accepts the answer, and the count is that of a run without loss
abbrev pub ReadRequestsRecover : Type 0
ReadRequestsRecover =
    (w new : WorldState) (k : ℕ) (y : OpenEnd) (asked : Asked) (limit : ℕ) (path file : List ℕ)
    (mode : Mode) (measured : ℕ) (agreed : List Known) →
    IsReached w → (again : AsksAgain w new k y asked limit (Sends path mode measured agreed)) →
    file_at again.run.mid.files path ≡ Some file → TakesAnswer asked kinds.Read mode limit agreed →
    EndsAfter w new (length w.ends) k (length again.run.reports) (read_adds mode file agreed)

-- so does a write whose request was lost, if its blocks can be numbered and no store refuses
abbrev pub WriteRequestsRecover : Type 0
WriteRequestsRecover =
    (w new : WorldState) (k : ℕ) (y : OpenEnd) (asked : Asked) (limit : ℕ) (path : List ℕ)
    (mode : Mode) (agreed : List Known) →
    IsReached w → (again : AsksAgain w new k y asked limit (Takes path mode agreed)) →
    TakesAnswer asked kinds.Write mode limit agreed → Fits (wire_text mode y.file) (size agreed) →
    AllTaken again.run.reports →
    EndsAfter w new k (length w.ends) (length again.run.reports) (write_adds mode y.file agreed)

-- the same run by `settle`
pub record AsksAndSettles (w new : WorldState) (k : ℕ) (y : OpenEnd) (asked : Asked) (limit : ℕ)
    (accepts : Service) (most made : ℕ) : Type 0 where
  pub client_at : slice_get w.ends k ≡ Some (Open_end y)
  pub waits : y.state.position.phase ≡ Waiting asked limit
  pub run : SettlesAfter w y y most made new
  pub accepted : IsAccepted run.mid y accepts

-- `settle` makes as many deliveries as a read needs whose request was lost, if its limit is not
-- below
abbrev pub ReadRequestsSettle : Type 0
ReadRequestsSettle =
    (w new : WorldState) (k : ℕ) (y : OpenEnd) (asked : Asked) (limit : ℕ) (path file : List ℕ)
    (mode : Mode) (measured : ℕ) (agreed : List Known) (most made : ℕ) →
    IsReached w →
    (again : AsksAndSettles w new k y asked limit (Sends path mode measured agreed) most made) →
    file_at again.run.mid.files path ≡ Some file → TakesAnswer asked kinds.Read mode limit agreed →
    read_adds mode file agreed ≤ most →
    HasSettled w new (length w.ends) k made (read_adds mode file agreed)

-- and as a write, if no end has closed since because of its store
abbrev pub WriteRequestsSettle : Type 0
WriteRequestsSettle =
    (w new : WorldState) (k : ℕ) (y : OpenEnd) (asked : Asked) (limit : ℕ) (path : List ℕ)
    (mode : Mode) (agreed : List Known) (most made : ℕ) →
    IsReached w →
    (again : AsksAndSettles w new k y asked limit (Takes path mode agreed) most made) →
    TakesAnswer asked kinds.Write mode limit agreed → Fits (wire_text mode y.file) (size agreed) →
    HaveTaken again.run.mid new → write_adds mode y.file agreed ≤ most →
    HasSettled w new k (length w.ends) made (write_adds mode y.file agreed)

-- some read recovers whose first datagram from the server was lost
abbrev pub SomeReadRecovers : Type 0
SomeReadRecovers =
    (w : WorldState) × (new : WorldState) × (one : ℕ) × (other : ℕ) × (x : OpenEnd) × (y : OpenEnd)
    × (asked : Asked) × (limit : ℕ) × (terms : Terms) × (number : ℕ) × IsReached w
    × IsAnswering w one other x y asked limit × (x.state.position.phase ≡ Sending terms number)
    × (run : Behaves w x y new) × (length run.reports ≡ left_to_add x terms number)

-- some write recovers whose first datagram from the server was lost
abbrev pub SomeWriteRecovers : Type 0
SomeWriteRecovers =
    (w : WorldState) × (new : WorldState) × (one : ℕ) × (other : ℕ) × (x : OpenEnd) × (y : OpenEnd)
    × (asked : Asked) × (limit : ℕ) × (terms : Terms) × (number : ℕ) × IsReached w
    × IsAnswering w one other x y asked limit × (x.state.position.phase ≡ Receiving terms number)
    × (run : Behaves w x x new) × (length run.reports ≡ 1 + 2 * block_count y.text terms.size)

-- some read recovers whose request was lost
abbrev pub SomeReadRequestRecovers : Type 0
SomeReadRequestRecovers =
    (w : WorldState) × (new : WorldState) × (k : ℕ) × (y : OpenEnd) × (asked : Asked) × (limit : ℕ)
    × (path : List ℕ) × (file : List ℕ) × (mode : Mode) × (measured : ℕ) × (agreed : List Known)
    × IsReached w × (again : AsksAgain w new k y asked limit (Sends path mode measured agreed))
    × (file_at again.run.mid.files path ≡ Some file)
    × TakesAnswer asked kinds.Read mode limit agreed
    × (length again.run.reports ≡ read_adds mode file agreed)

-- some write recovers whose request was lost
abbrev pub SomeWriteRequestRecovers : Type 0
SomeWriteRequestRecovers =
    (w : WorldState) × (new : WorldState) × (k : ℕ) × (y : OpenEnd) × (asked : Asked) × (limit : ℕ)
    × (path : List ℕ) × (mode : Mode) × (agreed : List Known) × IsReached w
    × (again : AsksAgain w new k y asked limit (Takes path mode agreed))
    × TakesAnswer asked kinds.Write mode limit agreed
    × Fits (wire_text mode y.file) (size agreed) × AllTaken again.run.reports
    × (length again.run.reports ≡ write_adds mode y.file agreed)

-- an open sender is complete once it hears the last ACK of its peer, which is complete
abbrev pub SendersHearTheEnd : Type 0
SendersHearTheEnd =
    (strangers : Bool) (old new : WorldState) (i : ℕ) (d : Datagram) (report : Report) (k : ℕ)
    (x y : WorldEnd) → Refines strangers old → IsIn old x → IsReceiver x → IsComplete x →
    slice_get old.ends k ≡ Some y → is_closed y ≡ false → HasPeer y (end_address x) →
    HasPeer x (end_address y) → slice_get old.sent i ≡ Some d → d.from ≡ end_address x →
    d.to ≡ end_address y → d.bytes ≡ ack_bytes (end_record x).number →
    WorldStep old (Deliver i) report new →
    (z : WorldEnd) × (slice_get new.ends k ≡ Some z) × IsComplete z

-- some sender hears it
abbrev pub SomeSenderHearsTheEnd : Type 0
SomeSenderHearsTheEnd =
    (old : WorldState) × (new : WorldState) × (i : ℕ) × (report : Report) × (k : ℕ) × (x : WorldEnd)
    × (y : WorldEnd) × Refines false old × IsIn old x × IsReceiver x × IsComplete x
    × (slice_get old.ends k ≡ Some y) × (is_closed y ≡ false) × HasPeer y (end_address x)
    × HasPeer x (end_address y)
    × (slice_get old.sent i
    ≡ Some (datagram (end_address x) (end_address y) (ack_bytes (end_record x).number)))
    × WorldStep old (Deliver i) report new
