-- The definitions are not empty: some events transfer a file in a world.
use Rattle.std.specs.Prelude.{◌≡◌, ℕ, true, List, [], ◌∷◌, Some, None}
use Rattle.tftp_player.specs.Common.{Asked, is_sender, Config, Event}
use Rattle.tftp_player.specs.World.{WorldState, WorldEnd, end_record, end_address, end_file}
use Rattle.tftp_player.specs.World.{end_stored, StoredFile, new_world}
use Rattle.tftp_player.specs.WorldRuns.{PlaysAll}
use Rattle.tftp_player.specs.WorldSafety.{IsIn, IsReceiver, HasPeer, IsComplete}

-- a request without options
abbrev pub nothing_asked : Asked
nothing_asked = record { blksize = None; timeout = None; tsize = None }

-- a request for blocks of 8 bytes
abbrev pub blocks_of_8 : Asked
blocks_of_8 = record { blksize = Some 8; timeout = None; tsize = None }

-- files of two and of three such blocks, the last of which has one byte
abbrev pub two_blocks : List ℕ
two_blocks = 65 ∷ 66 ∷ 67 ∷ 68 ∷ 69 ∷ 70 ∷ 71 ∷ 72 ∷ 73 ∷ []

abbrev pub three_blocks : List ℕ
three_blocks =
    65 ∷ 66 ∷ 67 ∷ 68 ∷ 69 ∷ 70 ∷ 71 ∷ 72 ∷ 73 ∷ 74 ∷ 75 ∷ 76 ∷ 77 ∷ 78 ∷ 79 ∷ 80 ∷ 81 ∷ []

-- two complete ends are each other's peers, and the receiver has stored the sender's file, `bytes`
pub record IsTransferred (w : WorldState) (bytes : List ℕ) : Type 0 where
  pub sender : WorldEnd
  pub receiver : WorldEnd
  pub sender_in : IsIn w sender
  pub receiver_in : IsIn w receiver
  pub sends : is_sender (end_record sender).side ≡ true
  pub receives : IsReceiver receiver
  pub sender_peer : HasPeer sender (end_address receiver)
  pub receiver_peer : HasPeer receiver (end_address sender)
  pub sender_done : IsComplete sender
  pub receiver_done : IsComplete receiver
  pub file : end_file sender ≡ bytes
  pub stored : end_stored receiver ≡ bytes

-- some events, the first of which is `opening`, transfer these bytes in some world
abbrev pub Transfers : Event → List ℕ → Type 0
Transfers opening bytes =
    (files : List StoredFile) × (config : Config) × (events : List Event) × (w : WorldState)
    × PlaysAll (new_world files config) (opening ∷ events) w × IsTransferred w bytes
