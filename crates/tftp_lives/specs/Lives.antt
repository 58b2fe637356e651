-- What an end has done since it opened, of any kind and with any files: the datagrams that it
-- received, those that it sent, and its timeouts. No network, no loop and no world is part of it.
use Rattle.std.specs.Prelude.{ℕ, ◌≡◌, ◌⊎◌, ◌+◌, zero, suc, List, [], ◌∷◌, Option, Some, None}
use Rattle.std.specs.List.{AllByRecursion}
use Rattle.tftp_file.specs.Sink.{SinkMeaning}
use Rattle.tftp_file.specs.Source.{SourceMeaning}
use Rattle.tftp_file.specs.declared.files.Files.{Files}
use Rattle.tftp_ends.specs.declared.endpoint.Endpoint.{Endpoint}
use Rattle.tftp_ends.specs.End.{EndState}
use Rattle.tftp_ends.specs.Run.{IsOpen}
use Rattle.tftp_ends.specs.Step.{Reply, Turn, DatagramStep, after_turn, timeout_turn}

-- what an end does: it receives a datagram from there and handles it, or loses it, since there is
-- no memory or the transfer is over age; it sends one to there; or it times out
pub data Act : Type 0 where
  Took : (from : Endpoint) (bytes : List ℕ) → Act
  Lost : (from : Endpoint) (bytes : List ℕ) → Act
  Said : (to : Endpoint) (bytes : List ℕ) → Act
  Timed : Act

module _ {T : Type 0} where
  -- it is one of them
  abbrev pub Has : T → List T → Type 0
  Has x [] = ⊥
  Has x (y ∷ ys) = (y ≡ x) ⊎ Has x ys

  -- so many of them are it, at least
  abbrev pub HasCopies : ℕ → T → List T → Type 0
  HasCopies zero x ys = Unit {0}
  HasCopies (suc n) x [] = ⊥
  HasCopies (suc n) x (y ∷ ys) = ((y ≡ x) × HasCopies n x ys) ⊎ HasCopies (suc n) x ys

-- what comes directly after so many, the newest first, or this
abbrev pub next_of : Option Act → List Act → Option Act
next_of next [] = next
next_of next (act ∷ acts) = next_of (Some act) acts

-- it is what comes next
abbrev pub IsNext : Option Act → Act → Type 0
IsNext None act = ⊥
IsNext (Some next) act = next ≡ act

-- how many of them are timeouts
abbrev pub timed : List Act → ℕ
timed [] = 0
timed (Timed ∷ acts) = 1 + timed acts
timed (act ∷ acts) = timed acts

-- it is the receipt of these bytes from there, whether they are handled or lost
abbrev pub IsReceipt : Endpoint → List ℕ → Act → Type 0
IsReceipt from bytes (Took source content) = (source ≡ from) × (content ≡ bytes)
IsReceipt from bytes (Lost source content) = (source ≡ from) × (content ≡ bytes)
IsReceipt from bytes act = ⊥

-- each datagram that was received is handled
abbrev pub IsNoLoss : Act → Type 0
IsNoLoss (Lost from bytes) = ⊥
IsNoLoss act = Unit {0}

abbrev pub HandlesAll : List Act → Type 0
HandlesAll acts = AllByRecursion IsNoLoss acts

-- the datagram that a timeout sends again
abbrev pub newest : EndState → Act
newest e = Said e.position.last_sent_to e.position.last_sent

-- what was done, with an answer, if there is one
abbrev pub with_reply : Option Reply → List Act → List Act
with_reply None acts = acts
with_reply (Some reply) acts = Said reply.to reply.bytes ∷ acts

module _ {S K : Type 0} (sources : SourceMeaning S) (sinks : SinkMeaning K) where
  -- an end that was first so has done this while it was open, the newest first, and is now so;
  -- between its steps its files may do what they do
  pub data Life (first : EndState) : List Act → EndState → Type 0 where
    Opens : Life first (newest first ∷ []) first
    Hears : {acts : List Act} {e : EndState} {turn : Turn} {files files' : Files S K}
        → Life first acts e → IsOpen e → (from : Endpoint) (bytes : List ℕ)
        → DatagramStep sources sinks from bytes e files turn files'
        → Life first (with_reply turn.reply (Took from bytes ∷ acts)) (after_turn e turn)
    Loses : {acts : List Act} {e : EndState} → Life first acts e → IsOpen e → (from : Endpoint)
        (bytes : List ℕ) → Life first (Lost from bytes ∷ acts) e
    Times : {acts : List Act} {e : EndState} → Life first acts e → IsOpen e
        → Life first (with_reply (timeout_turn e).reply (Timed ∷ acts))
        (after_turn e (timeout_turn e))
