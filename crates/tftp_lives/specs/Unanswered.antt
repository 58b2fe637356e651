-- What an end that gave up knows of its peer: it sent its newest datagram as often as it may, and
-- if its peer handled one of these, then the peer has answered, and no answer came (RFC 1350,
-- section 2). So of one datagram all copies were lost.
use Rattle.std.specs.Prelude.{ℕ, ◌≡◌, ◌≢◌, ◌⊎◌, ◌+◌, ◌*◌, ◌<◌, ◌≤◌, not, true, false, List, [], ◌∷◌, ◌++◌}
use Rattle.std.specs.Prelude.{Some, None, length as list_length}
use Rattle.tftp_wire.specs.Spelling.{IsValid, Spells, canonical}
use Rattle.tftp_wire.specs.declared.limits.TheConstants.{MAX_BLOCK}
use Rattle.tftp_wire.specs.declared.mode.Mode.{Mode}
use Rattle.tftp_wire.specs.declared.packet.Packet.{Packet}
use Rattle.tftp_wire.specs.declared.packet.Packet.TheVariants.{Data, Ack, Oack}
use Rattle.tftp_negotiate.specs.Agreed.{agreed_options, size}
use Rattle.tftp_negotiate.specs.Asked.{IsAskable}
use Rattle.tftp_negotiate.specs.declared.asked.Asked.{Asked}
use Rattle.tftp_negotiate.specs.declared.known.Known.{Known}
use Rattle.tftp_file.specs.Sink.{SinkMeaning}
use Rattle.tftp_file.specs.Source.{SourceMeaning}
use Rattle.tftp_ends.specs.declared.endpoint.Endpoint.{Endpoint}
use Rattle.tftp_ends.specs.declared.outcome.Outcome.{Outcome}
use Rattle.tftp_ends.specs.declared.outcome.Outcome.TheVariants as outcomes
use Rattle.tftp_ends.specs.Action.{same_address}
use Rattle.tftp_ends.specs.End.{EndState, is_client, is_complete, is_sender, number_of, outcome_of}
use Rattle.tftp_ends.specs.End.{record_of}
use Rattle.tftp_ends.specs.Opening.{getting, putting, serving_read, serving_write}
use Rattle.tftp_lives.specs.Lives.{Act, Took, Said, Has, HasCopies, IsNext, Life, newest, next_of, timed}

-- the packet that an end with a peer sent last: a sender its newest block, or its OACK; a receiver
-- the ACK of its newest block, or its OACK
abbrev pub HasSaid : EndState → Packet → Type 0
HasSaid e (Data number bytes) =
    (is_sender e.role.side ≡ true) × (number ≡ number_of e.position.phase)
HasSaid e (Ack number) =
    (is_sender e.role.side ≡ false) × (number ≡ number_of e.position.phase)
HasSaid e (Oack options) =
    (is_client e.role.side ≡ false) × (number_of e.position.phase ≡ 0)
HasSaid e packet = ⊥

-- the packet that it waits for: a sender for the ACK of its newest block, a receiver for the next
-- block
abbrev pub Awaits : EndState → Packet → Type 0
Awaits e (Ack number) =
    (is_sender e.role.side ≡ true) × (number ≡ number_of e.position.phase)
Awaits e (Data number bytes) =
    (is_sender e.role.side ≡ false) × (number ≡ number_of e.position.phase + 1)
Awaits e packet = ⊥

-- an outcome of an end that is not complete, for which retries are no cause
abbrev pub IsOther : Outcome → Type 0
IsOther outcomes.TimedOut = ⊥
IsOther outcomes.Complete = ⊥
IsOther outcome = Unit {0}

-- the end is complete, or it closed, and not for want of retries
abbrev pub IsOver : EndState → Type 0
IsOver e =
    (is_complete e.position.phase ≡ true)
    ⊎ ((outcome : Outcome) × (outcome_of e.position.phase ≡ Some outcome) × IsOther outcome)

-- options on which a server may agree: blocks of this size can be sent, and so can the OACK
pub record MayAgree (agreed : List Known) : Type 0 where
  pub sized : size agreed ≤ MAX_BLOCK
  pub oack : agreed ≢ [] → IsValid (Oack (agreed_options agreed))

-- an end as it opens, of each of the four kinds; a server's file has no more blocks than can be
-- numbered
pub data Begins (e : EndState) : Type 0 where
  To_get : (to : Endpoint) (name : List ℕ) (mode : Mode) (asked : Asked) (limit retries : ℕ)
      → IsAskable asked → e ≡ getting to name mode asked limit retries → Begins e
  To_put : (to : Endpoint) (name : List ℕ) (mode : Mode) (asked : Asked) (length limit retries : ℕ)
      → IsAskable asked → e ≡ putting to name mode asked length limit retries → Begins e
  To_serve_read : (agreed : List Known) (peer : Endpoint) (mode : Mode) (length retries : ℕ)
      (piece : List ℕ) → MayAgree agreed → length < 65535 * size agreed
      → list_length piece ≤ MAX_BLOCK
      → e ≡ serving_read agreed peer mode length retries piece → Begins e
  To_serve_write : (agreed : List Known) (peer : Endpoint) (mode : Mode) (retries : ℕ)
      → MayAgree agreed → e ≡ serving_write agreed peer mode retries → Begins e

-- x at a and y at b are each other's peers; one sends, and the other receives
pub record AreOpposite (a b : Endpoint) (x y : EndState) : Type 0 where
  pub x_peer : (record_of x).peer ≡ Some b
  pub y_peer : (record_of y).peer ≡ Some a
  pub sides : is_sender y.role.side ≡ not (is_sender x.role.side)

-- the end y has sent a datagram that x at this endpoint waits for, and can read
pub record HasAnswered (a : Endpoint) (x : EndState) (acts : List Act) : Type 0 where
  pub answer : Packet
  pub awaited : Awaits x answer
  pub readable : Spells answer (canonical answer)
  pub there : Has (Said a (canonical answer)) acts

-- the end timed out since it sent its newest datagram: once for each retry, when it sent that
-- again, and once more
pub record HasTried (x : EndState) (acts : List Act) : Type 0 where
  pub copies : HasCopies (x.role.retries + 1) (newest x) acts
  pub later : List Act
  pub earlier : List Act
  pub is : acts ≡ later ++ newest x ∷ earlier
  pub timeouts : x.role.retries + 1 ≤ timed later

-- an end y whose peer x is at a, and handled what that said: it is over, or has sent the answer
abbrev pub AnswersWhatItHandled : Endpoint → EndState → EndState → List Act → Type 0
AnswersWhatItHandled a x y acts =
    (packet : Packet) (bytes : List ℕ) → HasSaid x packet → Spells packet bytes
    → Has (Took a bytes) acts → IsOver y ⊎ HasAnswered a x acts

-- and at once: the answer was sent before, or is what y did next
abbrev pub AnswersAtOnce : Endpoint → EndState → EndState → List Act → Type 0
AnswersAtOnce a x y acts =
    (packet : Packet) (bytes : List ℕ) → HasSaid x packet → Spells packet bytes
    → (later earlier : List Act) → acts ≡ later ++ Took a bytes ∷ earlier
    → IsOver y ⊎ ((answer : Packet) × Awaits x answer × Spells answer (canonical answer)
    × (Has (Said a (canonical answer)) earlier ⊎ IsNext (next_of None later) (Said a (canonical answer))))

-- x at a timed out: it sent its newest datagram, which can be read, once and for each retry; if y
-- at b handled a copy of it, then y is over, or has answered; and x handled no copy of such an
-- answer
pub record IsUnanswered (a b : Endpoint) (x : EndState) (x_acts : List Act) (y : EndState)
    (y_acts : List Act) : Type 0 where
  pub tried : HasTried x x_acts
  pub to_peer : x.position.last_sent_to ≡ b
  pub said : (packet : Packet) × HasSaid x packet × (x.position.last_sent ≡ canonical packet)
      × Spells packet x.position.last_sent
  pub answered : AnswersWhatItHandled a x y y_acts
  pub unheard : (packet : Packet) (bytes : List ℕ) → Awaits x packet → Spells packet bytes
      → Has (Took b bytes) x_acts → ⊥

-- x has no peer, and timed out: it sent its newest datagram once and for each retry, and handled
-- nothing from the address to which that went
pub record IsUnheard (x : EndState) (acts : List Act) : Type 0 where
  pub tried : HasTried x acts
  pub unheard : (from : Endpoint) (bytes : List ℕ) → Has (Took from bytes) acts
      → same_address x.position.last_sent_to from ≡ false

-- so it is of every end that timed out without a peer
abbrev pub EndsGiveUpUnheard : {S K : Type 0} → SourceMeaning S → SinkMeaning K → Type 0
EndsGiveUpUnheard sources sinks =
    (x0 x : EndState) (acts : List Act) → Begins x0 → Life sources sinks x0 acts x
    → (record_of x).peer ≡ None → outcome_of x.position.phase ≡ Some outcomes.TimedOut
    → is_complete x.position.phase ≡ false → IsUnheard x acts

-- at each time of its life an end has answered what it handled of its peer
abbrev pub EndsAnswer : {S K : Type 0} → SourceMeaning S → SinkMeaning K → Type 0
EndsAnswer sources sinks =
    (a b : Endpoint) (x y0 y : EndState) (acts : List Act) → Begins y0
    → Life sources sinks y0 acts y → AreOpposite a b x y
    → AnswersWhatItHandled a x y acts × AnswersAtOnce a x y acts

module _ {S K T L : Type 0} (sources : SourceMeaning S) (sinks : SinkMeaning K)
    (inputs : SourceMeaning T) (outputs : SinkMeaning L) where
  -- so it is of every end that timed out and its peer, whatever lay between them
  abbrev pub EndsGiveUpUnanswered : Type 0
  EndsGiveUpUnanswered =
      (a b : Endpoint) (x0 x : EndState) (x_acts : List Act) (y0 y : EndState) (y_acts : List Act)
      → Begins x0 → Life sources sinks x0 x_acts x → Begins y0 → Life inputs outputs y0 y_acts y
      → AreOpposite a b x y → outcome_of x.position.phase ≡ Some outcomes.TimedOut
      → is_complete x.position.phase ≡ false → IsUnanswered a b x x_acts y y_acts
