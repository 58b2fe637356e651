-- How an end stands between two steps, by what it has heard and sent.
use Rattle.tftp_lives.proofs.Common.{List, ◌≡◌, ℕ, true, Some, None, inl, false, ◌∷◌, Option, inr, subst, ◌≤◌, Bool, []}
use Rattle.tftp_lives.proofs.Common.{◌+◌, ◌<◌, suc, ◌++◌, ◌*◌, AllByRecursion, ◌⊎◌, Spells, canonical, MAX_BLOCK}
use Rattle.tftp_lives.proofs.Common.{Packet, Data, Ack, Oack, IsAskable, same_address, EndState, is_sender, is_client}
use Rattle.tftp_lives.proofs.Common.{closed, Reply, Endpoint, Phase, Receiving, Sending, Waiting, Terms, Role, Act}
use Rattle.tftp_lives.proofs.Common.{Took, newest, Said, with_reply, Has, IsNext, next_of, timed, IsOver, rules, zero}
use Rattle.tftp_lives.proofs.Common.{HasCopies}
use Rattle.tftp_ends.specs.declared.side.Side.{Side}
use Rattle.tftp_ends.specs.declared.outcome.Outcome.TheVariants as outcomes

-- ---- lists
pub all_has : {T : Type 0} (P : T → Type 0) (xs : List T) (x : T) → AllByRecursion P xs → Has x xs → P x
all_has P [] x all h = absurd h
all_has P (y ∷ xs) x all (inl e) = subst P e all.0
all_has P (y ∷ xs) x all (inr h) = all_has P xs x all.1 h

-- ---- what was done, with more
pub has_more : (x : Act) (acts : List Act) (reply : Option Reply) → Has x acts → Has x (with_reply reply acts)
has_more x acts None h = h
has_more x acts (Some reply) h = inr h

pub copies_on : (n : ℕ) (x act : Act) (acts : List Act) → HasCopies n x acts → HasCopies n x (act ∷ acts)
copies_on zero x act acts h = tt
copies_on (suc n) x act acts h = inr h

pub timed_on : (act : Act) (acts : List Act) → timed acts ≤ timed (act ∷ acts)
timed_on act acts = search rules

-- ---- an end
-- it is in this phase, or timed out in it
abbrev pub IsIn : EndState → Phase → Type 0
IsIn e phase =
    (e.position.phase ≡ phase)
    ⊎ ((e.position.phase ≡ closed outcomes.TimedOut phase) × (e.position.retries_left ≡ 0))

-- one timeout more has closed it
abbrev pub more_of : (e : EndState) (phase : Phase) → IsIn e phase → ℕ
more_of e phase (inl is) = 0
more_of e phase (inr is) = 1

-- its newest datagram was sent once, and again for each retry that is used up, at a timeout
pub record IsCopied (acts : List Act) (last : Act) (retries left more : ℕ) : Type 0 where
  pub count : ℕ
  pub copies : HasCopies count last acts
  pub enough : retries + 1 ≤ count + left
  pub later : List Act
  pub earlier : List Act
  pub is : acts ≡ later ++ last ∷ earlier
  pub timeouts : retries + more ≤ timed later + left

-- what it handled is not from this address
abbrev pub NotFrom : Endpoint → Act → Type 0
NotFrom server (Took from bytes) = same_address server from ≡ false
NotFrom server act = Unit {0}

-- ---- what an end with a peer says, and what is due for what it heard
-- a sender says the block of this number, and a receiver its ACK
abbrev pub Says : Packet → Bool → ℕ → Type 0
Says (Data number piece) true j = number ≡ j
Says (Ack number) false j = number ≡ j
Says p sends j = ⊥

-- such a packet can be read, and this holds of it as an act
abbrev pub SaidSo : (Act → Type 0) → Terms → Bool → ℕ → Type 0
SaidSo There t sends j =
    (p : Packet) × Says p sends j × Spells p (canonical p) × There (Said t.peer (canonical p))

pub said_weaker : (P Q : Act → Type 0) (t : Terms) (sends : Bool) (j : ℕ) → ((act : Act) → P act → Q act) →
    SaidSo P t sends j → SaidSo Q t sends j
said_weaker P Q t sends j to h = (h.0, h.1, h.2, to (Said t.peer (canonical h.0)) h.3)

-- it is one of these acts
abbrev pub Among : List Act → Act → Type 0
Among acts act = Has act acts

-- it was done before, or is what comes next
abbrev pub SentBy : Option Act → List Act → Act → Type 0
SentBy next acts act = Has act acts ⊎ IsNext next act

-- the number of the answer to an OACK: of the first block, or of the ACK of the OACK
abbrev pub opening : Bool → ℕ
opening true = 1
opening false = 0

-- this holds of the number that is due for a packet of the peer: of the block after the one that is acknowledged, or of the
-- ACK of a block
abbrev pub DueSo : Packet → Bool → (ℕ → Type 0) → Type 0
DueSo (Ack number) true P = P (number + 1)
DueSo (Data number piece) false P = P number
DueSo (Oack options) sends P = P (opening sends)
DueSo p sends P = Unit {0}

pub due_weaker : (p : Packet) (sends : Bool) (P Q : ℕ → Type 0) → ((j : ℕ) → P j → Q j) → DueSo p sends P →
    DueSo p sends Q
due_weaker p sends P Q to h = search rules

-- each packet of its peer that it handled is so
abbrev pub Heard : Terms → (Packet → Type 0) → Act → Type 0
Heard t P (Took from bytes) = from ≡ t.peer → (p : Packet) → Spells p bytes → P p
Heard t P act = Unit {0}

pub heard_weaker : (t : Terms) (P Q : Packet → Type 0) → ((p : Packet) → P p → Q p) → (act : Act) → Heard t P act →
    Heard t Q act
heard_weaker t P Q to (Took from bytes) h = λ own p s. to p (h own p s)
heard_weaker t P Q to act h = tt

-- what is due for a packet has no number above n, and such a datagram is so
abbrev pub IsDue : Terms → Bool → ℕ → (Act → Type 0) → Packet → Type 0
IsDue t sends n There p = DueSo p sends (λ j. (j ≤ n) × SaidSo There t sends j)

-- for each packet that was handled: it was sent before, or is what comes next
abbrev pub AllDue : Terms → Bool → ℕ → Option Act → List Act → Type 0
AllDue t sends n next [] = Unit {0}
AllDue t sends n next (act ∷ acts) =
    Heard t (IsDue t sends n (SentBy next acts)) act × AllDue t sends n (Some act) acts

-- so it is up to a higher number, and if more comes next
pub due_more : (t : Terms) (sends : Bool) (n m : ℕ) → n ≤ m → (before next : Option Act) →
    ((act : Act) → IsNext before act → IsNext next act) → (acts : List Act) → AllDue t sends n before acts →
    AllDue t sends m next acts
due_more t sends n m up before next to [] all = tt
due_more t sends n m up before next to (act ∷ acts) all =
    search (
      rules,
      heard_weaker,
      due_weaker,
      said_weaker,
      due_more t sends n m up (Some act) (Some act) (λ a is. is) acts all.1,
    )

-- so it is of one of them
pub due_at : (t : Terms) (sends : Bool) (n : ℕ) (next : Option Act) (later : List Act) (act : Act) (earlier : List Act) →
    AllDue t sends n next (later ++ act ∷ earlier) →
    Heard t (IsDue t sends n (SentBy (next_of next later) earlier)) act
due_at t sends n next [] act earlier all = all.0
due_at t sends n next (y ∷ later) act earlier all = due_at t sends n (Some y) later act earlier all.1

-- the numbers that have been said once an end is so far: those of blocks, and ACK 0 of a client that an OACK opened
abbrev pub Counts : Side → Terms → Bool → ℕ → Type 0
Counts side t sends j = (1 ≤ j) ⊎ ((sends ≡ false) × (is_client side ≡ true) × (t.by_oack ≡ true))

-- what is due for the packet has been said
abbrev pub IsAnswered : Side → Terms → Bool → ℕ → Packet → Type 0
IsAnswered side t sends n p = DueSo p sends (λ j. (j ≤ n) × Counts side t sends j)

-- the OACK of a server's end that has no other number yet
abbrev pub IsOack : Packet → Side → ℕ → Type 0
IsOack (Oack options) side n = (is_client side ≡ false) × (n ≡ 0)
IsOack p side n = ⊥

-- the blocks of a sender's file can be numbered, and sent
pub record CanNumber (length : ℕ) (t : Terms) : Type 0 where
  pub fits : length < 65535 * t.size
  pub sized : t.size ≤ MAX_BLOCK

-- an end with a peer that has come to this number, and sent these bytes last, to this endpoint
pub record TalksSo (sends : Bool) (acts : List Act) (role : Role) (to : Endpoint) (bytes : List ℕ) (t : Terms) (n : ℕ)
    : Type 0 where
  pub side_is : is_sender role.side ≡ sends
  pub sender : sends ≡ true → CanNumber role.length t × (is_client role.side ≡ true → 1 ≤ n)
  pub to_is : to ≡ t.peer
  pub said : (p : Packet) × (Says p sends n ⊎ IsOack p role.side n) × Spells p (canonical p) × (bytes ≡ canonical p)
  pub sent : (j : ℕ) → Counts role.side t sends j → j ≤ n → SaidSo (Among acts) t sends j
  pub due : AllDue t sends n None acts

-- what is known of an end by the phase that it is in, or timed out in
abbrev pub Knows : List Act → Role → Endpoint → List ℕ → Phase → Type 0
Knows acts role to bytes (Waiting asked limit) =
    (is_client role.side ≡ true) × IsAskable asked × AllByRecursion (NotFrom to) acts
Knows acts role to bytes (Sending t n) = TalksSo true acts role to bytes t n
Knows acts role to bytes (Receiving t n) = TalksSo false acts role to bytes t n
Knows acts role to bytes phase = ⊥

-- so it is of an end that waits for its first answer, sends or receives, or it is over
pub data Stands (acts : List Act) (e : EndState) : Type 0 where
  Goes : (p : Phase) (is : IsIn e p) → Knows acts e.role e.position.last_sent_to e.position.last_sent p
      → IsCopied acts (newest e) e.role.retries e.position.retries_left (more_of e p is) → Stands acts e
  Over : IsOver e → Stands acts e
