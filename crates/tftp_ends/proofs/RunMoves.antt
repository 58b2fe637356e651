-- What every step of a run preserves, and the steps that change nothing, enter a phase or close the end. For
-- RunLemmas and RunSteps.
use Rattle.tftp_ends.proofs.Common.{◌≡◌, ℕ, ◌*◌, ◌<◌, ◌≤◌, Bool, true, false, length, Option, refl, arith, nat_lt}
use Rattle.tftp_ends.proofs.Common.{if◌then◌else◌, le-ltb, Fresh, Phase, Waiting, Sending, Receiving, Dallying, Closed}
use Rattle.tftp_ends.proofs.Common.{EndState, is_sender, is_progress, Turn}
use Rattle.std.proofs.Common.{◌+◌, rules}
use Rattle.tftp_ends.specs.declared.phase.Dally.TheVariants.{Waited}
use Rattle.tftp_ends.specs.declared.side.Side.{Side}
use Rattle.tftp_ends.specs.Run.{count_if, is_data, is_oack}
use Rattle.tftp_ends.specs.Step.{Reply}

-- ---- what every step of a run preserves
-- senders send blocks that can be numbered, receivers receive, and numbers stay below 65,536
abbrev pub Kept : Side → ℕ → Phase → Type 0
Kept side length (Waiting asked limit) = Unit {0}
Kept side length (Sending terms number) = (number ≤ 65535) × (length < 65535 * terms.size)
Kept side length (Receiving terms number) = (number ≤ 65535) × (is_sender side ≡ false)
Kept side length (Dallying terms number dally) = (number ≤ 65535) × (is_sender side ≡ false)
Kept side length (Closed terms number complete outcome) = number ≤ 65535

-- the measure of an end: progress increases it
abbrev pub rank : Phase → ℕ
rank (Waiting asked limit) = 0
rank (Sending terms number) = number
rank (Receiving terms number) = number + 1
rank (Dallying terms number dally) = number + 1
rank (Closed terms number complete outcome) = number + 1

-- a dally has had its first timeout
abbrev pub waits : Phase → ℕ
waits (Waiting asked limit) = 0
waits (Sending terms number) = 0
waits (Receiving terms number) = 0
waits (Dallying terms number Fresh) = 0
waits (Dallying terms number Waited) = 1
waits (Closed terms number complete outcome) = 1

-- the end after a datagram
pub record Moves (e : EndState) (turn : Turn) : Type 0 where
  pub kept : Kept e.role.side e.role.length turn.position.phase
  pub left : turn.position.retries_left
      ≡ (if is_progress e.position.phase turn.position.phase then e.role.retries else e.position.retries_left)
  pub rises : rank e.position.phase + count_if (is_progress e.position.phase turn.position.phase)
      ≤ rank turn.position.phase
  pub waiting : waits e.position.phase ≤ waits turn.position.phase
  pub oack : is_sender e.role.side ≡ true → is_oack turn.reply ≡ false
  pub sends : is_sender e.role.side ≡ true → is_data turn.reply ≡ true →
      is_progress e.position.phase turn.position.phase ≡ true

-- both cases of a test
pub if_either : {A : Type 0} (P : A → Type 0) (b : Bool) (r s : A) → (b ≡ true → P r) → (b ≡ false → P s) →
    P (if b then r else s)
if_either P true r s f g = f refl
if_either P false r s f g = g refl

-- one step counts one at most
pub one_at_most : (b : Bool) → count_if b ≤ 1
one_at_most true = omega arith
one_at_most false = omega arith

-- no number is below itself
pub not_below_itself : (n : ℕ) → nat_lt n n ≡ false
not_below_itself n = le-ltb n n (omega arith)

-- an unchanged end; a sender sends no DATA and no OACK
pub stays : (e : EndState) (reply : Option Reply) → Kept e.role.side e.role.length e.position.phase →
    (is_sender e.role.side ≡ true → (is_oack reply ≡ false) × (is_data reply ≡ false)) →
    Moves e (record { position = e.position; reply = reply })
stays e reply kept quiet = search rules

-- ---- an end that closes
-- a phase counts one at most
pub waits_at_most : (p : Phase) → waits p ≤ 1
waits_at_most p = search rules
