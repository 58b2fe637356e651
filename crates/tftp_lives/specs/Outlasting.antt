-- Two ends of one transfer in one order of their acts, and a network between them whose loss is
-- bounded: neither gives up while the other goes on (RFC 1350, section 2). Only acts are spoken of,
-- of whatever programs.
use Rattle.std.specs.Prelude.{ℕ, ◌≡◌, ◌⊎◌, ◌+◌, ◌*◌, ◌<◌, ◌≤◌, Bool, true, false, List, [], ◌∷◌, ◌++◌, Some}
use Rattle.tftp_file.specs.Sink.{SinkMeaning}
use Rattle.tftp_file.specs.Source.{SourceMeaning}
use Rattle.tftp_ends.specs.declared.endpoint.Endpoint.{Endpoint}
use Rattle.tftp_ends.specs.declared.outcome.Outcome.TheVariants as outcomes
use Rattle.tftp_ends.specs.End.{EndState, is_complete, outcome_of}
use Rattle.tftp_ends.specs.Run.{IsOpen}
use Rattle.tftp_lives.specs.Lives.{Act, Took, Said, Timed, HandlesAll, IsReceipt, Life}
use Rattle.tftp_lives.specs.Unanswered.{AreOpposite, Begins, IsOver}

-- an act of one of two ends: of the first, if that is true
abbrev pub OneAct : Type 0
OneAct = Bool × Act

-- the acts of one of them, in the order, the newest first
abbrev pub acts_of : Bool → List OneAct → List Act
acts_of first [] = []
acts_of true ((true, act) ∷ order) = act ∷ acts_of true order
acts_of true ((false, act) ∷ order) = acts_of true order
acts_of false ((true, act) ∷ order) = acts_of false order
acts_of false ((false, act) ∷ order) = act ∷ acts_of false order

-- how many timeouts of the two there are
abbrev pub timeouts : List OneAct → ℕ
timeouts [] = 0
timeouts ((first, Timed) ∷ order) = 1 + timeouts order
timeouts ((first, act) ∷ order) = timeouts order

module _ (order : List OneAct) where
  -- once the limit of timeouts has passed since x, at a, sent a datagram to y, at b, y had received
  -- a copy of it before that, or did no more, and has closed so; other copies may be lost, and come
  -- again
  abbrev pub ArriveInTime : ℕ → (x y : Bool) → (a b : Endpoint) → EndState → Type 0
  ArriveInTime limit x y a b y_end =
      (later earlier : List OneAct) (bytes : List ℕ)
      → order ≡ later ++ (x, Said b bytes) ∷ earlier → limit < timeouts later
      → (since : List OneAct) × (before : List OneAct) × (later ≡ since ++ before)
      × (timeouts before ≤ limit)
      × (((newer : List OneAct) × (receipt : Act) × (older : List OneAct)
      × IsReceipt a bytes receipt
      × (before ++ (x, Said b bytes) ∷ earlier ≡ newer ++ (y, receipt) ∷ older))
      ⊎ ((IsOpen y_end → ⊥) × (acts_of y since ≡ [])))

  -- the scheduler is fair to y: few timeouts come between a datagram that it handles and the answer
  -- that it sends next
  abbrev pub AnswersPromptly : ℕ → Bool → Endpoint → Type 0
  AnswersPromptly slack y a =
      (later between earlier : List OneAct) (answer bytes : List ℕ)
      → order ≡ later ++ (y, Said a answer) ∷ (between ++ (y, Took a bytes) ∷ earlier)
      → acts_of y between ≡ [] → timeouts between ≤ slack

  -- between x at a and y at b the loss is bounded, both handle what they receive and answer
  -- promptly, and have as many retries as may pass while a datagram goes there, is answered, and
  -- the answer comes back
  pub record IsLossBounded (limit slack : ℕ) (a b : Endpoint) (x y : EndState) : Type 0 where
    pub to_y : ArriveInTime limit true false a b y
    pub to_x : ArriveInTime limit false true b a x
    pub x_handles : HandlesAll (acts_of true order)
    pub y_handles : HandlesAll (acts_of false order)
    pub x_prompt : AnswersPromptly slack true b
    pub y_prompt : AnswersPromptly slack false a
    pub x_retries : 2 * limit + slack ≤ x.role.retries
    pub y_retries : 2 * limit + slack ≤ y.role.retries

-- it timed out, and is not complete
abbrev pub GaveUp : EndState → Type 0
GaveUp e =
    (outcome_of e.position.phase ≡ Some outcomes.TimedOut) × (is_complete e.position.phase ≡ false)

module _ {S K T L : Type 0} (sources : SourceMeaning S) (sinks : SinkMeaning K)
    (inputs : SourceMeaning T) (outputs : SinkMeaning L) where
  -- then none of the two gave up, but if the other is over
  abbrev pub EndsOutlastLoss : Type 0
  EndsOutlastLoss =
      (a b : Endpoint) (x0 x y0 y : EndState) (order : List OneAct) (limit slack : ℕ)
      → Begins x0 → Life sources sinks x0 (acts_of true order) x
      → Begins y0 → Life inputs outputs y0 (acts_of false order) y → AreOpposite a b x y
      → IsLossBounded order limit slack a b x y
      → (GaveUp x → IsOver y) × (GaveUp y → IsOver x)
