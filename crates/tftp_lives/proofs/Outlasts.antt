-- An end outlasts a loss that is bounded. For the law an_end_outlasts_loss.
use Rattle.tftp_lives.proofs.Common.{List, ◌≡◌, ℕ, true, None, inl, false, ◌∷◌, refl, inr, sym, ap, arith, ◌∙◌, ◌≤◌}
use Rattle.tftp_lives.proofs.Common.{Bool, [], ◌+◌, ◌<◌, ◌++◌, ◌*◌, true≢false, ◌⊎◌, is_some, Spells, canonical, Packet}
use Rattle.tftp_lives.proofs.Common.{SinkMeaning, SourceMeaning, EndState, is_sender, IsOpen, Endpoint, Act, Took}
use Rattle.tftp_lives.proofs.Common.{newest, Said, Has, IsNext, next_of, Life, timed, IsOver, AreOpposite, Awaits}
use Rattle.tftp_lives.proofs.Common.{HasSaid, Begins, rules, GaveUp, HandlesAll, OneAct, acts_of, timeouts}
use Rattle.tftp_lives.proofs.Common.{IsUnanswered}
use Rattle.std.proofs.lemmas.Grind.{common_steps}
use Rattle.std.proofs.Common.{append_assoc, arith as std_arith}
use Rattle.tftp_lives.specs.Outlasting.{AnswersPromptly, ArriveInTime, EndsOutlastLoss}
use Rattle.tftp_lives.proofs.Answering.{ends_answer}
use Rattle.tftp_lives.proofs.Unanswered.{give_up_unanswered}
use Rattle.tftp_lives.proofs.LivesStand.{life_stands}
use Rattle.tftp_lives.proofs.OpenEnds.{GoesOn, flipped, gave_up_only, how_it_is}
use Rattle.tftp_lives.proofs.OneOrder.{acts_there, has_there, last_of, owns, owns_append, placed, split_at, timed_few}
use Rattle.tftp_lives.proofs.OneOrder.{took_it}

-- ---- the two ends
-- an end that has closed did something in each part of the order that is its newest
abbrev IsStill : List OneAct → Bool → EndState → Type 0
IsStill order it e =
    (since rest : List OneAct) → order ≡ since ++ rest → 0 < timeouts since → (IsOpen e → ⊥) →
    acts_of it since ≡ [] → ⊥

module _ (me it : Bool) (a b : Endpoint) (x y : EndState) (order : List OneAct) (limit slack : ℕ)
    (enough : 2 * limit + slack ≤ x.role.retries) (there : ArriveInTime order limit me it a b y)
    (back : ArriveInTime order limit it me b a x) (promptly : AnswersPromptly order slack it a)
    (handles : HandlesAll (acts_of me order)) (its : HandlesAll (acts_of it order)) (going : IsOver y → ⊥)
    (still : IsStill order it y)
    (answers : (packet : Packet) (bytes : List ℕ) → HasSaid x packet → Spells packet bytes →
    (later earlier : List Act) → acts_of it order ≡ later ++ Took a bytes ∷ earlier →
    IsOver y ⊎ ((answer : Packet) × Awaits x answer × Spells answer (canonical answer)
    × (Has (Said a (canonical answer)) earlier ⊎ IsNext (next_of None later) (Said a (canonical answer)))))
    (g : IsUnanswered a b x (acts_of me order) y (acts_of it order)) where
  -- an answer that was sent so long before was handled
  comes_back : (answer : Packet) → Awaits x answer → Spells answer (canonical answer) →
      (later earlier : List OneAct) → order ≡ later ++ (it, Said a (canonical answer)) ∷ earlier →
      limit < owns me later → ⊥
  comes_back answer awaits readable later earlier e long =
      let bytes = canonical answer in
      let few = timed_few me later in
      let h = back later earlier bytes e (omega (arith, long, few)) in
      elim h.4 [
        | inl took ↦
            let got : order ≡ (h.0 ++ took.0) ++ (me, took.1) ∷ took.2 =
            grind (std_arith, common_steps) in
            let all : order ≡ (h.0 ++ took.0) ++ (me, Took b bytes) ∷ took.2 =
            got ∙ ap (λ (act : Act). (h.0 ++ took.0) ++ (me, act) ∷ took.2) (took_it me b bytes order (h.0 ++ took.0)
            took.2 took.1 took.3 handles got) in
            g.unheard answer bytes awaits readable (has_there (acts_of me (h.0 ++ took.0)) (Took b bytes) (acts_of me
            took.2) (acts_of me order) (acts_there me (h.0 ++ took.0) (Took b bytes) took.2 order all))
        | inr closed ↦
            let parts = ap (owns me) h.2 ∙ owns_append me h.0 h.1 in
            let none : owns me h.0 ≡ 0 = ap timed closed.1 in
            let less = h.3 in
            let part = timed_few me h.1 in
            omega (arith, long, parts, none, less, part)
      ]

  -- y handled the newest datagram of x, so many timeouts ago
  module _ (packet : Packet) (said : HasSaid x packet) (bytes : List ℕ) (spelled : Spells packet bytes)
      (since newer older : List OneAct) (e : order ≡ (since ++ newer) ++ (it, Took a bytes) ∷ older)
      (long : limit + slack < owns me since) where
    -- the answer was sent before that
    sent_before : (answer : Packet) → Awaits x answer → Spells answer (canonical answer) →
        Has (Said a (canonical answer)) (acts_of it older) → ⊥
    sent_before answer awaits readable h =
        let s = split_at (Said a (canonical answer)) (acts_of it older) h in
        let p = placed it older s.0 (Said a (canonical answer)) s.1 s.2 in
        let later = (since ++ newer) ++ (it, Took a bytes) ∷ p.newer in
        let count = owns_append me (since ++ newer) ((it, Took a bytes) ∷ p.newer) in
        let part = owns_append me since newer in
        comes_back answer awaits readable later p.older
        (e ∙ (ap (λ (zs : List OneAct). (since ++ newer) ++ (it, Took a bytes) ∷ zs) p.is
        ∙ sym (append_assoc (since ++ newer) ((it, Took a bytes) ∷ p.newer)
        ((it, Said a (canonical answer)) ∷ p.older)))) (omega (arith, long, count, part))

    -- or next
    sent_next : (answer : Packet) → Awaits x answer → Spells answer (canonical answer) →
        IsNext (next_of None (acts_of it (since ++ newer))) (Said a (canonical answer)) → ⊥
    sent_next answer awaits readable h =
        let act = Said a (canonical answer) in
        let l = last_of (acts_of it (since ++ newer)) act h in
        let p = placed it (since ++ newer) l.0 act [] l.1 in
        let all =
        e ∙ (ap (λ (zs : List OneAct). zs ++ (it, Took a bytes) ∷ older) p.is ∙ append_assoc p.newer ((it, act) ∷
        p.older) ((it, Took a bytes) ∷ older)) in
        let few = promptly p.newer p.older older (canonical answer) bytes all p.earlier_is in
        let fewer = timed_few me p.older in
        let part = owns_append me since newer in
        let whole = ap (owns me) p.is ∙ owns_append me p.newer ((it, act) ∷ p.older) in
        let said_none = owns_said me it a (canonical answer) p.older in
        comes_back answer awaits readable p.newer (p.older ++ (it, Took a bytes) ∷ older) all (omega (
          arith,
          long,
          few,
          fewer,
          part,
          whole,
          said_none,
        ))
      where
        -- what is sent is no timeout
        owns_said : (first other : Bool) (to : Endpoint) (content : List ℕ) (acts : List OneAct) →
            owns first ((other, Said to content) ∷ acts) ≡ owns first acts
        owns_said true true to content acts = refl
        owns_said true false to content acts = refl
        owns_said false true to content acts = refl
        owns_said false false to content acts = refl

    handled : ⊥
    handled =
        elim
        (answers packet bytes said spelled (acts_of it (since ++ newer)) (acts_of it older)
        (acts_there it (since ++ newer) (Took a bytes) older order e)) [
          | inl over ↦ going over
          | inr h ↦ elim h.3 [
            | inl before ↦ sent_before h.0 h.1 h.2 before
            | inr next ↦ sent_next h.0 h.1 h.2 next
          ]
        ]

  outlasts : ⊥
  outlasts =
      let bytes = x.position.last_sent in
      let tried = g.tried in
      let to_b : newest x ≡ Said b bytes = ap (λ (p : Endpoint). Said p bytes) g.to_peer in
      let p =
      placed me order tried.later (Said b bytes) tried.earlier (tried.is ∙ ap (λ (z : Act). tried.later ++ z ∷
      tried.earlier) to_b) in
      let many = tried.timeouts in
      let few = timed_few me p.newer in
      let same = ap timed p.later_is in
      let h = there p.newer p.older bytes p.is (omega (arith, many, few, same, enough)) in
      let parts = ap (owns me) h.2 ∙ owns_append me h.0 h.1 in
      let less = h.3 in
      let part = timed_few me h.1 in
      let first = timed_few me h.0 in
      elim h.4 [
        | inl took ↦
            let got : order ≡ (h.0 ++ took.0) ++ (it, took.1) ∷ took.2 =
            grind (std_arith, common_steps) in
            let all : order ≡ (h.0 ++ took.0) ++ (it, Took a bytes) ∷ took.2 =
            got ∙ ap (λ (act : Act). (h.0 ++ took.0) ++ (it, act) ∷ took.2) (took_it it a bytes order (h.0 ++ took.0)
            took.2 took.1 took.3 its got) in
            let packet = g.said in
            handled packet.0 packet.1 bytes packet.3 h.0 took.0 took.2 all (omega (
              arith,
              many,
              same,
              enough,
              parts,
              less,
              part,
            ))
        | inr closed ↦
            still h.0 (h.1 ++ (me, Said b bytes) ∷ p.older) (p.is ∙ (ap (λ (zs : List OneAct). zs ++ (me, Said b bytes)
            ∷ p.older) h.2 ∙ append_assoc h.0 h.1 ((me, Said b bytes) ∷ p.older))) (omega (
              arith,
              many,
              same,
              enough,
              parts,
              less,
              part,
              first,
            )) closed.0 closed.1
      ]

-- an end that did the last act is there until the end of the order
does_last : (it : Bool) (act : Act) (order since rest : List OneAct) → (it, act) ∷ order ≡ since ++ rest →
    0 < timeouts since → acts_of it since ≡ [] → ⊥
does_last it act order [] rest e some none = omega (arith, some)
does_last it act order (s ∷ since) rest e some none = search rules

has_acts : {S K : Type 0} {sources : SourceMeaning S} {sinks : SinkMeaning K} {first e : EndState} {acts : List Act} →
    Life sources sinks first acts e → acts ≡ [] → ⊥
has_acts h0 none = search rules

abbrev IsOneOf : Bool → Bool → Type 0
IsOneOf me it = (b : Bool) → (b ≡ me) ⊎ (b ≡ it)

module _ {S K T L : Type 0} (sources : SourceMeaning S) (sinks : SinkMeaning K) (inputs : SourceMeaning T)
    (outputs : SinkMeaning L) where
  -- by the outcome of the peer, and by which of the two did the last act
  outlasts_it : (me it : Bool) → IsOneOf me it → (a b : Endpoint) (x0 x y0 y : EndState) (order : List OneAct)
      (limit slack : ℕ) → Begins x0 → Life sources sinks x0 (acts_of me order) x → Begins y0 →
      Life inputs outputs y0 (acts_of it order) y → AreOpposite a b x y → 2 * limit + slack ≤ x.role.retries →
      2 * limit + slack ≤ y.role.retries → ArriveInTime order limit me it a b y → ArriveInTime order limit it me b a x →
      AnswersPromptly order slack it a → AnswersPromptly order slack me b → HandlesAll (acts_of me order) →
      HandlesAll (acts_of it order) → GaveUp x → IsOver y
  outlasts_it me it one a b x0 x y0 y order limit slack x_begins x_life y_begins y_life opposite enough also there back
      promptly promptly' handles its gave =
      elim (how_it_is (acts_of it order) y (life_stands inputs outputs y_begins y_life)) [
        | inl over ↦ over
        | inr other ↦ elim other [
          | inl on ↦ absurd (by_x (open_only on) (λ since rest e some closed none. closed on.0))
          | inr gave' ↦ absurd (by_last gave' order refl)
        ]
      ]
    where
      open_only : GoesOn y → IsOver y → ⊥
      open_only on (inl complete) = true≢false (sym complete ∙ on.1)
      open_only on (inr closed) = true≢false (ap is_some (sym closed.1) ∙ on.0)

      -- what x knows, if y is still there
      by_x : (IsOver y → ⊥) → IsStill order it y → ⊥
      by_x going still =
          outlasts me it a b x y order limit slack enough there back promptly handles its going still
          (ends_answer inputs outputs a b x y0 y (acts_of it order) y_begins y_life opposite).1
          (give_up_unanswered sources sinks inputs outputs a b x0 x (acts_of me order) y0 y (acts_of it order) x_begins
          x_life y_begins y_life opposite gave.0 gave.1)

      -- what y knows, if x is
      turned : AreOpposite b a y x
      turned = search (flipped (is_sender y.role.side) (is_sender x.role.side) opposite.sides)

      by_y : GaveUp y → IsStill order me x → ⊥
      by_y gave' still =
          outlasts it me b a y x order limit slack also back there promptly' its handles (gave_up_only x gave) still
          (ends_answer sources sinks b a y x0 x (acts_of me order) x_begins x_life turned).1
          (give_up_unanswered inputs outputs sources sinks b a y0 y (acts_of it order) x0 x (acts_of me order) y_begins
          y_life x_begins x_life turned gave'.0 gave'.1)

      last_is : (who mine : Bool) (act : Act) (all : List OneAct) → who ≡ mine → order ≡ (who, act) ∷ all →
          order ≡ (mine, act) ∷ all
      last_is who mine act all same e = e ∙ ap (λ (w : Bool). (w, act) ∷ all) same

      by_last : GaveUp y → (all : List OneAct) → order ≡ all → ⊥
      by_last gave' [] e = has_acts x_life (ap (acts_of me) e)
      by_last gave' ((who, act) ∷ all) e = elim (one who) [
        | inl mine ↦
            by_y gave'
            (λ since rest h some closed none.
            does_last me act all since rest (sym (last_is who me act all mine e) ∙ h) some none)
        | inr its ↦
            by_x (gave_up_only y gave')
            (λ since rest h some closed none.
            does_last it act all since rest (sym (last_is who it act all its e) ∙ h) some none)
      ]

one_way : IsOneOf true false
one_way true = inl refl
one_way false = inr refl

other_way : IsOneOf false true
other_way true = inr refl
other_way false = inl refl

pub ends_outlast_loss : {S K T L : Type 0} (sources : SourceMeaning S) (sinks : SinkMeaning K)
    (inputs : SourceMeaning T) (outputs : SinkMeaning L) → EndsOutlastLoss sources sinks inputs outputs
ends_outlast_loss sources sinks inputs outputs a b x0 x y0 y order limit slack x_begins x_life y_begins y_life opposite bounded =
    search (rules, outlasts_it, true, false, one_way, other_way, flipped, is_sender)
