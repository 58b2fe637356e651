-- Two words draw an event, and none is drawn if no end was opened.
use Rattle.tftp_player.proofs.Common.{common_steps, ℕ, ◌≡◌, ◌≤◌, length, ap, ◌∙◌, arith, rules, ◌%◌, Lcg, drawn}
use Rattle.rand_pcg.specs.Pcg.{pcg32}
use Rattle.tftp_player.proofs.SentLemmas.{draws_none, draws_timeout, no_words}
use Rattle.tftp_player.proofs.random.draw.Goals as goal

pub returns-then-is_empty-clause-event : goal.returns-then-is_empty-clause-event
returns-then-is_empty-clause-event c = grind (arith, common_steps, draws_none)

pub returns-then-is_empty-clause-words : goal.returns-then-is_empty-clause-words
returns-then-is_empty-clause-words c = search (rules, no_words)

pub returns-clause-event : goal.returns-clause-event
returns-clause-event c =
    let g = c.args.rng.now in
    let w = c.args.world.now.state in
    let high : 6 ≤ c.next_word-kind.result % 8 = omega arith in
    let some : length c.records-records.result.now ≡ 0 → ⊥ = λ e. search rules in
    let kind : c.next_word-kind.result ≡ (pcg32 g).0 = ap (λ (p : ℕ × Lcg). p.0) c.next_word-kind.ensures in
    let index : c.next_word-index.result ≡ (pcg32 (pcg32 g).1).0 =
    ap (λ (p : ℕ × Lcg). p.0) c.next_word-index.ensures
    ∙ ap (λ (p : ℕ × Lcg). (pcg32 p.1).0) c.next_word-kind.ensures in
    draws_timeout w c.next_word-kind.result c.next_word-index.result c.records-records.result.now _
    c.records-records.ensures.records some high
    ∙ (ap (λ (n : ℕ). drawn w n c.next_word-index.result) kind ∙ ap (λ (n : ℕ). drawn w (pcg32 g).0 n) index)

pub returns-then-kind-lt6-clause-event : goal.returns-then-kind-lt6-clause-event
returns-then-kind-lt6-clause-event c = grind (arith, common_steps)

pub returns-then-kind-lt6-clause-words : goal.returns-then-kind-lt6-clause-words
returns-then-kind-lt6-clause-words c = grind (arith, common_steps)

pub returns-clause-words : goal.returns-clause-words
returns-clause-words c = grind (arith, common_steps)
