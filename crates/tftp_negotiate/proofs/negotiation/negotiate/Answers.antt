-- One more option keeps the invariant, and a repeated name decides.
use Rattle.std.proofs.Common.{◌≡◌, ◌∷◌, [], Ok, map, false, true, refl, sym, ◌∙◌, ap}
use Rattle.std.proofs.lemmas.Iterator.{YieldsList}
use Rattle.std.proofs.lemmas.Iterator.Consumers.{YieldsList-at, YieldsList-turn, YieldsList-so_far, YieldsList-end}
use Rattle.std.proofs.lemmas.List.{map-append}
use Rattle.tftp_wire.specs.Borrowed.{owned_option}
use Rattle.tftp_negotiate.specs.Names.{has_name, with_name}
use Rattle.tftp_negotiate.specs.Negotiation.{kept_after, negotiated}
use Rattle.tftp_negotiate.specs.Options.{name_of}
use Rattle.tftp_negotiate.specs.Policy.{judged}
use Rattle.tftp_negotiate.proofs.NegotiationLemmas.{Reads-none, Reads-more, Reads-all, Reads-again, Reads-rule, was_new}
use Rattle.tftp_negotiate.proofs.NegotiationLemmas.{was_there, up_to}
use Rattle.tftp_negotiate.proofs.PolicyLemmas.{judged-Keeps}
use Rattle.tftp_negotiate.proofs.negotiation.negotiate.Goals as goal

pub loop-option-init : goal.loop-option-init
loop-option-init g c = Reads-none (judged c.args.policy.now) _ _ c.new-seen.ensures.none (ap Ok c.new.ensures)

pub kept_after-outcome-requires : goal.kept_after-outcome-requires
kept_after-outcome-requires g c =
    let seen = c.loop-option.seen in
    let option = owned_option c.in-Some.option in
    let fresh : has_name seen (name_of option.name) ≡ false =
    ap (has_name seen) (sym c.of.ensures) ∙ was_new _ _ c.insert.ensures.new c.if-not-insert.false in
    Reads-rule _ (judged-Keeps _ c.requires.sound) _ _ _ (Reads-more _ _ _ _ _ _ _ c.loop-option.invariant fresh refl
    (ap (kept_after c.loop-option.outcome) c.judge.ensures))

pub loop-option-preserved : goal.loop-option-preserved
loop-option-preserved g c =
    let seen = c.loop-option.seen in
    let option = owned_option c.in-Some.option in
    let fresh : has_name seen (name_of option.name) ≡ false =
    ap (has_name seen) (sym c.of.ensures) ∙ was_new _ _ c.insert.ensures.new c.if-not-insert.false in
    rw ((map-append owned_option c.loop-option.yielded (c.in-Some.option ∷ []))) (Reads-more (judged c.args.policy.now)
    _ seen c.loop-option.outcome option c.insert.new.self c.kept_after-outcome.result c.loop-option.invariant fresh
    (c.insert.ensures.added ∙ ap (with_name seen) c.of.ensures) (c.kept_after-outcome.ensures ∙ ap (kept_after
    c.loop-option.outcome) c.judge.ensures))

pub returns-clause-agreed : goal.returns-clause-agreed
returns-clause-agreed g c = λ os runs.
    let given : YieldsList g.I.Iterator.next_gives owned_option c.args.options os = record { runs = runs } in
    let yields =
    YieldsList-at {steps = g.I.Iterator.next_gives} c.into_iter-option-iterator.ensures.into_iter_gives given in
    let whole =
    YieldsList-end {steps = g.I.Iterator.next_gives} yields c.loop-option.yielded c.loop-option.option-iterator
    c.loop-option.yielded_by c.next.result c.next.new.self c.in-None.is c.next.ensures.steps in
    Reads-all _ _ _ _ c.loop-option.invariant ∙ ap (negotiated (judged c.args.policy.now)) whole.0

pub returns-clause-rule : goal.returns-clause-rule
returns-clause-rule g c = Reads-rule _ (judged-Keeps _ c.requires.sound) _ _ _ c.loop-option.invariant

pub returns-then-not-insert-clause-agreed : goal.returns-then-not-insert-clause-agreed
returns-then-not-insert-clause-agreed g c = λ os runs.
    let seen = c.loop-option.seen in
    let option = owned_option c.in-Some.option in
    let front = map owned_option c.loop-option.yielded in
    let given : YieldsList g.I.Iterator.next_gives owned_option c.args.options os = record { runs = runs } in
    let yields =
    YieldsList-at {steps = g.I.Iterator.next_gives} c.into_iter-option-iterator.ensures.into_iter_gives given in
    let begins =
    YieldsList-so_far {steps =
    g.I.Iterator.next_gives} yields c.loop-option.yielded c.loop-option.option-iterator c.loop-option.yielded_by in
    let turn =
    YieldsList-turn {steps =
    g.I.Iterator.next_gives} yields c.loop-option.yielded c.loop-option.option-iterator c.loop-option.yielded_by
    c.next.result c.next.new.self c.in-Some.option c.in-Some.is c.next.ensures.steps in
    let old : has_name seen (name_of option.name) ≡ true =
    ap (has_name seen) (sym c.of.ensures) ∙ was_there _ _ c.insert.ensures.new c.if-not-insert.true in
    sym (ap (negotiated (judged c.args.policy.now)) (up_to _ _ _ _ begins turn.0 turn.1) ∙ Reads-again _ _ _ _ _ _
    c.loop-option.invariant old)
