-- A run and a pair are decoded, or the text ends, or a byte is wrong.
use Rattle.std.proofs.Common.{rules, ◌≡◌, ◌++◌, ◌∷◌, [], ℕ, List, length, ap, ◌∙◌, inl, inr, refl, true, false}
use Rattle.std.proofs.lemmas.Result.{err_from_is_err_and}
use Rattle.std.proofs.lemmas.List.{nil_from_length}
use Rattle.tftp_file.specs.Netascii.{netascii_text}
use Rattle.tftp_file.proofs.DecodingLemmas.{pair_taken, run_taken, wrong_taken}
use Rattle.tftp_file.proofs.netascii.check.Goals as goal

pub loop-remaining-preserved : goal.loop-remaining-preserved
loop-remaining-preserved c =
    let i = c.loop-remaining.invariant in
    let pair = rw c.in-Some.is at c.in_ok-remaining.ensures.ok in (
      i.0 ++ (c.split_run.result.0.now ++ c.in-Some.field-0-0 ∷ []),
      pair_taken c.args.text.now c.loop-remaining.left.now c.split_run.result.0.now c.split_run.result.1.now
          c.in-Some.remaining.now i.0 c.in-Some.field-0-0 i.1 c.split_run.ensures.parts c.split_run.ensures.unescaped
          pair.0,
    )

pub returns-in_err-remaining-clause-wrong : goal.returns-in_err-remaining-clause-wrong
returns-in_err-remaining-clause-wrong c =
    let i = c.loop-remaining.invariant in
    let p = err_from_is_err_and c.from_residual.result c.from_residual.ensures.1 in
    rw (p.1, p.2)
    (wrong_taken c.args.text.now c.loop-remaining.left.now c.split_run.result.0.now c.split_run.result.1.now i.0
    c.in_err-remaining.field-0.0 i.1 c.split_run.ensures.parts c.split_run.ensures.unescaped
    c.in_err-remaining.ensures.wrong)

pub returns-in-None-clause-ok : goal.returns-in-None-clause-ok
returns-in-None-clause-ok c =
    let i = c.loop-remaining.invariant in
    let z : length c.split_run.result.1.now ≡ 0 = search (rules, c.if-is_empty.true, c.is_empty.ensures) in (
      i.0 ++ c.split_run.result.0.now,
      (
        inl refl,
        run_taken c.args.text.now c.loop-remaining.left.now c.split_run.result.0.now c.split_run.result.1.now i.0 i.1
            c.split_run.ensures.parts c.split_run.ensures.unescaped
            ∙ ap (λ (t : List ℕ). netascii_text (i.0 ++ c.split_run.result.0.now) ++ t)
            (nil_from_length c.split_run.result.1.now z),
      ),
    )

pub returns-in-None-2-clause-ok : goal.returns-in-None-2-clause-ok
returns-in-None-2-clause-ok c =
    let i = c.loop-remaining.invariant in
    let held = rw c.in-None-2.is at c.in_ok-remaining.ensures.ok in
    elim held [
      | inl e ↦
          absurd (let f : false ≡ true = search rules in
          cc)
      | inr e ↦ (
        i.0 ++ c.split_run.result.0.now,
        (
          inr refl,
          run_taken c.args.text.now c.loop-remaining.left.now c.split_run.result.0.now c.split_run.result.1.now i.0 i.1
              c.split_run.ensures.parts c.split_run.ensures.unescaped ∙ ap (λ (t : List ℕ). netascii_text (i.0 ++
              c.split_run.result.0.now) ++ t) e,
        ),
      )
    ]
