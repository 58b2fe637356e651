-- What is printed grows line by line.
use Rattle.std.proofs.Common.{◌≡◌, ◌≢◌, ◌||◌, ◌∙◌, ℕ, Bool, true, false, List, [], ◌∷◌, ◌++◌, refl, sym, ap}
use Rattle.std.proofs.Common.{append_assoc, subst, arith, rules}
use Rattle.std.proofs.lemmas.List.{append-nil}
use Rattle.std.proofs.lemmas.List.Elements.{All-append, All-nil}
use Rattle.std.proofs.lemmas.Grind.{common_steps}
use Rattle.tftp_supervisor.specs.Lines.{HasNoEnd, all_marked, ended, has_any, line_passed, marked, passed, ended_lines}
use Rattle.tftp_supervisor.specs.Lines.{with_first}
use Rattle.tftp_supervisor.specs.Output.{PassesOn, Takes}
use Rattle.tftp_supervisor.specs.Output.Takes.{Begins, Ends}
use Rattle.tftp_supervisor.specs.declared.output.Output.{Output}

-- the text of one more line
text_more : (lines : List (List ℕ)) (line : List ℕ) → ended_lines (lines ++ line ∷ []) ≡ ended_lines lines ++ ended line
text_more [] line = append-nil (ended line)
text_more (first ∷ lines) line =
    ap (λ (t : List ℕ). ended first ++ t) (text_more lines line) ∙ sym (append_assoc (ended first) (ended_lines lines) (ended line))

marked_more : (server : ℕ) (lines : List (List ℕ)) (line : List ℕ)
    → all_marked server (lines ++ line ∷ []) ≡ all_marked server lines ++ marked server line
marked_more server [] line = append-nil (marked server line)
marked_more server (first ∷ lines) line = grind (arith, common_steps, marked_more server lines line)

-- what is printed of one more line
passed_more : (announced : List (List ℕ)) (has_printed : Bool) (server : ℕ) (lines : List (List ℕ)) (line : List ℕ)
    → passed announced has_printed server (lines ++ line ∷ [])
    ≡ passed announced has_printed server lines
    ++ line_passed (with_first announced has_printed lines) (has_printed || has_any lines) server line
passed_more announced has_printed server lines line = grind (arith, common_steps, marked_more, append-nil)

-- the first lines after one more line
first_more : (announced : List (List ℕ)) (has_printed : Bool) (lines : List (List ℕ)) (line : List ℕ)
    → with_first announced has_printed (lines ++ line ∷ [])
    ≡ with_first (with_first announced has_printed lines) (has_printed || has_any lines) (line ∷ [])
first_more announced has_printed lines line = search rules

pub any_more : (has_printed : Bool) (lines : List (List ℕ)) (line : List ℕ)
    → (has_printed || has_any (lines ++ line ∷ [])) ≡ true
any_more true lines line = refl
any_more false [] line = refl
any_more false (first ∷ lines) line = refl

-- no byte was taken
pub passes_none : (announced : List (List ℕ)) (old : Output) (out : List ℕ) → out ≡ [] → HasNoEnd old.begun.items
    → PassesOn announced announced [] old old out
passes_none announced old out none begun = search rules

-- one more byte was taken
pub passes_more : (announced said announces : List (List ℕ)) (bytes : List ℕ) (byte : ℕ) (old middle new : Output)
    (before after : List ℕ) → PassesOn announced said bytes old middle before
    → Takes said announces byte middle new before after
    → PassesOn announced announces (bytes ++ byte ∷ []) old new after
passes_more announced said announces bytes byte old middle new before after passes (Begins other begun printed server same says) =
    search (
      sym (append_assoc old.begun.items bytes (byte ∷ [])) ∙ ap (λ (t : List ℕ). t ++ byte ∷ []) passes.taken ∙ append_assoc (ended_lines passes.lines) middle.begun.items (byte ∷ []) ∙ ap (λ (t : List ℕ). ended_lines passes.lines ++ t) (sym begun),
      subst HasNoEnd (sym begun) (All-append (λ (b : ℕ). b ≢ 10) middle.begun.items (byte ∷ []) passes.begun (grind (
        arith,
        common_steps,
        other,
      ))),
      same ∙ passes.out_is,
      printed ∙ passes.has_printed,
      server ∙ passes.server,
      says ∙ passes.announces_is,
    )
passes_more announced said announces bytes byte old middle new before after passes (Ends is begun printed server grows says) =
    search (
      passes.lines ++ middle.begun.items ∷ [],
      sym (append_assoc old.begun.items bytes (byte ∷ [])) ∙ ap (λ (t : List ℕ). t ++ byte ∷ []) passes.taken ∙ append_assoc (ended_lines passes.lines) middle.begun.items (byte ∷ []) ∙ ap (λ (b : ℕ). ended_lines passes.lines ++ (middle.begun.items ++ b ∷ [])) is ∙ sym (text_more passes.lines middle.begun.items) ∙ sym (append-nil (ended_lines (passes.lines ++ middle.begun.items ∷ []))) ∙ ap (λ (t : List ℕ). ended_lines (passes.lines ++ middle.begun.items ∷ []) ++ t) (sym begun),
      All-append HasNoEnd passes.lines (middle.begun.items ∷ []) passes.whole (grind (
        arith,
        common_steps,
        passes.begun,
      )),
      subst HasNoEnd (sym begun) (All-nil (λ (b : ℕ). b ≢ 10)),
      grows ∙ ap (λ (t : List ℕ). t ++ line_passed said middle.has_printed middle.server middle.begun.items) passes.out_is ∙ ap (λ (p : Bool). passed announced old.has_printed old.server passes.lines ++ line_passed said p middle.server middle.begun.items) passes.has_printed ∙ ap (λ (s : ℕ). passed announced old.has_printed old.server passes.lines ++ line_passed said (old.has_printed || has_any passes.lines) s middle.begun.items) passes.server ∙ ap (λ (first : List (List ℕ)). passed announced old.has_printed old.server passes.lines ++ line_passed first (old.has_printed || has_any passes.lines) old.server middle.begun.items) passes.announces_is ∙ sym (passed_more announced old.has_printed old.server passes.lines middle.begun.items),
      printed ∙ sym (any_more old.has_printed passes.lines middle.begun.items),
      server ∙ passes.server,
      says ∙ ap (λ (p : Bool). with_first said p (middle.begun.items ∷ [])) passes.has_printed ∙ ap (λ (first : List
          (List ℕ)). with_first first (old.has_printed || has_any passes.lines) (middle.begun.items ∷ []))
          passes.announces_is ∙ sym (first_more announced old.has_printed passes.lines middle.begun.items),
    )
