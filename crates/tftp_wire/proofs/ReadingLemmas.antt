-- The first fault of a datagram, text by text. For five functions and SpellingLemmas.
use Rattle.std.proofs.Common.{ℕ, ◌≡◌, ◌≢◌, ◌+◌, ◌-◌, ◌≤◌, Bool, true, false, cond, ⊎_elim, refl, ap, sym, ◌∙◌}
use Rattle.std.proofs.Common.{arith, List, [], ◌∷◌, ◌++◌, length, drop, Option, Some, None, rules}
use Rattle.std.specs.List.{AllByRecursion, flat_map}
use Rattle.std.proofs.lemmas.Bool.{le-ltb, ltb-false}
use Rattle.std.proofs.lemmas.Bool.Decides.{eqb_tells}
use Rattle.std.proofs.lemmas.List.{append-nil, append_assoc, length-append}
use Rattle.tftp_wire.specs.declared.fault.PacketFault.{PacketFault}
use Rattle.tftp_wire.specs.declared.fault.PacketFaultKind.TheVariants.{Trailing}
use Rattle.tftp_wire.specs.declared.limits.TheConstants.{MAX_REQUEST}
use Rattle.tftp_wire.specs.declared.options.RawOption.{RawOption}
use Rattle.tftp_wire.specs.declared.mode.Mode.{Mode}
use Rattle.tftp_wire.specs.Texts.{IsText, zero_ended, texts, with_first, unended, unended_with}
use Rattle.tftp_wire.specs.Options.{IsOption, options_bytes, paired, options_in, AreOptions}
use Rattle.tftp_wire.specs.Reading.{options_fault, mode_in, request_fault, message_fault, number_fault, error_fault}
use Rattle.tftp_wire.specs.Parts.{bytes_fault, request_of, BeginsWith}
use Rattle.tftp_wire.proofs.TextsLemmas.{texts_first, unended_rest}

-- the two parts at the first zero byte
pub text_split : (bytes text rest : List ℕ) → IsText text → bytes ≡ zero_ended text ++ rest → BeginsWith bytes text rest
text_split bytes text rest t h = search (rules, texts_first, unended_rest, length-append)

-- an option with a name
pub named_option : (at : ℕ) (name value : List ℕ) (others : List (List ℕ)) (rest : List ℕ) → length name ≢ 0
    → options_fault at (name ∷ value ∷ others) rest
    ≡ options_fault (at + (length name + 1) + (length value + 1)) others rest
named_option at [] value others rest h = absurd (h refl)
named_option at (c ∷ name) value others rest h = refl

-- past an option the first fault is that of the rest
pub option_skipped : (at : ℕ) (bytes name after value rest : List ℕ) → BeginsWith bytes name after → length name ≢ 0
    → BeginsWith after value rest → bytes_fault at bytes ≡ bytes_fault (at + (length bytes - length rest)) rest
option_skipped at bytes name after value rest n h v =
    let offset : at + (length name + 1) + (length value + 1) ≡ at + (length bytes - length rest) =
    omega (arith, n.2, v.2) in
    rw (n.0, n.1, v.0, v.1)
    (named_option at name value (texts rest) (unended rest) h
    ∙ ap (λ k. options_fault k (texts rest) (unended rest)) offset)

-- past the mode of a request the first fault is that of its options
pub request_skipped : (bytes name after word rest : List ℕ) (mode : Mode) → 2 ≤ length bytes
    → length bytes ≤ MAX_REQUEST → length (drop 2 bytes) ≡ length bytes - 2 → BeginsWith (drop 2 bytes) name after
    → length name ≢ 0 → BeginsWith after word rest → mode_in word ≡ Some mode
    → request_fault bytes ≡ bytes_fault (length bytes - length rest) rest
request_skipped bytes name after word rest mode least most shorter n h w m = search rules

-- the request of a file name, a mode and options
pub request_parts : (bytes name after word rest : List ℕ) (mode : Mode) (options : List RawOption)
    → BeginsWith bytes name after → BeginsWith after word rest → mode_in word ≡ Some mode → options ≡ options_in rest
    → record { name = name; mode = mode; options = options } ≡ request_of (texts bytes)
request_parts bytes name after word rest mode options n w m o = rw (n.0, w.0, m, o) refl

-- ---- the texts of bytes, joined

first_joined : (b : ℕ) (ts : List (List ℕ)) (u : List ℕ)
    → flat_map zero_ended (with_first b ts) ++ unended_with b u ts ≡ b ∷ (flat_map zero_ended ts ++ u)
first_joined b [] u = refl
first_joined b (t ∷ ts) u = refl

-- the texts, each with its zero byte, and the bytes that no zero byte ends are all of the bytes
pub texts_joined : (bs : List ℕ) → flat_map zero_ended (texts bs) ++ unended bs ≡ bs
texts_joined [] = refl
texts_joined (b ∷ bs) = search (rules, first_joined, eqb_tells, texts_joined bs)

first_texts : (b : ℕ) (ts : List (List ℕ)) → b ≢ 0 → AllByRecursion IsText ts → AllByRecursion IsText (with_first b ts)
first_texts b [] n h = tt
first_texts b (t ∷ ts) n h = ((n, h.0), h.1)

-- no text contains a zero byte
pub texts_each : (bs : List ℕ) → AllByRecursion IsText (texts bs)
texts_each [] = tt
texts_each (b ∷ bs) = ⊎_elim
    (λ q. rw q.0 (tt, texts_each bs))
    (λ q. rw q.0 (first_texts b (texts bs) q.1 (texts_each bs)))
    (eqb_tells b 0)

-- ---- options without a fault

cons_named : (c : ℕ) (name : List ℕ) → (c ∷ name) ≢ []
cons_named c name h = cc

-- they are options, and nothing else
pub options_whole : (at : ℕ) (ts : List (List ℕ)) (u : List ℕ) → AllByRecursion IsText ts → options_fault at ts u ≡ None
    → (u ≡ []) × (options_bytes (paired ts) ≡ flat_map zero_ended ts) × AllByRecursion IsOption (paired ts)
options_whole at [] [] t h = (refl, refl, tt)
options_whole at [] (b ∷ u) t h = cc
options_whole at ([] ∷ ts) u t h = cc
options_whole at ((c ∷ name) ∷ []) [] t h = cc
options_whole at ((c ∷ name) ∷ []) (b ∷ u) t h = cc
options_whole at ((c ∷ name) ∷ value ∷ ts) u t h =
    let r = options_whole (at + (length (c ∷ name) + 1) + (length value + 1)) ts u t.1.1 h in (
      r.0,
      append_assoc (zero_ended (c ∷ name)) (zero_ended value) (options_bytes (paired ts))
          ∙ ap (λ more. zero_ended (c ∷ name) ++ (zero_ended value ++ more)) r.1,
      (record { named = cons_named c name; name = t.0; value = t.1.0 }, r.2),
    )

-- bytes without a fault are options
pub options_fine : (at : ℕ) (bytes : List ℕ) → bytes_fault at bytes ≡ None → AreOptions bytes
options_fine at bytes h =
    let r = options_whole at (texts bytes) (unended bytes) (texts_each bytes) h in
    search (r.1 ∙ sym (append-nil _) ∙ ap (λ u. flat_map zero_ended (texts bytes) ++ u) (sym r.0) ∙ texts_joined bytes)

-- no bytes, no fault
pub nothing_left : (at : ℕ) (bytes : List ℕ) → length bytes ≡ 0 → bytes_fault at bytes ≡ None
nothing_left at [] h = refl
nothing_left at (b ∷ bytes) h = absurd (omega arith)

-- ---- the cases that a test excludes

-- where a test gives no fault it is false, and what follows gives none
pub guard_none : (b : Bool) (e : PacketFault) (y : Option PacketFault) → cond b (Some e) y ≡ None
    → (b ≡ false) × (y ≡ None)
guard_none true e y h = cc
guard_none false e y h = (refl, h)

text_left : (text : List ℕ) (ts : List (List ℕ)) (u rest : List ℕ) → flat_map zero_ended ts ++ u ≡ rest
    → length rest ≢ 0 → message_fault (text ∷ ts) u ≡ Some (record { kind = Trailing; at = 4 + (length text + 1) })
text_left text ts u rest e h = search rules

-- bytes after the text of an ERROR
pub error_trailing : (bytes text rest : List ℕ) → length bytes ≤ MAX_REQUEST → number_fault bytes ≡ None
    → length (drop 4 bytes) ≡ length bytes - 4 → BeginsWith (drop 4 bytes) text rest → length rest ≢ 0
    → error_fault bytes ≡ Some (record { kind = Trailing; at = length bytes - length rest })
error_trailing bytes text rest most number shorter t left =
    search (rules, guard_none, ltb-false, le-ltb, text_left, texts_joined)
