-- The options that a server's end agrees to: its block size, and that its OACK is a packet. For
-- `a_request_opens_an_end` and the crates tftp_player and tftp_promises.
use Rattle.tftp_rules.proofs.Common.{◌≡◌, List, sym, [], ℕ, ◌∷◌, arith, subst, ◌<◌, ◌≤◌, Ok, ◌^◌, common_steps}
use Rattle.tftp_rules.proofs.Common.{AllByRecursion, MAX_BLOCK, Mode, RawOption, size, Kind, Known, Timeout, Tsize}
use Rattle.tftp_rules.proofs.Common.{Name, numbers_are_printed}
use Rattle.tftp_negotiate.specs.declared.limits.Limits.{Limits}
use Rattle.tftp_negotiate.specs.Answer.{answer}
use Rattle.tftp_negotiate.specs.Laws.{HasWord, IsWithinRequest, Requests}
use Rattle.tftp_negotiate.specs.Ranges.{IsBlockSize}
use Rattle.tftp_rules.specs.EndOpens.{AnswersAreGranted}
use Rattle.tftp_negotiate.proofs.LawsLemmas.{answers_within_request, answers_may_be_agreed, agreements_are_short}
use Rattle.tftp_negotiate.proofs.LawsLemmas.{agreements_have_block_sizes}
use Rattle.tftp_negotiate.proofs.SpellingLemmas.{known_are_options}
use Rattle.tftp_negotiate.specs.declared.known.Kind.TheVariants as kinds
use Rattle.tftp_negotiate.specs.declared.known.Known.TheVariants as known

-- the number of a requested option fits 64 bits
word_of : (options : List RawOption) (name : Name) (n : ℕ) → Requests options name n → n < 2 ^ 64
word_of options name n r = ((numbers_are_printed r.0.value n).0 r.3).1

module _ (options : List RawOption) (kind : Kind) (file_length : ℕ) (limits : Limits) (fits : file_length < 2 ^ 64)
    (max : IsBlockSize limits.max_block) where
  has_length : (k : Kind) (n : ℕ) → IsWithinRequest options k file_length limits (known.Tsize n) → n < 2 ^ 64
  has_length kinds.Read n h = subst (λ (m : ℕ). m < 2 ^ 64) (sym h.1) fits
  has_length kinds.Write n h = word_of options Tsize n h.0

  -- and so does that of its answer
  has_word : (k : Known) → IsWithinRequest options kind file_length limits k → HasWord k
  has_word (known.Blksize n) h = let a = h.0 in let b = max.1 in let l : n < 2 ^ 64 = omega (arith, a, b) in l
  has_word (known.Timeout n) h = word_of options Timeout n h
  has_word (known.Tsize n) h = has_length kind n h

  have_words : (ks : List Known) → AllByRecursion (IsWithinRequest options kind file_length limits) ks →
      AllByRecursion HasWord ks
  have_words [] h = tt
  have_words (k ∷ ks) h = (has_word k h.0, have_words ks h.1)

-- a server may agree to what it answers
pub answer_granted : AnswersAreGranted
answer_granted options kind mode file_length limits agreed fits max e =
    let agreement = answers_may_be_agreed options kind mode file_length limits agreed max e in
    let range = agreements_have_block_sizes agreed agreement in
    let words =
    have_words options kind file_length limits fits max agreed (answers_within_request options kind mode file_length
    limits agreed e) in
    let spelled = known_are_options agreed words in
    let three = agreements_are_short agreed agreement in
    grind (arith, common_steps)

-- its block size does not depend on the length of the file
pub answer_small :
    (options : List RawOption) (kind : Kind) (mode : Mode) (file_length : ℕ) (limits : Limits) (agreed : List Known) →
    IsBlockSize limits.max_block →
    answer options kind mode file_length limits ≡ Ok agreed → size agreed ≤ MAX_BLOCK
answer_small options kind mode file_length limits agreed max e =
    (agreements_have_block_sizes agreed (answers_may_be_agreed options kind mode file_length limits agreed max e)).1
