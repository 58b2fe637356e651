-- The results of either side for an option. For `negotiate` and LawsLemmas.
use Rattle.std.proofs.Common.{◌≡◌, ℕ, Bool, true, false, cond, Ok, Err, refl, arith, rules}
use Rattle.std.proofs.lemmas.Bool.Decides.{nat_tests}
use Rattle.tftp_wire.specs.declared.mode.Mode.{Mode}
use Rattle.tftp_negotiate.specs.declared.asked.Asked.{Asked}
use Rattle.tftp_negotiate.specs.declared.known.Kind.{Kind}
use Rattle.tftp_negotiate.specs.declared.limits.Limits.{Limits}
use Rattle.tftp_negotiate.specs.declared.policy.Policy.{Policy}
use Rattle.tftp_negotiate.specs.Ranges.{IsBlockSize, is_in, block_sizes}
use Rattle.tftp_negotiate.specs.Asked.{IsAskable}
use Rattle.tftp_negotiate.specs.Answer.{answered_option}
use Rattle.tftp_negotiate.specs.Agreement.{taken_option}
use Rattle.tftp_negotiate.specs.Policy.{judged, IsSoundPolicy}
use Rattle.tftp_negotiate.proofs.NegotiationLemmas.{Keeps}

-- a number within the range is a block size
pub block_size_from_test : (n : ℕ) → is_in block_sizes n ≡ true → IsBlockSize n
block_size_from_test n h = (grind (arith, nat_tests), grind (arith, nat_tests))

-- the outcome of a test that gave an `Ok`
pub cond_ok : {A E : Type 0} (b : Bool) (x y : A) (e : E) → cond b (Ok x) (Err e) ≡ Ok y → (b ≡ true) × (x ≡ y)
cond_ok true x y e h = (refl, cc)
cond_ok false x y e h = cc

-- what the server answers for an option has its name and an allowed value
pub answered_option-Keeps : (kind : Kind) (mode : Mode) (length : ℕ) (limits : Limits) → IsBlockSize limits.max_block
    → Keeps (answered_option kind mode length limits)
unfolding answered_option
answered_option-Keeps kind mode length limits ok = search rules

-- so has what the client takes
pub taken_option-Keeps : (asked : Asked) (kind : Kind) (mode : Mode) (limit : ℕ) → IsAskable asked
    → Keeps (taken_option asked kind mode limit)
unfolding taken_option
taken_option-Keeps asked kind mode limit ok = search rules

-- the results of either side have the names of the options, and values that may be agreed
pub judged-Keeps : (policy : Policy) → IsSoundPolicy policy → Keeps (judged policy)
judged-Keeps policy ok = search (rules, answered_option-Keeps, taken_option-Keeps)
