-- Reads of a file, and the bytes of a buffer that are left. For five functions, DiskSourceLemmas and
-- MeasuringLemmas.
use Rattle.std.proofs.Common.{◌≡◌, ◌≤◌, ◌<◌, ℕ, ◌+◌, ◌-◌, List, [], ◌∷◌, ◌++◌, length, take, drop, sym, ap, ◌∙◌, refl}
use Rattle.std.proofs.Common.{arith, append-nil, rules}
use Rattle.std.proofs.lemmas.List.{drop-take, drop-drop, length-take, length-drop, take_all}
use Rattle.tftp_disk.specs.DiskTrace.{DiskEvent}
use Rattle.tftp_disk.specs.DiskTrace.DiskEvent.{Given}
use Rattle.tftp_disk.specs.Given.{given, GaveBytes}
use Rattle.tftp_disk.specs.ReadBuffer.{Refills}
use Rattle.tftp_file.specs.Netascii.{wire_text}
use Rattle.tftp_wire.specs.declared.mode.Mode.{Mode}

-- no calls read no bytes
pub reads_nothing : (events : List DiskEvent) → GaveBytes events events []
reads_nothing events = record { place = refl; found = refl; pass = refl; more = sym (append-nil (given events)) }

-- a read returned these bytes
pub reads_given : (before after : List DiskEvent) (bytes : List ℕ) → after ≡ Given bytes ∷ before
    → GaveBytes before after bytes
reads_given before after bytes noted = search rules

-- the bytes between two places, without the first n
pub between_rest : (xs : List ℕ) (at end n : ℕ) → at + n ≤ end
    → take (end - (at + n)) (drop (at + n) xs) ≡ drop n (take (end - at) (drop at xs))
between_rest xs at end n fits =
    let both : end - at ≡ n + (end - (at + n)) = omega arith in
    search (rules, drop-take, drop-drop)

-- the first n bytes are taken of those between two places
pub taken_between : (xs now : List ℕ) (at end n : ℕ) → at ≤ end → take (end - at) (drop at xs) ≡ now
    → n ≤ length now → take (end - (at + n)) (drop (at + n) xs) ≡ drop n now
taken_between xs now at end n order is fits = search (rules, length-take, between_rest)

-- there are bytes between two places
pub some_between : (xs now : List ℕ) (at end : ℕ) → at < end → end ≤ length xs
    → take (end - at) (drop at xs) ≡ now → 0 < length now
some_between xs now at end order within is = search (rules, length-take, length-drop)

-- there are none
pub none_between : (xs now : List ℕ) (at end : ℕ) → end ≤ at → take (end - at) (drop at xs) ≡ now → now ≡ []
none_between xs now at end order is =
    let none : end - at ≡ 0 = omega arith in
    sym is ∙ ap (λ n. take n (drop at xs)) none

-- the bytes from the first place on
pub from_start : (items xs : List ℕ) (n : ℕ) → items ≡ xs → take (n - 0) (drop 0 items) ≡ take n xs
from_start items xs n is = search rules

-- all bytes from the first place on
pub all_from_start : (items xs : List ℕ) (n : ℕ) → items ≡ xs → n ≡ length items → take (n - 0) (drop 0 items) ≡ xs
all_from_start items xs n is long =
    from_start items xs n is ∙ take_all n xs (let same = ap length is in omega arith)

-- a list of no length is empty
pub no_length : (xs : List ℕ) → length xs ≤ 0 → xs ≡ []
no_length [] none = refl
no_length (x ∷ xs) none = absurd (omega arith)

-- a buffer with text left is not refilled
pub not_refilled : (mode : Mode) (events : List DiskEvent) (left : List ℕ) → 0 < length left
    → Refills mode events events left left
not_refilled mode events left some = search rules

-- an empty buffer has the text of the bytes that a read returned
pub refilled : (mode : Mode) (before after : List DiskEvent) (left left_after bytes : List ℕ) → left ≡ []
    → left_after ≡ wire_text mode bytes → (left_after ≡ [] → bytes ≡ []) → after ≡ Given bytes ∷ before
    → Refills mode before after left left_after
refilled mode before after left left_after bytes empty same nothing noted = record {
  bytes = bytes;
  reads = reads_given before after bytes noted;
  added = same ∙ ap (λ l. l ++ wire_text mode bytes) (sym empty);
  end = λ none. (before, noted ∙ ap (λ l. Given l ∷ before) (nothing none));
}
