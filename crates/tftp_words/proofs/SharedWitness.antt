-- The calls of two programs that share a folder meet the premises. For the law some_puts_share_a_folder.
use Rattle.tftp_words.proofs.Common.{◌≡◌, refl, sym, ap, ◌∙◌, subst, ℕ, List, [], ◌∷◌, ◌++◌, None, Ok, false, arith}
use Rattle.tftp_words.proofs.Common.{inl, inr, zero, suc, length, append_assoc, ◌≢◌, codes, ne_eqb, length-append, Made}
use Rattle.tftp_words.proofs.Common.{Locked, Linked, Removed, Limits, Holds, IsHeldAlone, FolderCall, calls_by}
use Rattle.std.proofs.Common.{drop}
use Rattle.std.specs.Prelude.{⊤}
use Rattle.std.proofs.lemmas.Fmt.{decimal_injective}
use Rattle.std.specs.Fmt.{decimal}
use Rattle.tftp_file.specs.Path.{IsPath}
use Rattle.tftp_file.proofs.PathLemmas.{path_from_name}
use Rattle.tftp_folder.specs.Changing.{Is_linked}
use Rattle.tftp_folder.specs.Held.{Takes}
use Rattle.tftp_words.specs.SharedDrafts.{AreStores, IsStore}
use Rattle.tftp_words.specs.SharedWitness.{ShareAFolder, draft_path, shared_calls, shared_file, shared_name}
use Rattle.tftp_words.specs.SharedWitness.{shared_root}

-- ---- each program keeps within its limits
abbrev limits : Limits
limits = record { root = shared_root; drafts = shared_root; read_only = false; uploads = None }

is_path : IsPath (codes "a")
is_path = (path_from_name (codes "a") (codes "a") refl).0

makes : (port : ℕ) → IsStore (Made (draft_path port) (Ok tt) ∷ [])
makes port = record {
  limits = limits;
  changed = (record { admitted = refl; change = inl (port, inl refl) }, tt);
  there = tt;
}

puts : IsStore (calls_by 0 shared_calls)
puts = record {
  limits = limits;
  changed = (
    record { admitted = refl; change = inl ((1, inl refl), Is_linked) },
    (
      record {
        admitted = refl;
        change = ((1, inl refl), record { path = codes "a"; is_path = is_path; place = refl; uploads = tt });
      },
      (record { admitted = refl; change = inl (1, inl refl) }, tt),
    ),
  );
  there = (record { since = []; before = []; made = refl; when = refl; left = tt }, tt);
}

-- another program has no calls
nothing : IsStore []
nothing = record { limits = limits; changed = tt; there = tt }

stores : AreStores shared_calls
stores zero = puts
stores (suc zero) = makes 2
stores (suc (suc n)) =
    rw (ne_eqb 0 (suc (suc n)) (λ e. omega (arith, e)), ne_eqb 1 (suc (suc n)) (λ e. omega (arith, e))) nothing

-- ---- only the oldest call takes the file of 0
abbrev path : List ℕ
path = draft_path 1

abbrev IsOldest : FolderCall → List FolderCall → Type 0
IsOldest call older = Takes path call.1 → (0 ≡ call.0) × (older ≡ [])

abbrev AllSo : List FolderCall → Type 0
AllSo [] = ⊤
AllSo (call ∷ older) = IsOldest call older × AllSo older

each_so : (newer : List FolderCall) (call : FolderCall) (older : List FolderCall) → AllSo (newer ++ call ∷ older) →
    IsOldest call older
each_so [] call older so = so.0
each_so (x ∷ newer) call older so = each_so newer call older so.1

apart : draft_path 1 ≢ draft_path 2
apart e =
    let same : decimal 1 ≡ decimal 2 = ap (λ (bytes : List ℕ). drop 9 bytes) e in
    let one = decimal_injective 1 2 (omega arith) (omega arith) same in
    absurd (omega (arith, one))

other_takes : Takes path (Made (draft_path 2) (Ok tt)) → ⊥
other_takes (inl e) =
    let f : Made (draft_path 2) (Ok tt) ≡ Made path (Ok tt) = e in let same : path ≡ draft_path 2 = cc in apart same
other_takes (inr e) = let f : Made (draft_path 2) (Ok tt) ≡ Locked path (Ok tt) = e in cc

all_so : AllSo shared_calls
all_so = (λ takes. grind arith, (λ takes. grind arith, (λ takes. absurd (other_takes takes), (λ takes. (refl, refl), tt))))

so_at : (newer : List FolderCall) (call : FolderCall) (older : List FolderCall) →
    shared_calls ≡ newer ++ call ∷ older → IsOldest call older
so_at newer call older is = each_so newer call older (subst AllSo is all_so)

taken_by : {i : ℕ} → Holds shared_calls path i → 0 ≡ i
taken_by {i} h =
    (so_at (h.newer ++ (i, h.last) ∷ h.between) (i, h.first) h.older
    (h.at ∙ sym (append_assoc h.newer ((i, h.last) ∷ h.between) ((i, h.first) ∷ h.older))) h.takes).0

made_again : {i : ℕ} (one : Holds shared_calls path i) (j : ℕ) (later earlier : List FolderCall) →
    one.between ≡ later ++ (j, Made path (Ok tt)) ∷ earlier → ⊥
made_again {i} one j later earlier is =
    let none = (so_at (one.newer ++ (i, one.last) ∷ later) (j, Made path (Ok tt))
    (earlier ++ (i, one.first) ∷ one.older) (one.at ∙ simp (append_assoc, is)) (inl refl)).1 in
    omega (arith, simp length-append at (ap (λ (l : List FolderCall). length l) none))

alone : IsHeldAlone shared_calls path
alone = record {
  alone = λ one other later earlier differ is also left. differ (sym (taken_by one) ∙ taken_by other);
  there = λ one j later earlier is left. made_again one j later earlier is;
}

pub they_share : ShareAFolder
they_share = record {
  is_draft = (1, inl refl);
  stores = stores;
  alone = alone;
  held = record {
    newer = (0, Removed path (Ok tt)) ∷ [];
    last = Linked shared_file path shared_name (Ok tt);
    between = (1, Made (draft_path 2) (Ok tt)) ∷ [];
    first = Made path (Ok tt);
    older = [];
    at = refl;
    takes = inl refl;
    uses = refl;
    left = tt;
  };
  meanwhile = refl;
  names = (refl, refl);
}
