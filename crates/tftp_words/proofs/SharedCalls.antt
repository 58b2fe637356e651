-- The calls of several programs on one folder: two places among them, and those of one program.
use Rattle.tftp_words.proofs.Common.{◌≡◌, ◌∙◌, ℕ, Bool, true, false, List, [], ◌∷◌, ◌++◌, Result, Ok, refl, sym, ap}
use Rattle.tftp_words.proofs.Common.{subst, ◌≢◌, ◌==◌, cond-true, cond-false, eqb-true, Error, DiskEvent, Looked, Made}
use Rattle.tftp_words.proofs.Common.{Linked, Renamed, AllLeave, LeavesPath, KeepLock, Agrees, AllLeaveIt, AllKeepLock}
use Rattle.tftp_words.proofs.Common.{AnswersAgree, FolderCall, GivesTo, calls_by, Makes, Links, Renames}
use Rattle.std.proofs.lemmas.Bool.{eq-eqb}
use Rattle.tftp_disk.specs.declared.found.Found.{Found}

-- ---- two places in one list
-- the elements are one, or the second is before the first, or after it
module _ {X : Type 0} where
  pub data Places (x y : X) (n o m p : List X) : Type 0 where
    One : x ≡ y → o ≡ p → Places x y n o m p
    Before : (b : List X) → n ≡ m ++ y ∷ b → p ≡ b ++ x ∷ o → Places x y n o m p
    After : (b : List X) → m ≡ n ++ x ∷ b → o ≡ b ++ y ∷ p → Places x y n o m p

  pub places : (x y : X) (n o m p : List X) → n ++ x ∷ o ≡ m ++ y ∷ p → Places x y n o m p
  places x y [] o [] p e =
      let f : x ∷ o ≡ y ∷ p = e in
      let h : x ≡ y = cc in
      let t : o ≡ p = cc in
      One h t
  places x y [] o (z ∷ m) p e =
      let f : x ∷ o ≡ z ∷ (m ++ y ∷ p) = e in
      let h : x ≡ z = cc in
      let t : o ≡ m ++ y ∷ p = cc in
      After m (ap (λ (w : X). w ∷ m) (sym h)) t
  places x y (w ∷ n) o [] p e =
      let f : w ∷ (n ++ x ∷ o) ≡ y ∷ p = e in
      let h : w ≡ y = cc in
      let t : n ++ x ∷ o ≡ p = cc in
      Before n (ap (λ (v : X). v ∷ n) h) (sym t)
  places x y (w ∷ n) o (z ∷ m) p e =
      let f : w ∷ (n ++ x ∷ o) ≡ z ∷ (m ++ y ∷ p) = e in
      let h : w ≡ z = cc in
      let t : n ++ x ∷ o ≡ m ++ y ∷ p = cc in
      elim (places x y n o m p t) [
        | One same rest ↦ One same rest
        | Before b is more ↦ Before b (ap (λ (v : X). v ∷ n) h ∙ ap (λ (l : List X). z ∷ l) is) more
        | After b is more ↦ After b (ap (λ (v : X). v ∷ m) (sym h) ∙ ap (λ (l : List X). w ∷ l) is) more
      ]

-- ---- a part of a list
-- a function that takes some elements of a list, each as what it holds, and leaves the others out
module _ {X Y : Type 0} (part : List X → List Y) (whole : Y → X) where
  -- whether it takes this one
  pub data Takes (x : X) : Type 0 where
    Taken : (y : Y) → x ≡ whole y → ((xs : List X) → part (x ∷ xs) ≡ y ∷ part xs) → Takes x
    Left : ((xs : List X) → part (x ∷ xs) ≡ part xs) → Takes x

  -- one that it takes, in the whole list
  pub record FoundAt (xs : List X) (pre : List Y) (y : Y) (rest : List Y) : Type 0 where
    pub newer : List X
    pub older : List X
    pub is : xs ≡ newer ++ whole y ∷ older
    pub before : part newer ≡ pre
    pub after : part older ≡ rest

  module _ (none : part [] ≡ []) (takes : (x : X) → Takes x) where
    -- the first that it takes, or a later one
    by_first : (x : X) (xs : List X) (z : Y) → x ≡ whole z → ((l : List X) → part (x ∷ l) ≡ z ∷ part l) →
        (pre : List Y) (y : Y) (rest : List Y) →
        ((ps : List Y) → part xs ≡ ps ++ y ∷ rest → FoundAt xs ps y rest) → z ∷ part xs ≡ pre ++ y ∷ rest →
        FoundAt (x ∷ xs) pre y rest
    by_first x xs z is keep [] y rest next same =
        let f : z ∷ part xs ≡ y ∷ rest = same in
        let h : z ≡ y = cc in
        record { newer = []; older = xs; is = ap (λ (w : X). w ∷ xs) (is ∙ ap whole h); before = none; after = cc }
    by_first x xs z is keep (p ∷ ps) y rest next same =
        let f : z ∷ part xs ≡ p ∷ (ps ++ y ∷ rest) = same in
        let h : z ≡ p = cc in
        let s = next ps cc in
        record {
          newer = x ∷ s.newer;
          older = s.older;
          is = ap (λ (l : List X). x ∷ l) s.is;
          before = rw (keep s.newer, s.before, h);
          after = s.after;
        }

    pub found_in : (xs : List X) (pre : List Y) (y : Y) (rest : List Y) → part xs ≡ pre ++ y ∷ rest →
        FoundAt xs pre y rest
    found_in [] [] y rest same = absurd (let f : ◌≡◌ {A = List Y} [] (y ∷ rest) = sym none ∙ same in cc)
    found_in [] (p ∷ ps) y rest same =
        absurd (let f : ◌≡◌ {A = List Y} [] (p ∷ (ps ++ y ∷ rest)) = sym none ∙ same in cc)
    found_in (x ∷ xs) pre y rest same = elim (takes x) [
      | Taken z is keep ↦ by_first x xs z is keep pre y rest (λ ps e. found_in xs ps y rest e) (sym (keep xs) ∙ same)
      | Left skip ↦
          let s = found_in xs pre y rest (sym (skip xs) ∙ same) in
          record {
            newer = x ∷ s.newer;
            older = s.older;
            is = ap (λ (l : List X). x ∷ l) s.is;
            before = skip s.newer ∙ s.before;
            after = s.after;
          }
    ]

    pub part_after : (n b : List X) → part (n ++ b) ≡ part n ++ part b
    part_after [] b = ap (λ (l : List Y). l ++ part b) (sym none)
    part_after (x ∷ n) b = elim (takes x) [
      | Taken z is keep ↦ rw (keep n, keep (n ++ b), part_after n b)
      | Left skip ↦ rw (skip n, skip (n ++ b), part_after n b)
    ]

-- ---- the calls of one program
module _ (p : ℕ) where
  abbrev by_it : DiskEvent → FolderCall
  by_it call = (p, call)

  takes_own : (c : FolderCall) (own : Bool) → (c.0 == p) ≡ own → Takes (calls_by p) by_it c
  takes_own c true own =
      Taken c.1 (ap (λ (q : ℕ). (q, c.1)) (eqb-true c.0 p own))
      (λ order. cond-true (c.0 == p) (c.1 ∷ calls_by p order) (calls_by p order) own)
  takes_own c false other =
      Left (λ order. cond-false (c.0 == p) (c.1 ∷ calls_by p order) (calls_by p order) other)

  pub found : (order : List FolderCall) (pre : List DiskEvent) (call : DiskEvent) (rest : List DiskEvent)
      → calls_by p order ≡ pre ++ call ∷ rest → FoundAt (calls_by p) by_it order pre call rest
  found = found_in (calls_by p) by_it refl (λ c. takes_own c (c.0 == p) refl)

  pub calls_after : (n b : List FolderCall) → calls_by p (n ++ b) ≡ calls_by p n ++ calls_by p b
  calls_after = part_after (calls_by p) by_it refl (λ c. takes_own c (c.0 == p) refl)

  -- the call of this program, among its own
  pub own_call : (call : DiskEvent) (rest : List FolderCall) → calls_by p ((p, call) ∷ rest) ≡ call ∷ calls_by p rest
  own_call call rest = cond-true (p == p) (call ∷ calls_by p rest) (calls_by p rest) (eq-eqb p p refl)

  -- a program that asked nothing in these calls
  pub nothing_asked : (n : List FolderCall) (c : FolderCall) (b : List FolderCall) → calls_by p (n ++ c ∷ b) ≡ []
      → (calls_by p n ≡ []) × (c.0 ≢ p)
  nothing_asked [] c b none = (
    refl,
    λ same.
        absurd (let f : c.1 ∷ calls_by p b ≡ [] =
        sym (cond-true (c.0 == p) (c.1 ∷ calls_by p b) (calls_by p b) (eq-eqb c.0 p same)) ∙ none in cc),
  )
  nothing_asked (x ∷ n) c b none = elim (takes_own x (x.0 == p) refl) [
    | Taken z is keep ↦ absurd (let f : z ∷ calls_by p (n ++ c ∷ b) ≡ [] = sym (keep (n ++ c ∷ b)) ∙ none in cc)
    | Left skip ↦
        let rest = nothing_asked n c b (sym (skip (n ++ c ∷ b)) ∙ none) in
        (skip n ∙ rest.0, rest.1)
  ]

-- ---- names
pub gives_not_left : (path : List ℕ) (call : DiskEvent) → GivesTo path call → LeavesPath path call → ⊥
gives_not_left path call (Makes is) left = (subst (λ (c : DiskEvent). LeavesPath path c) is left) refl
gives_not_left path call (Links file from is) left = (subst (λ (c : DiskEvent). LeavesPath path c) is left) refl
gives_not_left path call (Renames file from is) left = (subst (λ (c : DiskEvent). LeavesPath path c) is left).1 refl

pub gives_no_look : (path at : List ℕ) (answer : Result Found Error) → GivesTo path (Looked at answer) → ⊥
gives_no_look path at answer (Makes is) = let f : Looked at answer ≡ Made path (Ok tt) = is in cc
gives_no_look path at answer (Links file from is) = let f : Looked at answer ≡ Linked file from path (Ok tt) = is in cc
gives_no_look path at answer (Renames file from is) = let f : Looked at answer ≡ Renamed file from path (Ok tt) = is in cc

pub left_after : (path : List ℕ) {l : List FolderCall} (n : List FolderCall) (c : FolderCall) (b : List FolderCall)
    → l ≡ n ++ c ∷ b → AllLeaveIt path l → LeavesPath path c.1 × AllLeaveIt path b
left_after path [] c b is left = subst (AllLeaveIt path) is left
left_after path (x ∷ n) c b is left = left_after path n c b refl (subst (AllLeaveIt path) is left).1

pub agree_after : {l : List FolderCall} (n : List FolderCall) (c : FolderCall) (b : List FolderCall) → l ≡ n ++ c ∷ b
    → AnswersAgree l → Agrees c.1 b × AnswersAgree b
agree_after [] c b is agree = subst AnswersAgree is agree
agree_after (x ∷ n) c b is agree = agree_after n c b refl (subst AnswersAgree is agree).1

-- ---- the lock of a name
keep_after : (lock : List ℕ) (n b : List DiskEvent) → KeepLock lock (n ++ b) → KeepLock lock b
keep_after lock [] b keep = keep
keep_after lock (x ∷ n) b keep = keep_after lock n b keep.1

all_keep_from : (lock : List ℕ) (n b : List FolderCall) → AllKeepLock lock (n ++ b) → AllKeepLock lock b
all_keep_from lock n b keep program =
    keep_after lock (calls_by program n) (calls_by program b)
    (subst (KeepLock lock) (calls_after program n b) (keep program))

pub all_keep_after : (lock : List ℕ) {l : List FolderCall} (n : List FolderCall) (c : FolderCall) (b : List FolderCall)
    → l ≡ n ++ c ∷ b → AllKeepLock lock l → AllKeepLock lock b
all_keep_after lock n c b is keep =
    all_keep_from lock (c ∷ []) b (all_keep_from lock n (c ∷ b) (subst (AllKeepLock lock) is keep))

pub leave_after : (lock : List ℕ) (n b : List DiskEvent) → AllLeave lock (n ++ b) → AllLeave lock b
leave_after lock [] b left = left
leave_after lock (x ∷ n) b left = leave_after lock n b left.1
