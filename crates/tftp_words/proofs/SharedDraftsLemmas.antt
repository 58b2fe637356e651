-- While a program holds the temporary file of a put, no other takes it.
use Rattle.tftp_words.proofs.Common.{◌≡◌, ◌∙◌, ℕ, Bool, true, false, List, [], ◌∷◌, ◌++◌, append_assoc, length, Some}
use Rattle.tftp_words.proofs.Common.{Ok, refl, sym, ap, subst, zero, suc, inl, arith, ◌+◌, ◌<◌, length-append, ◌≢◌}
use Rattle.tftp_words.proofs.Common.{◌==◌, eqb-true, eqb-false, DiskEvent, FileState, Made, Linked, Renamed, Removed}
use Rattle.tftp_words.proofs.Common.{AllLeave, LeavesPath, AllLeaveIt, FolderCall, calls_by, Holds, IsHeldAlone}
use Rattle.tftp_disk.specs.Still.{IsStillAt}
use Rattle.tftp_folder.specs.Held.{HoldsDraft, KeepDraft, KeepsDraft, StoresKeepDrafts}
use Rattle.tftp_folder.specs.Placed.{NamesThere}
use Rattle.tftp_words.specs.SharedDrafts.{AllLeaveTo, HeldIsLeft, IsNaming, LeavesTo, NamesTheirOwn, Uses}
use Rattle.tftp_words.proofs.SharedCalls.{calls_after, found, leave_after, left_after, own_call, places}
use Rattle.tftp_words.proofs.SharedCalls.Places.{After, Before, One}

-- the calls of all that leave a path to one program leave it
forget : (path : List ℕ) (p : ℕ) (order : List FolderCall) → AllLeaveTo path p order → AllLeaveIt path order
forget path p [] left = tt
forget path p (call ∷ order) left = (left.0.leaves, forget path p order left.1)

-- a call whose program does not hold the path does not use it, and leaves it
module _ (path : List ℕ) (own : List DiskEvent) where
  unused : (call : DiskEvent) → (Uses path call → HoldsDraft path own → ⊥) → KeepsDraft path call own
      → Uses path call → ⊥
  unused (Removed at answer) none keep uses = none uses (keep uses)
  unused (Linked file from to answer) none keep uses = none uses (keep.0 uses)
  unused (Renamed file from to answer) none keep uses = none uses (keep.0 uses)
  unused call none keep uses = absurd uses

  leaves : (call : DiskEvent) → (Uses path call → ⊥) → KeepsDraft path call own → (call ≡ Made path (Ok tt) → ⊥)
      → LeavesPath path call
  leaves (Removed at (Ok done)) unused keep unmade = unused
  leaves (Linked file from to (Ok done)) unused keep unmade = keep.1
  leaves (Renamed file from to (Ok done)) unused keep unmade = (unused, keep.1)
  leaves (Made at (Ok done)) unused keep unmade =
      λ same. unmade (ap (λ (a : List ℕ). Made a (Ok tt)) (sym same))
  leaves call unused keep unmade = tt

keep_after : (path : List ℕ) (n b : List DiskEvent) → KeepDraft path (n ++ b) → KeepDraft path b
keep_after path [] b keep = keep
keep_after path (x ∷ n) b keep = keep_after path n b keep.1

names_tail : (event : DiskEvent) (events : List DiskEvent) → NamesThere (event ∷ events) → NamesThere events
names_tail (Linked file from to answer) events there = there.1
names_tail (Renamed file from to answer) events there = there.1
names_tail event events there = there

names_after : (n b : List DiskEvent) → NamesThere (n ++ b) → NamesThere b
names_after [] b there = there
names_after (x ∷ n) b there = names_after n b (names_tail x (n ++ b) there)

-- the calls of one program up to one of them
module _ (p : ℕ) (call : DiskEvent) (n b : List FolderCall) where
  calls_to : calls_by p (n ++ (p, call) ∷ b) ≡ calls_by p n ++ (call ∷ calls_by p b)
  calls_to =
      calls_after p n ((p, call) ∷ b) ∙ ap (λ (l : List DiskEvent). calls_by p n ++ l) (own_call p call b)

module _ (order : List FolderCall) (path : List ℕ) (alone : IsHeldAlone order path)
    (keep : (program : ℕ) → KeepDraft path (calls_by program order)) where
  -- what a program keeps to at one of its calls
  kept : (r : ℕ) (call : DiskEvent) (n b : List FolderCall) → order ≡ n ++ (r, call) ∷ b
      → KeepsDraft path call (calls_by r b)
  kept r call n b is =
      (keep_after path (calls_by r n) (call ∷ calls_by r b)
      (subst (KeepDraft path) (ap (λ (l : List FolderCall). calls_by r l) is ∙ calls_to r call n b) (keep r))).0

  -- the number of calls up to the last of a program that holds the file
  abbrev size : (p : ℕ) → Holds order path p → ℕ
  size p held = length held.between + length held.older

  abbrev Stays : ℕ → Type 0
  Stays fuel = (p : ℕ) (held : Holds order path p) → size p held < fuel → AllLeaveTo path p held.between

  -- one of the calls while it holds the file
  module _ (p : ℕ) (held : Holds order path p) (fuel : ℕ) (small : size p held < suc fuel) (stays : Stays fuel)
      (front : List FolderCall) (r : ℕ) (call : DiskEvent) (rest : List FolderCall)
      (is : held.between ≡ front ++ (r, call) ∷ rest) (later : AllLeaveIt path rest) where
    abbrev prefix : List FolderCall
    prefix = rest ++ (p, held.first) ∷ held.older

    where_it_is : order ≡ (held.newer ++ (p, held.last) ∷ front) ++ (r, call) ∷ prefix
    where_it_is = rw (held.at, is) (simp append_assoc)

    its_keep : KeepsDraft path call (calls_by r prefix)
    its_keep = kept r call (held.newer ++ (p, held.last) ∷ front) prefix where_it_is

    -- another program cannot hold it, too
    none_else : Uses path call → r ≢ p → HoldsDraft path (calls_by r prefix) → ⊥
    none_else uses other holds =
        let f = found r prefix holds.since holds.first holds.before holds.is in
        let its : Holds order path r = record {
          newer = held.newer ++ (p, held.last) ∷ front;
          last = call;
          between = f.newer;
          first = holds.first;
          older = f.older;
          at = where_it_is
              ∙ ap (λ (l : List FolderCall). (held.newer ++ (p, held.last) ∷ front) ++ (r, call) ∷ l) f.is;
          takes = holds.takes;
          uses = uses;
          left = subst (AllLeave path) (sym f.before) holds.left;
        } in
        let long : length rest + suc (length held.older) ≡ length f.newer + suc (length f.older) =
        simp length-append at (ap (λ (l : List FolderCall). length l) f.is) in
        let all : length held.between ≡ length front + suc (length rest) =
        simp length-append at (ap (λ (l : List FolderCall). length l) is) in
        let its_left = forget path r f.newer (stays r its (omega (arith, small, long, all))) in
        elim (places (p, held.first) (r, holds.first) rest held.older f.newer f.older f.is) [
          | One same more ↦ other (sym (ap (λ (c : FolderCall). c.0) same))
          | Before b between more ↦
              -- it took it while this one held it
              alone.alone held its (front ++ (r, call) ∷ f.newer) b (λ same. other (sym same))
              (is ∙ (ap (λ (l : List FolderCall). front ++ (r, call) ∷ l) between
              ∙ sym (append_assoc front ((r, call) ∷ f.newer) ((r, holds.first) ∷ b)))) more
              (left_after path f.newer (r, holds.first) b between later).1
          | After b between more ↦
              -- this one took it while that held it
              alone.alone its held rest b other between more
              (left_after path rest (p, held.first) b between its_left).1
        ]

    -- its own calls do
    own_leaves : r ≡ p → LeavesPath path call
    own_leaves same =
        let mine : held.between ≡ front ++ (p, call) ∷ rest =
        is ∙ ap (λ (q : ℕ). front ++ (q, call) ∷ rest) same in
        (leave_after path (calls_by p front) (call ∷ calls_by p rest)
        (subst (AllLeave path) (ap (λ (l : List FolderCall). calls_by p l) mine ∙ calls_to p call front rest) held.left)).0

    by_whom : (mine : Bool) → (r == p) ≡ mine → LeavesTo path p (r, call)
    by_whom true same =
        record { leaves = own_leaves (eqb-true r p same); own = λ uses. eqb-true r p same }
    by_whom false other =
        let none = unused path (calls_by r prefix) call (λ uses. none_else uses (eqb-false r p other)) its_keep in
        record {
          leaves = leaves path (calls_by r prefix) call none its_keep (λ made. alone.there held r front rest
              (is ∙ ap (λ (c : DiskEvent). front ++ (r, c) ∷ rest) made) later);
          own = λ uses. absurd (none uses);
        }

  left_from : (p : ℕ) (held : Holds order path p) (fuel : ℕ) → size p held < suc fuel → Stays fuel
      → (front rest : List FolderCall) → held.between ≡ front ++ rest → AllLeaveTo path p rest
  left_from p held fuel small stays front [] is = tt
  left_from p held fuel small stays front (call ∷ rest) is =
      let more = left_from p held fuel small stays (front ++ call ∷ []) rest (rw is (simp append_assoc)) in (
        by_whom p held fuel small stays front call.0 call.1 rest is (forget path p rest more) (call.0 == p) refl,
        more,
      )

  stays : (fuel : ℕ) → Stays fuel
  stays zero p held small = absurd (omega (arith, small))
  stays (suc fuel) p held small = left_from p held fuel small (stays fuel) [] held.between refl

  pub held_left : (p : ℕ) (held : Holds order path p) → AllLeaveTo path p held.between
  held_left p held = stays (suc (size p held)) p held (omega arith)

pub held_is_left : StoresKeepDrafts → HeldIsLeft
held_is_left keeps order folder path program draft stores alone held =
    held_left order path alone
    (λ p. keeps (stores p).limits folder path (calls_by p order) draft (stores p).changed (stores p).there) program held

module _ (program : ℕ) (path : List ℕ) (file : FileState) where
  -- the call by which a file is to get a name, and whose it is by the program's own calls
  its_place : (call : DiskEvent) (calls : List DiskEvent) → IsNaming call file path → NamesThere (call ∷ calls)
      → Uses path call × IsStillAt path file.made_when calls
  its_place (Linked named from to answer) calls is there = (
    sym is.1,
    subst (λ (f : FileState). IsStillAt path f.made_when calls) is.0
        (subst (λ (p : List ℕ). IsStillAt p named.made_when calls) is.1 there.0),
  )
  its_place (Renamed named from to answer) calls is there = (
    sym is.1,
    subst (λ (f : FileState). IsStillAt path f.made_when calls) is.0
        (subst (λ (p : List ℕ). IsStillAt p named.made_when calls) is.1 there.0),
  )
  its_place call calls is there = absurd is

pub names_their_own : StoresKeepDrafts → NamesTheirOwn
names_their_own keeps order newer older folder path program call file at naming draft stores alone =
    let its = its_place program path file call (calls_by program older) naming
    (names_after (calls_by program newer) (call ∷ calls_by program older)
    (subst NamesThere (ap (λ (l : List FolderCall). calls_by program l) at ∙ calls_to program call newer older)
    (stores program).there)) in
    let still = its.1 in
    let f = found program older still.since (Made path (Ok tt)) still.before still.made in
    record {
      between = f.newer;
      before = f.older;
      made = f.is;
      when = still.when ∙ ap (λ (l : List DiskEvent). Some (length l)) (sym f.after);
      left = held_is_left keeps order folder path program draft stores alone (record {
        newer = newer;
        last = call;
        between = f.newer;
        first = Made path (Ok tt);
        older = f.older;
        at = at ∙ ap (λ (l : List FolderCall). newer ++ (program, call) ∷ l) f.is;
        takes = inl refl;
        uses = its.0;
        left = subst (AllLeave path) (sym f.before) still.left;
      });
    }
