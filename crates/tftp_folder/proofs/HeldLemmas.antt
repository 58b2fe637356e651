-- A store takes away what has the path of a draft only while it holds it.
use Rattle.std.proofs.Common.{◌≡◌, ◌≢◌, ◌∙◌, ◌/◌, ◌%◌, ◌==◌, ◌≤◌, ◌⊎◌, ℕ, zero, suc, Bool, true, false, cond, List, [], ◌∷◌, ◌++◌, Ok, All, Option}
use Rattle.std.proofs.Common.{ap, append_assoc, arith, decimal, inl, inr, length, refl, subst, sym, rules}
use Rattle.std.proofs.lemmas.Bool.{and_parts, cond-false, eqb-true}
use Rattle.std.proofs.lemmas.List.Elements.{All-head, All-tail}
use Rattle.std.specs.Fmt.{digits, digits_onto, digit_glyph}
use Rattle.std.specs.List.{list_all, join_with_byte}
use Rattle.std.specs.Prelude.{⊤, codes, not, IsTrue}
use Rattle.tftp_disk.specs.Changes.{changes}
use Rattle.tftp_disk.specs.DiskTrace.{DiskEvent}
use Rattle.tftp_disk.specs.DiskTrace.DiskEvent.{Looked, Followed, Resolved, Opened, Tried, Created, Made, Locked, Linked, Renamed, Removed}
use Rattle.tftp_disk.specs.DiskTrace.DiskEvent.{Folder_opened, Folder_synced, Examined, Given, Not_given, Sought}
use Rattle.tftp_disk.specs.DiskTrace.DiskEvent.{Written, Not_written, Synced, Mode_set}
use Rattle.tftp_disk.specs.Still.{AllLeave, IsStillAt, LeavesPath}
use Rattle.tftp_file.specs.Path.{IsPath, is_name_byte, is_segment}
use Rattle.tftp_folder.specs.Begin.{IsDraftOf}
use Rattle.tftp_folder.specs.Changing.{AreChanges, IsDraftIn, IsLock, IsTarget, Limits, MayGo}
use Rattle.tftp_folder.specs.Changing.MayGo.{Is_linked, Is_locked, Is_synced}
use Rattle.tftp_folder.specs.Held.{HoldsDraft, KeepDraft, StoresKeepDrafts}
use Rattle.tftp_folder.specs.Placed.{NamesThere}
use Rattle.tftp_folder.proofs.ApartLemmas.{draft_apart}

-- ---- the name of a draft begins with a dot
abbrev HasNone : List ℕ → Type 0
HasNone [] = ⊤
HasNone (byte ∷ bytes) = (byte ≢ 47) × HasNone bytes

both_none : (front rest : List ℕ) → HasNone front → HasNone rest → HasNone (front ++ rest)
both_none [] rest one other = other
both_none (byte ∷ front) rest one other = (one.0, both_none front rest one.1 other)

abbrev first_of : List ℕ → ℕ
first_of [] = 0
first_of (byte ∷ bytes) = byte

-- the byte behind the last slash, or this one if there is no slash
abbrev start_of : List ℕ → ℕ → ℕ
start_of [] start = start
start_of (byte ∷ bytes) start = start_of bytes (cond (byte == 47) (first_of bytes) start)

start_append : (front rest : List ℕ) (start : ℕ) → start_of (front ++ 47 ∷ rest) start ≡ start_of rest (first_of rest)
start_append [] rest start = refl
start_append (byte ∷ front) rest start =
    start_append front rest (cond (byte == 47) (first_of (front ++ 47 ∷ rest)) start)

not_slash : (byte : ℕ) (is : Bool) → (byte == 47) ≡ is → byte ≢ 47 → (byte == 47) ≡ false
not_slash byte true is other = absurd (other (eqb-true byte 47 is))
not_slash byte false is other = is

none_start : (bytes : List ℕ) (start : ℕ) → HasNone bytes → start_of bytes start ≡ start
none_start [] start none = refl
none_start (byte ∷ bytes) start none =
    none_start bytes (cond (byte == 47) (first_of bytes) start) none.1
    ∙ cond-false (byte == 47) (first_of bytes) start (not_slash byte (byte == 47) refl none.0)

-- digits have no slash
digit_is_none : (n : ℕ) → digit_glyph false (n % 10) ≢ 47
digit_is_none n is = grind arith

either_none : (b : Bool) (xs ys : List ℕ) → HasNone xs → HasNone ys → HasNone (cond b xs ys)
either_none true xs ys one other = one
either_none false xs ys one other = other

digits_none : (k n : ℕ) (rest : List ℕ) → HasNone rest → HasNone (digits_onto k 10 false n rest)
digits_none zero n rest none = none
digits_none (suc k) n rest none =
    let digit = digit_glyph false (n % 10) in
    either_none (n / 10 == 0) (digit ∷ rest) (digits_onto k 10 false (n / 10) (digit ∷ rest)) (digit_is_none n, none)
    (digits_none k (n / 10) (digit ∷ rest) (digit_is_none n, none))

decimal_none : (n : ℕ) → HasNone (decimal n)
unfolding digits
decimal_none n = search (rules, either_none, digit_is_none, digits_none)

front_none : HasNone (codes ".tftp-")
front_none = search rules

dash_none : HasNone (codes "-")
dash_none = (λ e. omega (arith, e), tt)

draft_start : (folder : List ℕ) (port : ℕ) (path : List ℕ) → IsDraftOf folder port path → start_of path 0 ≡ 46
draft_start folder port path draft =
    search (rules, start_append, none_start, both_none, front_none, decimal_none, dash_none)

-- ---- no name that a client can spell does
name_none : (bytes : List ℕ) → list_all is_name_byte bytes ≡ true → HasNone bytes
name_none [] all = tt
name_none (byte ∷ bytes) all =
    let parts = and_parts (is_name_byte byte) (list_all is_name_byte bytes) all in search (
      rules,
      name_none bytes
          parts.1,
    )

no_dot : (byte : ℕ) → not (byte == 46) ≡ true → byte ≢ 46
no_dot byte is same = let no : false ≡ true = subst (λ (b : ℕ). not (b == 46) ≡ true) same is in cc

segment_start : (segment : List ℕ) → is_segment segment ≡ true → start_of segment (first_of segment) ≢ 46
segment_start segment is same = search (rules, and_parts, no_dot, none_start, name_none)

IsSegment : List ℕ → Type 0
IsSegment segment = IsTrue (is_segment segment)

joined_start : (segments : List (List ℕ)) → ((segment : List ℕ) → IsSegment segment → start_of segment (first_of segment) ≢ 46)
    → 1 ≤ length segments → All IsSegment segments
    → start_of (join_with_byte 47 segments) (first_of (join_with_byte 47 segments)) ≢ 46
joined_start [] each some all = absurd (omega (arith, some))
joined_start (one ∷ []) each some all = each one (All-head IsSegment one [] all)
joined_start (one ∷ (two ∷ more)) each some all = λ same.
    joined_start (two ∷ more) each (omega arith) (All-tail IsSegment one (two ∷ more) all)
    (sym (start_append one (join_with_byte 47 (two ∷ more)) (first_of (join_with_byte 47 (one ∷ (two ∷ more))))) ∙ same)

segments_start : (segments : List (List ℕ)) → 1 ≤ length segments → All (λ segment. IsTrue (is_segment segment)) segments
    → start_of (join_with_byte 47 segments) (first_of (join_with_byte 47 segments)) ≢ 46
unfolding IsSegment
segments_start segments some all = joined_start segments segment_start some all

path_start : (path : List ℕ) → IsPath path → start_of path (first_of path) ≢ 46
path_start path is = search (rules, segments_start)

-- so no draft is at a place that a client can name
pub target_apart : (limits : Limits) (folder path target : List ℕ) → IsDraftIn folder path → IsTarget limits target
    → path ≢ target
target_apart limits folder path target draft is same =
    path_start is.path is.is_path
    (sym (start_append limits.root is.path 0)
    ∙ (ap (λ (p : List ℕ). start_of p 0) (sym is.place) ∙ (ap (λ (p : List ℕ). start_of p 0) (sym same)
    ∙ draft_start folder draft.0 path draft.1)))

-- ---- what only looks leaves each path
pub names_tail : (event : DiskEvent) (events : List DiskEvent) → NamesThere (event ∷ events) → NamesThere events
names_tail event events there = search rules

module _ (path : List ℕ) where
  data Sees (event : DiskEvent) : Type 0 where
    A_change : ((events : List DiskEvent) → changes (event ∷ events) ≡ event ∷ changes events) → Sees event
    A_look : ((events : List DiskEvent) → changes (event ∷ events) ≡ changes events) → LeavesPath path event → Sees event

  sees : (event : DiskEvent) → Sees event
  sees event = search rules

  -- the newest change, among all calls
  record Newest (calls : List DiskEvent) (event : DiskEvent) (rest : List DiskEvent) : Type 0 where
    since : List DiskEvent
    before : List DiskEvent
    is : calls ≡ since ++ event ∷ before
    left : AllLeave path since
    more : changes before ≡ rest
    there : NamesThere (event ∷ before)

  newest : (calls : List DiskEvent) (event : DiskEvent) (rest : List DiskEvent) → changes calls ≡ event ∷ rest
      → NamesThere calls → Newest calls event rest
  newest [] event rest same there = absurd (let f : ◌≡◌ {A = List DiskEvent} [] (event ∷ rest) = same in cc)
  newest (call ∷ calls) event rest same there = elim (sees call) [
    | A_change is ↦
        let f : call ∷ changes calls ≡ event ∷ rest = sym (is calls) ∙ same in
        let head : call ≡ event = cc in
        let tail : changes calls ≡ rest = cc in
        record {
          since = [];
          before = calls;
          is = ap (λ (e : DiskEvent). e ∷ calls) head;
          left = tt;
          more = tail;
          there = subst (λ (e : DiskEvent). NamesThere (e ∷ calls)) head there;
        }
    | A_look is leaves ↦
        let n = newest calls event rest (sym (is calls) ∙ same) (names_tail call calls there) in
        record {
          since = call ∷ n.since;
          before = n.before;
          is = ap (λ (l : List DiskEvent). call ∷ l) n.is;
          left = (leaves, n.left);
          more = n.more;
          there = n.there;
        }
  ]

  both_leave : (since before : List DiskEvent) → AllLeave path since → AllLeave path before
      → AllLeave path (since ++ before)
  both_leave [] before one other = other
  both_leave (event ∷ since) before one other = (one.0, both_leave since before one.1 other)

  -- what it holds, it holds after calls that leave that
  then_holds : (since calls : List DiskEvent) → AllLeave path since → HoldsDraft path calls
      → HoldsDraft path (since ++ calls)
  then_holds since calls left holds =
      search (
        since ++ holds.since,
        ap (λ (l : List DiskEvent). since ++ l) holds.is ∙ sym (append_assoc since holds.since (holds.first ∷ holds.before)),
        both_leave since holds.since left holds.left,
      )

  -- the file that it made there
  still_holds : (when : Option ℕ) (calls : List DiskEvent) → IsStillAt path when calls → HoldsDraft path calls
  still_holds when calls still = search rules

  module _ (limits : Limits) (folder : List ℕ) (draft : IsDraftIn folder path) where
    -- the newest change linked the file that it made there to its name
    linked_holds : (calls rest : List DiskEvent) (event : DiskEvent) → changes calls ≡ event ∷ rest → NamesThere calls
        → LeavesPath path event
        → ((before : List DiskEvent) → NamesThere (event ∷ before) → HoldsDraft path before) → HoldsDraft path calls
    linked_holds calls rest event same there leaves holds =
        let n = newest calls event rest same there in
        subst (HoldsDraft path) (sym n.is)
        (then_holds n.since (event ∷ n.before) n.left
        (then_holds (event ∷ []) n.before (leaves, tt) (holds n.before n.there)))

    by_go : (calls changed : List DiskEvent) → changes calls ≡ changed → AreChanges limits changed → NamesThere calls
        → MayGo path changed → HoldsDraft path calls
    by_go calls _ same are there (Is_locked {calls = rest}) =
        let n = newest calls (Locked path (Ok tt)) rest same there in
        search rules
    by_go calls _ same are there (Is_linked {file = file} {to = to} {calls = rest}) =
        linked_holds calls rest (Linked file path to (Ok tt)) same there (target_apart limits folder path to draft
        are.0.change.1) (λ before there'. still_holds file.made_when before there'.0)
    by_go calls _ same are there (Is_synced {file = file} {to = to} {at = at} {answer = answer} {calls = rest}) =
        let n = newest calls (Folder_synced at answer) (Linked file path to (Ok tt) ∷ rest) same there in
        subst (HoldsDraft path) (sym n.is) (then_holds n.since (Folder_synced at answer ∷ n.before) n.left (then_holds
        (Folder_synced at answer ∷ []) n.before (tt, tt) (linked_holds n.before rest (Linked file path to (Ok tt))
        n.more n.there (target_apart limits folder path to draft are.1.0.change.1) (λ before there'. still_holds
        file.made_when before there'.0))))

    removes : (at : List ℕ) (calls : List DiskEvent) {WasGiven WasMade : Type 0} → AreChanges limits (changes calls)
        → NamesThere calls
        → (IsDraftIn limits.drafts at × MayGo at (changes calls)) ⊎ (IsTarget limits at × WasGiven)
        ⊎ (IsLock limits at × WasMade)
        → path ≡ at → HoldsDraft path calls
    removes at calls are there (inl drafted) same = search (rules, by_go)
    removes at calls are there (inr (inl named)) same = absurd (target_apart limits folder path at draft named.0 same)
    removes at calls are there (inr (inr ((target, is_target, is), made))) same =
        absurd (draft_apart folder target draft.0 path draft.1 (same ∙ is))

    keeps : (calls : List DiskEvent) → AreChanges limits (changes calls) → NamesThere calls → KeepDraft path calls
    keeps [] are there = tt
    keeps (Removed at answer ∷ calls) are there =
        (removes at calls are.1 there are.0.change, keeps calls are.1 there)
    keeps (Linked file from to answer ∷ calls) are there = (
      (
        λ same. still_holds file.made_when calls
            (subst (λ (p : List ℕ). IsStillAt p file.made_when calls) (sym same) there.0),
        target_apart limits folder path to draft are.0.change.1,
      ),
      keeps calls are.1 there.1,
    )
    keeps (Renamed file from to answer ∷ calls) are there = (
      (
        λ same. still_holds file.made_when calls
            (subst (λ (p : List ℕ). IsStillAt p file.made_when calls) (sym same) there.0),
        target_apart limits folder path to draft are.0.change.1,
      ),
      keeps calls are.1 there.1,
    )
    keeps (Made at answer ∷ calls) are there = (tt, keeps calls are.1 there)
    keeps (Locked at answer ∷ calls) are there = (tt, keeps calls are.1 there)
    keeps (Folder_opened at answer ∷ calls) are there = (tt, keeps calls are.1 there)
    keeps (Folder_synced at answer ∷ calls) are there = (tt, keeps calls are.1 there)
    keeps (Looked at answer ∷ calls) are there = (tt, keeps calls are there)
    keeps (Followed at answer ∷ calls) are there = (tt, keeps calls are there)
    keeps (Resolved at answer ∷ calls) are there = (tt, keeps calls are there)
    keeps (Opened at answer ∷ calls) are there = (tt, keeps calls are there)
    keeps (Tried at answer ∷ calls) are there = (tt, keeps calls are there)
    keeps (Created at made ∷ calls) are there = (tt, keeps calls are there)
    keeps (Examined answer ∷ calls) are there = (tt, keeps calls are there)
    keeps (Given bytes ∷ calls) are there = (tt, keeps calls are there)
    keeps (Not_given error ∷ calls) are there = (tt, keeps calls are there)
    keeps (Sought to answer ∷ calls) are there = (tt, keeps calls are there)
    keeps (Written bytes ∷ calls) are there = (tt, keeps calls are there)
    keeps (Not_written error ∷ calls) are there = (tt, keeps calls are there)
    keeps (Synced answer ∷ calls) are there = (tt, keeps calls are there)
    keeps (Mode_set mode answer ∷ calls) are there = (tt, keeps calls are there)

pub stores_keep_drafts : StoresKeepDrafts
stores_keep_drafts limits folder path calls draft are there = keeps path limits folder draft calls are there
