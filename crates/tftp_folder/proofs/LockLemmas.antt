-- A store removes no lock that it does not hold.
use Rattle.std.proofs.lemmas.Grind.{common_steps}
use Rattle.std.proofs.Common.{◌≡◌, ◌≢◌, ◌∙◌, ℕ, true, List, [], ◌∷◌, ◌++◌, Ok, Err, All, ap, arith, inl, inr, refl}
use Rattle.std.proofs.Common.{subst, sym, rules}
use Rattle.std.proofs.lemmas.Bool.{and_parts}
use Rattle.std.proofs.lemmas.List.{append_cancel_left}
use Rattle.std.proofs.lemmas.List.Elements.{All-head, All-tail}
use Rattle.std.specs.List.{list_all, join_with_byte}
use Rattle.std.specs.Prelude.{◌⊎◌, ⊤, IsTrue}
use Rattle.tftp_disk.specs.Changes.{changes}
use Rattle.tftp_disk.specs.DiskTrace.{DiskEvent}
use Rattle.tftp_disk.specs.DiskTrace.DiskEvent.{Looked, Followed, Resolved, Opened, Tried, Created, Made, Locked, Linked, Renamed, Removed}
use Rattle.tftp_disk.specs.DiskTrace.DiskEvent.{Folder_opened, Folder_synced, Examined, Given, Not_given, Sought}
use Rattle.tftp_disk.specs.DiskTrace.DiskEvent.{Written, Not_written, Synced, Mode_set}
use Rattle.tftp_disk.specs.Still.{AllLeave, LeavesPath}
use Rattle.tftp_file.specs.Path.{IsPath, is_name_byte, is_segment}
use Rattle.tftp_folder.specs.Changing.{AreChanges, HoldsLock, IsDraftIn, IsLock, IsTarget, Limits}
use Rattle.tftp_folder.specs.Commit.{lock_of}
use Rattle.tftp_folder.specs.Locks.{KeepLock, StoresKeepLocks}
use Rattle.tftp_folder.proofs.ApartLemmas.{draft_apart}

-- ---- no path that a client can name has a tilde
abbrev HasNoTilde : List ℕ → Type 0
HasNoTilde [] = ⊤
HasNoTilde (byte ∷ bytes) = (byte ≢ 126) × HasNoTilde bytes

both_none : (front rest : List ℕ) → HasNoTilde front → HasNoTilde rest → HasNoTilde (front ++ rest)
both_none [] rest one other = other
both_none (byte ∷ front) rest one other = (one.0, both_none front rest one.1 other)

name_none : (bytes : List ℕ) → list_all is_name_byte bytes ≡ true → HasNoTilde bytes
name_none [] all = tt
name_none (byte ∷ bytes) all =
    let parts = and_parts (is_name_byte byte) (list_all is_name_byte bytes) all in search (
      rules,
      name_none bytes
          parts.1,
    )

segment_none : (segment : List ℕ) → is_segment segment ≡ true → HasNoTilde segment
segment_none segment is = search (rules, name_none, and_parts)

slash_is_none : ◌≢◌ {A = ℕ} 47 126
slash_is_none same = omega (arith, same)

-- names that are joined by slashes have none
joined_pair : (one two : List ℕ) (more : List (List ℕ)) → HasNoTilde one → HasNoTilde (join_with_byte 47 (two ∷ more))
    → HasNoTilde (join_with_byte 47 (one ∷ (two ∷ more)))
joined_pair one two more first rest = both_none one (47 ∷ join_with_byte 47 (two ∷ more)) first (slash_is_none, rest)

IsSegment : List ℕ → Type 0
IsSegment segment = IsTrue (is_segment segment)

joined_none : (segments : List (List ℕ)) → ((segment : List ℕ) → IsSegment segment → HasNoTilde segment)
    → All IsSegment segments → HasNoTilde (join_with_byte 47 segments)
joined_none [] each all = tt
joined_none (one ∷ []) each all = each one (All-head IsSegment one [] all)
joined_none (one ∷ (two ∷ more)) each all =
    joined_pair one two more (each one (All-head IsSegment one (two ∷ more) all))
    (joined_none (two ∷ more) each (All-tail IsSegment one (two ∷ more) all))

segments_none : (segments : List (List ℕ)) → All (λ segment. IsTrue (is_segment segment)) segments
    → HasNoTilde (join_with_byte 47 segments)
unfolding IsSegment
segments_none segments all = joined_none segments segment_none all

path_none : (path : List ℕ) → IsPath path → HasNoTilde path
path_none path is = subst HasNoTilde (sym is.joined) (segments_none is.segments is.allowed)

lock_has_one : (front rest : List ℕ) → HasNoTilde (front ++ (126 ∷ rest)) → ⊥
lock_has_one [] rest none = none.0 refl
lock_has_one (byte ∷ front) rest none = lock_has_one front rest none.1

-- so no lock is at a place that a client can name
target_apart : (limits : Limits) (target other : List ℕ) → IsTarget limits target → IsTarget limits other
    → lock_of target ≢ other
target_apart limits target other is is_other same =
    grind (arith, common_steps, append_cancel_left, lock_has_one, path_none)

-- ---- what only looks leaves each path
module _ (lock : List ℕ) where
  data Sees (event : DiskEvent) : Type 0 where
    A_change : ((events : List DiskEvent) → changes (event ∷ events) ≡ event ∷ changes events) → Sees event
    A_look : ((events : List DiskEvent) → changes (event ∷ events) ≡ changes events) → LeavesPath lock event
        → Sees event

  sees : (event : DiskEvent) → Sees event
  sees event = search rules

  more : (event : DiskEvent) (calls : List DiskEvent) → LeavesPath lock event → HoldsLock lock calls
      → HoldsLock lock (event ∷ calls)
  more event calls leaves holds = record {
    since = event ∷ holds.since;
    before = holds.before;
    made = ap (λ (l : List DiskEvent). event ∷ l) holds.made;
    left = (leaves, holds.left);
  }

  holds_from : (event : DiskEvent) (calls since before : List DiskEvent)
      → event ∷ changes calls ≡ since ++ Made lock (Ok tt) ∷ before → AllLeave lock since
      → ((rest : List DiskEvent) → changes calls ≡ rest ++ Made lock (Ok tt) ∷ before → AllLeave lock rest
      → HoldsLock lock calls)
      → HoldsLock lock (event ∷ calls)
  holds_from event calls [] before made left next =
      let f : event ∷ changes calls ≡ Made lock (Ok tt) ∷ before = made in
      let is : event ≡ Made lock (Ok tt) = cc in
      record { since = []; before = calls; made = ap (λ (e : DiskEvent). e ∷ calls) is; left = tt }
  holds_from event calls (one ∷ since) before made left next = search (rules, more)

  -- who holds a lock by the changes, does by all calls
  holds_by : (calls since before : List DiskEvent) → changes calls ≡ since ++ Made lock (Ok tt) ∷ before
      → AllLeave lock since → HoldsLock lock calls
  holds_by [] [] before made left = absurd (let f = made in cc)
  holds_by [] (one ∷ since) before made left = absurd (let f = made in cc)
  holds_by (event ∷ calls) since before made left = elim (sees event) [
    | A_change is ↦
        holds_from _ _ _ _ (sym (is calls) ∙ made) left (λ rest made' left'. holds_by _ _ _ made' left')
    | A_look is leaves ↦ more _ _ leaves (holds_by _ _ _ (sym (is calls) ∙ made) left)
  ]

-- ---- each call of a store
module _ (limits : Limits) (target : List ℕ) (is : IsTarget limits target) where
  draft_else : (path : List ℕ) → IsDraftIn limits.drafts path → lock_of target ≢ path
  draft_else path drafted same = draft_apart limits.drafts target drafted.0 path drafted.1 (sym same)

  removes : (path : List ℕ) (calls : List DiskEvent) {MayBe WasGiven : Type 0}
      → (IsDraftIn limits.drafts path × MayBe) ⊎ (IsTarget limits path × WasGiven)
      ⊎ (IsLock limits path × HoldsLock path (changes calls))
      → lock_of target ≡ path → HoldsLock (lock_of target) calls
  removes path calls (inl drafted) same = absurd (draft_else path drafted.0 same)
  removes path calls (inr (inl named)) same = absurd (target_apart limits target path is named.0 same)
  removes path calls (inr (inr locked)) same = search (rules, holds_by)

  renames : (from to : List ℕ) (calls : List DiskEvent) → IsDraftIn limits.drafts from → IsTarget limits to
      → (lock_of target ≡ from) ⊎ (lock_of target ≡ to) → HoldsLock (lock_of target) calls
  renames from to calls drafted named (inl same) = absurd (draft_else from drafted same)
  renames from to calls drafted named (inr same) = absurd (target_apart limits target to is named same)

  keeps : (calls : List DiskEvent) → AreChanges limits (changes calls) → KeepLock (lock_of target) calls
  keeps [] are = tt
  keeps (Removed path (Ok done) ∷ calls) are = (removes path calls are.0.change, keeps calls are.1)
  keeps (Removed path (Err error) ∷ calls) are = (tt, keeps calls are.1)
  keeps (Renamed file from to (Ok done) ∷ calls) are =
      (renames from to calls are.0.change.0 are.0.change.1, keeps calls are.1)
  keeps (Renamed file from to (Err error) ∷ calls) are = (tt, keeps calls are.1)
  keeps (Made path answer ∷ calls) are = (tt, keeps calls are.1)
  keeps (Locked path answer ∷ calls) are = (tt, keeps calls are.1)
  keeps (Linked file from to answer ∷ calls) are = (tt, keeps calls are.1)
  keeps (Folder_opened path answer ∷ calls) are = (tt, keeps calls are.1)
  keeps (Folder_synced path answer ∷ calls) are = (tt, keeps calls are.1)
  keeps (Looked path answer ∷ calls) are = (tt, keeps calls are)
  keeps (Followed path answer ∷ calls) are = (tt, keeps calls are)
  keeps (Resolved path answer ∷ calls) are = (tt, keeps calls are)
  keeps (Opened path answer ∷ calls) are = (tt, keeps calls are)
  keeps (Tried path answer ∷ calls) are = (tt, keeps calls are)
  keeps (Created path made ∷ calls) are = (tt, keeps calls are)
  keeps (Examined answer ∷ calls) are = (tt, keeps calls are)
  keeps (Given bytes ∷ calls) are = (tt, keeps calls are)
  keeps (Not_given error ∷ calls) are = (tt, keeps calls are)
  keeps (Sought to answer ∷ calls) are = (tt, keeps calls are)
  keeps (Written bytes ∷ calls) are = (tt, keeps calls are)
  keeps (Not_written error ∷ calls) are = (tt, keeps calls are)
  keeps (Synced answer ∷ calls) are = (tt, keeps calls are)
  keeps (Mode_set mode answer ∷ calls) are = (tt, keeps calls are)

pub stores_keep_locks : StoresKeepLocks
stores_keep_locks limits target calls is are = keeps limits target is calls are
