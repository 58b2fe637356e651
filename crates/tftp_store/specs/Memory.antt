-- A store in memory: its construction, and the calls that it refuses.
use Rattle.std.specs.Prelude.{ℕ, ◌≡◌, Bool, true, false, not, ◌&&◌, ◌⊎◌, List, [], ◌∷◌, map, Some}
use Rattle.std.specs.Prelude.{None, Option, is_some, ⊤}
use Rattle.std.specs.declared.vec.Vec.{Vec}
use Rattle.tftp_file.specs.declared.fault.StoreFault.{StoreFault}
use Rattle.tftp_file.specs.declared.fault.StoreFault.TheVariants.{Missing, Exists, Full, Memory}
use Rattle.tftp_store.specs.Store.{FileList, Stored, Drafted, StoreMeaning, file_at, is_taken}
use Rattle.tftp_store.specs.Store.{with_file}

-- the files of a list, each with its bytes
abbrev pub contents : {A : Type 0} → List (List ℕ × Vec ℕ A) → FileList
contents files = map (λ e. (e.0, e.1.items)) files

-- the files added one after another, each in the order of the paths
abbrev pub put_all : FileList → FileList → FileList
put_all held [] = held
put_all held (e ∷ files) = put_all (with_file held e.0 e.1) files

-- the files in the order of their paths
abbrev pub in_path_order : FileList → FileList
in_path_order files = put_all [] files

-- no path is repeated
abbrev pub has_distinct_paths : FileList → Bool
has_distinct_paths [] = true
has_distinct_paths (e ∷ files) = not (is_some (file_at e.0 files)) && has_distinct_paths files

-- the store, set to refuse its next append or commit or not
abbrev pub with_armed : Stored → Bool → Stored
with_armed stored armed = record stored { refuses = armed }

-- an opening fails if there is no such file, or when out of memory
abbrev pub MayRefuseOpen : Stored → List ℕ → StoreFault → Type 0
MayRefuseOpen stored path Missing = file_at path stored.files ≡ None
MayRefuseOpen stored path Memory = ⊤
MayRefuseOpen stored path _ = ⊥

-- a draft is refused if there is such a file, which is not to be replaced
abbrev pub MayRefuseBegin : Stored → List ℕ → Bool → StoreFault → Type 0
MayRefuseBegin stored path replace Exists = is_taken replace path stored.files ≡ true
MayRefuseBegin stored path replace _ = ⊥

-- an append fails if set to, or when out of memory
abbrev pub MayRefuseAppend : Stored → Drafted → List ℕ → StoreFault → Type 0
MayRefuseAppend stored draft bytes Full = stored.refuses ≡ true
MayRefuseAppend stored draft bytes Memory = stored.refuses ≡ false
MayRefuseAppend stored draft bytes _ = ⊥

-- a commit fails if set to, if there is such a file, which is not to be replaced, or with Full when
-- out of memory
abbrev pub MayRefuseCommit : Stored → List ℕ → Drafted → Bool → StoreFault → Type 0
MayRefuseCommit stored path draft replace Exists =
    (stored.refuses ≡ false) × (is_taken replace path stored.files ≡ true)
MayRefuseCommit stored path draft replace Full =
    (stored.refuses ≡ true) ⊎ (is_taken replace path stored.files ≡ false)
MayRefuseCommit stored path draft replace _ = ⊥

-- an opening must fail if there is no such file
pub record MustRefuseOpen (stored : Stored) (path : List ℕ) (fault : StoreFault) : Type 0 where
  pub missing : file_at path stored.files ≡ None
  pub answer : fault ≡ Missing

-- an append or a commit must be refused with Full if set to; none is set to be refused after it
pub record UsesArmed (before after : Stored) (fault : Option StoreFault) : Type 0 where
  pub refused : before.refuses ≡ true → fault ≡ Some Full
  pub cleared : after.refuses ≡ false

-- the model of a store in memory
abbrev pub memory_meaning : StoreMeaning Stored Drafted
memory_meaning =
    record {
      root = λ s. [];
      is_set_to = λ s port. ⊤;
      stored = λ s. Some s;
      drafted = λ draft. Some draft;
      may_refuse_open = MayRefuseOpen;
      may_refuse_begin = MayRefuseBegin;
      must_refuse_open = MustRefuseOpen;
      must_fail = λ stored path want. ⊥;
      begun = λ path replace before after result. after ≡ before;
      after_append = λ before draft bytes after draft' fault. UsesArmed before after fault;
      after_commit = λ before path draft replace after draft' fault. UsesArmed before after fault;
      after_write_behind = λ before after. after ≡ before;
      writes_behind = λ draft draft'. draft' ≡ draft;
      may_refuse_append = MayRefuseAppend;
      may_refuse_commit = MayRefuseCommit;
    }
