-- Each transfer of a server stores in a temporary file that its port names.
use Rattle.std.proofs.Common.{◌≡◌, ◌≢◌, ◌∙◌, ℕ, zero, suc, ◌/◌, ◌%◌, ◌==◌, ◌<◌, ◌^◌, Bool, true, false, cond, List, [], ◌∷◌, ◌++◌}
use Rattle.std.proofs.Common.{Option, Some, append-nil, refl, sym, ap, subst, arith, inl, inr}
use Rattle.std.specs.Prelude.{IfOk, IfSome, Result, Ok, Err, codes, ⊤}
use Rattle.std.specs.Fmt.{decimal, digits, digits_onto, digit_glyph}
use Rattle.std.specs.String.{string_bytes}
use Rattle.std.proofs.lemmas.Fmt.{decimal_injective}
use Rattle.std.proofs.lemmas.List.{append_cancel_left}
use Rattle.tftp_file.specs.Source.{SourceMeaning}
use Rattle.tftp_file.specs.declared.fault.StoreFault.{StoreFault}
use Rattle.tftp_disk.specs.DiskTrace.{DiskEvent}
use Rattle.tftp_server.specs.State.{TransferState, draft_of}
use Rattle.tftp_folder.specs.Begin.{IsDraftOf}
use Rattle.tftp_folder.specs.Draft.{BeginsAt, SameNames}
use Rattle.tftp_folder.specs.Effects.{folder_meaning, drafts_of}
use Rattle.tftp_folder.specs.declared.folder_draft.FolderDraft.{FolderDraft}
use Rattle.tftp_folder.specs.declared.folder_store.FolderStore.{FolderStore}
use Rattle.tftp_daemon.specs.DraftPorts.{EachDraftHasItsPort, NoTwoShareADraft}
use Rattle.tftp_daemon.proofs.HeldAtPorts.{AllAt, one_at}
use Rattle.tftp_daemon.proofs.Keeping.{CallsKeepAt, run_keeps_at}

-- the folder of drafts of a store, and the name of a draft in it
abbrev HasFolder : {D G H W : Type 0} → List ℕ → FolderStore D G H W → Type 0
HasFolder folder store = string_bytes store.folder.drafts ≡ folder

abbrev IsAt : {E : Type 0} → List ℕ → ℕ → FolderDraft E → Type 0
IsAt folder port draft = IsDraftOf folder port (string_bytes draft.draft)

same_name : {E : Type 0} (folder : List ℕ) (port : ℕ) (draft draft' : FolderDraft E) → SameNames draft draft'
    → IsAt folder port draft → IsAt folder port draft'
same_name folder port draft draft' same is = subst (IsDraftOf folder port) (sym (ap string_bytes same.draft)) is

begun_at : {D G H W E : Type 0} (folder : List ℕ) (port : ℕ) (path : List ℕ) (before : FolderStore D G H W)
    (first last : List DiskEvent) (result : Result (FolderDraft E) StoreFault) → HasFolder folder before
    → before.port ≡ port → IfOk result (λ draft. BeginsAt (drafts_of before) before.port path draft first last)
    → IfOk result (IsAt folder port)
begun_at folder port path before first last (Err fault) has set made = tt
begun_at folder port path before first last (Ok draft) has set made =
    subst (λ (p : ℕ). IsDraftOf folder p (string_bytes draft.draft)) set
    (subst (λ (f : List ℕ). IsDraftOf f before.port (string_bytes draft.draft)) has made.made.own)

-- ---- the paths of one port
abbrev HasNoDash : List ℕ → Type 0
HasNoDash [] = ⊤
HasNoDash (byte ∷ bytes) = (byte ≢ 45) × HasNoDash bytes

-- nothing, or what begins with a dash
abbrev IsRest : List ℕ → Type 0
IsRest [] = ⊤
IsRest (byte ∷ bytes) = byte ≡ 45

either_none : (b : Bool) (xs ys : List ℕ) → HasNoDash xs → HasNoDash ys → HasNoDash (cond b xs ys)
either_none true xs ys one other = one
either_none false xs ys one other = other

no_dash : (n : ℕ) → digit_glyph false (n % 10) ≢ 45
no_dash n is = grind arith

onto_none : (k n : ℕ) (rest : List ℕ) → HasNoDash rest → HasNoDash (digits_onto k 10 false n rest)
onto_none zero n rest none = none
onto_none (suc k) n rest none =
    let digit = digit_glyph false (n % 10) in
    either_none (n / 10 == 0) (digit ∷ rest) (digits_onto k 10 false (n / 10) (digit ∷ rest)) (no_dash n, none)
    (onto_none k (n / 10) (digit ∷ rest) (no_dash n, none))

decimal_none : (n : ℕ) → HasNoDash (decimal n)
unfolding digits
decimal_none n =
    let digit = digit_glyph false (n % 10) in
    either_none (n / 10 == 0) (digit ∷ []) (digits_onto 63 10 false (n / 10) (digit ∷ [])) (no_dash n, tt)
    (onto_none 63 (n / 10) (digit ∷ []) (no_dash n, tt))

-- what is before the first dash of a text
same_front : (xs ys one other : List ℕ) → HasNoDash xs → HasNoDash ys → IsRest one → IsRest other
    → xs ++ one ≡ ys ++ other → xs ≡ ys
same_front [] [] one other mine none rest rests same = refl
same_front [] (y ∷ ys) [] other mine none rest rests same =
    absurd (let f : ◌≡◌ {A = List ℕ} [] (y ∷ (ys ++ other)) = same in cc)
same_front [] (y ∷ ys) (byte ∷ one) other mine none rest rests same =
    absurd (none.0 (let f : byte ∷ one ≡ y ∷ (ys ++ other) = same in cc))
same_front (x ∷ xs) [] one [] mine none rest rests same =
    absurd (let f : ◌≡◌ {A = List ℕ} (x ∷ (xs ++ one)) [] = same in cc)
same_front (x ∷ xs) [] one (byte ∷ other) mine none rest rests same =
    absurd (mine.0 (let f : x ∷ (xs ++ one) ≡ byte ∷ other = same in cc))
same_front (x ∷ xs) (y ∷ ys) one other mine none rest rests same =
    let f : x ∷ (xs ++ one) ≡ y ∷ (ys ++ other) = same in
    let heads : x ≡ y = cc in
    let tails : xs ≡ ys = same_front xs ys one other mine.1 none.1 rest rests (cc) in
    cc

-- the path, from the digits of the port on
record HasPort (folder : List ℕ) (port : ℕ) (path : List ℕ) : Type 0 where
  rest : List ℕ
  ends : IsRest rest
  is : path ≡ folder ++ (codes "/.tftp-" ++ (decimal port ++ rest))

has_port : (folder : List ℕ) (port : ℕ) (path : List ℕ) → IsDraftOf folder port path → HasPort folder port path
has_port folder port path (inl is) = record {
  rest = [];
  ends = tt;
  is = is ∙ ap (λ (d : List ℕ). folder ++ (codes "/.tftp-" ++ d)) (sym (append-nil (decimal port)));
}
has_port folder port path (inr (turn, is)) = record {
  rest = codes "-" ++ decimal turn;
  ends = refl;
  is = is;
}

one_port : (folder path : List ℕ) (one other : ℕ) → one < 2 ^ 16 → other < 2 ^ 16 → IsDraftOf folder one path
    → IsDraftOf folder other path → one ≡ other
one_port folder path one other low high mine theirs =
    let a = has_port folder one path mine in
    let b = has_port folder other path theirs in
    let names : decimal one ++ a.rest ≡ decimal other ++ b.rest =
    append_cancel_left (codes "/.tftp-") _ _ (append_cancel_left folder _ _ (sym a.is ∙ b.is)) in
    decimal_injective one other (omega (arith, low)) (omega (arith, high))
    (same_front (decimal one) (decimal other) a.rest b.rest (decimal_none one) (decimal_none other) a.ends b.ends names)

-- what an option has is so
found_so : {A : Type 0} (P : A → Type 0) (o : Option A) (x : A) → o ≡ Some x → IfSome o P → P x
found_so {A} P o x is holds = subst (λ (a : Option A). IfSome a P) is holds

abbrev IsStoredAt : {F E : Type 0} → List ℕ → ℕ → TransferState F (FolderDraft E) → Type 0
IsStoredAt folder port transfer = IfSome (draft_of transfer.files) (IsAt folder port)

module _ {D G H W F E : Type 0} (log : D → List DiskEvent) (sources : SourceMeaning F) where
  keeps : (folder : List ℕ)
      → CallsKeepAt {S = FolderStore D G H W} {D = FolderDraft E} (HasFolder folder) (IsAt folder) (folder_meaning log)
  keeps folder = record {
    begun = λ port path replace before after result has does. (
      does.settings.drafts ∙ has,
      λ set. begun_at folder port _ before _ _ result has set does.made,
    );
    appended = λ port bytes before after draft draft' fault has of does.
        (does.store.settings.drafts ∙ has, same_name folder port draft draft' does.names of);
    committed = λ port path replace before after draft draft' fault has of does.
        (does.settings.drafts ∙ has, same_name folder port draft draft' does.names of);
    behind = λ before after has does. does.settings.drafts ∙ has;
    drafts_behind = λ port draft draft' of does. same_name folder port draft draft' does.names of;
  }

  pub each_at_its_port : EachDraftHasItsPort {D = D} {G = G} {H = H} {W = W} {F = F} {E = E} (folder_meaning log) sources
  each_at_its_port start now port transfer holds =
      let folder = string_bytes start.server.store.folder.drafts in
      let kept =
      run_keeps_at (HasFolder folder) (IsAt folder) (folder_meaning log) sources (keeps folder) start now holds.run
      (record {
        store = refl;
        drafts = subst (AllAt (IsStoredAt folder)) (sym holds.empty) tt;
      }) in
      one_at (IsStoredAt folder) port now.server.held kept.drafts holds.found

  pub no_two_share : EachDraftHasItsPort {D = D} {G = G} {H = H} {W = W} {F = F} {E = E} (folder_meaning log) sources
      → NoTwoShareADraft {D = D} {G = G} {H = H} {W = W} {F = F} {E = E} (folder_meaning log) sources
  no_two_share each start now one other first second a b low high held held' is is' same =
      let folder = string_bytes start.server.store.folder.drafts in
      let mine = found_so (IsAt folder one) _ a is (each start now one first held) in
      let theirs = found_so (IsAt folder other) _ b is' (each start now other second held') in
      one_port folder (string_bytes b.draft) one other low high (subst (IsDraftOf folder one) same mine) theirs
