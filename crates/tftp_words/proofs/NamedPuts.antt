-- A file that was put got its name by the calls of its server: those up to a change, and up to a rename.
use Rattle.tftp_words.proofs.Common.{◌≡◌, ◌∙◌, ℕ, Bool, true, false, List, [], ◌∷◌, ◌++◌, append_assoc, length, Some}
use Rattle.tftp_words.proofs.Common.{Ok, Err, refl, sym, ap, subst, suc, inl, inr, arith, ◌⊎◌, Error, DiskEvent}
use Rattle.tftp_words.proofs.Common.{FileState, Made, Locked, Linked, Renamed, Removed, Limits, IsFreeLocked, lock_of}
use Rattle.tftp_words.proofs.Common.{IsStoredAt, GivesTo, IsLinkTo, Links, Renames}
use Rattle.tftp_disk.specs.Changes.{changes, renames}
use Rattle.tftp_disk.specs.DiskTrace.{Done}
use Rattle.tftp_disk.specs.DiskTrace.DiskEvent.{Folder_opened, Folder_synced}
use Rattle.tftp_folder.specs.Commit.{ClearsDraft, LooksThenRenames, Names, is_linked}
use Rattle.tftp_folder.specs.Uploads.{path_below}
use Rattle.tftp_words.specs.SharedFolder.{PutsAreNamed, PutsNameTheirFiles}
use Rattle.tftp_words.proofs.SharedCalls.{FoundAt, Takes, found, found_in}
use Rattle.tftp_words.proofs.SharedCalls.Takes.{Left, Taken}

-- ---- what the calls up to a change, and up to a rename, have to do with all calls
takes_change : (event : DiskEvent) → Takes changes (λ (call : DiskEvent). call) event
takes_change (Made path answer) = Taken (Made path answer) refl (λ events. refl)
takes_change (Locked path answer) = Taken (Locked path answer) refl (λ events. refl)
takes_change (Linked file from to answer) = Taken (Linked file from to answer) refl (λ events. refl)
takes_change (Renamed file from to answer) = Taken (Renamed file from to answer) refl (λ events. refl)
takes_change (Removed path answer) = Taken (Removed path answer) refl (λ events. refl)
takes_change (Folder_opened path answer) = Taken (Folder_opened path answer) refl (λ events. refl)
takes_change (Folder_synced path answer) = Taken (Folder_synced path answer) refl (λ events. refl)
takes_change event = Left (λ events. refl)

-- a change is one of all calls
abbrev Split : (calls pre : List DiskEvent) (call : DiskEvent) (rest : List DiskEvent) → Type 0
Split = FoundAt changes (λ (call : DiskEvent). call)

split : (calls pre : List DiskEvent) (call : DiskEvent) (rest : List DiskEvent) → changes calls ≡ pre ++ call ∷ rest
    → Split calls pre call rest
split = found_in changes (λ (call : DiskEvent). call) refl takes_change

-- calls whose changes have no rename
no_renames : (front back : List DiskEvent) → renames (changes front) ≡ [] → renames (front ++ back) ≡ renames back
no_renames [] back none = refl
no_renames (Renamed file from to answer ∷ es) back none =
    absurd (let f : (Renamed file from to answer ∷ changes es) ∷ renames (changes es) ≡ [] = none in cc)
no_renames (e ∷ es) back none = no_renames es back none

-- as many renames are in the changes
count : (calls : List DiskEvent) → length (renames calls) ≡ length (renames (changes calls))
count [] = refl
count (Renamed file from to answer ∷ es) = ap (λ (n : ℕ). suc n) (count es)
count (e ∷ es) = count es

-- ---- a file that was put got its name
-- the call that named the file
record NamesIt (target : List ℕ) (after : List DiskEvent) (replaces : Bool) (file : FileState) : Type 0 where
  front : List DiskEvent
  call : DiskEvent
  back : List DiskEvent
  is : after ≡ front ++ call ∷ back
  from : List ℕ
  names : (call ≡ Linked file from target (Ok tt)) ⊎ (call ≡ Renamed file from target (Ok tt))
  free : replaces ≡ false → IsLinkTo target call ⊎ IsFreeLocked target back

gives_it : (target from : List ℕ) (call : DiskEvent) (file : FileState) →
    (call ≡ Linked file from target (Ok tt)) ⊎ (call ≡ Renamed file from target (Ok tt)) → GivesTo target call
gives_it target from call file (inl is) = Links file from is
gives_it target from call file (inr is) = Renames file from is

-- by these changes
module _ (target : List ℕ) (before after : List DiskEvent) (file : FileState) (draft folder : List ℕ) (answer : Done) where
  abbrev opening : List DiskEvent
  opening = Folder_opened folder answer ∷ changes before

  -- a rename that may replace no file came just after the look
  looked : (refusal : Error) → LooksThenRenames false target before after → (front back : List DiskEvent)
      → after ≡ front ++ Renamed file draft target (Ok tt) ∷ back → renames (changes front) ≡ []
      → changes back ≡ Made (lock_of target) (Ok tt) ∷ Linked file draft target (Err refusal) ∷ opening
      → IsFreeLocked target back
  looked refusal over front back is none is_back =
      let renamed = Renamed file draft target (Ok tt) ∷ back in
      let all : renames after ≡ renamed ∷ renames back = ap renames is ∙ no_renames front renamed none in
      let more : length (renames back) ≡ length (renames before) =
      count back ∙ (ap (λ (l : List DiskEvent). length (renames l)) is_back ∙ sym (count before)) in
      elim over [
        | inl same ↦
            let n : suc (length (renames back)) ≡ length (renames before) =
            ap (λ (l : List (List DiskEvent)). length l) (sym all ∙ same) in
            absurd (omega (arith, n, more))
        | inr (last, s, is_last) ↦
            let f : renamed ∷ renames back ≡ last ∷ renames before = sym all ∙ is_last in
            let g : renamed ≡ last = cc in
            let k : Renamed file draft target (Ok tt) ∷ back ≡ Renamed s.file s.from target s.answer ∷ s.before =
            g ∙ s.newest in
            let b : back ≡ s.before = cc in
            subst (IsFreeLocked target) (sym b) s.may
      ]

  at_call : (replaces : Bool) (pre : List DiskEvent) (call : DiskEvent) (rest : List DiskEvent)
      → (call ≡ Linked file draft target (Ok tt)) ⊎ (call ≡ Renamed file draft target (Ok tt))
      → changes after ≡ pre ++ call ∷ rest
      → ((s : Split after pre call rest) → replaces ≡ false → IsLinkTo target call ⊎ IsFreeLocked target s.older)
      → NamesIt target after replaces file
  at_call replaces pre call rest names is free =
      let s = split after pre call rest is in
      record { front = s.newer; call = call; back = s.older; is = s.is; from = draft; names = names; free = free s }

  from_names : (replaces : Bool) (named : List DiskEvent) (syncs : List DiskEvent) → changes after ≡ syncs ++ named
      → ((rest : List DiskEvent) → renames (syncs ++ rest) ≡ renames rest)
      → Names file draft target opening replaces named → LooksThenRenames replaces target before after
      → NamesIt target after replaces file
  from_names true named syncs is none names over =
      at_call true syncs (Renamed file draft target (Ok tt)) opening (inr refl) (rw (is, names))
      (λ s no. absurd (let f : true ≡ false = no in cc))
  from_names false named syncs is none (inl names) over =
      at_call false syncs (Linked file draft target (Ok tt)) opening (inl refl) (rw (is, names))
      (λ s no. inl (file, draft, refl))
  from_names false named syncs is none (inr (refusal, (removal, names))) over =
      let removed = Removed (lock_of target) removal in
      at_call false (syncs ++ removed ∷ []) (Renamed file draft target (Ok tt))
      (Made (lock_of target) (Ok tt) ∷ Linked file draft target (Err refusal) ∷ opening) (inr refl)
      (rw (is, names) (simp append_assoc)) (λ s no. inr (looked refusal over s.newer s.older s.is
      (ap renames s.before ∙ none (removed ∷ [])) s.after))

-- what is left of a draft that has its name is removed, or nothing is
record Clears (last after : List DiskEvent) : Type 0 where
  front : List DiskEvent
  is : after ≡ front ++ last
  none : (rest : List DiskEvent) → renames (front ++ rest) ≡ renames rest

clears : (linked : Bool) (draft : List ℕ) (last after : List DiskEvent) → ClearsDraft linked draft last after
    → Clears last after
clears true draft last after (removal, is) = record { front = Removed draft removal ∷ []; is = is; none = λ rest. refl }
clears false draft last after is = record { front = []; is = is; none = λ rest. refl }

names_it : (limits : Limits) (path bytes : List ℕ) (replaces : Bool) (before after : List DiskEvent)
    → (stored : IsStoredAt limits path bytes replaces before after)
    → NamesIt (path_below limits.root path) after replaces stored.file
names_it limits path bytes replaces before after stored =
    let n = stored.named in
    let c = clears (is_linked n.named) stored.draft n.last (changes after) n.cleared in
    elim (n.synced) [
      | inl (at, answer, folder, synced, is) ↦
          let sync = Folder_synced (Some at) answer ∷ [] in
          from_names (path_below limits.root path) before after stored.file stored.draft n.folder n.answer replaces
          n.named (c.front ++ sync)
          (c.is ∙ (ap (λ (l : List DiskEvent). c.front ++ l) is ∙ sym (append_assoc c.front sync n.named)))
          (λ rest. ap (λ (l : List DiskEvent). renames l) (append_assoc c.front sync rest) ∙ c.none (sync ++ rest))
          n.gives stored.over
      | inr (barred, is) ↦
          from_names (path_below limits.root path) before after stored.file stored.draft n.folder n.answer replaces
          n.named c.front (c.is ∙ ap (λ (l : List DiskEvent). c.front ++ l) is) c.none n.gives stored.over
    ]

pub puts_name_their_files : PutsNameTheirFiles
puts_name_their_files order target program replaces put =
    let n = subst (λ (t : List ℕ). NamesIt t put.after replaces put.stored.file) put.place
    (names_it put.limits put.path put.bytes replaces put.before put.after put.stored) in
    let f = found program order (put.later ++ n.front) n.call n.back
    (put.asked ∙ (ap (λ (l : List DiskEvent). put.later ++ l) n.is ∙ sym (append_assoc put.later n.front (n.call ∷ n.back)))) in (
      record {
        newer = f.newer;
        call = n.call;
        older = f.older;
        at = f.is;
        gives = gives_it target n.from n.call put.stored.file n.names;
        free =
            λ no. subst (λ (l : List DiskEvent). IsLinkTo target n.call ⊎ IsFreeLocked target l) (sym f.after) (n.free no);
      },
      record {
        file = put.stored.file;
        from = n.from;
        is = n.names;
        content = put.stored.content;
        synced = put.stored.synced;
      },
    )

pub puts_are_named : PutsAreNamed
puts_are_named order target program replaces put = (puts_name_their_files order target program replaces put).0
