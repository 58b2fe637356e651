-- What a draft took, call by call, and what its commit made of it.
use Rattle.std.proofs.lemmas.Grind.{common_steps}
use Rattle.std.proofs.Common.{◌≡◌, ◌∙◌, ℕ, Bool, true, false, List, ◌∷◌, ◌++◌, Some, None, Ok, Err, inl, inr, ap, subst}
use Rattle.std.proofs.Common.{arith, rules}
use Rattle.std.specs.Prelude.{Contains}
use Rattle.std.specs.String.{string_bytes}
use Rattle.lru.proofs.Splits.{Contains-head, Contains-tail}
use Rattle.tftp_disk.specs.DiskTrace.{DiskEvent, FileState, state_of}
use Rattle.tftp_disk.specs.DiskTrace.DiskEvent.{Linked, Made, Renamed}
use Rattle.tftp_disk.specs.DiskWriter.{calls_of}
use Rattle.tftp_store.specs.Drafts.{TakesInTurn}
use Rattle.tftp_store.specs.Drafts.TakesInTurn.{Took_more, Took_nothing, Written_back}
use Rattle.tftp_folder.specs.Commit.{lock_of, LooksThenRenames, Names}
use Rattle.tftp_folder.specs.Draft.{bytes_of, GivesName, SameNames}
use Rattle.tftp_folder.specs.Effects.{folder_meaning}
use Rattle.tftp_folder.specs.Stored.{IsNamedBy, StoresWhatItTook}
use Rattle.tftp_folder.specs.Uploads.{path_below}
use Rattle.tftp_folder.specs.declared.folder_draft.FolderDraft.{FolderDraft}

-- a call of before is one of the calls that named it
named_contains : (event : DiskEvent) (file : FileState) (draft target : List ℕ) (before : List DiskEvent)
    (replaces : Bool) (after : List DiskEvent) → Contains before event → Names file draft target before replaces after
    → Contains after event
named_contains event file draft target before true after has names = rw (names) (Contains-tail _ before event has)
named_contains event file draft target before false after has (inl names) =
    rw (names) (Contains-tail _ before event has)
named_contains event file draft target before false after has (inr (refusal, (removal, names))) =
    let linked = Linked file draft target (Err refusal) in
    let locked = Made (lock_of target) (Ok tt) in
    let renamed = Renamed file draft target (Ok tt) in
    rw (names) (Contains-tail _ (renamed ∷ locked ∷ linked ∷ before) event (Contains-tail renamed (locked ∷ linked ∷
    before) event (Contains-tail locked (linked ∷ before) event (Contains-tail linked before event has))))

module _ {F : Type 0} where
  same_names : (a b c : FolderDraft F) → SameNames a b → SameNames b c → SameNames a c
  same_names a b c first second = search rules

  -- the folder was opened, the name given, and the folder synced
  named_by : (draft : FolderDraft F) (before : List DiskEvent) (replaces : Bool) (after : List DiskEvent)
      → GivesName draft before replaces after
      → IsNamedBy (state_of (calls_of draft.writer)) (string_bytes draft.draft) (string_bytes draft.target) before
      replaces after
  named_by draft before replaces after (
    Some folder,
    opened,
    (at, is_folder, told, opens),
    (
      named,
      last,
      names,
      (answer, done, syncs),
      clears,
    ),
  ) = search rules
  named_by draft before replaces after (
    None,
    opened,
    (at, refusal, is_folder, denied, opens),
    (
      named,
      last,
      names,
      syncs,
      clears,
    ),
  ) =
      record {
        folder = at;
        is_folder = is_folder;
        answer = Err refusal;
        named = named;
        gives = rw (← opens) names;
        last = last;
        cleared = clears;
        synced =
            inr (
              (
                at,
                refusal,
                is_folder,
                denied,
                named_contains _ _ _ _ _ _ _ (rw (opens) (Contains-head _ before)) names,
              ),
              syncs,
            );
      }

module _ {D G H K F : Type 0} (log : D → List DiskEvent) where
  -- a draft has its names, and was handed what it took after what it had
  took : (first last : FolderDraft F) (all : List ℕ)
      → TakesInTurn (folder_meaning {D = D} {G = G} {H = H} {K = K} {F = F} log) first all last
      → SameNames first last × (bytes_of last ≡ bytes_of first ++ all)
  took first last all Took_nothing = search rules
  took first last all (Took_more {bytes} {piece} {draft} {draft'} before after taken append) =
      grind (arith, common_steps, same_names, took first draft bytes taken)
  took first last all (Written_back {bytes} {draft} {draft'} taken writes) =
      let had = took _ _ _ taken in
      (same_names _ _ _ had.0 writes.names, writes.handed ∙ had.1)

  pub stores_what_it_took : StoresWhatItTook log (folder_meaning {D = D} {G = G} {H = H} {K = K} {F = F} log)
  stores_what_it_took path bytes replace replaces before begun committing after first draft left begins takes commits =
      let made = begins.made in
      let had = took _ _ _ takes in
      let target = path_below (string_bytes before.folder.root) path in
      let place = ap string_bytes (commits.names.draft ∙ had.0.draft) in
      let aim = ap string_bytes (commits.names.target ∙ had.0.target) ∙ made.aim in
      let aimed = ap string_bytes had.0.target ∙ made.aim in
      let file = state_of (calls_of left.writer) in
      record {
        draft = string_bytes first.draft;
        own = grind (arith, common_steps);
        file = file;
        place = commits.whole.place ∙ ap Some place;
        content = commits.whole.whole ∙ had.1 ∙ ap (λ l. l ++ bytes) made.empty;
        synced = commits.whole.done.synced;
        sound = commits.whole.done.sound;
        modes = left.modes;
        named = search (rules, named_by);
        over = subst (λ (t : List ℕ). LooksThenRenames replaces t (log committing.disk) (log after.disk)) aimed
            commits.over;
        there = search rules;
      }
