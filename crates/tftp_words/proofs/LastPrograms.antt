-- The program that did a complete job is the last of those that its command ran: what holds of each job whose program
-- is in a list holds of all commands whose programs the list has.
use Rattle.tftp_words.proofs.Common.{◌≡◌, ℕ, List, [], ◌∷◌, ◌++◌, append_assoc, length, Some, refl, sym, ap, ◌∙◌, inl}
use Rattle.tftp_words.proofs.Common.{inr, slice_get, AllByRecursion, SinkMeaning, SourceMeaning, Files, Endpoint}
use Rattle.tftp_words.proofs.Common.{SocketEvent, Moved, RunsWords, IsFileOf, moved_by, IsCounted, moved_in}
use Rattle.tftp_words.proofs.Common.{ClientProgram, RanComplete, WordsComplete, AreAllRuns, ClientRan, IsRunFor, Job}
use Rattle.tftp_words.proofs.Common.{LastDid, finished_in}

-- the element after some others
slice_get-after : {X : Type 0} (xs ys : List X) (x : X) → slice_get (xs ++ x ∷ ys) (length xs) ≡ Some x
slice_get-after [] ys x = refl
slice_get-after (z ∷ xs) ys x = slice_get-after xs ys x

module _ {G K : Type 0} {inputs : SourceMeaning G} {outputs : SinkMeaning K} {to : Endpoint}
    (all : List (ClientProgram inputs outputs to)) where
  abbrev Program : Type 0
  Program = ClientProgram inputs outputs to

  -- a program of the list did this job, in whose run this moved
  pub record IsDoneBy (job : Job) (files : Files G K) (count : ℕ) (moved : Moved) : Type 0 where
    pub of : IsFileOf inputs outputs job.kind files
    pub k : ℕ
    pub program : ClientProgram inputs outputs to
    pub found : slice_get all k ≡ Some program
    pub runs : IsRunFor job program
    pub counted : IsCounted count program
    pub moves : moved_in program.runs ≡ moved

  module _ (Holds : Job → Files G K → ℕ → List ℕ → Type 0)
      (holds : (job : Job) (files : Files G K) (count : ℕ) (moved : Moved) → IsDoneBy job files count moved →
      Holds job files count moved.bytes) where
    -- what one command did, whose programs are these, between the others
    module _ (earlier own later : List Program) (here : all ≡ earlier ++ (own ++ later)) where
      -- the last of them is in the list
      its_file : (job : Job) (files : Files G K) (count : ℕ) (moved : Moved) → IsFileOf inputs outputs job.kind files →
          LastDid (Some (record { job = job; count = count; moved = moved })) own → Holds job files count moved.bytes
      its_file job files count moved of last =
          let before = earlier ++ last.0 in
          let at : all ≡ (earlier ++ last.0) ++ last.1 ∷ later = rw (here, last.2) (simp append_assoc) in
          holds job files count moved (record {
            of = of;
            k = length before;
            program = last.1;
            found =
                ap (λ (xs : List Program). slice_get xs (length before)) at ∙ slice_get-after before later last.1;
            runs = last.3;
            counted = last.4;
            moves = last.5;
          })

      its_words : (words : List (List ℕ)) (status : ℕ) (before after : List SocketEvent)
          (h : RunsWords inputs outputs words status before after) →
          LastDid (finished_in inputs outputs words status before after h) own →
          WordsComplete inputs outputs Holds words status before after h
      its_words words status before after (inl none) last = tt
      its_words words status before after (inr (job, named, inl done)) last =
          its_file job done.1.files done.1.count (moved_by inputs outputs done.1.transfers) done.1.side last
      its_words words status before after (inr (job, named, inr failed)) last = tt

    -- and all of them
    pub all_hold : (earlier : List Program) (clients : List (ClientRan inputs outputs)) (rest : List Program) →
        all ≡ earlier ++ rest → AreAllRuns clients rest → AllByRecursion (RanComplete inputs outputs Holds) clients
    all_hold earlier [] rest same runs = tt
    all_hold earlier (ran ∷ clients) rest same runs =
        let here = same ∙ ap (λ (xs : List Program). earlier ++ xs) runs.2 in (
          its_words earlier runs.0 runs.1 here ran.words ran.status ran.before ran.after ran.ran runs.3.last,
          all_hold (earlier ++ runs.0) clients runs.1 (here ∙ sym (append_assoc earlier runs.0 runs.1)) runs.4,
        )
