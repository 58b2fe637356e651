-- Which servers were started, and that each was ended.
use Rattle.std.proofs.lemmas.Grind.{common_steps}
use Rattle.std.proofs.Common.{◌≡◌, ◌≢◌, ◌∙◌, ◌<◌, ◌≤◌, ◌+◌, ◌==◌, ℕ, Bool, true, false, List, [], ◌∷◌, ◌++◌, length, map, take, drop}
use Rattle.std.proofs.Common.{arith, refl, sym, ap, subst, rules}
use Rattle.std.specs.Prelude.{Contains, Err, Ok, OnOk, Result, Some, pos, slice_index_or}
use Rattle.std.specs.Process.{exit_code}
use Rattle.std.specs.declared.io.Error.{Error}
use Rattle.std.specs.declared.process.status.ExitStatus.{ExitStatus}
use Rattle.std.proofs.lemmas.Bool.{eqb-true, eq-eqb}
use Rattle.std.proofs.lemmas.List.{length-map, map-append, take_all, take-append-drop}
use Rattle.tftp_supervisor.specs.ProcessEvent.{AllSucceeded, EachEnded, ProcessEvent, StartsFirst, WasEnded}
use Rattle.tftp_supervisor.specs.ProcessEvent.{started_in}
use Rattle.tftp_supervisor.specs.ProcessEvent.ProcessEvent.{Started, Closed, Ended}
use Rattle.tftp_supervisor.specs.Watching.{GoesOn, ReadsOutput}
use Rattle.tftp_supervisor.specs.Watching.ReadsOutput.{Finished}
use Rattle.tftp_supervisor.specs.declared.supervisor.WatchedServer.{WatchedServer}
use Rattle.tftp_supervisor.proofs.Following.{earlier, newest}

-- ---- the command lines
-- a server more was started, by the line at this index
pub one_more : {X : Type 0} (f : X → List (List ℕ)) (xs : List X) (index : ℕ) (x : X) (line : List (List ℕ))
    (before after : List ProcessEvent) → index < length xs → x ≡ slice_index_or xs index x → line ≡ f x
    → started_in before ≡ map f (take index xs) → after ≡ Started line ∷ before
    → started_in after ≡ map f (take (index + 1) xs)
one_more f xs index x line before after below is same were noted = grind (arith, common_steps)

-- they are the first
pub are_first : {X : Type 0} (f : X → List (List ℕ)) (xs : List X) (index : ℕ) (events : List ProcessEvent)
    → started_in events ≡ map f (take index xs) → StartsFirst (map f xs) events
are_first f xs index events were =
    search (
      map f (drop index xs),
      ap (map f) (sym (take-append-drop index xs)) ∙ map-append f (take index xs) (drop index xs) ∙ ap (λ (lines : List
          (List (List ℕ))). lines ++ map f (drop index xs)) (sym were),
    )

-- they are all
pub are_all : {X : Type 0} (f : X → List (List ℕ)) (xs : List X) (index : ℕ) (events : List ProcessEvent)
    → length xs ≤ index → started_in events ≡ map f (take index xs) → started_in events ≡ map f xs
are_all f xs index events over were = were ∙ ap (map f) (take_all index xs over)

pub first_of_none : (lines : List (List (List ℕ))) (events : List ProcessEvent) → events ≡ []
    → StartsFirst lines events
first_of_none lines events none = search (ap (λ (started : List ProcessEvent). started_in started ++ lines) (sym none))

pub first_of_same : (lines : List (List (List ℕ))) (before after : List ProcessEvent) → StartsFirst lines before
    → started_in after ≡ started_in before → StartsFirst lines after
first_of_same lines before after first same = search rules

-- ---- going on
pub goes_on_ended : (before middle after : List ProcessEvent) (server : ℕ) (answer : Result ExitStatus Error)
    → GoesOn before middle → after ≡ Ended server answer ∷ middle → GoesOn before after
goes_on_ended before middle after server answer goes noted = search rules

-- ---- ending
pub ended_more : (count server : ℕ) (answer : Result ExitStatus Error) (before after : List ProcessEvent)
    → server ≡ count + 1 → ((k : ℕ) → k < count → WasEnded (k + 1) before) → after ≡ Ended server answer ∷ before
    → (k : ℕ) → k < count + 1 → WasEnded (k + 1) after
ended_more count server answer before after is were noted k below = by (k == count) refl
  where
    by : (b : Bool) → (k == count) ≡ b → WasEnded (k + 1) after
    by true same =
        let last = is ∙ ap (λ (n : ℕ). n + 1) (sym (eqb-true k count same)) in
        subst (λ (n : ℕ). WasEnded n after) last
        (search (subst (λ (events : List ProcessEvent). Contains events (Ended server answer)) (sym noted) (newest
        (Ended server answer) before)))
    by false other =
        let apart : k ≢ count = λ e. let yes = eq-eqb k count e in cc in
        let was = were k (omega (arith, below, apart)) in
        search (subst (λ (events : List ProcessEvent). Contains events (Ended (k + 1) was.answer)) (sym noted) (earlier
        (Ended (k + 1) was.answer) (Ended server answer) before was.ended))

pub ended_well : {X : Type 0} (f : X → List (List ℕ)) (xs : List X) (events : List ProcessEvent)
    → AllSucceeded (length xs) events → started_in events ≡ map f xs → EachEnded events
ended_well f xs events all started k below =
    let same = ap (λ (lines : List (List (List ℕ))). length lines) started ∙ length-map xs f in
    let one = all k (omega (arith, same, below)) in record { answer = Ok one.status; ended = one.ended }

-- a server closed its output, and its end was looked at
pub finished_so : {A E : Type 0} (result : Result A E) (announced : List (List ℕ)) (old new : WatchedServer)
    (before closed after : List ProcessEvent) (out : List ℕ)
    → OnOk result ((status : ExitStatus) × (exit_code status ≡ Some (pos 0))
    × (after ≡ Ended old.output.server (Ok status) ∷ closed))
    → closed ≡ Closed old.output.server ∷ before → new.output ≡ old.output → out ≡ []
    → OnOk result (ReadsOutput announced announced old new before after out)
finished_so (Ok value) announced old new before closed after out ends noted same none =
    Finished ends.0 ends.1
    (ends.2 ∙ ap (λ (events : List ProcessEvent). Ended old.output.server (Ok ends.0) ∷ events) noted) same none refl
finished_so (Err fault) announced old new before closed after out ends noted same none = tt
