-- What is printed follows what the outputs of the servers gave.
use Rattle.std.proofs.lemmas.Grind.{common_steps}
use Rattle.std.proofs.Common.{◌≡◌, ◌≢◌, ◌||◌, ◌==◌, ◌∙◌, ◌<◌, ◌+◌, ℕ, Bool, true, false, List, [], ◌∷◌, ◌++◌}
use Rattle.std.proofs.Common.{if◌then◌else◌, append_assoc, subst, suc, arith, refl, sym, ap, length, rules}
use Rattle.std.specs.Prelude.{slice_index_or, slice_set, All, Contains, OnOk, Result, Ok, Err, Some, pos}
use Rattle.std.specs.Process.{exit_code}
use Rattle.std.specs.declared.process.status.ExitStatus.{ExitStatus}
use Rattle.std.proofs.lemmas.Bool.{eqb-true, eq-eqb}
use Rattle.std.proofs.lemmas.Bool.Decides.{nat_tests}
use Rattle.std.proofs.lemmas.List.{append-nil}
use Rattle.std.proofs.lemmas.List.Elements.{All-append, All-nil}
use Rattle.tftp_supervisor.specs.Lines.{HasNoEnd, all_marked, ended, has_any, line_passed, marked, passed, ended_lines}
use Rattle.tftp_supervisor.specs.Lines.{with_first}
use Rattle.tftp_supervisor.specs.ProcessEvent.{AllSucceeded, HasSucceeded, ProcessEvent}
use Rattle.tftp_supervisor.specs.ProcessEvent.{after_print, given_by, printed_in, started_in}
use Rattle.tftp_supervisor.specs.ProcessEvent.ProcessEvent.{Started, Gave, Closed, Ended}
use Rattle.tftp_supervisor.specs.Output.{lines_in}
use Rattle.tftp_supervisor.specs.PassedOn.{AlwaysPassedOn, PassedOn, ServerLine, first_lines, lines_at, print_of}
use Rattle.tftp_supervisor.specs.Watching.{EachServer, GoesOn, IsCounted, IsKnown, IsStarting, IsWatching, OnlyStarts, ReadsOutput}
use Rattle.tftp_supervisor.specs.Watching.ReadsOutput.{Given, Finished}
use Rattle.tftp_supervisor.specs.declared.output.Output.{Output}
use Rattle.tftp_supervisor.specs.declared.supervisor.WatchedServer.{WatchedServer}
use Rattle.tftp_supervisor.specs.declared.supervisor.Supervisor.{Supervisor}

-- ---- lines of one server behind those of all
ended_lines-append : (xs ys : List (List ℕ)) → ended_lines (xs ++ ys) ≡ ended_lines xs ++ ended_lines ys
ended_lines-append [] ys = refl
ended_lines-append (x ∷ xs) ys =
    ap (λ (t : List ℕ). ended x ++ t) (ended_lines-append xs ys) ∙ sym (append_assoc (ended x) (ended_lines xs) (ended_lines ys))

abbrev new_line : ℕ → List ℕ → ServerLine
new_line server line = record { server = server; line = line }

abbrev with_lines : ℕ → List (List ℕ) → List ServerLine → List ServerLine
with_lines server [] before = before
with_lines server (line ∷ lines) before = with_lines server lines (new_line server line ∷ before)

own_line : (server same : ℕ) (line : List ℕ) (before : List ServerLine) → (server == same) ≡ true
    → lines_at same (new_line server line ∷ before) ≡ lines_at same before ++ line ∷ []
own_line server same line before is = rw (is) refl

own_lines : (server same : ℕ) (lines : List (List ℕ)) (before : List ServerLine) → (server == same) ≡ true
    → lines_at same (with_lines server lines before) ≡ lines_at same before ++ lines
own_lines server same [] before is = sym (append-nil (lines_at same before))
own_lines server same (line ∷ lines) before is =
    grind (arith, common_steps, own_line, own_lines server same lines (new_line server line ∷ before) is)

other_lines : (server other : ℕ) (lines : List (List ℕ)) (before : List ServerLine) → (server == other) ≡ false
    → lines_at other (with_lines server lines before) ≡ lines_at other before
other_lines server other [] before apart = refl
other_lines server other (line ∷ lines) before apart =
    let next : lines_at other (new_line server line ∷ before) ≡ lines_at other before = rw (apart) refl in
    other_lines server other lines (new_line server line ∷ before) apart ∙ next

has_own : (server : ℕ) (line : List ℕ) (before : List ServerLine)
    → has_any (lines_at server (new_line server line ∷ before)) ≡ true
has_own server line before = grind (arith, common_steps)

-- the first lines after one more of this server
first_step : (server : ℕ) (line : List ℕ) (before : List ServerLine) (own : Bool)
    → has_any (lines_at server before) ≡ own
    → first_lines (new_line server line ∷ before) ≡ with_first (first_lines before) own (line ∷ [])
first_step server line before own is =
    ap (λ (b : Bool). with_first (first_lines before) b (line ∷ [])) is

first_kept : (server : ℕ) (lines : List (List ℕ)) (before : List ServerLine)
    → has_any (lines_at server before) ≡ true → first_lines (with_lines server lines before) ≡ first_lines before
first_kept server [] before own = refl
first_kept server (line ∷ lines) before own =
    first_kept server lines (new_line server line ∷ before) (has_own server line before)
    ∙ first_step server line before true own

first_with : (server : ℕ) (lines : List (List ℕ)) (before : List ServerLine)
    → first_lines (with_lines server lines before)
    ≡ with_first (first_lines before) (has_any (lines_at server before)) lines
first_with server lines before = search (rules, first_kept, has_own, first_step)

-- ---- what is printed of them
marked_with : (server : ℕ) (lines : List (List ℕ)) (before : List ServerLine)
    → has_any (lines_at server before) ≡ true
    → print_of (with_lines server lines before) ≡ print_of before ++ all_marked server lines
marked_with server [] before own = sym (append-nil (print_of before))
marked_with server (line ∷ lines) before own =
    marked_with server lines (new_line server line ∷ before) (has_own server line before)
    ∙ ap (λ (b : Bool). (print_of before ++ line_passed (first_lines before) b server line)
    ++ all_marked server lines) own
    ∙ append_assoc (print_of before) (marked server line) (all_marked server lines)

printed_with : (server : ℕ) (lines : List (List ℕ)) (before : List ServerLine)
    → print_of (with_lines server lines before)
    ≡ print_of before ++ passed (first_lines before) (has_any (lines_at server before)) server lines
printed_with server lines before = grind (arith, common_steps, marked_with, append-nil, has_own)

-- ---- the history
given_print : (server : ℕ) (out : List ℕ) (events : List ProcessEvent)
    → given_by server (after_print out events) ≡ given_by server events
given_print server [] events = refl
given_print server (byte ∷ out) events = refl

pub started_print : (out : List ℕ) (events : List ProcessEvent) → started_in (after_print out events) ≡ started_in events
started_print [] events = refl
started_print (byte ∷ out) events = refl

printed_print : (out : List ℕ) (events : List ProcessEvent)
    → printed_in (after_print out events) ≡ printed_in events ++ out
printed_print [] events = sym (append-nil (printed_in events))
printed_print (byte ∷ out) events = refl

-- what happened has happened
pub newest : (event : ProcessEvent) (events : List ProcessEvent) → Contains (event ∷ events) event
newest event events = (0, omega arith, refl)

pub earlier : (event other : ProcessEvent) (events : List ProcessEvent) → Contains events event
    → Contains (other ∷ events) event
earlier event other events (k, below, is) = (suc k, grind arith, is)

still_succeeded : (server : ℕ) (event : ProcessEvent) (events : List ProcessEvent) → HasSucceeded server events
    → HasSucceeded server (event ∷ events)
still_succeeded server event events has = search (rules, earlier)

succeeded_print : (server : ℕ) (out : List ℕ) (events : List ProcessEvent) → HasSucceeded server events
    → HasSucceeded server (after_print out events)
succeeded_print server out events has = search (rules, still_succeeded)

always_print : (out : List ℕ) (events : List ProcessEvent) → PassedOn (after_print out events) → AlwaysPassedOn events
    → AlwaysPassedOn (after_print out events)
always_print [] events passed always = always
always_print (byte ∷ out) events passed always = (passed, always)

-- the start of a line of each server, after one of them has another
abbrev with_start : ℕ → List ℕ → (ℕ → List ℕ) → ℕ → List ℕ
with_start server start starts other = if server == other then start else starts other

given_more : (events : List ProcessEvent) (lines : List ServerLine) (starts : ℕ → List ℕ) (server : ℕ) (bytes : List ℕ)
    (more : List (List ℕ)) (start : List ℕ)
    → ((j : ℕ) → given_by j events ≡ ended_lines (lines_at j lines) ++ starts j)
    → starts server ++ bytes ≡ ended_lines more ++ start
    → (j : ℕ) → given_by j (Gave server bytes ∷ events)
    ≡ ended_lines (lines_at j (with_lines server more lines)) ++ with_start server start starts j
given_more events lines starts server bytes more start given taken j =
    grind (arith, common_steps, eqb-true, own_lines, ended_lines-append, other_lines)

whole_more : (server : ℕ) (more : List (List ℕ)) (lines : List ServerLine) → All HasNoEnd more
    → ((j : ℕ) → All HasNoEnd (lines_at j lines)) → (j : ℕ) → All HasNoEnd (lines_at j (with_lines server more lines))
whole_more server more lines whole each j = by (server == j) refl
  where
    by : (b : Bool) → (server == j) ≡ b → All HasNoEnd (lines_at j (with_lines server more lines))
    by true is =
        subst (λ (ls : List (List ℕ)). All HasNoEnd ls) (sym (own_lines server j more lines is))
        (All-append HasNoEnd (lines_at j lines) more (each j) whole)
    by false is =
        subst (λ (ls : List (List ℕ)). All HasNoEnd ls) (sym (other_lines server j more lines is)) (each j)

unended_more : (server : ℕ) (start : List ℕ) (starts : ℕ → List ℕ) → HasNoEnd start → ((j : ℕ) → HasNoEnd (starts j))
    → (j : ℕ) → HasNoEnd (with_start server start starts j)
unended_more server start starts ends each j = search rules

-- nothing was read
nothing_given : (server : ℕ) (events : List ProcessEvent) → OnlyStarts events → given_by server events ≡ []
nothing_given server [] only = refl
nothing_given server (Started line ∷ before) only = nothing_given server before only
nothing_given server events only = absurd only

nothing_printed : (events : List ProcessEvent) → OnlyStarts events → printed_in events ≡ []
nothing_printed [] only = refl
nothing_printed (Started line ∷ before) only = nothing_printed before only
nothing_printed events only = absurd only

pub always_starting : (events : List ProcessEvent) → OnlyStarts events → AlwaysPassedOn events
always_starting [] only = tt
always_starting (Started line ∷ before) only = always_starting before only
always_starting events only = absurd only

abbrev passed_nothing : (events : List ProcessEvent) → OnlyStarts events → PassedOn events
passed_nothing events only = record {
  lines = [];
  begun = λ _. [];
  given = λ j. nothing_given j events only;
  whole = λ _. All-nil HasNoEnd;
  unended = λ _. All-nil (λ (byte : ℕ). byte ≢ 10);
  printed = nothing_printed events only;
}

-- bytes of a server were read, and passed on
abbrev passed_gave : (events after : List ProcessEvent) (w : PassedOn events) (server : ℕ) (bytes : List ℕ)
    (more : List (List ℕ)) (start out : List ℕ) → after ≡ after_print out (Gave server bytes ∷ events)
    → w.begun server ++ bytes ≡ ended_lines more ++ start → All HasNoEnd more → HasNoEnd start
    → out ≡ passed (first_lines w.lines) (has_any (lines_at server w.lines)) server more → PassedOn after
passed_gave events after w server bytes more start out noted taken whole unended is = record {
  lines = with_lines server more w.lines;
  begun = with_start server start w.begun;
  given = λ j. ap (given_by j) noted ∙ given_print j out (Gave server bytes ∷ events)
      ∙ given_more events w.lines w.begun server bytes more start w.given taken j;
  whole = whole_more server more w.lines whole w.whole;
  unended = unended_more server start w.begun unended w.unended;
  printed =
      ap printed_in noted ∙ printed_print out (Gave server bytes ∷ events) ∙ ap (λ (t : List ℕ). t ++ out) w.printed
      ∙ ap (λ (t : List ℕ). print_of w.lines ++ t) is ∙ sym (printed_with server more w.lines);
}

-- a server closed its output, and ended
abbrev passed_finished : (events after : List ProcessEvent) (server : ℕ) (status : ExitStatus)
    → after ≡ Ended server (Ok status) ∷ Closed server ∷ events → PassedOn events → PassedOn after
passed_finished events after server status noted w = record {
  lines = w.lines;
  begun = w.begun;
  given = λ j. ap (given_by j) noted ∙ w.given j;
  whole = w.whole;
  unended = w.unended;
  printed = ap printed_in noted ∙ w.printed;
}

-- ---- the servers
-- one of them has changed, and the others are as they were
each_set : (Was Is : ℕ → WatchedServer → Type 0) (servers : List WatchedServer) (index : ℕ) (next : WatchedServer)
    → index < length servers → EachServer Was servers → Is (index + 1) next
    → ((k : ℕ) (process : WatchedServer) → k ≢ index → Was (k + 1) process → Is (k + 1) process)
    → EachServer Is (slice_set servers index next)
each_set Was Is servers index next within each own other k d below = search rules

apart_numbers : (k index server : ℕ) → k ≢ index → server ≡ index + 1 → (server == (k + 1)) ≡ false
apart_numbers k index server apart is = grind (arith, nat_tests)

any-append : (xs ys : List (List ℕ)) → has_any (xs ++ ys) ≡ (has_any xs || has_any ys)
any-append [] ys = refl
any-append (x ∷ xs) ys = refl

-- the server of a number is known after bytes of its output were passed on
module _ (events after : List ProcessEvent) (lines : List ServerLine) (starts : ℕ → List ℕ) (old : Output)
    (bytes : List ℕ) (more : List (List ℕ)) (start out : List ℕ)
    (noted : after ≡ after_print out (Gave old.server bytes ∷ events)) where
  abbrev Known : ℕ → WatchedServer → Type 0
  Known = IsKnown after (with_lines old.server more lines) (with_start old.server start starts)

  ends_so : (number : ℕ) → HasSucceeded number events → HasSucceeded number after
  ends_so number was = search (rules, succeeded_print, still_succeeded)

  gave_own : (number : ℕ) (process next : WatchedServer) → process.output ≡ old → next.output.begun.items ≡ start
      → next.output.has_printed ≡ (old.has_printed || has_any more) → next.output.server ≡ old.server
      → next.has_ended ≡ process.has_ended → IsKnown events lines starts number process → Known number next
  gave_own number process next is begun printed server same known =
      search (rules, eq-eqb, any-append, own_lines, ends_so)

  gave_other : (number : ℕ) (process : WatchedServer) → (old.server == number) ≡ false
      → IsKnown events lines starts number process → Known number process
  gave_other number process apart known = search (rules, other_lines, ends_so)

-- a server is known after one has ended
module _ (events after : List ProcessEvent) (lines : List ServerLine) (starts : ℕ → List ℕ) (server : ℕ)
    (status : ExitStatus) (success : exit_code status ≡ Some (pos 0))
    (noted : after ≡ Ended server (Ok status) ∷ Closed server ∷ events) where
  ended_own : (number : ℕ) (process next : WatchedServer) → server ≡ number → next.output ≡ process.output
      → IsKnown events lines starts number process → IsKnown after lines starts number next
  ended_own number process next is same known = search rules

  ended_other : (number : ℕ) (process : WatchedServer) → IsKnown events lines starts number process
      → IsKnown after lines starts number process
  ended_other number process known = search (rules, still_succeeded)

-- one output was read, and what is to be printed of it is
counted_on : (before after : List ProcessEvent) (old new : Supervisor) (index : ℕ) (next : WatchedServer)
    → IsCounted before old → new.servers.items ≡ slice_set old.servers.items index next → new.count ≡ old.count
    → started_in after ≡ started_in before → IsCounted after new
counted_on before after old new index next counted set same started = search rules

pub watched_on : (before after : List ProcessEvent) (old new : Supervisor) (index : ℕ) (process next : WatchedServer)
    (middle : List ProcessEvent) (out : List ℕ) → IsWatching before old → index < length old.servers.items
    → process ≡ slice_index_or old.servers.items index process
    → new.servers.items ≡ slice_set old.servers.items index next → new.count ≡ old.count
    → ReadsOutput (lines_in old.announced.items) (lines_in new.announced.items) process next before middle out
    → after ≡ after_print out middle → IsWatching after new
watched_on before after old new index process next middle out w within is set count (Given bytes noted passes same)
    ends =
    let known =
    subst (IsKnown before w.passed.lines w.passed.begun (index + 1)) (sym is) (w.each index process within) in
    let events = ends ∙ ap (after_print out) noted in
    let has = known.has_printed ∙ ap (λ n. has_any (lines_at n w.passed.lines)) (sym known.server) in
    let taken = ap (λ t. t ++ bytes) (sym (known.begun ∙ ap w.passed.begun (sym known.server))) ∙ passes.taken in
    let printed =
    passes.out_is ∙ ap (λ first. passed first process.output.has_printed process.output.server passes.lines) w.announced
    ∙ ap (λ b. passed (first_lines w.passed.lines) b process.output.server passes.lines) has in
    let later =
    passed_gave before _ w.passed process.output.server bytes passes.lines next.output.begun.items out refl taken
    passes.whole passes.begun printed in
    let each =
    each_set (IsKnown before w.passed.lines w.passed.begun) (Known before after w.passed.lines w.passed.begun
    process.output bytes passes.lines next.output.begun.items out events) old.servers.items index next within w.each
    (gave_own _ _ _ _ _ _ _ _ _ events _ _ _ refl refl passes.has_printed passes.server same known) (λ k other apart
    was. gave_other before after w.passed.lines w.passed.begun process.output bytes passes.lines
    next.output.begun.items out events (k + 1)
    other (apart_numbers k _ _ apart known.server) was) in
    record {
      passed = passed_gave before after w.passed process.output.server bytes passes.lines next.output.begun.items out
          events taken passes.whole passes.begun printed;
      always = subst AlwaysPassedOn (sym events) (always_print out (Gave process.output.server bytes ∷ before) later
          (w.passed, w.always));
      counted = counted_on _ _ _ _ _ _ w.counted set count (ap started_in events ∙ started_print out (Gave
          process.output.server bytes ∷ before));
      announced =
          passes.announces_is ∙ ap (λ first. with_first first process.output.has_printed passes.lines) w.announced ∙
          ap (λ b. with_first (first_lines w.passed.lines) b passes.lines) has ∙ sym (first_with process.output.server
          passes.lines w.passed.lines);
      each = subst (EachServer (Known before after w.passed.lines w.passed.begun process.output bytes passes.lines
          next.output.begun.items out events)) (sym set)
          each;
    }
watched_on before after old new index process next middle out w within is set count (Finished status success noted same
    none announces) ends =
    let known =
    subst (IsKnown before w.passed.lines w.passed.begun (index + 1)) (sym is) (w.each index process within) in
    let server = process.output.server in
    let events =
    ends ∙ ap (after_print out) noted ∙ ap (λ o. after_print o (Ended process.output.server (Ok status) ∷ Closed
    process.output.server ∷ before)) none in
    let each = each_set (IsKnown before w.passed.lines w.passed.begun) (IsKnown after w.passed.lines w.passed.begun)
    old.servers.items index next within w.each (ended_own _ _ _ _ _ _ success events _ _ _ known.server same known) (λ k
    other apart was. ended_other _ _ _ _ _ _ success events _ _ was) in
    record {
      passed = passed_finished _ _ _ _ events w.passed;
      always = subst AlwaysPassedOn (sym events) (w.passed, w.always);
      counted = counted_on _ _ _ _ _ _ w.counted set count (ap started_in events);
      announced = announces ∙ w.announced;
      each = subst (EachServer (IsKnown after w.passed.lines w.passed.begun)) (sym set) each;
    }

-- no output was read
pub starts_watching : (events : List ProcessEvent) (supervisor : Supervisor) → IsStarting events supervisor
    → IsWatching events supervisor
starts_watching events supervisor s = record {
  passed = passed_nothing events s.only;
  always = always_starting events s.only;
  counted = s.counted;
  announced = ap lines_in s.announced;
  each = search rules;
}

-- ---- the end
one_of : (servers : List WatchedServer) (k : ℕ) → k < length servers → WatchedServer
one_of [] k below = absurd (omega arith)
one_of (server ∷ servers) k below = server

pub all_succeeded : (events : List ProcessEvent) (supervisor : Supervisor) → IsWatching events supervisor
    → All (λ (process : WatchedServer). process.has_ended ≡ true) supervisor.servers.items
    → AllSucceeded supervisor.count events
all_succeeded events supervisor w all k below =
    let within : k < length supervisor.servers.items = omega (arith, below, w.counted.watched) in
    let d : WatchedServer = one_of supervisor.servers.items k within in
    (w.each k d within).ended (all k d within)

pub goes_on_print : (before middle after : List ProcessEvent) (out : List ℕ) (new : Supervisor) → IsWatching after new
    → GoesOn before middle → after ≡ after_print out middle → GoesOn before after
goes_on_print before middle after out new w goes ends = search rules

pub ok_so : {T E : Type 0} (r : Result T E) {P : Type 0} → P → OnOk r P
ok_so (Ok value) holds = holds
ok_so (Err fault) holds = tt
