-- Ports of which the server uses none twice are fresh: among them are those of its clients' transfers.
use Rattle.std.proofs.Common.{rules as std_rules}
use Rattle.tftp_promises.proofs.Common.{List, ℕ, ◌≡◌, rules, sym, Endpoint, refl, [], ◌∙◌, ap, SourceMeaning, Some, inl}
use Rattle.tftp_promises.proofs.Common.{StoreMeaning, inr, ◌∷◌, SinkMeaning, false, true, None, ◌++◌, Programs, Bool}
use Rattle.tftp_promises.proofs.Common.{◌⊎◌, Contains, SocketEvent, Option, LoopState, slice_get, TransferState}
use Rattle.tftp_promises.proofs.Common.{LoopStep, joined, if◌then◌else◌, client_at, Snapshot, same_Some, at, Run, suc}
use Rattle.tftp_promises.proofs.Common.{IsStranger, Then, Start, moved_in, Noted, zero, IsPrefixOf, cases_eq}
use Rattle.tftp_promises.proofs.Common.{server_did, all_of, our_ports, WasSentBefore, Has_asked, map, moved_at}
use Rattle.tftp_promises.proofs.Common.{AreJoined, Contains-append_cases, Request_answered, Contains-append_left, set}
use Rattle.tftp_promises.proofs.Common.{ClientStage, Contains-append_right, ArePortsFresh, is_ours, opened_ports}
use Rattle.tftp_promises.proofs.Common.{slice_get-map, CanTake, slice_get-set_same, Unasked, client_did, option_to_list}
use Rattle.tftp_promises.proofs.Common.{AreDistinct, client_moves, slice_get-set_other, just_asked, opened_by}
use Rattle.tftp_promises.proofs.Common.{Client_asks, Server_does, Client_does, ours_by, All_begin, TracesAreJoint}
use Rattle.tftp_promises.proofs.Common.{Joint, option_map}
use Rattle.tftp_rules.proofs.Refines.{shown_start}
use Rattle.tftp_promises.specs.Openings.{DistinctPortsAreFresh}
use Rattle.tftp_promises.specs.Snapshots.{nothing_done}
use Rattle.tftp_promises.proofs.NewPlaces.{NoneTwice, none_twice, ours_among, below_above, not_again}
use Rattle.tftp_promises.proofs.Places.{placed_by, places}
use Rattle.tftp_promises.proofs.Invariant.{moved_by, IsFreshBy, IsToldAt, IsThere, HasTransferBy, IsKept}
use Rattle.tftp_promises.proofs.MovedSteps.{client_more, opens_none, server_more}
use Rattle.tftp_promises.proofs.Texts.{begins_itself, begins_on}
use Rattle.tftp_promises.proofs.Orders.{found_in, nothing_in}
use Rattle.tftp_promises.proofs.KeptAsks.{asks_keeps}
use Rattle.tftp_promises.proofs.KeptDoes.{does_keeps}

distinct : (xs : List ℕ) → NoneTwice xs → AreDistinct xs
distinct [] n j k port e f = absurd (let g : None ≡ Some port = e in cc)
distinct (x ∷ xs) n zero zero port e f = refl
distinct (x ∷ xs) n zero (suc k) port e f = absurd (n.0 (found_in xs k x (f ∙ sym e)))
distinct (x ∷ xs) n (suc j) zero port e f = absurd (n.0 (found_in xs j x (e ∙ sym f)))
distinct (x ∷ xs) n (suc j) (suc k) port e f = ap suc (distinct xs n.1 j k port e f)

module _ {S F D G K : Type 0} {stores : StoreMeaning S D} {sources : SourceMeaning F} {inputs : SourceMeaning G}
    {outputs : SinkMeaning K} (programs : Programs stores sources inputs outputs) where
  answered_twice : (b : Bool) (o : Option ℕ) (opened ours : List ℕ) →
      ((port : ℕ) → Contains ours port → Contains opened port) → (NoneTwice opened → NoneTwice ours) →
      NoneTwice (option_to_list o ++ opened) → NoneTwice ((if b then option_to_list o else []) ++ ours)
  answered_twice true None opened ours among rest n = rest n
  answered_twice true (Some tid) opened ours among rest n = (λ c. n.0 (among tid c), rest n.1)
  answered_twice false None opened ours among rest n = rest n
  answered_twice false (Some tid) opened ours among rest n = rest n.1

  step_twice : {first old new : LoopState S F D} (run : Run (LoopStep stores sources) first old)
      (does : LoopStep stores sources old new) → (NoneTwice (opened_ports run) → NoneTwice (our_ports programs run)) →
      NoneTwice (opened_by does ++ opened_ports run) → NoneTwice (ours_by programs does ++ our_ports programs run)
  step_twice run (Request_answered answers) rest n =
      answered_twice (is_ours programs answers.from) answers.left.opened.tid (opened_ports run) (our_ports programs run)
      (λ port c. ours_among programs run port c) rest n
  step_twice run does rest n = rest n

  ours_twice : {first last : LoopState S F D} (run : Run (LoopStep stores sources) first last) →
      NoneTwice (opened_ports run) → NoneTwice (our_ports programs run)
  ours_twice Start n = tt
  ours_twice (Then run does) n = step_twice run does (λ m. ours_twice run m) n

  pub fresh_ports : DistinctPortsAreFresh programs
  fresh_ports all =
      let first = programs.port in
      let opened = opened_ports programs.server.run in
      let ours = our_ports programs programs.server.run in
      let n = none_twice (first ∷ opened) all.server in
      let among : (port : ℕ) → Contains (first ∷ ours) port → Contains (first ∷ opened) port =
      λ port c. elim (Contains-append_cases (first ∷ []) ours port c) [
        | inl h ↦ Contains-append_left (first ∷ []) opened port h
        | inr h ↦ Contains-append_right (first ∷ []) opened port (ours_among programs programs.server.run port h)
      ] in
      record {
        server =
            distinct (first ∷ ours) (
              λ c. n.0 (ours_among programs programs.server.run first c),
              ours_twice programs.server.run n.1,
            );
        clients = all.clients;
        apart = λ k port x found c. all.apart k port x found (among port c);
        others = λ port c. all.others port (among port c);
      }

-- Ports that are fresh after a step were so before it.

-- the first and the last of distinct ones are distinct
last_twice : (xs ys : List ℕ) → NoneTwice (xs ++ ys) → NoneTwice ys
last_twice [] ys n = n
last_twice (x ∷ xs) ys n = last_twice xs ys n.1

distinct_after : (p : ℕ) (xs ys : List ℕ) → AreDistinct (p ∷ (xs ++ ys)) → AreDistinct (p ∷ ys)
distinct_after p xs ys all =
    let n = none_twice (p ∷ (xs ++ ys)) all in
    distinct (p ∷ ys) (λ c. n.0 (Contains-append_right xs ys p c), last_twice xs ys n.1)

-- one of the last is one of all
contains_after : (p : ℕ) (xs ys : List ℕ) (port : ℕ) → Contains (p ∷ ys) port → Contains (p ∷ (xs ++ ys)) port
contains_after p xs ys port i = elim (Contains-append_cases (p ∷ []) ys port i) [
  | inl h ↦ Contains-append_left (p ∷ []) (xs ++ ys) port h
  | inr h ↦ Contains-append_right (p ∷ xs) ys port h
]

module _ {S F D G K : Type 0} {stores : StoreMeaning S D} {sources : SourceMeaning F} {inputs : SourceMeaning G}
    {outputs : SinkMeaning K} (programs : Programs stores sources inputs outputs) where
  -- before a step of the server
  told_before : (old : Snapshot programs) (new : LoopState S F D) (does : LoopStep stores sources old.state new)
      (added : List SocketEvent) → IsFreshBy (server_did old does added) → (a : Endpoint) →
      Contains (places programs old.run) a → IsToldAt old a
  told_before old new does added h a c =
      let t = h.told a (Contains-append_right (placed_by programs old.run does) (places programs old.run) a c) in
      let none = opens_none programs old.run does a (not_again programs old does added h a c) in
      search (rules, begins_on, server_more)

  pub fresh_before_server : (old : Snapshot programs) (new : LoopState S F D) (does : LoopStep stores sources old.state new)
      (added : List SocketEvent) → IsFreshBy (server_did old does added) → IsFreshBy old
  fresh_before_server old new does added h = record {
    ends = record {
      server = distinct_after _ _ _ h.ends.server;
      clients = h.ends.clients;
      apart = λ k port x found i. h.ends.apart k port x found (contains_after _ (ours_by programs does) _ _ i);
      others = λ port i. h.ends.others port (contains_after _ (ours_by programs does) _ _ i);
    };
    below = λ port i. h.below port (Contains-append_right (ours_by programs does) (our_ports programs old.run) port i);
    told = λ a c. told_before _ _ _ _ h a c;
    gave = h.gave;
  }

  -- before a step of a client, which may move more
  pub fresh_before_client : (old : Snapshot programs) (k : ℕ) (was : ClientStage G K) → slice_get old.clients k ≡ Some was →
      (stage : ClientStage G K) → IsPrefixOf (moved_by was).bytes (moved_by stage).bytes →
      IsFreshBy (client_did old k stage) → IsFreshBy old
  fresh_before_client old k was is_was stage more h = record {
    ends = h.ends;
    below = h.below;
    told = λ a c. let t = h.told a c in record { bytes = t.bytes; opened = t.opened };
    gave = λ j client its found at. elim (cases_eq j k) [
      | inl same ↦
          let here : slice_get (set old.clients k stage) j ≡ Some stage = search (rules, slice_get-set_same) in
          let is : was ≡ its = same_Some was its (sym is_was ∙ (ap (slice_get old.clients) (sym same) ∙ at)) in
          begins_on _ _ _ (rw (← is) more) (h.gave j client stage found here)
      | inr n ↦ h.gave j client its found (slice_get-set_other old.clients k j stage n ∙ at)
    ];
  }

  -- where the traces arrive
  pub fresh_at_last : ArePortsFresh programs → IsFreshBy (all_of programs)
  fresh_at_last fresh = record {
    ends = fresh;
    below = λ port i. below_above programs port i;
    told = λ a c. record { bytes = begins_itself (moved_at programs a programs.server.run).bytes; opened = refl };
    gave = search (std_rules, moved_in, same_Some, slice_get-map, option_map, at, begins_itself);
  }

-- The invariant holds before any program has done anything.

-- no client has asked
unasked_at : {C G K : Type 0} (clients : List C) (k : ℕ) (stage : ClientStage G K) →
    slice_get (map (λ (client : C). Unasked) clients) k ≡ Some stage → Unasked ≡ stage
unasked_at [] k stage e = absurd (let f : None ≡ Some stage = e in cc)
unasked_at (c ∷ clients) zero stage e = let f : Some Unasked ≡ Some stage = e in cc
unasked_at (c ∷ clients) (suc k) stage e = unasked_at clients k stage e

module _ {S F D G K : Type 0} {stores : StoreMeaning S D} {sources : SourceMeaning F} {inputs : SourceMeaning G}
    {outputs : SinkMeaning K} (programs : Programs stores sources inputs outputs) where
  -- nothing was sent
  nothing_sent : (from to : Endpoint) (bytes : List ℕ) → WasSentBefore (nothing_done programs) from to bytes →
      IsThere [] from to bytes ⊎ IsStranger programs to
  nothing_sent from to bytes h3 = search (rules, nothing_in, unasked_at)

  -- no transfer is held, and none was removed
  nothing_held : (port : ℕ) (transfer : TransferState F D) → at port programs.server.start.server.held ≡ Some transfer →
      ⊥
  nothing_held port transfer e = let f : None ≡ Some transfer = ap (at port) (sym programs.server.empty) ∙ e in cc

  no_transfer : (port : ℕ) (transfer : TransferState F D) (a : Endpoint) →
      HasTransferBy (nothing_done programs) port transfer a → ⊥
  no_transfer port transfer a (inl e) = nothing_held port transfer e.0
  no_transfer port transfer a (inr closed) = closed

  pub kept_at_first : (pad : ℕ) → IsKept pad (nothing_done programs)
  kept_at_first pad = record {
    views = [];
    messages = [];
    shown = shown_start (joined programs);
    sent = nothing_sent;
    server = search std_rules;
    clients = search (std_rules, unasked_at);
    transfers = λ port transfer a h. absurd (no_transfer _ _ a h);
    only = λ view among. absurd (let f : None ≡ Some view = among.1 in cc);
  }

-- The invariant holds of every joint run, if the steps of the server keep it.

module _ {S F D G K : Type 0} {stores : StoreMeaning S D} {sources : SourceMeaning F} {inputs : SourceMeaning G}
    {outputs : SinkMeaning K} where
  -- each step of the server keeps the invariant
  abbrev pub ServerStepsKeep : (programs : Programs stores sources inputs outputs) → ℕ → Type 0
  ServerStepsKeep programs pad =
      (old : Snapshot programs) (new : LoopState S F D) (does : LoopStep stores sources old.state new)
      (added : List SocketEvent) → IsKept pad old → IsFreshBy (server_did old does added) →
      new.events ≡ added ++ old.state.events → CanTake old programs.ip added → IsKept pad (server_did old does added)

  module _ (programs : Programs stores sources inputs outputs) (pad : ℕ)
      (server_keeps : ServerStepsKeep programs pad) where
    pub joint_kept : (snapshot : Snapshot programs) → Joint snapshot → IsFreshBy snapshot → IsKept pad snapshot
    joint_kept snapshot All_begin fresh = kept_at_first programs pad
    joint_kept snapshot (Server_does {old} {new} joint does added events take) fresh =
        server_keeps old new does added (joint_kept old joint (fresh_before_server programs old new does added fresh))
        fresh events take
    joint_kept snapshot (Client_asks {old} joint k client found unasked) fresh =
        let before = fresh_before_client programs old k Unasked unasked (just_asked client) ([], refl) fresh in
        asks_keeps (joint_kept old joint before) before k client found unasked
    joint_kept snapshot (Client_does {old} {s} {s'} {files} {files'} {noted} {moved} joint k client found is_stage does
        own added events take) fresh =
        let before =
        fresh_before_client programs old k (Has_asked s files noted moved) is_stage
        (Has_asked s' files' (added ++ noted) (client_moves does moved)) (client_more does moved) fresh in
        does_keeps (joint_kept old joint before) before {a = client_at client} (search) s' files' added does own fresh
        events take

-- the invariant holds where the traces arrive
pub kept_at_last : {S F D G K : Type 0} (stores : StoreMeaning S D) (sources : SourceMeaning F)
    (inputs : SourceMeaning G) (outputs : SinkMeaning K) → TracesAreJoint stores sources inputs outputs →
    ((programs : Programs stores sources inputs outputs) (pad : ℕ) → ServerStepsKeep programs pad) →
    (programs : Programs stores sources inputs outputs) (order : List Noted) → AreJoined programs order → (pad : ℕ) →
    IsKept pad (all_of programs)
kept_at_last stores sources inputs outputs joint keeps programs order joins pad =
    search (rules, joint_kept, fresh_at_last)
