-- A step of a receiver over any sink is one over what the sink was handed.
use Rattle.tftp_promises.proofs.Common.{List, ℕ, ◌≡◌, rules, Endpoint, refl, [], ◌∙◌, ap, SourceMeaning, inl}
use Rattle.tftp_promises.proofs.Common.{StoreMeaning, inr, ◌∷◌, SinkMeaning, false, true, None, ◌++◌, Bool, EndState}
use Rattle.tftp_promises.proofs.Common.{◌⊎◌, Files, Option, true≢false, ◌≢◌, length, outcome_of, OpenEnd, Turn, Moved}
use Rattle.tftp_promises.proofs.Common.{Sink, WirePacket, cases_Bool, Ok, DatagramStep, Action, is_complete}
use Rattle.tftp_promises.proofs.Common.{drafting_sink, Acts, Respond, end_after, datagram_action, Terms, Holding}
use Rattle.tftp_promises.proofs.Common.{Result, Store, known_sink, known_source, Err, nat_lt, Send, step_moves}
use Rattle.tftp_promises.proofs.Common.{Drafting, StoreFault, ErrorReply, Done, committed_turn, TakesInTurn, acts_move}
use Rattle.tftp_promises.proofs.Common.{with_more, WasCommitted, holding, GoesOn, holding_of}
use Rattle.std.proofs.Common.{rules as std_rules}
use Rattle.std.proofs.lemmas.Bool.{or_left, or_right}
use Rattle.std.specs.Prelude.{◌||◌, is_ok}
use Rattle.tftp_file.specs.Sink.{as_committed, with_piece}
use Rattle.tftp_ends.specs.Step.{Appended, Stores}
use Rattle.tftp_store.specs.Drafts.{Took_more, Written_back}
use Rattle.tftp_promises.specs.Moved.{commits_after}
use Rattle.tftp_promises.proofs.Invariant.{TookSo, TookBy}
use Rattle.tftp_file.specs.declared.fault.StoreFault.TheVariants as faults
use Rattle.tftp_ends.specs.declared.error_reply.ErrorReply.TheVariants as replies
use Rattle.tftp_ends.specs.declared.outcome.Outcome.TheVariants as outcomes

-- what a sink holds that was handed these bytes; without bytes it was not called
abbrev handed : List ℕ → Holding → Holding
handed [] before = before
handed (b ∷ bytes) before = with_piece before (b ∷ bytes)

handed_refuses : (bytes : List ℕ) (before : Holding) → (handed bytes before).refuses ≡ before.refuses
handed_refuses bytes before = search rules

-- what a commit leaves
abbrev commit_leaves : Result Done StoreFault → Holding → Holding
commit_leaves (Ok done) before = as_committed before
commit_leaves (Err fault) before = before

commit_bytes : (answer : Result Done StoreFault) (before : Holding) → (commit_leaves answer before).bytes ≡ before.bytes
commit_bytes answer before = search rules

commit_refuses : (answer : Result Done StoreFault) (before : Holding) →
    (commit_leaves answer before).refuses ≡ before.refuses
commit_refuses answer before = search rules

-- ---- a step
-- of a receiver over what its sink was handed
pub record SinkMoves (x : OpenEnd) (turn : Turn) (moved : Moved) (P Q : Holding → Type 0) : Type 0 where
  pub after : Holding
  pub steps : P after
  pub took : TookSo (end_after x turn (Sink after)) moved
  -- what became of the sink
  pub fate : Q after

module _ {K : Type 0} (sinks : SinkMeaning K) (turn : Turn) (before : Bool) (k k' : K) where
  -- what became of a sink that was handed these bytes: it took them, or the end has closed; and it was committed after
  -- them, or was before
  pub record StoreFate (bytes : List ℕ) (after : Bool) : Type 0 where
    pub going : outcome_of turn.position.phase ≡ None → after ≡ false → Appended sinks bytes k k' (Ok tt)
    pub done : after ≡ true → (before ≡ true)
        ⊎ ((mid : K) × Appended sinks bytes k mid (Ok tt) × sinks.after_commit mid k' None)

  -- by the action, and by what had been handed to it before and after that
  abbrev pub Fate : Action → (earlier now : List ℕ) → Bool → Type 0
  Fate (Respond response) earlier now after = (k' ≡ k) × (now ≡ earlier) × (after ≡ before)
  Fate (Send terms number) earlier now after = ⊥
  Fate (Store terms number) earlier now after =
      (bytes : List ℕ) × (now ≡ earlier ++ bytes) × StoreFate bytes after

module _ {S K : Type 0} (sources : SourceMeaning S) (sinks : SinkMeaning K) (from : Endpoint) (turn : Turn) where
  -- after an append: the sink is left so, or is committed
  record GoesSo (e : EndState) (k k' : K) (answer : Result Done StoreFault) (before mid : Holding) (committed : Bool)
      (P : Holding → Type 0) : Type 0 where
    after : Holding
    steps : P after
    bytes : after.bytes ≡ mid.bytes
    refuses : after.refuses ≡ mid.refuses
    commits : after.committed ≡ true → (mid.committed ≡ true → before.committed ≡ true) →
        (before.committed || committed) ≡ true
    going : outcome_of turn.position.phase ≡ None → after.committed ≡ false → (answer ≡ Ok tt) × (k' ≡ k)
    done : after.committed ≡ true → (mid.committed ≡ true) ⊎ ((answer ≡ Ok tt) × sinks.after_commit k k' None)

  -- a sink that was not called again
  stays_so : {e : EndState} {k k' : K} {answer : Result Done StoreFault} {before mid : Holding} {committed : Bool}
      {P : Holding → Type 0} → (outcome_of turn.position.phase ≡ None → (answer ≡ Ok tt) × (k' ≡ k)) → P mid →
      GoesSo e k k' answer before mid committed P
  stays_so {before = before} {mid = mid} {committed = committed} going steps = search rules

  -- a commit that succeeded, or that closed the end
  module _ (terms : Terms) (number : ℕ) (e : EndState) (k k' : K) (mid : Holding) where
    commit_going : (answer : Result Done StoreFault) → turn ≡ committed_turn terms number from e answer →
        outcome_of turn.position.phase ≡ None → (commit_leaves answer mid).committed ≡ false → k' ≡ k
    commit_going answer answers o c = search rules

  goes_so : (terms : Terms) (number : ℕ) (e : EndState) (last : Bool) (text : List ℕ) (k k' : K)
      (answer : Result Done StoreFault) (before mid : Holding) → mid.refuses ≡ false →
      (h : GoesOn sinks terms number from e last text k answer turn k') →
      GoesSo e k k' answer before mid (commits_after sources sinks terms number from e last text k answer turn k' h)
      (GoesOn known_sink terms number from e last text mid answer turn)
  goes_so terms number e last text k k' (Err fault) before mid free h = search std_rules
  goes_so terms number e false text k k' (Ok done) before mid free h = stays_so (λ o. (refl, h.1)) (h.0, refl)
  goes_so terms number e true text k k' (Ok done) before mid free h = record {
    after = commit_leaves h.answer mid;
    steps = search std_rules;
    bytes = commit_bytes h.answer mid;
    refuses = commit_refuses h.answer mid;
    commits = λ c was. committed h.answer c was;
    going = λ o c. (refl, commit_going terms number (holding text e) k k' mid h.answer h.answers o c);
    done = search std_rules;
  } where
    committed : (answer : Result Done StoreFault) → (commit_leaves answer mid).committed ≡ true →
        (mid.committed ≡ true → before.committed ≡ true) → (before.committed || is_ok answer) ≡ true
    committed (Ok done) c was = or_right before.committed true refl
    committed (Err fault) c was = or_left before.committed false (was c)

  -- the sink is as it was
  same_sink : (a b : K) → ◌≡◌ {A = Files S K} (Sink a) (Sink b) → a ≡ b
  same_sink a b e = cc

  module _ (x : OpenEnd) (moved : Moved) (took : TookSo x moved) (k k' : K) where
    stores_so : (terms : Terms) (number : ℕ) (piece : List ℕ)
        (h : Stores sinks terms number from piece x.state k turn k') →
        SinkMoves x turn (with_more h.bytes (moved.committed || commits_after sources sinks terms number from x.state
        (nat_lt (length piece) terms.size) h.after h.mid h.answer turn k' h.rest) moved)
        (Stores known_sink terms number from piece x.state (holding_of x) turn)
        (λ (after : Holding). StoreFate sinks turn x.committed k k' h.bytes after.committed)
    stores_so terms number piece h =
        let before = holding_of x in
        let mid = handed h.bytes before in
        let goes =
        goes_so terms number x.state (nat_lt (length piece) terms.size) h.after h.mid k' h.answer (record before {
          committed = moved.committed;
        }) mid (handed_refuses h.bytes before ∙ took.refuses) h.rest in
        record {
          after = goes.after;
          steps = search std_rules;
          took = search std_rules;
          fate = search std_rules;
        }

    sink_acts : (action : Action) (bytes : List ℕ) (acts : Acts sources sinks action from bytes x.state (Sink k) turn
        (Sink k')) →
        SinkMoves x turn (acts_move sources sinks action from bytes x.state (Sink k) turn (Sink k') acts moved)
        (λ (after : Holding). Acts known_source known_sink action from bytes x.state (Sink (holding_of x)) turn
        (Sink after)) (λ (after : Holding). Fate sinks turn x.committed k k' action moved.bytes
        (acts_move sources sinks action from bytes x.state (Sink k) turn (Sink k') acts moved).bytes after.committed)
    sink_acts (Respond response) bytes acts = record {
      after = holding_of x;
      steps = (acts.0, refl);
      took = record { stored = took.stored; committed = took.committed; refuses = took.refuses };
      fate = (same_sink k' k acts.1, refl, refl);
    }
    sink_acts (Send terms number) bytes acts = absurd acts
    sink_acts (Store terms number) bytes acts =
        let h = stores_so terms number acts.0 acts.2 in
        record { after = h.after; steps = (acts.0, acts.1, h.steps); took = h.took; fate = (acts.2.bytes, refl, h.fate) }

    -- a step
    pub sink_moves : (bytes : List ℕ) (step : DatagramStep sources sinks from bytes x.state (Sink k) turn (Sink k')) →
        SinkMoves x turn (step_moves sources sinks from bytes x.state (Sink k) turn (Sink k') step moved)
        (λ (after : Holding). DatagramStep known_source known_sink from bytes x.state (Sink (holding_of x)) turn
        (Sink after))
        (λ (after : Holding). Fate sinks turn x.committed k k' (datagram_action x.state from bytes step.decoded)
        moved.bytes (step_moves sources sinks from bytes x.state (Sink k) turn (Sink k') step moved).bytes
        after.committed)
    sink_moves bytes step =
        let h = sink_acts (datagram_action x.state from bytes step.decoded) bytes step.acts in
        search

-- What the draft of a transfer has taken since it was begun, after a step of its end, or after its own work.

-- an action that leaves the files as they are
abbrev pub IsResponse : Action → Type 0
IsResponse (Respond response) = Unit {0}
IsResponse action = ⊥

-- a complete end stores nothing more
pub complete_responds : (e : EndState) (from : Endpoint) (bytes : List ℕ) (decoded : Option WirePacket) →
    is_complete e.position.phase ≡ true → IsResponse (datagram_action e from bytes decoded)
complete_responds e from bytes decoded c = search rules

module _ {S D : Type 0} (stores : StoreMeaning S D) where
  -- a draft that was handed these bytes, and refused none
  append_takes : (first : D) (bytes taken : List ℕ) (d mid : Drafting S D) →
      Appended (drafting_sink stores) bytes d mid (Ok tt) → TakesInTurn stores first taken d.draft →
      TakesInTurn stores first (taken ++ bytes) mid.draft
  append_takes first [] taken d mid a t = search rules
  append_takes first (b ∷ bytes) taken d mid a t = Took_more d.store mid.store t a.3.0

  -- under the same path, to replace a file or not as before
  append_path : (bytes : List ℕ) (d mid : Drafting S D) → Appended (drafting_sink stores) bytes d mid (Ok tt) →
      mid.path ≡ d.path
  append_path [] d mid a = ap (λ (z : Drafting S D). z.path) a.1
  append_path (b ∷ bytes) d mid a = a.2.path

  append_replace : (bytes : List ℕ) (d mid : Drafting S D) → Appended (drafting_sink stores) bytes d mid (Ok tt) →
      mid.replace ≡ d.replace
  append_replace [] d mid a = ap (λ (z : Drafting S D). z.replace) a.1
  append_replace (b ∷ bytes) d mid a = a.2.replace

module _ {S D : Type 0} {stores : StoreMeaning S D} {HasBeen : S → Type 0} {path : List ℕ} {replace : Bool}
    {first : D} where
  -- it was only written back, or nothing was done with it
  pub took_none : {x : OpenEnd} {bytes : List ℕ} {draft draft' : D} →
      (draft' ≡ draft) ⊎ stores.writes_behind draft draft' → TookBy stores HasBeen path replace first x bytes draft →
      TookBy stores HasBeen path replace first x bytes draft'
  took_none {x} {bytes} (inl same) h = search rules
  took_none (inr behind) h = record { going = λ o n. Written_back (h.going o n) behind; done = h.done }

  -- at another position, which is open only if the end was
  pub took_still : {x y : OpenEnd} {bytes : List ℕ} {last : D} → y.committed ≡ x.committed →
      (outcome_of y.state.position.phase ≡ None → outcome_of x.state.position.phase ≡ None) →
      TookBy stores HasBeen path replace first x bytes last → TookBy stores HasBeen path replace first y bytes last
  took_still same still h = search rules

  -- ---- a step
  module _ (x : OpenEnd) (turn : Turn) (d d' : Drafting S D) (after : Holding) (earlier now : List ℕ)
      (path_is : d.path ≡ path) (replace_is : d.replace ≡ replace) (been : HasBeen d'.store)
      (still : outcome_of x.state.position.phase ≡ None)
      (h : TookBy stores HasBeen path replace first x earlier d.draft) where
    commits : (bytes : List ℕ) → now ≡ earlier ++ bytes → x.committed ≡ false → (mid : Drafting S D) →
        Appended (drafting_sink stores) bytes d mid (Ok tt) →
        (drafting_sink stores).after_commit mid d' None → WasCommitted stores HasBeen path replace first now
    commits bytes is none mid a commit = search (rules, append_takes, append_path, append_replace)

    stored_takes : (bytes : List ℕ) → now ≡ earlier ++ bytes → x.committed ≡ false →
        StoreFate (drafting_sink stores) turn x.committed d d' bytes after.committed →
        TookBy stores HasBeen path replace first (end_after x turn (Sink after)) now d'.draft
    stored_takes bytes is none f = search (rules, append_takes, true≢false, commits)

    pub fate_takes : (action : Action) → (x.committed ≡ true → IsResponse action) →
        Fate (drafting_sink stores) turn x.committed d d' action earlier now after.committed →
        TookBy stores HasBeen path replace first (end_after x turn (Sink after)) now d'.draft
    fate_takes action responds f = search (rules, cases_Bool, stored_takes)
