-- A receiver whose sink stores a block or commits. For BlamelessActions, PhaseMoves, WaitingMoves and the crate
-- tftp_player.
use Rattle.std.proofs.Common.{rules as std_rules}
use Rattle.tftp_rules.proofs.Common.{◌≡◌, List, refl, sym, true, [], false, ℕ, rules, ◌∷◌, ◌∙◌, Some, Bool, ◌++◌, ap}
use Rattle.tftp_rules.proofs.Common.{subst, length, ◌<◌, inl, inr, Ok, not, Result, Err, set, ◌^◌, append_assoc}
use Rattle.tftp_rules.proofs.Common.{std_rules, true≢false, cases_Bool, append-nil, same_Some, if◌then◌else◌, nat_lt}
use Rattle.tftp_rules.proofs.Common.{◌&&◌, Mode, Octet, Netascii, IsPrefixOf, wire_text, Holding, SinkMeaning}
use Rattle.tftp_rules.proofs.Common.{SourceMeaning, StoreFault, Files, Source, Sink, is_sender, EndState, is_complete}
use Rattle.tftp_rules.proofs.Common.{Turn, StoresIn, sent_turn, refused_turn, GoesOn, Done, committed_turn}
use Rattle.tftp_rules.proofs.Common.{commit_reply, holding, ack_bytes, is_readable, ends_in_cr, ErrorReply, Outcome}
use Rattle.tftp_rules.proofs.Common.{Fresh, Phase, Receiving, Dallying, Terms, EndKept, PhaseKept, HeldBackFits, Goes}
use Rattle.tftp_rules.proofs.Common.{known_source, known_sink, Endpoint, Network, Message, Error, Says_ack, OpenEnd}
use Rattle.tftp_rules.proofs.Common.{open_view, files_of, end_after, has_failed, goes_on, text_of_end, holding_of, Rule}
use Rattle.tftp_rules.proofs.Common.{message, EndView, IsShownWithin}
use Rattle.tftp_wire.specs.declared.packet.Packet.TheVariants.{Ack}
use Rattle.tftp_file.specs.Sink.{UnlessArmed, Appends, AppendsFreely, CommitsFreely, KeptPrefix, disarmed}
use Rattle.tftp_ends.specs.End.{number_of}
use Rattle.tftp_ends.specs.Step.{Appended, Committed, Stores}
use Rattle.tftp_ends.specs.Text.{Decoded}
use Rattle.tftp_rules.proofs.StoredTexts.{stored_more, stored_some}
use Rattle.tftp_rules.proofs.SaidLemmas.{spells_own}
use Rattle.tftp_rules.proofs.EndMoves.{error_says, going_live}
use Rattle.tftp_file.specs.declared.fault.StoreFault.TheVariants as faults
use Rattle.tftp_ends.specs.declared.error_reply.ErrorReply.TheVariants as replies
use Rattle.tftp_ends.specs.declared.outcome.Outcome.TheVariants as outcomes

-- the effect of a block's bytes on a sink: all of them were stored, or a prefix
pub data Took (before after : Holding) (bytes : List ℕ) (answer : Result Done StoreFault) : Type 0 where
  All_of_it : (answer ≡ Ok tt) → (after.bytes ≡ before.bytes ++ bytes) →
      (before.committed ≡ false → after.committed ≡ false) → Took before after bytes answer
  Some_of_it : (fault : StoreFault) (kept : List ℕ) → (answer ≡ Err fault) → IsPrefixOf kept bytes →
      (after.bytes ≡ before.bytes ++ kept) → (before.committed ≡ false → after.committed ≡ false) →
      Took before after bytes answer

-- a sink that was left as it was, except for its setting
took_none : (before after now : Holding) (bytes : List ℕ) (fault : StoreFault) → after ≡ now →
    now.bytes ≡ before.bytes → now.committed ≡ before.committed → Took before after bytes (Err fault)
took_none before after now bytes fault e same still =
    Some_of_it fault [] refl (bytes, refl) (ap (λ (z : Holding). z.bytes) e ∙ (same ∙ sym (append-nil before.bytes)))
    (λ c. ap (λ (z : Holding). z.committed) e ∙ (still ∙ c))

took_prefix : (before after : Holding) (bytes : List ℕ) (fault : StoreFault) →
    KeptPrefix before (Some after) bytes → Took before after bytes (Err fault)
took_prefix before after bytes fault h =
    let e : after ≡ h.holding = same_Some after h.holding h.leaves in
    Some_of_it fault h.kept refl h.prefix (ap (λ z. z.bytes) e ∙ h.bytes) (λ c. elim (cases_Bool after.committed) [
      | inl t ↦
          absurd (true≢false (sym t ∙ (ap (λ z. z.committed) (e ∙ h.uncommitted (ap (λ z. z.committed) (sym e) ∙ t)) ∙
          c)))
      | inr f ↦ f
    ])

-- an append that may be armed to fail appends the block, or fails and leaves the file
pub took_armed : (armed : Bool) (before after : Holding) (bytes : List ℕ) (answer : Result Done StoreFault) →
    UnlessArmed armed before (Some after) answer (AppendsFreely before (Some after) bytes answer) →
    Took before after bytes answer
took_armed true before after bytes answer h =
    subst (λ (a : Result Done StoreFault). Took before after bytes a) (sym h.answer)
    (took_none before after (disarmed before) bytes faults.Full (same_Some after (disarmed before) h.leaves) refl refl)
took_armed false before after bytes (Ok done) h = search rules
took_armed false before after bytes (Err faults.Memory) h =
    took_none before after before bytes faults.Memory (same_Some after before h) refl refl
took_armed false before after bytes (Err fault) h = took_prefix before after bytes fault h

-- a sink of known content
pub took : (sinks : SinkMeaning Holding) → ((holding : Holding) → sinks.held holding ≡ Some holding) →
    (before after : Holding) (bytes : List ℕ) (answer : Result Done StoreFault) →
    Appended sinks bytes before after answer → Took before after bytes answer
took sinks known before after [] answer h = search rules
took sinks known before after (b ∷ bytes) answer h =
    took_armed before.refuses before after (b ∷ bytes) answer
    (let f : Appends (Some before) (Some after) (b ∷ bytes) answer = rw (known before, known after) at h.0 in f)

-- the effect of a commit on a sink: it keeps its bytes
pub data Kept_all (before after : Holding) (answer : Result Done StoreFault) : Type 0 where
  For_good : (answer ≡ Ok tt) → (after.bytes ≡ before.bytes) → (after.committed ≡ true) → Kept_all before after answer
  Not_yet : (fault : StoreFault) → (answer ≡ Err fault) → (after.bytes ≡ before.bytes) →
      (after.committed ≡ before.committed) → Kept_all before after answer

-- a commit that may be armed to fail commits, or fails and leaves the file
pub kept_by : (armed : Bool) (before after : Holding) (answer : Result Done StoreFault) →
    UnlessArmed armed before (Some after) answer (CommitsFreely before (Some after) answer) →
    Kept_all before after answer
kept_by true before after answer h =
    let e = same_Some after (record before { refuses = false }) h.leaves in
    Not_yet faults.Full h.answer (ap (λ (z : Holding). z.bytes) e) (ap (λ (z : Holding). z.committed) e)
kept_by false before after (Ok done) h = search rules
kept_by false before after (Err fault) h =
    let e = same_Some after before h in
    Not_yet fault refl (ap (λ (z : Holding). z.bytes) e) (ap (λ (z : Holding). z.committed) e)

-- it commits if it succeeds alone
pub same_bytes : {before after : Holding} {answer : Result Done StoreFault} → Kept_all before after answer →
    after.bytes ≡ before.bytes
same_bytes (For_good ok same done) = same
same_bytes (Not_yet fault err same still) = same

-- after one that fails it is as before
pub still_committed : {before after : Holding} (fault : StoreFault) → Kept_all before after (Err fault) →
    after.committed ≡ before.committed
still_committed fault h1 = search rules

-- the text with a CR after it ends in a CR
ends_cr : (bs : List ℕ) → ends_in_cr (bs ++ 13 ∷ []) ≡ true
ends_cr [] = refl
ends_cr (b ∷ []) = refl
ends_cr (b ∷ c ∷ bs) = ends_cr (c ∷ bs)

-- after the last block nothing is held back
none_held_in : (a c : Bool) → (a && not (true && c)) ≡ true → c ≡ false
none_held_in a c e = search rules

none_held : (mode : Mode) (held piece more after : List ℕ) → HeldBackFits mode held →
    Decoded mode held piece more after →
    is_readable mode held piece true ≡ true → after ≡ []
none_held mode held piece more after h d e = search (rules, none_held_in, ends_cr, true≢false)

-- a block continues with what is stored of it and held back then
pub goes_on_with : (mode : Mode) (held piece more after : List ℕ) → HeldBackFits mode held →
    Decoded mode held piece more after → held ++ piece ≡ wire_text mode more ++ after
goes_on_with mode held piece more after h d = search rules

-- what netascii holds back of a block stays at most a CR
pub held_fits : (mode : Mode) (held piece more after : List ℕ) → HeldBackFits mode held →
    Decoded mode held piece more after → HeldBackFits mode after
held_fits Octet held piece more after h d = d.1 ∙ h
held_fits Netascii held piece more after h d = tt

-- the other branch of a choice
pub text_else : (b : Bool) (f r : List ℕ) → b ≡ false → (if b then f else r) ≡ r
text_else true f r e = absurd (true≢false e)
text_else false f r e = refl

-- a receiver works on a sink
pub stores_in : (b : Bool) → b ≡ false →
    (sources : SourceMeaning (List ℕ)) (sinks : SinkMeaning Holding) (terms : Terms) (number : ℕ) (from : Endpoint)
    (piece : List ℕ) (e : EndState) (left : List ℕ) (sink : Holding) (turn : Turn) (held : Files (List ℕ) Holding) →
    StoresIn sources sinks terms number from piece e (if b then Source left else Sink sink) turn held →
    (sink' : Holding) × (held ≡ Sink sink') × Stores sinks terms number from piece e sink turn sink'
stores_in b f sources sinks terms number from piece e left sink turn held h = search rules

-- the block goes on with netascii, or is octet
abbrev pub Readable : OpenEnd → Terms → List ℕ → Type 0
Readable x terms piece =
    is_readable x.state.role.mode x.state.position.held_back piece (nat_lt (length piece) terms.size) ≡ true

module _ (network : Network) where
  -- what the machine has for a receiver that was sent this block
  pub record Receives (first : List Rule) (views : List EndView) (messages : List Message) (k : ℕ) (x : OpenEnd)
      (terms : Terms) (number : ℕ) (from : Endpoint) (piece : List ℕ) : Type 0 where
    pub receiver : is_sender x.state.role.side ≡ false
    pub going : goes_on x.state.position.phase ≡ true
    pub incomplete : is_complete x.state.position.phase ≡ false
    pub peer : from ≡ terms.peer
    pub fits : number < 2 ^ 16
    pub stored : IsShownWithin network 3 first
        (set views k (record (open_view x) {
          peer = Some terms.peer;
          size = terms.size;
          number = number;
          complete = nat_lt (length piece) terms.size;
          text = text_of_end x ++ piece;
        }))
        (messages ++ message x.address from (Says_ack number) ∷ [])
    pub refused : (t : List ℕ) → IsPrefixOf t (text_of_end x ++ piece) →
        IsShownWithin network 3 first
        (set views k (record (open_view x) {
          peer = Some terms.peer;
          size = terms.size;
          number = number_of x.state.position.phase;
          failed = true;
          text = t;
        }))
        (messages ++ message x.address from Error ∷ [])

module _ {network : Network} {first : List Rule} {views : List EndView} {messages : List Message} {k : ℕ} {x : OpenEnd}
    {terms : Terms} {number : ℕ} {from : Endpoint} {piece : List ℕ} (kept : EndKept network x)
    (r : Receives network first views messages k x terms number from piece) where
  -- after this turn, which leaves the sink so, the end is shown
  abbrev Leaves : Turn → Holding → Type 0
  Leaves turn sink = Goes network first views messages k x turn (end_after x turn (Sink sink))

  -- the block has been decoded to this, and what is held back then
  abbrev Holds_back : List ℕ → List ℕ → Type 0
  Holds_back more after = Decoded x.state.role.mode x.state.position.held_back piece more after

  -- what it has of its peer's text
  pub wire_text_is : text_of_end x ≡ wire_text x.state.role.mode x.stored ++ x.state.position.held_back
  wire_text_is = search rules

  uncommitted : x.committed ≡ false
  uncommitted = kept.committed r.receiver ∙ r.incomplete

  -- the text, with the block
  more_text : (more after : List ℕ) → Holds_back more after →
      text_of_end x ++ piece ≡ wire_text x.state.role.mode (x.stored ++ more) ++ after
  more_text more after d = search (rules, wire_text_is, stored_more, goes_on_with)

  -- the store refused it
  pub refused_goes : (held : List ℕ) (sink : Holding) (reply : ErrorReply) (outcome : Outcome) →
      HeldBackFits x.state.role.mode held → sink.committed ≡ false →
      IsPrefixOf (wire_text x.state.role.mode sink.bytes) (text_of_end x ++ piece) →
      Leaves (refused_turn terms reply outcome from (holding held x.state)) sink
  refused_goes held sink reply outcome fits un begins =
      let turn = refused_turn terms reply outcome from (holding held x.state) in
      let y = end_after x turn (Sink sink) in
      let t = text_else _ x.text (wire_text x.state.role.mode sink.bytes) r.receiver in
      let shown_now = r.refused (text_of_end y) (rw (t) begins) in
      search (rules, error_says, true≢false)

  failed_not : has_failed x.state.position.phase ≡ false
  failed_not = (going_live x.state.position.phase r.going).1

  -- the block is acknowledged: stored, or stored and committed
  abbrev Acknowledged : Bool → Bool → List ℕ → Type 0
  Acknowledged done failed t =
      IsShownWithin network 3 first
      (set views k (record (open_view x) {
        peer = Some terms.peer;
        size = terms.size;
        number = number;
        complete = done;
        failed = failed;
        text = t;
      })) (messages ++ message x.address from (Says_ack number) ∷ [])

  acknowledged : (more after : List ℕ) → Holds_back more after → (t : List ℕ) →
      wire_text x.state.role.mode (x.stored ++ more) ++ after ≡ t → (done : Bool) →
      nat_lt (length piece) terms.size ≡ done → Acknowledged done false t
  acknowledged more after d t text done last = search (rules, failed_not, more_text)

  -- the turn of the end into its next phase
  abbrev stored_turn : Phase → List ℕ → Turn
  stored_turn phase after = sent_turn phase from (ack_bytes number) (holding after x.state)

  stored_goes : (phase : Phase) (sink : Holding) (more after : List ℕ) → Holds_back more after →
      let y = end_after x (stored_turn phase after) (Sink sink) in
      IsShownWithin network 3 first (set views k (open_view y))
      (messages ++ message x.address from (Says_ack number) ∷ []) →
      PhaseKept network y phase → sink.committed ≡ is_complete phase → Leaves (stored_turn phase after) sink
  stored_goes phase sink more after d shown_now phase_kept committed = record {
    said_now = message x.address from (Says_ack number) ∷ [];
    shown = shown_now;
    replies = (Ack number, spells_own (Ack number) r.fits, refl);
    kept = search rules;
    side = refl;
    last_sent = inr refl;
    stored = λ c. absurd (true≢false (sym c ∙ r.incomplete));
  }

  next_goes : (sink : Holding) (more after : List ℕ) → sink.bytes ≡ x.stored ++ more → sink.committed ≡ false →
      Holds_back more after → nat_lt (length piece) terms.size ≡ false →
      Leaves (stored_turn (Receiving terms number) after) sink
  next_goes sink more after bytes un d last =
      let y = end_after x (stored_turn (Receiving terms number) after) (Sink sink) in
      let text : wire_text x.state.role.mode (x.stored ++ more) ++ after ≡ text_of_end y = search rules in
      search (std_rules, stored_goes, acknowledged, false)

  whole_goes : Readable x terms piece → (sink : Holding) (more after : List ℕ) → sink.bytes ≡ x.stored ++ more →
      sink.committed ≡ true → Holds_back more after → nat_lt (length piece) terms.size ≡ true →
      Leaves (stored_turn (Dallying terms number Fresh) after) sink
  whole_goes readable sink more after bytes done d last =
      let y = end_after x (stored_turn (Dallying terms number Fresh) after) (Sink sink) in
      let none : after ≡ [] = search (std_rules, none_held, is_readable, true) in
      let text : wire_text x.state.role.mode (x.stored ++ more) ++ after ≡ text_of_end y = search rules in
      search (std_rules, stored_goes, acknowledged, text_of_end, true)

  -- after a commit
  commit_goes : Readable x terms piece → (mid sink : Holding) (more after : List ℕ) (turn : Turn) →
      mid.bytes ≡ x.stored ++ more → mid.committed ≡ false → Holds_back more after →
      nat_lt (length piece) terms.size ≡ true →
      Committed known_sink terms number from (holding after x.state) mid turn sink → Leaves turn sink
  commit_goes readable mid sink more after turn bytes un d last c =
      by_commit c.answer c.answers (kept_by mid.refuses mid sink c.answer c.commits) where
        by_commit : (answer : Result Done StoreFault) →
            turn ≡ committed_turn terms number from (holding after x.state) answer → Kept_all mid sink answer →
            Leaves turn sink
        by_commit answer t (For_good ok same done) =
            let turn_is = t ∙ ap (committed_turn terms number from (holding after x.state)) ok in
            subst (λ (z : Turn). Leaves z sink) (sym turn_is)
            (whole_goes readable sink more after (same ∙ bytes) done d last)
        by_commit answer t (Not_yet fault err same still) =
            let turn_is = t ∙ ap (committed_turn terms number from (holding after x.state)) err in
            let begins : IsPrefixOf (wire_text x.state.role.mode sink.bytes) (text_of_end x ++ piece) = (
              after,
              ap (λ (z : List ℕ). wire_text x.state.role.mode z ++ after) (same ∙ bytes)
                  ∙ sym (more_text more after d),
            ) in
            rw (turn_is) (refused_goes after sink (commit_reply fault) outcomes.StoreFault
            (held_fits x.state.role.mode x.state.position.held_back piece more after kept.held_back d)
            (still ∙ un) begins)

  -- after an append
  append_goes : Readable x terms piece →
      (mid sink : Holding) (more after : List ℕ) (turn : Turn) (answer : Result Done StoreFault) (last : Bool) →
      nat_lt (length piece) terms.size ≡ last → Holds_back more after → Took (holding_of x) mid more answer →
      GoesOn known_sink terms number from x.state last after mid answer turn sink → Leaves turn sink
  append_goes readable mid sink more after turn (Err f) last is d (All_of_it ok same un) h = absurd (let e = ok in cc)
  append_goes readable mid sink more after turn (Ok u) last is d (Some_of_it fault kept_bytes err prefix same un) h =
      absurd (let e = err in cc)
  append_goes readable mid sink more after turn (Err f) last is d (Some_of_it fault kept_bytes err prefix same un) h =
      let begun = stored_some x.state.role.mode x.stored kept_bytes more prefix in
      let begins : IsPrefixOf (wire_text x.state.role.mode mid.bytes) (text_of_end x ++ piece) = (
        begun.0 ++ after,
        ap (λ (z : List ℕ). wire_text x.state.role.mode z ++ (begun.0 ++ after)) same ∙ (sym (append_assoc (wire_text
            x.state.role.mode (x.stored ++ kept_bytes)) begun.0 after) ∙ (ap (λ (z : List ℕ). z ++ after) begun.1 ∙
            sym (more_text more after d))),
      ) in
      rw (h.1) (subst (λ (t : Turn). Leaves t mid) (sym h.0) (refused_goes x.state.position.held_back mid
      replies.DiskFull outcomes.StoreFault kept.held_back (un uncommitted) begins))
  append_goes readable mid sink more after turn (Ok u) true is d (All_of_it ok same un) h =
      commit_goes readable _ _ _ _ _ same (un uncommitted) d is h
  append_goes readable mid sink more after turn (Ok u) false is d (All_of_it ok same un) h =
      rw (h.1) (subst (λ (t : Turn). Leaves t mid) (sym h.0) (next_goes mid more after same (un uncommitted) d is))

  -- an action that stores has gone on
  pub block_goes : Readable x terms piece → (turn : Turn) (held : Files (List ℕ) Holding) →
      StoresIn known_source known_sink terms number from piece x.state (files_of x) turn held →
      Goes network first views messages k x turn (end_after x turn held)
  block_goes readable turn held h =
      let f =
      stores_in (is_sender x.state.role.side) r.receiver known_source known_sink terms number from piece x.state
      x.left (holding_of x) turn held h in
      let b = f.2 in
      subst (λ (fs : Files (List ℕ) Holding). Goes network first views messages k x turn (end_after x turn fs))
      (sym f.1)
      (append_goes readable b.mid f.0 b.bytes b.after turn b.answer (nat_lt (length piece) terms.size) refl b.decoded
      (took known_sink (λ holding. refl) (holding_of x) b.mid b.bytes b.answer b.appended) b.rest)
