-- An end stays viewed when another end turns, or when one more opens.
use Rattle.std.proofs.Common.{rules as std_rules}
use Rattle.tftp_promises.proofs.Common.{List, ℕ, ◌≡◌, rules, sym, Endpoint, [], ◌∙◌, ap, SourceMeaning, Some, subst}
use Rattle.tftp_promises.proofs.Common.{inl, StoreMeaning, inr, ◌∷◌, SinkMeaning, ◌++◌, Programs, ◌⊎◌, Contains, arith}
use Rattle.tftp_promises.proofs.Common.{◌≢◌, slice_get, joined, ClientOf, OpenEnd, Snapshot, same_Some, IsStranger}
use Rattle.tftp_promises.proofs.Common.{open_view, Mode, Spells, Message, WirePacket, EndView, Contains-push, IsShown}
use Rattle.tftp_promises.proofs.Common.{message, WasSentBefore, said, IsAmong, Contains-append_left, set, Elsewhere}
use Rattle.tftp_promises.proofs.Common.{common_steps, ClientStage, error_bytes, Network, MayCome, Error, IsError}
use Rattle.tftp_promises.proofs.Common.{spells_own, slice_get-set_other, unblamed_still, one_meaning, ErrorReply}
use Rattle.tftp_promises.proofs.Common.{says_error, slice_get-set_cases, error_packet, valid_error, append-nil}
use Rattle.tftp_promises.proofs.Common.{client_at, Has_asked, Unasked, requests_at, Option}
use Rattle.tftp_rules.proofs.Indices.{slice_get-push_cases, slice_get-push_old}
use Rattle.tftp_wire.specs.Parts.{packet_in}
use Rattle.tftp_wire.proofs.SpellingLemmas.{spelled_is_found}
use Rattle.tftp_rules.specs.Machine.{Error as Says_an_error}
use Rattle.tftp_rules.proofs.Actions.{strays}
use Rattle.tftp_promises.proofs.Invariant.{IsThere, HasArrived, IsViewed, IsKept, StageKept, SendsText, same_transfer}
use Rattle.tftp_promises.proofs.Places.{strangers_elsewhere}

-- what was said is there still
pub there_still : (messages more : List Message) {from to : Endpoint} {bytes : List ℕ} →
    IsThere messages from to bytes → IsThere (messages ++ more) from to bytes
there_still messages more {from} {to} h = grind (arith, common_steps)

pub arrived_still : (messages more : List Message) {from to : Endpoint} {bytes : List ℕ} →
    HasArrived messages from to bytes → HasArrived (messages ++ more) from to bytes
arrived_still messages more {from} {to} h p spells =
    Contains-append_left messages more (message from to (said p)) (h p spells)

-- so is what was sent there, unless it is for a stranger
module _ {S F D G K : Type 0} {stores : StoreMeaning S D} {sources : SourceMeaning F} {inputs : SourceMeaning G}
    {outputs : SinkMeaning K} (programs : Programs stores sources inputs outputs) where
  pub sent_still : (messages more : List Message) {from to : Endpoint} {bytes : List ℕ} →
      IsThere messages from to bytes ⊎ IsStranger programs to →
      IsThere (messages ++ more) from to bytes ⊎ IsStranger programs to
  sent_still messages more (inl h) = inl (there_still messages more h)
  sent_still messages more (inr h) = inr h

-- the message of a datagram says what its bytes spell
pub there_says : (messages : List Message) (from to : Endpoint) (bytes : List ℕ) → IsThere messages from to bytes →
    (p : WirePacket) → Spells p bytes → Contains messages (message from to (said p))
there_says messages from to bytes h p s = rw (← one_meaning h.0 p bytes h.1 s) h.2

-- the views and messages after a step at which an end turned, or opened, at most here: each other end stays viewed
pub record Turns (network : Network) (IsText : Endpoint → Mode → Type 0) (views : List EndView)
    (messages : List Message) (Here : Endpoint → Type 0) : Type 0 where
  pub next : List EndView
  pub said_now : List Message
  pub shown : IsShown network next (messages ++ said_now)
  pub others : (z : OpenEnd) → (Here z.address → ⊥) → IsViewed network IsText views messages z →
      IsViewed network IsText next (messages ++ said_now) z
  pub only : (view : EndView) → IsAmong next view → IsAmong views view ⊎ Here view.address

-- a view after one end has turned, or one more has opened, is of that end, or as before
pub among_set : (views : List EndView) (k : ℕ) (f view : EndView) (a : Endpoint) → f.address ≡ a →
    IsAmong (set views k f) view → IsAmong views view ⊎ (a ≡ view.address)
among_set views k f view a is among = search (rules, slice_get-set_cases, is)

pub among_push : (views : List EndView) (f view : EndView) (a : Endpoint) → f.address ≡ a →
    IsAmong (views ++ f ∷ []) view → IsAmong views view ⊎ (a ≡ view.address)
among_push views f view a is among = search (rules, slice_get-push_cases, is)

module _ {network : Network} {IsText : Endpoint → Mode → Type 0} {views : List EndView} {messages : List Message} where
  -- the view at the endpoint of an end is its own
  pub view_there : {x : OpenEnd} {view : EndView} → IsShown network views messages →
      IsViewed network IsText views messages x → IsAmong views view → view.address ≡ x.address → view ≡ open_view x
  view_there {x} {view} shown h among same = search rules

  -- more was said
  pub viewed_still : (said_now : List Message) {z : OpenEnd} → IsViewed network IsText views messages z →
      IsViewed network IsText views (messages ++ said_now) z
  viewed_still said_now {z} h = search (rules, there_still, unblamed_still)

  -- another end has turned, or one more has opened
  pub viewed_beside : (said_now : List Message) (k : ℕ) (e f : EndView) (z : OpenEnd) → slice_get views k ≡ Some e →
      e.address ≢ z.address → IsViewed network IsText views messages z →
      IsViewed network IsText (set views k f) (messages ++ said_now) z
  viewed_beside said_now k e f z at apart h =
      search (
        slice_get-set_other views k h.index f (λ same. apart (ap (λ (v : EndView). v.address) (same_Some e (open_view z) (sym at ∙ (ap (slice_get views) (sym same) ∙ h.viewed))))) ∙ h.viewed,
        there_still messages said_now h.last_sent,
        unblamed_still network messages said_now z.state h.unblamed,
      )

  pub viewed_before : (said_now : List Message) (f : EndView) (z : OpenEnd) → IsViewed network IsText views messages z →
      IsViewed network IsText (views ++ f ∷ []) (messages ++ said_now) z
  viewed_before said_now f z h =
      search (
        slice_get-push_old views h.index f (open_view z) h.viewed,
        there_still messages said_now h.last_sent,
        unblamed_still network messages said_now z.state h.unblamed,
      )

  -- none turned or opened
  abbrev pub rests : {Here : Endpoint → Type 0} (said_now : List Message) →
      IsShown network views (messages ++ said_now) → Turns network IsText views messages Here
  rests said_now shown = record {
    next = views;
    said_now = said_now;
    shown = shown;
    others = λ z apart h. viewed_still said_now h;
    only = λ view among. inl among;
  }

  -- and nothing was said
  abbrev pub quiet : {Here : Endpoint → Type 0} → IsShown network views messages →
      Turns network IsText views messages Here
  quiet shown = rests [] (subst (λ (ms : List Message). IsShown network views ms) (sym (append-nil messages)) shown)

  -- the end at this index turned
  abbrev pub turned : (a : Endpoint) (k : ℕ) (e : EndView) (y : OpenEnd) → slice_get views k ≡ Some e → e.address ≡ a →
      y.address ≡ a → (said_now : List Message) → IsShown network (set views k (open_view y)) (messages ++ said_now) →
      Turns network IsText views messages (λ (b : Endpoint). a ≡ b)
  turned a k e y at was is said_now shown = record {
    next = set views k (open_view y);
    said_now = said_now;
    shown = shown;
    others = λ z apart h. viewed_beside said_now k e (open_view y) z at (λ same. apart (sym was ∙ same)) h;
    only = λ view among. among_set views k (open_view y) view a is among;
  }

  -- one more opened
  abbrev pub opened : (a : Endpoint) (x : OpenEnd) → x.address ≡ a → (said_now : List Message) →
      IsShown network (views ++ open_view x ∷ []) (messages ++ said_now) →
      Turns network IsText views messages (λ (b : Endpoint). a ≡ b)
  opened a x is said_now shown = record {
    next = views ++ open_view x ∷ [];
    said_now = said_now;
    shown = shown;
    others = λ z apart h. viewed_before said_now (open_view x) z h;
    only = λ view among. among_push views (open_view x) view a is among;
  }

-- the end of a client stays, if it is viewed still
pub stage_still : {S F D G K : Type 0} {stores : StoreMeaning S D} {sources : SourceMeaning F} {inputs : SourceMeaning G}
    {outputs : SinkMeaning K} {programs : Programs stores sources inputs outputs} {pad : ℕ} {views next : List EndView}
    {messages : List Message} (more : List Message) (client : ClientOf programs) (stage : ClientStage G K) →
    ((z : OpenEnd) → z.address ≡ client_at client →
    IsViewed (joined programs) (SendsText programs pad) views messages z →
    IsViewed (joined programs) (SendsText programs pad) next (messages ++ more) z) →
    StageKept programs pad views messages client stage → StageKept programs pad next (messages ++ more) client stage
stage_still more client Unasked viewed h = tt
stage_still {messages = messages} more client (Has_asked s files noted moved) viewed h =
    search (std_rules, there_still)

-- What a step receives is among the messages: it was sent before, or it is a stranger's or an ERROR, whose message may
-- be added at any time.

module _ {S F D G K : Type 0} {stores : StoreMeaning S D} {sources : SourceMeaning F} {inputs : SourceMeaning G}
    {outputs : SinkMeaning K} {programs : Programs stores sources inputs outputs} {pad : ℕ}
    {snapshot : Snapshot programs} (kept : IsKept pad snapshot) where
  -- what a step does to the views and messages
  abbrev pub TurnsHere : (Endpoint → Type 0) → Type 0
  TurnsHere Here = Turns (joined programs) (SendsText programs pad) kept.views kept.messages Here

  -- the datagram that is pending, if there is one, was sent
  abbrev pub HasCome : Option (Endpoint × List ℕ) → Type 0
  HasCome pending =
      (from : Endpoint) (bytes : List ℕ) → pending ≡ Some (from, bytes) →
      HasArrived kept.messages from (requests_at programs) bytes

  -- one message more, that may be said at any time, changes no end
  said_kept : (m : Message) → IsShown (joined programs) kept.views (kept.messages ++ m ∷ []) → IsKept pad snapshot
  said_kept m shown =
      record {
        views = kept.views;
        messages = kept.messages ++ m ∷ [];
        shown = shown;
        sent = λ a b bs sent. sent_still programs kept.messages (m ∷ []) (kept.sent a b bs sent);
        server = record {
          pending = λ a bs e. arrived_still kept.messages (m ∷ []) (kept.server.pending a bs e);
          apart = kept.server.apart;
          once = kept.server.once;
          opened = kept.server.opened;
        };
        clients = λ k client stage found at.
            stage_still (m ∷ []) client stage (λ z here h. viewed_still (m ∷ []) h)
            (kept.clients k client stage found at);
        transfers = λ port transfer a is.
            let h = kept.transfers port transfer a is in same_transfer h (viewed_still (m ∷ []) h.viewed) h.has;
        only = kept.only;
      }

  -- a stranger's datagram
  stray_kept : (from to : Endpoint) (bytes : List ℕ) → IsStranger programs from → IsKept pad snapshot
  stray_kept from to bytes stranger =
      let m : Message = message from to (said (packet_in bytes)) in
      let now =
      strays (joined programs) kept.shown.0 kept.views kept.messages kept.shown.1 m
      ((strangers_elsewhere programs from).1 stranger) in
      said_kept m (kept.shown.0 ++ now.0, now.2)

  stray_arrived : (from to : Endpoint) (bytes : List ℕ) →
      HasArrived (kept.messages ++ message from to (said (packet_in bytes)) ∷ []) from to bytes
  stray_arrived from to bytes p spells =
      rw (← spelled_is_found p bytes spells) (Contains-push kept.messages (message from to (said (packet_in bytes))))

  -- the invariant, with what has arrived
  pub record Arrived (from to : Endpoint) (bytes : List ℕ) : Type 0 where
    pub now : IsKept pad snapshot
    pub come : HasArrived now.messages from to bytes
    -- and it spells a packet, if it is no stranger's
    pub spelled : (joined programs).host_of from ≢ Elsewhere → (p : WirePacket) × Spells p bytes

  pub strays_in : (from to : Endpoint) (bytes : List ℕ) → IsStranger programs from → Arrived from to bytes
  unfolding stray_kept said_kept
  strays_in from to bytes stranger =
      record {
        now = stray_kept from to bytes stranger;
        come = stray_arrived from to bytes;
        spelled = λ own. absurd (own ((strangers_elsewhere programs from).1 stranger));
      }

  -- an ERROR may be said from any endpoint
  error_arrived : (from to : Endpoint) (bytes : List ℕ) → IsError bytes →
      HasArrived (kept.messages ++ message from to Says_an_error ∷ []) from to bytes
  error_arrived from to bytes error p spells = grind (arith, common_steps)

  error_kept : (from to : Endpoint) → IsKept pad snapshot
  error_kept from to =
      let shown = says_error (joined programs) kept.shown.0 kept.views kept.messages kept.shown.1 from to in
      said_kept (message from to Says_an_error) (kept.shown.0 ++ shown.0, shown.2)

  errors_in : (from to : Endpoint) (bytes : List ℕ) → IsError bytes → Arrived from to bytes
  unfolding error_kept said_kept
  errors_in from to bytes error =
      record {
        now = error_kept from to;
        come = error_arrived from to bytes error;
        spelled = λ own. (Error error.0 error.1, error.2);
      }

  -- what a program receives
  pub arrives : (from to : Endpoint) (bytes : List ℕ) → (IsStranger programs to → ⊥) →
      WasSentBefore snapshot from to bytes ⊎ MayCome programs from bytes → Arrived from to bytes
  arrives from to bytes ours (inl sent) = elim (kept.sent from to bytes sent) [
    | inl there ↦ record {
      now = kept;
      come = there_says kept.messages from to bytes there;
      spelled = λ own. (there.0, there.1);
    }
    | inr strange ↦ absurd (ours strange)
  ]
  arrives from to bytes ours (inr (inl stranger)) = strays_in from to bytes stranger
  arrives from to bytes ours (inr (inr error)) = errors_in from to bytes error

  -- and so may one of ours
  pub record SaysError (from to : Endpoint) (reply : ErrorReply) : Type 0 where
    pub now : IsKept pad snapshot
    pub there : IsThere now.messages from to (error_bytes reply)

  pub errs : (from to : Endpoint) (reply : ErrorReply) → SaysError from to reply
  unfolding said_kept
  errs from to reply =
      let shown = says_error (joined programs) kept.shown.0 kept.views kept.messages kept.shown.1 from to in
      record {
        now = said_kept (message from to Says_an_error) (kept.shown.0 ++ shown.0, shown.2);
        there = (
          error_packet reply,
          spells_own (error_packet reply) (valid_error reply),
          Contains-push kept.messages
              (message from to Says_an_error),
        );
      }
