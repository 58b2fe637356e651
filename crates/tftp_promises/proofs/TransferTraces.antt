-- The trace of a server at one port: the acts of the transfer there are just its events since it opened, as long as it is
-- open. For GivingUp and OacksSent.
use Rattle.std.proofs.Common.{rules}
use Rattle.tftp_promises.proofs.Common.{List, ℕ, ◌≡◌, sym, refl, ◌∙◌, ap, inl, inr, ◌∷◌, false, true, ◌++◌, Bool}
use Rattle.tftp_promises.proofs.Common.{Option, arith, not, append_assoc, true≢false, common_steps, AllByRecursion}
use Rattle.tftp_promises.proofs.Common.{IsBlockSize, SourceMeaning, StoreMeaning, Act, Has, Said, TransferState, at}
use Rattle.tftp_promises.proofs.Common.{is_open, Endpoint, said, SocketEvent, Sent, Run, LoopState, LoopStep, acts_at}
use Rattle.tftp_promises.proofs.Common.{IsNoActAt, AreNotedWhileOpen, Begins_so, Sends, AreNoted, []}
use Rattle.tftp_lives.proofs.OneOrder.{has_first, has_last}
use Rattle.tftp_promises.proofs.SeenLives.{tells_sent}
use Rattle.tftp_promises.proofs.ClientTraces.{noted_on, noted_reply, noted_act}
use Rattle.tftp_promises.proofs.TransferLives.{Acts, DoesAt, Leaves, Opens_there, along, same_open}

module _ (q : ℕ) (before : List SocketEvent) where
  abbrev pub While : Bool → List SocketEvent → List Act → Type 0
  While active events acts = AreNotedWhileOpen q before events active acts

  -- all that was noted
  abbrev pub all_of : {active : Bool} {events : List SocketEvent} {acts : List Act} → While active events acts →
      List SocketEvent
  all_of h = h.later ++ (h.own.noted ++ h.earlier)

  pub all_is : {active : Bool} {events : List SocketEvent} {acts : List Act} (h : While active events acts) →
      events ≡ all_of h ++ before
  all_is h = let is = h.is in let own = h.own.is in grind (arith, common_steps)

  -- what was sent is there
  pub sent_in : {active : Bool} {events : List SocketEvent} {acts : List Act} (h : While active events acts) (to : Endpoint)
      (bytes : List ℕ) → Has (Said to bytes) acts → Has (Sent q to bytes) (all_of h)
  sent_in {acts = acts} h to bytes said = search (rules, has_last, has_first, tells_sent)

  -- it goes on by acts, if it was open
  acts_on : (active now : Bool) (events after : List SocketEvent) (acts done : List Act) → active ≡ true →
      ((first : List SocketEvent) → AreNoted q first events acts → AreNoted q first after done) →
      While active events acts → While now after done
  acts_on active now events after acts done is goes h = record {
    earlier = h.earlier;
    until = after;
    own = goes (h.earlier ++ before) (rw (h.is ∙ ap (λ (later : List SocketEvent). later ++ h.until) (h.still is)) h.own);
    later = [];
    is = refl;
    still = λ _. refl;
  }

  -- by events that are no acts while it is open
  passes_on : (active now : Bool) (events more : List SocketEvent) (acts : List Act) → (now ≡ true → active ≡ true) →
      (active ≡ true → AllByRecursion (IsNoActAt q) more) → While active events acts → While now (more ++ events) acts
  passes_on true now events more acts was others h =
      acts_on true now events (more ++ events) acts acts refl (λ first. past first more (others refl)) h where
        past : (first more : List SocketEvent) → AllByRecursion (IsNoActAt q) more → AreNoted q first events acts →
            AreNoted q first (more ++ events) acts
        past first [] others h = h
        past first (e ∷ more) others h = noted_on q first (more ++ events) acts e others.0 (past first more others.1 h)
  passes_on false now events more acts was others h = record {
    earlier = h.earlier;
    until = h.until;
    own = h.own;
    later = more ++ h.later;
    is = ap (λ (es : List SocketEvent). more ++ es) h.is ∙ sym (append_assoc more h.later h.until);
    still = λ is. absurd (true≢false (sym (was is)));
  }

  -- ---- at each port of a server
  module _ {S F D : Type 0} (stores : StoreMeaning S D) (sources : SourceMeaning F) {requests : ℕ}
      {was now : Option (TransferState F D)} {events after : List SocketEvent} {acts : List Act} where
    noted_after : {more : List Act} → DoesAt stores sources q requests was now events after acts more → While (is_open was) events acts →
        While (is_open now) after more
    noted_after (Leaves noted (inl same) is others) h = rw is (passes_on _ _ _ _ _ (same_open _ _ same) others h)
    noted_after (Leaves noted (inr none) is others) h =
        rw (is, none) (passes_on _ _ _ _ _ (λ f. absurd (true≢false (sym f))) others h)
    noted_after (Acts transfer next e act reply there opened is_now event is lives) h =
        acts_on _ (is_open now) _ _ _ _ (rw there (ap not opened)) (λ first n. rw is (noted_reply q first _ _ reply
        (noted_act q first _ _ e _ event n))) h
    noted_after (Opens_there transfer is_now apart begins is) h = record {
      earlier = all_of h;
      until = after;
      own = record {
        noted = Sent q transfer.end.position.last_sent_to transfer.end.position.last_sent ∷ [];
        is = is ∙ ap (λ es. Sent q transfer.end.position.last_sent_to transfer.end.position.last_sent ∷ es) (all_is h);
        tells = Sends transfer.end.position.last_sent_to transfer.end.position.last_sent Begins_so;
      };
      later = [];
      is = refl;
      still = λ _. refl;
    }

-- the trace of a server tells of what each transfer did
pub transfers_noted : {S F D : Type 0} (stores : StoreMeaning S D) (sources : SourceMeaning F) (start : LoopState S F D)
    (none : start.server.held ≡ []) (max : IsBlockSize start.server.config.limits.max_block) (q : ℕ)
    {now : LoopState S F D} (run : Run (LoopStep stores sources) start now) →
    AreNotedWhileOpen q start.events now.events (is_open (at q now.server.held)) (acts_at q run)
transfers_noted {S} {F} {D} stores sources start none max q run =
    along _ _ none max q _ (record {
      earlier = [];
      until = start.events;
      own = record { noted = []; is = refl; tells = Begins_so };
      later = [];
      is = refl;
      still = λ _. refl;
    }) (λ requests was now before after acts more. noted_after q start.events stores sources) run
