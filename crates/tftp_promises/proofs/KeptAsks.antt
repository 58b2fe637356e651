-- A client that sends its request keeps the invariant.
use Rattle.std.proofs.Common.{rules as std_rules}
use Rattle.tftp_promises.proofs.Common.{List, ℕ, ◌≡◌, rules, sym, Endpoint, refl, [], ◌∙◌, ap, SourceMeaning, Some}
use Rattle.tftp_promises.proofs.Common.{subst, inl, StoreMeaning, inr, ◌∷◌, SinkMeaning, false, true, None, ◌++◌}
use Rattle.tftp_promises.proofs.Common.{Programs, Bool, EndState, Contains, Files, SocketEvent, true≢false, length}
use Rattle.tftp_promises.proofs.Common.{slice_get, Sent, joined, ClientOf, outcome_of, OpenEnd, client_at, endpoint}
use Rattle.tftp_promises.proofs.Common.{Snapshot, same_Some, State, Moved, open_view, Sink, Source, Spells, Message}
use Rattle.tftp_promises.proofs.Common.{moved_in, Contains-push, requests_at, is_client, IsShown, message, Has_asked}
use Rattle.tftp_promises.proofs.Common.{said, WireRequest, ClientOpens, begun, EndKept, requested, To_read, To_write}
use Rattle.tftp_promises.proofs.Common.{request_of, Unasked, client_did, terms_of, wire_text, Request, just_asked}
use Rattle.tftp_promises.proofs.Common.{Gave_nothing, OpensToWrite, OpensToRead, IsValid, getting, nothing_moved}
use Rattle.tftp_promises.proofs.Common.{slice_get-push_new, NoneAt, canonical}
use Rattle.tftp_ends.specs.Opening.{putting}
use Rattle.tftp_rules.specs.Rules.{asking}
use Rattle.tftp_rules.specs.Shows.{view_of}
use Rattle.tftp_rules.proofs.Actions.{asks}
use Rattle.tftp_rules.proofs.EndOpenings.{nothing_held, no_text}
use Rattle.tftp_rules.proofs.UnblamedEnds.{opens_unblamed}
use Rattle.tftp_promises.proofs.MovedSends.{gave_first}
use Rattle.tftp_promises.proofs.Invariant.{client_text, IsThere, HasFile, IsKept, IsFreshBy}
use Rattle.tftp_promises.proofs.KeptClients.{client_keeps, transfer_apart}
use Rattle.tftp_promises.proofs.KeptViews.{opened}
use Rattle.tftp_promises.proofs.Places.{clients_there}
use Rattle.tftp_promises.proofs.Texts.{pad_length}
use Rattle.tftp_promises.proofs.Orders.{one_in}

-- a client's end as it opens, with this file and this text
abbrev opening : Endpoint → EndState → List ℕ → List ℕ → OpenEnd
opening a first bytes text =
    record {
      address = a;
      state = first;
      path = [];
      file = bytes;
      text = text;
      left = text;
      stored = [];
      committed = false;
      refuses = false;
      request = [];
    }

module _ {S F D G K : Type 0} {stores : StoreMeaning S D} {sources : SourceMeaning F} {inputs : SourceMeaning G}
    {outputs : SinkMeaning K} (programs : Programs stores sources inputs outputs) (pad : ℕ) (k : ℕ)
    (client : ClientOf programs) (found : slice_get programs.clients k ≡ Some client) where
  abbrev to : Endpoint
  to = requests_at programs

  abbrev here : Endpoint
  here = client_at client

  -- what a client with this end and this file needs to have its own file
  abbrev Own : EndState → Files G K → List ℕ → List ℕ → Type 0
  Own first files bytes text = HasFile programs pad client (opening here first bytes text) files nothing_moved

  -- it has sent this request
  pub record Requests (first : EndState) (files : Files G K) : Type 0 where
    pub write : Bool
    pub request : WireRequest
    pub bytes : List ℕ
    pub text : List ℕ
    pub asked : List ℕ
    pub valid : IsValid (requested write request)
    pub last_sent : first.position.last_sent ≡ canonical (requested write request)
    pub last_sent_to : first.position.last_sent_to ≡ to
    pub view : open_view (opening here first bytes text) ≡ view_of here [] (asking write request asked)
    pub none : write ≡ false → asked ≡ []
    pub kept : EndKept (joined programs) (opening here first bytes text)
    pub side : is_client first.role.side ≡ true
    pub still : outcome_of first.position.phase ≡ None
    pub alone : terms_of first.position.phase ≡ None
    pub has : Own first files bytes text

  to_read : (first : EndState) (files : Files G K) (h : OpensToRead inputs outputs to first files) →
      Own (getting to h.name h.mode h.asked h.limit h.retries) (Sink h.sink) [] [] → Requests first files
  to_read first files h own =
      search (rules, getting, false, request_of, wire_text, no_text, true≢false, nothing_held)

  to_write : (first : EndState) (files : Files G K) (h : OpensToWrite inputs outputs to first files)
      (bytes text : List ℕ) → h.length ≡ length text →
      Own (putting to h.name h.mode h.asked h.length h.limit h.retries) (Source h.source) bytes text →
      Requests first files
  to_write first files h bytes text measured own =
      let e = putting to h.name h.mode h.asked h.length h.limit h.retries in
      subst (λ z. Requests z files) (sym h.is) (subst (λ f. Requests e f) (sym h.is_file) (record {
        write = true;
        request = request_of h.name h.mode h.asked;
        bytes = bytes;
        text = text;
        asked = text;
        valid = h.may.valid;
        last_sent = refl;
        last_sent_to = refl;
        view = refl;
        none = λ c. absurd (true≢false c);
        kept = search std_rules;
        side = refl;
        still = refl;
        alone = refl;
        has = own;
      }))

  -- its file, by the run
  pub requests : ClientOpens inputs outputs to client.first client.file → Requests client.first client.file
  requests (To_read h) =
      to_read client.first client.file h (record {
        role = ap (λ (z : EndState). z.role) (sym h.is);
        text = λ s. absurd (true≢false (sym s));
        file = search std_rules;
      })
  requests (To_write h) =
      let text = client_text programs pad client in
      let measured : h.length ≡ length text =
      ap (λ (z : EndState). z.role.length) (sym h.is) ∙ sym (pad_length pad client.first.role.length (moved_in
      client.runs).bytes) in
      to_write client.first client.file h [] text measured (record {
        role = ap (λ (z : EndState). z.role) (sym h.is);
        text = λ s. refl;
        file = (
          refl,
          record { prefix = (text, refl); left = λ _. refl },
          record { first = h.source; is_first = h.is_file; since = gave_first Gave_nothing },
        );
      })

-- what a request says
pub says_request : (write : Bool) (request : WireRequest) → said (requested write request) ≡ Request write request
says_request write request = search rules

module _ {S F D G K : Type 0} {stores : StoreMeaning S D} {sources : SourceMeaning F} {inputs : SourceMeaning G}
    {outputs : SinkMeaning K} {programs : Programs stores sources inputs outputs} {pad : ℕ} {old : Snapshot programs}
    (kept : IsKept pad old) (fresh : IsFreshBy old) (k : ℕ) (client : ClientOf programs)
    (found : slice_get programs.clients k ≡ Some client) (unasked : slice_get old.clients k ≡ Some Unasked) where
  abbrev a : Endpoint
  a = client_at client

  -- no end is there
  pub nobody_there : NoneAt kept.views a
  nobody_there j view at same = elim (kept.only view (j, at)) [
    | inl h ↦
        let k_is = fresh.ends.clients h.k k h.client client h.found found (sym h.address ∙ same) in
        let f =
        same_Some (Has_asked h.s h.files h.noted h.moved) Unasked
        (sym h.is_stage ∙ (ap (slice_get old.clients) k_is ∙ unasked)) in
        absurd (asked_or_not h.s h.files h.noted h.moved f)
    | inr h ↦ transfer_apart kept fresh k client found view.address h (sym same)
  ] where
    asked_or_not : (s : State) (files : Files G K) (noted : List SocketEvent) (moved : Moved) →
        Has_asked s files noted moved ≡ Unasked → ⊥
    asked_or_not s files noted moved e = cc

  abbrev Asks_with : Type 0
  Asks_with = Requests programs pad k client found client.first client.file

  module _ (h : Asks_with) where
    abbrev x : OpenEnd
    x = opening a client.first h.bytes h.text

    abbrev m : Message
    m = message a (joined programs).request_port (said (requested h.write h.request))

    spelled : Spells (requested h.write h.request) client.first.position.last_sent
    spelled = search rules

    its_message : IsThere (kept.messages ++ m ∷ []) a client.first.position.last_sent_to client.first.position.last_sent
    its_message = (
      requested h.write h.request,
      spelled,
      rw (h.last_sent_to) (Contains-push kept.messages m),
    )

    shown_now : IsShown (joined programs) (kept.views ++ open_view x ∷ []) (kept.messages ++ m ∷ [])
    shown_now =
        let now = asks (joined programs) kept.shown.0 kept.views kept.messages kept.shown.1 a h.write h.request h.asked
        (clients_there programs k client found) nobody_there h.none in
        search std_rules

    one_event : (port : ℕ) (to : Endpoint) (bytes : List ℕ) →
        Contains (Sent client.port client.first.position.last_sent_to client.first.position.last_sent ∷ [])
        (Sent port to bytes) → IsThere (kept.messages ++ m ∷ []) (endpoint client.ip port) to bytes
    one_event port to bytes i = search (rules, one_in, its_message, endpoint)

    pub asked_keeps : IsKept pad (client_did old k (just_asked client))
    asked_keeps =
        client_keeps kept fresh k client found Unasked unasked
        (begun client.backoff client.port client.reading client.first client.before) client.file
        (Sent client.port client.first.position.last_sent_to client.first.position.last_sent ∷ []) nothing_moved
        (opened a x refl (m ∷ []) shown_now) (record {
          end = x;
          address = refl;
          state = refl;
          side = h.side;
          viewed =
              record {
                kept = h.kept;
                index = length kept.views;
                viewed = slice_get-push_new kept.views (open_view x);
                last_sent = its_message;
                unblamed =
                    opens_unblamed (joined programs) (kept.messages ++ m ∷ []) client.first h.still (λ c. h.alone);
              };
          asks = (requested h.write h.request, spelled, Contains-push kept.messages m);
          has = h.has;
        }) (λ port to bytes i. inr (one_event port to bytes i))

  pub asks_keeps : IsKept pad (client_did old k (just_asked client))
  asks_keeps = asked_keeps (requests programs pad k client found client.opens)
