-- In the end state of the traces no two ends share an endpoint, and the peer of a client is the transfer of the server
-- that its request opened, for the path of its name.
use Rattle.std.proofs.lemmas.Grind.{common_steps}
use Rattle.std.proofs.Common.{arith, rules as std_rules}
use Rattle.tftp_promises.proofs.Common.{List, ℕ, ◌≡◌, rules, sym, Endpoint, refl, [], ◌∙◌, ap, SourceMeaning, Some}
use Rattle.tftp_promises.proofs.Common.{subst, inl, StoreMeaning, inr, SinkMeaning, false, true, Programs, Bool}
use Rattle.tftp_promises.proofs.Common.{EndState, Contains, Files, true≢false, slice_get, TransferState, joined}
use Rattle.tftp_promises.proofs.Common.{ClientOf, is_sender, client_at, open_view, Spells, moved_in, WirePacket}
use Rattle.tftp_promises.proofs.Common.{EndView, not, requests_at, Ok, is_client, message, all_of, said, client_end}
use Rattle.tftp_promises.proofs.Common.{WireRequest, ClientOpens, requested, HasOpened, To_read, at, ArePortsFresh}
use Rattle.tftp_promises.proofs.Common.{Read, To_write, request_of, ServesClient, ProgramEnd, IsEnd, Attests}
use Rattle.tftp_promises.proofs.Common.{path_of_name, Write, Machine, Party, transfer_end, one_meaning, Request}
use Rattle.tftp_promises.proofs.Common.{Matches, Shows, request_packet, own_client, ◌≢◌, Holds, Elsewhere, start, run}
use Rattle.tftp_promises.proofs.Common.{record_of}
use Rattle.tftp_rules.specs.Facts.{IsServing}
use Rattle.tftp_rules.specs.EndShown.{IsThere}
use Rattle.tftp_rules.proofs.Runs.{Holds-start, Holds-run}
use Rattle.tftp_rules.specs.Machine.{Packet}
use Rattle.tftp_rules.specs.Shows.{answered_by}
use Rattle.tftp_promises.specs.AnyFiles.{peer_of}
use Rattle.tftp_promises.specs.Programs.{name_of}
use Rattle.tftp_promises.proofs.Invariant.{ClientKept, IsKept, TransferKept, client_kept}
use Rattle.tftp_promises.proofs.KeptAsks.{says_request}
use Rattle.tftp_promises.proofs.KeptViews.{view_there}
use Rattle.tftp_promises.proofs.Places.{clients_there}

has_bytes : (write : Bool) (request : WireRequest) (bytes : List ℕ) → Spells (requested write request) bytes →
    bytes ≡ [] → ⊥
has_bytes write request bytes s none = search rules

-- one datagram asks for one name
abbrev name_in : WirePacket → List ℕ
name_in (Read request) = request.name
name_in (Write request) = request.name
name_in packet = []

name_asked : (write : Bool) (request : WireRequest) → name_in (requested write request) ≡ request.name
name_asked true request = refl
name_asked false request = refl

one_name : (write also : Bool) (request other : WireRequest) (bytes : List ℕ) → Spells (requested write request) bytes →
    Spells (requested also other) bytes → request.name ≡ other.name
one_name write also request other bytes s t =
    sym (name_asked write request)
    ∙ (ap name_in (one_meaning (requested write request) (requested also other) bytes s t) ∙ name_asked also other)

-- ---- the request of a client
module _ {G K : Type 0} {inputs : SourceMeaning G} {outputs : SinkMeaning K} {to : Endpoint} {first : EndState}
    {file : Files G K} where
  abbrev pub writes : ClientOpens inputs outputs to first file → Bool
  writes (To_read opens) = false
  writes (To_write opens) = true

  abbrev pub wire_of : ClientOpens inputs outputs to first file → WireRequest
  wire_of (To_read opens) = request_of opens.name opens.mode opens.asked
  wire_of (To_write opens) = request_of opens.name opens.mode opens.asked

  pub packet_is : (opens : ClientOpens inputs outputs to first file) →
      request_packet opens ≡ requested (writes opens) (wire_of opens)
  packet_is (To_read opens) = refl
  packet_is (To_write opens) = refl

  name_is : (opens : ClientOpens inputs outputs to first file) → (wire_of opens).name ≡ name_of opens
  name_is (To_read opens) = refl
  name_is (To_write opens) = refl

  pub asks_so : (opens : ClientOpens inputs outputs to first file) →
      Spells (requested (writes opens) (wire_of opens)) first.position.last_sent
  asks_so (To_read opens) = search std_rules
  asks_so (To_write opens) = search rules

-- the end that serves a client answers its request
answers_it : (a to : Endpoint) (x y : Party) (write : Bool) (request : WireRequest) → IsServing a x y →
    Attests x to (Request write request) → answered_by y ≡ requested write request
answers_it a to x y write request serves asks = search rules

module _ {S F D G K : Type 0} {stores : StoreMeaning S D} {sources : SourceMeaning F} {inputs : SourceMeaning G}
    {outputs : SinkMeaning K} (programs : Programs stores sources inputs outputs) {pad : ℕ}
    (kept : IsKept pad (all_of programs)) where
  abbrev Client : Type 0
  Client = ClientOf programs

  abbrev there : Client → Endpoint
  there client = client_at client

  -- no transfer is where a client is
  client_alone : (k : ℕ) (client : Client) (port : ℕ) (transfer : TransferState F D) (a : Endpoint) →
      slice_get programs.clients k ≡ Some client → HasOpened programs port transfer a → there client ≡ a → ⊥
  client_alone k client port transfer a found opened same =
      let x = client_kept kept k client found in
      let y = kept.transfers port transfer a opened in
      let one : open_view y.end ≡ open_view x.end =
      view_there kept.shown x.viewed (y.viewed.index, y.viewed.viewed) (y.address ∙ (sym same ∙ sym x.address)) in
      true≢false (sym x.side ∙ (ap (λ (v : EndView). v.client) (sym one) ∙ y.side))

  pub one_there : ArePortsFresh programs → (x y : ProgramEnd) → IsEnd programs x → IsEnd programs y →
      x.address ≡ y.address → x ≡ y
  one_there fresh x y (inl c) (inl d) same = grind (arith, common_steps)
  one_there fresh x y (inl c) (inr d) same =
      absurd (client_alone c.0 c.1 d.0 d.1 d.2 c.2 d.3
      (sym (ap (λ (e : ProgramEnd). e.address) c.3) ∙ (same ∙ ap (λ (e : ProgramEnd). e.address) d.4)))
  one_there fresh x y (inr c) (inl d) same =
      absurd (client_alone d.0 d.1 c.0 c.1 c.2 d.2 c.3
      (sym (ap (λ (e : ProgramEnd). e.address) d.3) ∙ (sym same ∙ ap (λ (e : ProgramEnd). e.address) c.4)))
  one_there fresh x y (inr c) (inr d) same =
      let at : c.2 ≡ d.2 =
      sym (ap (λ (e : ProgramEnd). e.address) c.4) ∙ (same ∙ ap (λ (e : ProgramEnd). e.address) d.4) in
      let one = kept.server.once c.0 d.0 c.1 d.1 c.2 d.2 c.3 d.3 at in
      c.4 ∙ (ap (λ t. transfer_end programs t c.2) one ∙ (ap (transfer_end programs d.1) at ∙ sym d.4))

  -- ---- the machine that shows the programs
  abbrev pub m : Machine
  m = run (joined programs) kept.shown.0 start

  pub holds : Holds (joined programs) m
  holds = Holds-run (joined programs) kept.shown.0 start (Holds-start (joined programs)) kept.shown.1.0

  pub shows : Shows kept.views kept.messages m
  shows = kept.shown.1.1

  -- what an end of the programs said is true there
  pub true_in : (from to : Endpoint) (says : Packet) → Contains kept.messages (message from to says) →
      (joined programs).host_of from ≢ Elsewhere → Attests (m.party from) to says
  true_in from to says inside somewhere = holds.attested (message from to says) (rw shows.sent inside) somewhere

  module _ (k : ℕ) (client : Client) (found : slice_get programs.clients k ≡ Some client) where
    pub x : ClientKept programs pad kept.views kept.messages client client.last client.files (moved_in client.runs)
    x = client_kept kept k client found

    pub client_matches : Matches (open_view x.end) (m.party (there client))
    client_matches = rw (← x.address) (shows.ends x.viewed.index (open_view x.end) x.viewed.viewed)

    -- its request, as the machine knows it
    pub asks_as : (write : Bool) (request : WireRequest) (bytes : List ℕ) → Spells (requested write request) bytes →
        IsThere kept.messages (there client) (requests_at programs) bytes →
        Attests (m.party (there client)) (requests_at programs) (Request write request)
    asks_as write request bytes spells inside =
        let says : said inside.0 ≡ Request write request =
        ap said (one_meaning inside.0 (requested write request) bytes inside.1 spells) ∙ says_request write request in
        rw says at (true_in (there client) (requests_at programs) (said inside.0) inside.2
        (own_client (joined programs) (there client) (clients_there programs k client found)))

    pub own_asks : Attests (m.party (there client)) (requests_at programs)
        (Request (writes client.opens) (wire_of client.opens))
    own_asks = asks_as _ _ _ (asks_so client.opens) x.asks

  -- ---- the peer of a client
  module _ (k : ℕ) (client : Client) (p : Endpoint) (found : slice_get programs.clients k ≡ Some client)
      (peer : peer_of (client_end programs client) ≡ Some p) where
    abbrev to : Endpoint
    to = requests_at programs

    abbrev c : ClientKept programs pad kept.views kept.messages client client.last client.files (moved_in client.runs)
    c = x k client found

    serving : IsServing (there client) (m.party (there client)) (m.party p)
    serving =
        let matches = client_matches k client found in
        ((holds.ends (there client) matches.is_open).serving (matches.client ∙ c.side) p (matches.peer ∙
        (ap (λ (e : EndState). (record_of e).peer) c.state ∙ peer))).1

    module _ (port : ℕ) (transfer : TransferState F D) (opened : HasOpened programs port transfer p) where
      y : TransferKept pad kept.views kept.messages (all_of programs) port transfer p
      y = kept.transfers port transfer p opened

      view : EndView
      view = open_view y.end

      its_match : Matches (open_view y.end) (m.party p)
      its_match =
          subst (λ (a : Endpoint). Matches (open_view y.end) (m.party a)) y.address
          (shows.ends y.viewed.index (open_view y.end) y.viewed.viewed)

      some_bytes : y.end.request ≡ [] → ⊥
      some_bytes none =
          has_bytes y.named.write y.named.request transfer.request y.named.spells (sym y.request ∙ none)

      its_request : Spells (requested (writes client.opens) (wire_of client.opens)) transfer.request
      its_request =
          let says = shows.asked y.viewed.index (open_view y.end) y.viewed.viewed (inr (y.side, some_bytes)) in
          let same : answered_by (m.party y.end.address) ≡ requested (writes client.opens) (wire_of client.opens) =
          search (std_rules, answers_it, serving, own_asks) in
          search rules

      its_peer : peer_of (transfer_end programs transfer p) ≡ Some (there client)
      its_peer =
          ap (λ (e : EndState). (record_of e).peer) (sym y.state) ∙ (sym its_match.peer ∙ serving.peer)

      -- one of the two sends
      its_side : is_sender transfer.end.role.side ≡ not (is_sender client.last.end.role.side)
      its_side =
          ap (λ e. is_sender e.role.side) (sym y.state) ∙ (sym its_match.sender ∙ (serving.sender
          ∙ ap not ((client_matches k client found).sender ∙ ap (λ e. is_sender e.role.side) c.state)))

      its_path : path_of_name (name_of client.opens) ≡ Ok transfer.path
      its_path =
          let name = sym (name_is client.opens) ∙ one_name _ _ _ _ _ its_request y.named.spells in
          ap path_of_name name ∙ y.named.path

      serves : ServesClient programs p client
      serves = record {
        port = port;
        transfer = transfer;
        opened = opened;
        server = ap (λ (e : EndState). is_client e.role.side) (sym y.state) ∙ y.side;
        peer = its_peer;
        other = its_side;
        asked =
            subst (λ (q : WirePacket). Spells q transfer.request) (sym (packet_is client.opens)) its_request;
        path = its_path;
      }

    -- it is a transfer of the server
    pub served_by : ServesClient programs p client
    served_by =
        let at_peer = shows.only p serving.is_open in
        let view = at_peer.1 in
        let there_matches : Matches view (m.party p) = rw (at_peer.3) at (shows.ends at_peer.0 view at_peer.2) in
        elim (kept.only view (at_peer.0, at_peer.2)) [
          | inl of ↦
              let z = client_kept kept of.k of.client of.found in
              let one : view ≡ open_view z.end = search std_rules in
              absurd (true≢false (sym z.side ∙ (ap (λ (v : EndView). v.client) (sym one) ∙ (sym there_matches.client ∙
              serving.client))))
          | inr of ↦
              serves of.port of.transfer (rw (at_peer.3) at of.is_transfer)
        ]
