-- A client that has no peer refuses its server's first answer only if its file is too long for it: the server sent that
-- answer, and an OACK is for the client's request. For the law a_client_ends_for_a_reason.
use Rattle.std.proofs.Common.{rules as std_rules}
use Rattle.tftp_promises.proofs.Common.{List, ℕ, ◌≡◌, rules, sym, Endpoint, refl, [], ◌∙◌, ap, SourceMeaning, Some}
use Rattle.tftp_promises.proofs.Common.{subst, inl, StoreMeaning, inr, ◌∷◌, SinkMeaning, false, true, None, Programs}
use Rattle.tftp_promises.proofs.Common.{Bool, EndState, Contains, arith, ◌≢◌, length, slice_get, TransferState, Sent}
use Rattle.tftp_promises.proofs.Common.{joined, ClientOf, is_sender, client_at, Received, open_view, Spells, moved_in}
use Rattle.tftp_promises.proofs.Common.{Noted, ◌==◌, cases_Bool, ◌≤◌, Contains-push, not, requests_at, ◌+◌, A_transfer}
use Rattle.tftp_promises.proofs.Common.{message, all_of, our_ports, eq-eqb, IsBlockSize, append_cancel_right, Outcome}
use Rattle.tftp_promises.proofs.Common.{peer_of, said, AreJoined, Ack, Role, Contains-append_left, Elsewhere}
use Rattle.tftp_promises.proofs.Common.{client_end, WireRequest, Known, Config, Has, acts_in, ◌&&◌, Network, requested}
use Rattle.tftp_promises.proofs.Common.{Read, Error, Data, Packet, Oack, RawOption, At_server, IsError, Attests, Write}
use Rattle.tftp_promises.proofs.Common.{Machine, spells_own, Party, DEFAULT_BLOCK, oack_bytes, agreed_options}
use Rattle.tftp_promises.proofs.Common.{one_meaning, Request, has_opcode, IsRefusal, nat_le, At_client, Matches}
use Rattle.tftp_promises.proofs.Common.{own_client, peer_at, Host, start, IsValid, same_ips, block, ◌<◌, Ok, ◌*◌, ◌^◌}
use Rattle.tftp_promises.proofs.Common.{true≢false, ◌⊎◌, MAX_BLOCK, Mode, agreement, answer, Files, outcome_of}
use Rattle.tftp_promises.proofs.Common.{serving_read, serving_write, writer_action, accept_action, reader_action}
use Rattle.tftp_promises.proofs.Common.{begin_with_action, begun, ClientOpens, To_read, To_write, OpensToWrite}
use Rattle.tftp_promises.proofs.Common.{OpensToRead}
use Rattle.std.proofs.lemmas.Bool.{and_from, le-leb}
use Rattle.tftp_rules.specs.Facts.{home}
use Rattle.tftp_rules.proofs.BlamelessActions.{decoded_is}
use Rattle.tftp_rules.proofs.Blocks.{length-block}
use Rattle.tftp_rules.proofs.NumbersNear.{AreNear, near_run, near_start}
use Rattle.tftp_rules.proofs.PlainPeers.{plain_answer}
use Rattle.tftp_rules.proofs.RulesGrow.{GoToPort, run_goes, start_goes}
use Rattle.tftp_rules.proofs.Runs.{Holds-start}
use Rattle.tftp_ends.specs.declared.outcome.Outcome.TheVariants as outcomes
use Rattle.tftp_promises.proofs.ClientTraces.{run_role, asks_there, client_tells}
use Rattle.tftp_promises.proofs.ClientsServed.{x as client_end_kept, asks_as, client_matches, holds, m, own_asks}
use Rattle.tftp_promises.proofs.ClientsServed.{true_in, wire_of, writes}
use Rattle.tftp_promises.proofs.FirstRefused.{ClosesBy, IsRefused, asked_in, limit_in, refused_at, waits_first}
use Rattle.tftp_promises.proofs.HonestOrders.{IsOfOne, came_to_client, came_to_server}
use Rattle.tftp_promises.proofs.Invariant.{ClientKept, IsKept, IsThere}
use Rattle.tftp_promises.proofs.JointRuns.{traces_joint}
use Rattle.tftp_promises.proofs.KeptFresh.{kept_at_last}
use Rattle.tftp_promises.proofs.KeptServes.{server_steps_keep}
use Rattle.tftp_promises.proofs.OacksSent.{IsOpenedBy, oack_opens}
use Rattle.tftp_promises.proofs.Requested.{Begins_to_send, Begins_to_store, IsAsked, OpensToSend, OpensToStore}
use Rattle.tftp_promises.proofs.Requested.{PortAnswers, Says_error, Silent, port_answers}
use Rattle.tftp_negotiate.specs.declared.known.Kind.{Kind}
use Rattle.tftp_negotiate.specs.declared.known.Kind.TheVariants as kinds
use Rattle.tftp_promises.specs.TooLong.{HasTooManyBlocks, IsLongerThanAccepted, IsTooLong}
use Rattle.tftp_promises.proofs.Places.{clients_there, stranger_no_client, strangers_elsewhere}
use Rattle.tftp_promises.proofs.Refusing.{ClosesAt, accept_closes, ack_closes, begin_with_closes, closes_at}
use Rattle.tftp_promises.proofs.Refusing.{error_closes, first_never, of_packet, read_taken, waiting_as, write_taken}
use Rattle.tftp_promises.proofs.SeenLives.{tells_took}

-- the sides of a host
no_host : {P : Type 0} {h : Host} → h ≡ At_client → h ≡ At_server → P
no_host e f = absurd (let z : At_client ≡ At_server = sym e ∙ f in cc)

-- what an end of the server sent first, if it is an OACK
read_oack : (agreed : List Known) (peer : Endpoint) (mode : Mode) (count retries : ℕ) (piece bytes : List ℕ) →
    (serving_read agreed peer mode count retries piece).position.last_sent ≡ bytes → has_opcode 6 bytes ≡ true →
    (agreed ≢ []) × (oack_bytes agreed ≡ bytes)
read_oack agreed peer mode count retries piece bytes is oack = search rules

write_oack : (agreed : List Known) (peer : Endpoint) (mode : Mode) (retries : ℕ) (bytes : List ℕ) →
    (serving_write agreed peer mode retries).position.last_sent ≡ bytes → has_opcode 6 bytes ≡ true →
    (agreed ≢ []) × (oack_bytes agreed ≡ bytes)
write_oack agreed peer mode retries bytes is oack = search rules

same_answer : (kind : Kind) (measured : ℕ) {asked options : List RawOption} {mode other : Mode} {config now : Config}
    {agreed : List Known} → asked ≡ options → mode ≡ other → config ≡ now →
    answer asked kind mode measured config.limits ≡ Ok agreed → answer options kind other measured now.limits ≡ Ok agreed
same_answer kind measured e f g h = search rules

side_is : {G K : Type 0} {inputs : SourceMeaning G} {outputs : SinkMeaning K} {to : Endpoint} {first : EndState}
    {file : Files G K} (opens : ClientOpens inputs outputs to first file) → is_sender first.role.side ≡ writes opens
side_is opens = search std_rules

module _ {S F D G K : Type 0} {stores : StoreMeaning S D} {sources : SourceMeaning F} {inputs : SourceMeaning G}
    {outputs : SinkMeaning K} {programs : Programs stores sources inputs outputs} {order : List Noted}
    (joins : AreJoined programs order) (k : ℕ) {client : ClientOf programs}
    (found : slice_get programs.clients k ≡ Some client) (none : peer_at (client_end programs client) ≡ None) where
  kept : IsKept 0 (all_of programs)
  kept = search (rules, kept_at_last, traces_joint, server_steps_keep)

  abbrev network : Network
  network = joined programs

  abbrev ends : Endpoint → Party
  ends = Machine.party (m programs kept)

  near : AreNear network ends
  near = near_run network kept.shown.0 start (Holds-start network) (near_start network) kept.shown.1.0

  goes : GoToPort network kept.messages
  goes = search (rules, run_goes, start, start_goes)

  abbrev a : Endpoint
  a = client_at client

  abbrev x : ClientKept programs 0 kept.views kept.messages client client.last client.files (moved_in client.runs)
  x = client_end_kept programs kept k client found

  at_x : Matches (open_view x.end) (ends a)
  at_x = client_matches programs kept k client found

  there : network.host_of a ≡ At_client
  there = clients_there programs k client found

  own_a : network.host_of a ≢ Elsewhere
  own_a = own_client network a there

  nobody : (ends a).peer ≡ None
  nobody = at_x.peer ∙ (ap (λ (e : EndState). peer_of e.position.phase) x.state ∙ none)

  nothing : (ends a).number ≡ 0
  nothing = (((holds programs kept).ends a at_x.is_open).no_peer nobody).0

  not_port : a ≢ requests_at programs
  not_port same =
      joins.fresh.apart k programs.port client found
      (Contains-append_left (programs.port ∷ []) (our_ports programs programs.server.run) programs.port
      (Contains-push [] programs.port)) same

  -- ---- the datagram that it refused
  module _ {o : Outcome} (refusal : IsRefusal o)
      (r : IsRefused programs.ip programs.others client.first (asked_in client.opens) (limit_in client.opens) o
      (acts_in client.runs)) where
    closing : ClosesAt o r.end.role (asked_in client.opens) (limit_in client.opens) (requests_at programs) r.from r.bytes
        r.decoded
    closing =
        closes_at o r.end (asked_in client.opens) (limit_in client.opens) (requests_at programs) r.from r.bytes r.decoded
        r.waiting (r.to ∙ asks_there client.opens) r.closes

    -- it closed by what the datagram says
    abbrev Opens : Type 0
    Opens = ClientOpens inputs outputs (requests_at programs) client.first client.file

    closes_so : (opens : Opens) → client.opens ≡ opens → (p : Packet) → Spells p r.bytes →
        ClosesBy o (waiting_as o client.first.role (asked_in opens) (limit_in opens) r.from (Some p))
    closes_so opens is p spells =
        let closes = of_packet o _ _ _ _ _ _ p _ (decoded_is r.bytes p r.decoded spells r.says) closing in
        search std_rules

    reads_so : (opens : OpensToRead inputs outputs (requests_at programs) client.first client.file) →
        client.opens ≡ To_read opens → (p : Packet) → Spells p r.bytes →
        ClosesBy o (reader_action opens.mode opens.asked opens.limit r.from (Some p))
    reads_so opens is p spells =
        subst (λ (e : EndState). ClosesBy o (waiting_as o e.role opens.asked opens.limit r.from (Some p))) opens.is
        (closes_so (To_read opens) is p spells)

    writes_so : (opens : OpensToWrite inputs outputs (requests_at programs) client.first client.file) →
        client.opens ≡ To_write opens → (p : Packet) → Spells p r.bytes →
        ClosesBy o (writer_action opens.mode opens.asked opens.limit opens.length r.from (Some p))
    writes_so opens is p spells =
        subst (λ (e : EndState). ClosesBy o (waiting_as o e.role opens.asked opens.limit r.from (Some p))) opens.is
        (closes_so (To_write opens) is p spells)

    -- why it closed
    abbrev Why : Type 0
    Why =
        (outcomes.TooLarge ≡ o) × (HasTooManyBlocks programs client ⊎ IsLongerThanAccepted programs client)

    near_port : r.from.ip ≡ programs.ip
    near_port = sym (same_ips (requests_at programs) r.from closing.near)

    no_error : IsError r.bytes → ⊥
    no_error error =
        let code : outcomes.PeerError error.0 ≡ o =
        error_closes o client.first.role (asked_in client.opens) (limit_in client.opens) r.from error.0 error.1 (closes_so client.opens refl (Error error.0 error.1) error.2) in
        subst IsRefusal (sym code) refusal

    own : network.host_of r.from ≢ Elsewhere
    own far =
        r.own (record {
          near = near_port;
          other = ((strangers_elsewhere programs r.from).0 far).server near_port;
          no_error = no_error;
        })

    came_in : Has (Received client.port r.from r.bytes) client.noted
    came_in = tells_took client.port client.noted _ (client_tells client) r.from r.bytes r.handled

    -- one of the programs sent it
    record WasSaid : Type 0 where
      pub packet : Packet
      pub spells : Spells packet r.bytes
      pub truth : Attests (ends r.from) a (said packet)
      pub inside : Contains kept.messages (message r.from a (said packet))
      pub by : IsOfOne programs r.from a r.bytes

    was_said : WasSaid
    was_said = elim (came_to_client programs order joins.is_order joins.honest k client found r.from r.bytes came_in) [
      | inr may ↦ elim may [
        | inl strange ↦ absurd (own ((strangers_elsewhere programs r.from).1 strange))
        | inr error ↦ absurd (no_error error)
      ]
      | inl sent ↦ elim (kept.sent r.from a r.bytes sent.before) [
        | inr strange ↦ absurd (stranger_no_client programs a k client found refl strange)
        | inl in_them ↦
            search (true_in programs kept r.from a (said in_them.0) in_them.2 own)
      ]
    ]

    -- ---- the end that sent it
    module _ (is_open : (ends r.from).is_open ≡ true) (peer : (ends r.from).peer ≡ Some a) where
      -- is one of the server
      server_end_is : (ends r.from).client ≡ false
      server_end_is = elim (cases_Bool (ends r.from).client) [
        | inl c ↦ no_host there (((holds programs kept).ends r.from is_open).serving c a peer).0
        | inr c ↦ c
      ]

      here : network.host_of r.from ≡ At_server
      here = ((holds programs kept).ends r.from is_open).at_home ∙ ap home server_end_is

      -- the client is on the other side
      sides : (ends a).sender ≡ not (ends r.from).sender
      sides = (((holds programs kept).ends r.from is_open).asked server_end_is a peer own_a).sender

    sender_is : (ends a).sender ≡ writes client.opens
    sender_is =
        at_x.sender
        ∙ (ap (λ (e : EndState). is_sender e.role.side) x.state
        ∙ (ap (λ (role : Role). is_sender role.side) (run_role client.runs) ∙ side_is client.opens))

    -- ---- what it says
    no_read : (request : WireRequest) → Contains kept.messages (message r.from a (said (Read request))) → ⊥
    no_read request inside = not_port (goes (message r.from a (said (Read request))) inside own tt)

    no_write : (request : WireRequest) → Contains kept.messages (message r.from a (said (Write request))) → ⊥
    no_write request inside = not_port (goes (message r.from a (said (Write request))) inside own tt)

    -- a DATA is the first, of a transfer without options
    data_fits : (n : ℕ) (piece : List ℕ) → Attests (ends r.from) a (said (Data n piece)) →
        (n == 1 && nat_le (length piece) DEFAULT_BLOCK) ≡ true
    data_fits n piece t =
        let server = server_end_is t.is_open t.peer in
        let plain =
        (plain_answer network (m programs kept) (holds programs kept) a r.from own_a nobody (here t.is_open t.peer) (Data n piece) t tt).1 in
        let size_is : (ends r.from).size ≡ DEFAULT_BLOCK = ((holds programs kept).ends r.from t.is_open).plain server plain in
        let few = (near r.from t.is_open).sends t.sender a t.peer own_a in
        let low = t.first in
        let many = t.number in
        let yet = nothing in
        let one : n ≡ 0 + 1 = omega (arith, few, low, many, yet) in
        let same : length piece ≡ length (block (ends r.from).text (ends r.from).size (0 + 1)) =
        ap length t.bytes ∙ ap (λ (j : ℕ). length (block (ends r.from).text (ends r.from).size j)) one in
        let l = length-block (ends r.from).text 0 (ends r.from).size in
        let short : length piece ≤ DEFAULT_BLOCK = omega (arith, same, l, size_is) in
        and_from (n == 1) (nat_le (length piece) DEFAULT_BLOCK) (eq-eqb n 1 (omega (arith, one)))
        (le-leb (length piece) DEFAULT_BLOCK short)

    -- an ACK is the first
    ack_zero : (n : ℕ) → Attests (ends r.from) a (said (Ack n)) → (n == 0) ≡ true
    ack_zero n t =
        let few = (near r.from t.is_open).stores t.sender a t.peer own_a in
        let many = t.number in
        let yet = nothing in
        eq-eqb n 0 (omega (arith, few, many, yet))

    -- an OACK is the server's
    server_sent : (is_open : (ends r.from).is_open ≡ true) → (ends r.from).peer ≡ Some a →
        IsOfOne programs r.from a r.bytes → (port : ℕ) × Has (Sent port a r.bytes) programs.server.noted
    server_sent is_open peer (inl there) = there
    server_sent is_open peer (inr other) =
        no_host (ap network.host_of other.3 ∙ clients_there programs other.0 other.1 other.2) (here is_open peer)

    oack_is : (options : List RawOption) → Spells (Oack options) r.bytes → has_opcode 6 r.bytes ≡ true
    oack_is options spells = ap (has_opcode 6) spells.whole

    -- the transfer that it opened
    abbrev Opening : Type 0
    Opening = IsOpenedBy stores sources programs.server.run a r.bytes

    opened_it : (options : List RawOption) → Spells (Oack options) r.bytes →
        Attests (ends r.from) a (said (Oack options)) → IsOfOne programs r.from a r.bytes → Opening
    opened_it options spells t by =
        let sent = server_sent t.is_open t.peer by in
        search (std_rules, oack_opens, oack_is)

    module _ (h : Opening) where
      request_came : Has (Received programs.port h.answers.from h.answers.bytes) programs.server.noted
      request_came = search (rules, append_cancel_right)

      -- its request is that of the client
      module _ {write : Bool} {path : List ℕ} {mode : Mode} {options : List RawOption}
          (is : IsAsked h.answers.steps.decoded h.answers.steps.repeated write path mode options) where
        spelled : Spells (requested write is.request) h.answers.bytes
        spelled = search std_rules

        no_error_request : (w : Bool) (q : WireRequest) → Spells (requested w q) h.answers.bytes →
            IsError h.answers.bytes → ⊥
        no_error_request w q s error = search rules

        request_there : IsThere kept.messages a (requests_at programs) h.answers.bytes
        request_there =
            rw (← h.from) (elim (came_to_server _ _ joins.is_order joins.honest _ _ request_came) [
              | inr may ↦ elim may [
                | inl strange ↦ absurd (stranger_no_client programs h.answers.from k client found h.from strange)
                | inr error ↦ absurd (no_error_request write is.request spelled error)
              ]
              | inl sent ↦ elim (kept.sent h.answers.from (requests_at programs) h.answers.bytes sent.before) [
                | inl in_them ↦ in_them
                | inr strange ↦
                    absurd (joins.fresh.others programs.port (Contains-append_left (programs.port ∷ []) (our_ports
                    programs programs.server.run) programs.port (Contains-push [] programs.port)) (strange.server refl))
              ]
            ])

        asks_by : Attests (ends a) (requests_at programs) (Request write is.request)
        asks_by = asks_as programs kept k client found write is.request h.answers.bytes spelled request_there

        -- so it is that one
        same_side : write ≡ writes client.opens
        same_side = sym asks_by.sender ∙ (own_asks programs kept k client found).sender

        same_request : is.request ≡ wire_of client.opens
        same_request = sym asks_by.request ∙ (own_asks programs kept k client found).request

      max_block : IsBlockSize h.old.server.config.limits.max_block
      max_block =
          rw h.config programs.server.max_block

      answer_is : PortAnswers stores sources h.old.server h.answers.from h.answers.bytes h.answers.steps.decoded
          h.answers.steps.repeated h.answers.steps.came
      answer_is = search (rules, port_answers, max_block)

      same_end : (transfer : TransferState F D) (store : S) → h.answers.steps.came ≡ A_transfer transfer store →
          transfer.end.position.last_sent ≡ r.bytes
      same_end transfer store is = search rules

      -- ---- an OACK: its options are those on which the server agreed
      module _ (options : List RawOption) (oack : Spells (Oack options) r.bytes) where
        same_options : (agreed : List Known) → (agreed ≢ [] → IsValid (Oack (agreed_options agreed))) →
            (agreed ≢ []) × (oack_bytes agreed ≡ r.bytes) → options ≡ agreed_options agreed
        same_options agreed valid said =
            let own_spells = spells_own (Oack (agreed_options agreed)) (valid said.0) in
            let one : Oack options ≡ Oack (agreed_options agreed) =
            one_meaning (Oack options) (Oack (agreed_options agreed)) r.bytes oack (rw said.1 at own_spells) in
            cc

        read_sent : (opens : OpensToRead inputs outputs (requests_at programs) client.first client.file) →
            client.opens ≡ To_read opens → {path : List ℕ} {mode : Mode} {asked : List RawOption} →
            IsAsked h.answers.steps.decoded h.answers.steps.repeated false path mode asked →
            OpensToSend stores sources h.old.server h.answers.from h.answers.bytes path mode asked h.answers.steps.came →
            Why
        read_sent opens is_read {path} {mode} is s =
            let request_is = same_request is ∙ ap wire_of is_read in
            let mode_is = sym is.same_mode ∙ ap (λ q. q.mode) request_is in
            let answered =
            same_answer _ _ (sym is.same_options ∙ ap (λ q. q.options) request_is) mode_is h.config s.answers in
            let few = s.fits in
            let small = s.granted.small in
            let word : s.measured < 2 ^ 64 = omega (arith, few, small) in
            let number : s.measured < 65535 * MAX_BLOCK = omega (arith, few, small) in
            let closes : ClosesBy o (accept_action r.from (agreement opens.asked kinds.Read opens.mode (agreed_options
            s.agreed) opens.limit)) =
            rw (same_options _ s.granted.oack (read_oack _ _ _ _ _ _ _ (same_end _ _ s.is) (oack_is _ oack))) at
            (reads_so _ is_read _ oack) in
            elim (read_taken _ _ _ opens.limit _ _ opens.may.options word programs.server.max_block answered) [
              | inl same ↦ absurd (rw same at closes)
              | inr longer ↦
                  let stored = rw mode_is at s.opened in (
                    (accept_closes o r.from _ s.agreed (inr longer.1) closes).0,
                    inr (record {
                      opens = opens;
                      reads = is_read;
                      path = path;
                      named = rw request_is at is.same_path;
                      request = h.answers.bytes;
                      asked = rw is_read (rw request_is at (spelled is));
                      opening = s.opening;
                      opened = h.stored path h.answers.bytes opens.mode s.opening (refl, stored.0, stored.1, stored.2);
                      long = rw s.long at longer.0;
                      numbered = rw s.long at number;
                    }),
                  )
            ]

        write_sent : (opens : OpensToWrite inputs outputs (requests_at programs) client.first client.file) →
            client.opens ≡ To_write opens → {path : List ℕ} {mode : Mode} {asked : List RawOption} →
            IsAsked h.answers.steps.decoded h.answers.steps.repeated true path mode asked →
            OpensToStore stores sources h.old.server h.answers.from h.answers.bytes path mode asked h.answers.steps.came →
            Why
        write_sent opens is_write {mode = mode} is s =
            let request_is = same_request is ∙ ap wire_of is_write in
            let mode_is = sym is.same_mode ∙ ap (λ q. q.mode) request_is in
            let answered =
            same_answer _ 0 (sym is.same_options ∙ ap (λ q. q.options) request_is) mode_is h.config s.answers in
            let taken =
            write_taken _ _ _ opens.limit _ _ opens.may.options opens.may.fits programs.server.max_block answered in
            let closes : ClosesBy o (begin_with_action r.from opens.length (agreement opens.asked kinds.Write opens.mode
            (agreed_options s.agreed) opens.limit)) =
            rw (same_options _ s.granted.oack (write_oack _ _ _ _ _ (same_end _ _ s.is) (oack_is _ oack))) at (writes_so
            _ is_write _ oack) in
            let long = begin_with_closes o _ _ _ _ taken closes in (
              long.0,
              inl (record {
                opens = opens;
                writes = is_write;
                agreed = s.agreed;
                answers = inr answered;
                many =
                    long.1;
              }),
            )

        by_answer : (opens : Opens) → client.opens ≡ opens → PortAnswers stores sources h.old.server h.answers.from h.answers.bytes
            h.answers.steps.decoded h.answers.steps.repeated h.answers.steps.came → Why
        by_answer (To_read opens) is (Begins_to_send path mode asked asks s) = read_sent opens is asks s
        by_answer (To_write opens) is (Begins_to_store path mode asked asks s) = write_sent opens is asks s
        by_answer (To_write opens) is (Begins_to_send path mode asked asks s) =
            absurd (true≢false (sym (same_side asks ∙ ap writes is)))
        by_answer (To_read opens) is (Begins_to_store path mode asked asks s) =
            absurd (true≢false (same_side asks ∙ ap writes is))
        by_answer opens is (Silent silent why) = absurd (cc (h.came, silent))
        by_answer opens is (Says_error refused) = absurd (cc (h.came, refused.is))

    -- ---- any packet
    by_packet : (opens : Opens) → client.opens ≡ opens → (p : Packet) → Spells p r.bytes → Attests (ends r.from) a (said p) →
        Contains kept.messages (message r.from a (said p)) → IsOfOne programs r.from a r.bytes → Why
    by_packet opens is (Read request) spells t inside by = absurd (no_read request inside)
    by_packet opens is (Write request) spells t inside by = absurd (no_write request inside)
    by_packet opens is (Error code text) spells t inside by = absurd (no_error (code, text, spells))
    by_packet opens is (Oack options) spells t inside by =
        let opened = opened_it options spells t by in by_answer opened options spells opens is (answer_is opened)
    by_packet (To_read opens) is (Data n piece) spells t inside by =
        first_never o opens.mode opens.asked opens.limit r.from n piece (data_fits n piece t)
        (reads_so opens is (Data n piece) spells)
    by_packet (To_write opens) is (Data n piece) spells t inside by =
        absurd (true≢false (sym (sender_is ∙ ap writes is) ∙ (sides t.is_open t.peer ∙ ap not t.sender)))
    by_packet (To_read opens) is (Ack n) spells t inside by =
        absurd (true≢false (sym (sides t.is_open t.peer ∙ ap not t.sender) ∙ (sender_is ∙ ap writes is)))
    by_packet (To_write opens) is (Ack n) spells t inside by =
        let closes =
        ack_closes o opens.mode opens.asked opens.limit opens.length r.from n (ack_zero n t)
        (writes_so opens is (Ack n) spells) in
        (closes.0, inl (record { opens = opens; writes = is; agreed = []; answers = inl refl; many = closes.1 }))

  pub too_long : (o : Outcome) → outcome_of client.last.end.position.phase ≡ Some o → IsRefusal o → IsTooLong programs client
  too_long o closed refusal =
      let r =
      refused_at programs.ip programs.others (begun client.backoff client.port client.reading client.first client.before)
      (asked_in client.opens) (limit_in client.opens) (waits_first client.opens) client.runs (joins.own k client found)
      none o closed (λ same. subst IsRefusal same refusal) in
      let said_is = was_said refusal r in
      let why =
      by_packet refusal r client.opens refl said_is.packet said_is.spells said_is.truth said_is.inside said_is.by in
      record { closed = closed ∙ ap (λ (p : Outcome). Some p) (sym why.0); why = why.1 }
