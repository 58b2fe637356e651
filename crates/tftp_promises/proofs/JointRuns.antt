-- From one order of all events to a joint run. The last steps are taken off one by one, from the
-- end of the order: a step leaves when the oldest of its events after a wait does.
use Rattle.std.proofs.Common.{rules as std_rules}
use Rattle.tftp_promises.proofs.Common.{List, ℕ, ◌≡◌, rules, sym, Endpoint, refl, [], ◌∙◌, ap, SourceMeaning, Some}
use Rattle.tftp_promises.proofs.Common.{subst, inl, StoreMeaning, inr, ◌∷◌, SinkMeaning, None, ◌++◌, Programs, Contains}
use Rattle.tftp_promises.proofs.Common.{Files, SocketEvent, Option, arith, ◌≢◌, LoopState, length, slice_get, LoopStep}
use Rattle.tftp_promises.proofs.Common.{Sent, ClientOf, Received, endpoint, Snapshot, same_Some, Run, State, suc, Moved}
use Rattle.tftp_promises.proofs.Common.{Then, Start, moved_in, Noted, zero, cases_eq, all_of, WasSentBefore, Has_asked}
use Rattle.tftp_promises.proofs.Common.{append_cancel_right, map, ClientDoes, events_of, append_assoc, set, TakesOwn}
use Rattle.tftp_promises.proofs.Common.{ClientStage, Goes_on, ClientRun, Starts, begun, IsHonest, slice_get-map}
use Rattle.tftp_promises.proofs.Common.{CanTake, slice_get-set_same, Unasked, client_did, AllByRecursion, CanCome}
use Rattle.tftp_promises.proofs.Common.{IsOrder, option_map, client_moves, slice_get-set_other, DoesOwn, just_asked}
use Rattle.tftp_promises.proofs.Common.{IsAt, Client_asks, Server_does, Client_does, All_begin, TracesAreJoint, Joint}
use Rattle.tftp_promises.proofs.Common.{heads, noted_by, nothing_moved}
use Rattle.std.proofs.lemmas.List.{length-set, length-map, set-set}
use Rattle.std.proofs.lemmas.Option.{none-some}
use Rattle.tftp_promises.proofs.ClientTraces.{converse}
use Rattle.tftp_promises.proofs.Orders.{events_own, noted_in, set_own, all_are, mapped}
use Rattle.tftp_promises.proofs.StepEvents.{Split, split, no_more, step_back, split_in, oldest_in, past, past_waits}
use Rattle.tftp_promises.proofs.StepEvents.{before_waits, at_first, ends_with, IsOther, IsQuiet, Silent, Notes, Rests}
use Rattle.tftp_promises.proofs.StepEvents.{Acts, server_adds, client_adds}
use Rattle.tftp_promises.proofs.ClientsRun.{server_noted}

module _ {S F D G K : Type 0} {stores : StoreMeaning S D} {sources : SourceMeaning F} {inputs : SourceMeaning G}
    {outputs : SinkMeaning K} (programs : Programs stores sources inputs outputs) where
  abbrev Client : Type 0
  Client = ClientOf programs

  abbrev ServerRun : LoopState S F D → Type 0
  ServerRun state = Run (LoopStep stores sources) (programs.server.start) state

  abbrev Conversed : Client → State → Files G K → Type 0
  Conversed client s files =
      ClientRun inputs outputs client.port (begun client.backoff client.port client.reading client.first client.before) client.file s files

  abbrev snap : {state : LoopState S F D} → ServerRun state → List SocketEvent → List (ClientStage G K) → Snapshot programs
  snap {state} run noted clients = record { state = state; run = run; noted = noted; clients = clients }

  -- ---- one program where its trace is seen so far

  data ServerFits (seen : List SocketEvent) : (state : LoopState S F D) → ServerRun state → List SocketEvent → Type 0 where
    After_steps : {state : LoopState S F D} {run : ServerRun state} {noted : List SocketEvent} →
        state.events ≡ noted ++ programs.server.start.events → noted ≡ seen → ServerFits seen state run noted
    Within_step : {old new : LoopState S F D} {run : ServerRun old} {old_noted noted : List SocketEvent} →
        old.events ≡ old_noted ++ programs.server.start.events → (does : LoopStep stores sources old new) →
        Split old.events new.events old_noted noted seen → ServerFits seen new (Then run does) noted

  -- a client is here, having noted this, and its run so far takes no other server
  record IsHere (client : Client) (s : State) (files : Files G K) (noted : List SocketEvent) : Type 0 where
    run : Conversed client s files
    own : TakesOwn programs.ip programs.others run
    is : s.events ≡ noted ++ client.before

  -- what is seen may end with a wait of the next step, or in that step
  data ClientFits (client : Client) (seen : List SocketEvent) : ClientStage G K → Type 0 where
    Not_yet : seen ≡ [] → ClientFits client seen Unasked
    Conversed_so : {s : State} {files : Files G K} {noted : List SocketEvent} (h : IsHere client s files noted)
        (waits : List SocketEvent) → AllByRecursion IsQuiet waits → waits ++ noted ≡ seen →
        ClientFits client seen (Has_asked s files noted (moved_in h.run))
    Conversing : {s s' : State} {files files' : Files G K} {old_noted noted : List SocketEvent}
        (h : IsHere client s files old_noted) (waits : List SocketEvent) → AllByRecursion IsQuiet waits →
        (does : ClientDoes inputs outputs client.port s files s' files') → DoesOwn programs.ip programs.others does →
        Split (waits ++ s.events) s'.events (waits ++ old_noted) noted seen →
        ClientFits client seen (Has_asked s' files' noted (client_moves does (moved_in h.run)))

  server_in : {seen : List SocketEvent} {state : LoopState S F D} {run : ServerRun state} {noted : List SocketEvent} (e : SocketEvent) →
      ServerFits seen state run noted → Contains seen e → Contains noted e
  server_in e (After_steps is seen_is) i = subst (λ (es : List SocketEvent). Contains es e) (sym seen_is) i
  server_in e (Within_step is does s) i = split_in e s i

  client_in : {client : Client} {seen : List SocketEvent} {stage : ClientStage G K} (port : ℕ) (to : Endpoint)
      (bytes : List ℕ) → ClientFits client seen stage → Contains seen (Sent port to bytes) →
      Contains (noted_by stage) (Sent port to bytes)
  client_in port to bytes (Not_yet none) i = subst (λ (es : List SocketEvent). Contains es (Sent port to bytes)) none i
  client_in port to bytes (Conversed_so {noted = noted} h waits quiet seen_is) i =
      past_waits waits noted (Sent port to bytes) quiet (λ q. q)
      (subst (λ (es : List SocketEvent). Contains es (Sent port to bytes)) (sym seen_is) i)
  client_in port to bytes (Conversing h waits quiet does so s) i = split_in (Sent port to bytes) s i

  -- ---- all programs where their traces are seen so far

  abbrev ClientHas : List (ClientStage G K) → List Noted → ℕ → Client → Type 0
  ClientHas clients order k client =
      (stage : ClientStage G K) × (slice_get clients k ≡ Some stage) × ClientFits client (events_of (suc k) order) stage

  record Fits (sn : Snapshot programs) (order : List Noted) : Type 0 where
    server : ServerFits (events_of 0 order) sn.state sn.run sn.noted
    count : length sn.clients ≡ length programs.clients
    clients : (k : ℕ) (client : Client) → slice_get programs.clients k ≡ Some client →
        ClientHas sn.clients order k client

  -- what was sent of these events was noted
  sent_before : (sn : Snapshot programs) (order : List Noted) → Fits sn order → (program port : ℕ) (from to : Endpoint)
      (bytes : List ℕ) → IsAt programs program port from → Contains order (program, Sent port to bytes) →
      WasSentBefore sn from to bytes
  sent_before sn order fits zero port from to bytes at i =
      let same = same_Some programs.ip at.0 at.1 in
      inl (search (
        at.2 ∙ ap (λ (ip : List ℕ). endpoint ip port) (sym same),
        server_in (Sent port to bytes) fits.server
            (noted_in 0 (Sent port to bytes) order i),
      ))
  sent_before sn order fits (suc k) port from to bytes at i =
      let m = mapped (λ (c : Client). c.ip) (slice_get programs.clients k) at.0 (sym (slice_get-map (λ (c : Client).
      c.ip) programs.clients k) ∙ at.1) in
      let has = fits.clients k m.0 m.1 in
      inr (search (
        at.2 ∙ ap (λ (ip : List ℕ). endpoint ip port) (sym m.2),
        client_in port to bytes has.2 (noted_in
            (suc k) (Sent port to bytes) order i),
      ))

  -- a program can take what comes to it
  can_take : (sn : Snapshot programs) (order : List Noted) → Fits sn order → (program : ℕ) (ip : List ℕ) →
      ((port : ℕ) (a : Endpoint) → IsAt programs program port a → a ≡ endpoint ip port) →
      (e : SocketEvent) → CanCome programs program e order → (ahead : List SocketEvent) (x : SocketEvent) →
      AllByRecursion IsOther ahead → e ≡ x → CanTake sn ip (ahead ++ x ∷ [])
  can_take sn order fits program ip is_ip e comes ahead x others same port from bytes i =
      let received = same ∙ oldest_in ahead x port from bytes others i in
      let come : CanCome programs program (Received port from bytes) order = rw (received) at comes in
      elim come.2 [
        | inl sent ↦
            inl (rw (is_ip port come.0 come.1) at (sent_before sn order fits sent.program sent.port from come.0 bytes
            sent.is_at sent.sent))
        | inr nevertheless ↦ inr nevertheless
      ]

  -- ---- the server

  -- a silent step of the server
  server_rests : {old new : LoopState S F D} {run : ServerRun old} {noted : List SocketEvent}
      {clients : List (ClientStage G K)} → Joint (snap run noted clients) → (does : LoopStep stores sources old new) →
      new.events ≡ old.events → Joint (snap (Then run does) noted clients)
  server_rests joint does same = Server_does joint does [] same (λ port from bytes i. absurd (omega arith))

  -- at the beginning of the order the server has made silent steps only
  server_first : {state : LoopState S F D} (run : ServerRun state) (noted : List SocketEvent)
      (clients : List (ClientStage G K)) → state.events ≡ noted ++ programs.server.start.events → noted ≡ [] →
      map (λ (client : Client). Unasked) programs.clients ≡ clients → Joint (snap run noted clients)
  server_first Start noted clients is none all =
      subst (λ (cs : List (ClientStage G K)). Joint (snap Start noted cs)) all
      (subst (λ (es : List SocketEvent). Joint (snap Start es (map (λ (client : Client). Unasked) programs.clients)))
      (sym none) All_begin)
  server_first (Then {middle = old} {last = new} run does) noted clients is none all = elim (server_adds does) [
    | Silent same ↦ server_rests (server_first run noted clients (sym same ∙ is) none all) does same
    | Notes x rest own added ↦
        let before = server_noted run in
        no_more x (rest ++ before.0) (sym none ∙ past (x ∷ rest) before.0 programs.server.start.events old.events
        new.events noted added before.1 is)
  ]

  module _ (e : SocketEvent) (earlier : List Noted) (comes : CanCome programs 0 e earlier)
      (clients : List (ClientStage G K)) (count : length clients ≡ length programs.clients)
      (fit : (k : ℕ) (client : Client) → slice_get programs.clients k ≡ Some client →
      ClientHas clients earlier k client) (ih : (sn : Snapshot programs) → Fits sn earlier → Joint sn) where
    -- the last step of the server has noted the event
    server_steps : {old new : LoopState S F D} {run : ServerRun old} {old_noted noted : List SocketEvent} →
        old.events ≡ old_noted ++ programs.server.start.events → (does : LoopStep stores sources old new) →
        Split old.events new.events old_noted noted (e ∷ events_of 0 earlier) →
        Joint (snap (Then run does) noted clients)
    server_steps {old = old} {new = new} {run = run} {old_noted = old_noted} {noted = noted} is does (split ahead x []
        others own added noted_is seen_is) =
        let h = heads e x (events_of 0 earlier) old_noted seen_is in
        let fits : Fits (snap run old_noted clients) earlier =
        record { server = After_steps is (sym h.1); count = count; clients = fit } in
        let joint = ih (snap run old_noted clients) fits in
        let ip_is : (port : ℕ) (a : Endpoint) → IsAt programs 0 port a →
        a ≡ endpoint programs.ip port = search std_rules in
        let takes = can_take (snap run old_noted clients) earlier fits 0 programs.ip ip_is e comes ahead x others h.0 in
        rw (noted_is) (Server_does joint does (ahead ++ x ∷ []) added takes)
    server_steps {run = run} {noted = noted} is does (split ahead x (y ∷ rest) others own added noted_is seen_is) =
        let h = heads e x (events_of 0 earlier) (y ∷ rest ++ _) seen_is in
        ih (snap (Then run does) noted clients) (record {
          server = Within_step is does (step_back _ x y _ _ others own added noted_is h.1);
          count = count;
          clients = fit;
        })

    -- the event is the last that the server has noted
    server_back : {state : LoopState S F D} (run : ServerRun state) (noted : List SocketEvent) →
        state.events ≡ noted ++ programs.server.start.events → noted ≡ e ∷ events_of 0 earlier →
        Joint (snap run noted clients)
    server_back Start noted is seen_is = no_more e _ (sym (at_first _ _ _ refl is) ∙ seen_is)
    server_back (Then {middle = old} {last = new} run does) noted is seen_is = elim (server_adds does) [
      | Silent same ↦ server_rests (server_back run noted (sym same ∙ is) seen_is) does same
      | Notes x rest own added ↦
          let before = server_noted run in
          let noted_is =
          past (x ∷ rest) before.0 programs.server.start.events old.events new.events noted added before.1 is in
          server_steps before.1 does (split [] x rest tt own added noted_is (sym seen_is ∙ noted_is))
    ]

    server_any : {state : LoopState S F D} {run : ServerRun state} {noted : List SocketEvent} →
        ServerFits (e ∷ events_of 0 earlier) state run noted → Joint (snap run noted clients)
    server_any (After_steps {run = run} {noted = noted} is seen_is) = server_back run noted is seen_is
    server_any (Within_step is does s) = server_steps is does s

  -- ---- a client

  -- the request, and what came after it
  client_noted : (client : Client) {s : State} {files : Files G K} → Conversed client s files →
      (more : List SocketEvent) × (e : SocketEvent) × (s.events ≡ (more ++ e ∷ []) ++ client.before)
  client_noted client run =
      let since = converse run in
      let request = Sent client.port client.first.position.last_sent_to client.first.position.last_sent in
      (since.0, request, since.1 ∙ sym (append_assoc since.0 (request ∷ []) client.before))

  -- the other programs, where their traces are seen so far
  record OthersFit (k : ℕ) (sn : Snapshot programs) (order : List Noted) : Type 0 where
    server : ServerFits (events_of 0 order) sn.state sn.run sn.noted
    count : length sn.clients ≡ length programs.clients
    there : (stage : ClientStage G K) × (slice_get sn.clients k ≡ Some stage)
    clients : (j : ℕ) (client : Client) → j ≢ k → slice_get programs.clients j ≡ Some client →
        ClientHas sn.clients order j client

  all_fit : (k : ℕ) (client : Client) (sn : Snapshot programs) (order : List Noted) →
      slice_get programs.clients k ≡ Some client → OthersFit k sn order → (stage : ClientStage G K) →
      ClientFits client (events_of (suc k) order) stage → Fits (client_did sn k stage) order
  all_fit k client sn order is_client others stage fits = record {
    server = others.server;
    count = length-set sn.clients k stage ∙ others.count;
    clients = λ j c is. elim (cases_eq j k) [
      | inl same ↦
          let c_is : client ≡ c = search std_rules in
          let own : ClientHas (set sn.clients k stage) order k client =
          (stage, slice_get-set_same sn.clients k stage others.there.0 others.there.1, fits) in
          subst (λ (i : ℕ). ClientHas (set sn.clients k stage) order i c) (sym same) (subst (λ (z : Client). ClientHas
          (set sn.clients k stage) order k z) c_is own)
      | inr n ↦ let has = others.clients j c n is in (has.0, slice_get-set_other sn.clients k j stage n ∙ has.1, has.2)
    ];
  }

  module _ (k : ℕ) (client : Client) (is_client : slice_get programs.clients k ≡ Some client) (e : SocketEvent)
      (earlier : List Noted) (comes : CanCome programs (suc k) e earlier) (sn : Snapshot programs)
      (others : OthersFit k sn earlier) (ih : (old : Snapshot programs) → Fits old earlier → Joint old) where
    abbrev At : ClientStage G K → Snapshot programs
    At stage = client_did sn k stage

    abbrev With : List (ClientStage G K) → Snapshot programs
    With stages = record sn { clients = stages }

    stage_is : (stage : ClientStage G K) → slice_get (set sn.clients k stage) k ≡ Some stage
    stage_is stage = slice_get-set_same sn.clients k stage others.there.0 others.there.1

    at_ip : (port : ℕ) (a : Endpoint) → IsAt programs (suc k) port a → a ≡ endpoint client.ip port
    at_ip port a at = search (rules, option_map, slice_get, endpoint, same_Some, slice_get-map)

    -- the client makes a step
    client_goes : {s s' : State} {files files' : Files G K} (noted : List SocketEvent) (moved : Moved) →
        Joint (At (Has_asked s files noted moved)) → (does : ClientDoes inputs outputs client.port s files s' files') →
        DoesOwn programs.ip programs.others does → (added : List SocketEvent) → s'.events ≡ added ++ s.events →
        CanTake (At (Has_asked s files noted moved)) client.ip added →
        Joint (At (Has_asked s' files' (added ++ noted) (client_moves does moved)))
    client_goes {s = s} {s' = s'} {files = files} {files' = files'} noted moved joint does so added is takes =
        subst (λ (stages : List (ClientStage G K)). Joint (With stages))
        (set-set sn.clients k (Has_asked s files noted moved)
        (Has_asked s' files' (added ++ noted) (client_moves does moved)))
        (Client_does joint k client is_client (stage_is (Has_asked s files noted moved)) does so added is takes)

    -- the last step of the client has noted the event
    client_steps : {s s' : State} {files files' : Files G K} {old_noted noted : List SocketEvent}
        (h : IsHere client s files old_noted) (waits : List SocketEvent) → AllByRecursion IsQuiet waits →
        (does : ClientDoes inputs outputs client.port s files s' files') → DoesOwn programs.ip programs.others does →
        Split (waits ++ s.events) s'.events (waits ++ old_noted) noted (e ∷ events_of (suc k) earlier) →
        Joint (At (Has_asked s' files' noted (client_moves does (moved_in h.run))))
    client_steps {s = s} {s' = s'} {files = files} {files' = files'} {old_noted = old_noted} h waits quiet does so
        (split ahead x [] others_are own added noted_is seen_is) =
        let now = heads e x (events_of (suc k) earlier) (waits ++ old_noted) seen_is in
        let before = Has_asked s files old_noted (moved_in h.run) in
        let fits = all_fit k client sn earlier is_client others before (Conversed_so h waits quiet (sym now.1)) in
        let takes = can_take (At before) earlier fits (suc k) client.ip at_ip e comes ahead x others_are now.0 in
        let all : CanTake (At before) client.ip ((ahead ++ x ∷ []) ++ waits) =
        λ port from bytes i. takes port from bytes (before_waits (ahead ++ x ∷ []) waits (Received port from bytes)
        quiet (λ q. q) i) in
        subst (λ (es : List SocketEvent). Joint (At (Has_asked s' files' es (client_moves does (moved_in h.run)))))
        (sym (noted_is ∙ sym (append_assoc (ahead ++ x ∷ []) waits old_noted)))
        (client_goes old_noted (moved_in h.run) (ih (At before) fits) does so
        ((ahead ++ x ∷ []) ++ waits) (added ∙ sym (append_assoc (ahead ++ x ∷ []) waits s.events)) all)
    client_steps {s' = s'} {files' = files'} {old_noted = old_noted} {noted = noted} h waits quiet does so
        (split ahead x (y ∷ rest) others_are own added noted_is seen_is) =
        let now = heads e x (events_of (suc k) earlier) ((y ∷ rest) ++ (waits ++ old_noted)) seen_is in
        let after = Has_asked s' files' noted (client_moves does (moved_in h.run)) in
        ih (At after) (all_fit k client sn earlier is_client others after (Conversing h waits quiet does so
        (step_back ahead x y rest (events_of (suc k) earlier) others_are own added noted_is now.1)))

    -- the event is the last that the client has noted, by its last step or before
    client_back : {s : State} {files : Files G K} (run : Conversed client s files) →
        TakesOwn programs.ip programs.others run → (noted : List SocketEvent) → s.events ≡ noted ++ client.before →
        noted ≡ e ∷ events_of (suc k) earlier → Joint (At (Has_asked s files noted (moved_in run)))
    client_back Starts takes_own noted is seen_is =
        let request = Sent client.port client.first.position.last_sent_to client.first.position.last_sent in
        let noted_is : noted ≡ request ∷ [] = append_cancel_right noted (request ∷ []) client.before (sym is) in
        let none = (heads e request (events_of (suc k) earlier) [] (sym seen_is ∙ noted_is)).1 in
        let joint = ih (At Unasked) (all_fit k client sn earlier is_client others Unasked (Not_yet none)) in
        let asks =
        subst (λ (stages : List (ClientStage G K)). Joint (With stages))
        (set-set sn.clients k Unasked (just_asked client))
        (Client_asks joint k client is_client (stage_is Unasked)) in
        subst (λ (es : List SocketEvent). Joint
        (At (Has_asked (begun client.backoff client.port client.reading client.first client.before) client.file es
        nothing_moved))) (sym noted_is) asks
    client_back (Goes_on {s = s} {s' = s'} run does) takes_own noted is seen_is = elim (client_adds does) [
      | Rests same ↦
          client_goes noted (moved_in run) (client_back run takes_own.0 noted (sym same ∙ is) seen_is) does takes_own.1 []
          same (λ port from bytes i. absurd (let l = i.1 in omega arith))
      | Acts x rest waits own quiet added ↦
          let before = client_noted client run in
          let old_noted = before.0 ++ before.1 ∷ [] in
          let old_is : waits ++ s.events ≡ (waits ++ old_noted) ++ client.before =
          ap (λ (es : List SocketEvent). waits ++ es) before.2 ∙ sym (append_assoc waits old_noted client.before) in
          let noted_is =
          past (x ∷ rest) (waits ++ old_noted) client.before (waits ++ s.events) s'.events noted added old_is is in
          client_steps (record { run = run; own = takes_own.0; is = before.2 }) waits quiet does takes_own.1
          (split [] x rest tt own added noted_is (sym seen_is ∙ noted_is))
    ]

    client_any : {stage : ClientStage G K} → ClientFits client (e ∷ events_of (suc k) earlier) stage → Joint (At stage)
    client_any (Not_yet none) = no_more e (events_of (suc k) earlier) (sym none)
    client_any (Conversed_so h [] quiet seen_is) = client_back h.run h.own _ h.is seen_is
    client_any (Conversed_so {s = s} {files = files} {noted = noted} h (w ∷ waits) quiet seen_is) =
        let now = heads w e (waits ++ noted) (events_of (suc k) earlier) seen_is in
        let stage = Has_asked s files noted (moved_in h.run) in
        ih (At stage) (all_fit k client sn earlier is_client others stage (Conversed_so h waits quiet.1 now.1))
    client_any (Conversing h waits quiet does so s) = client_steps h waits quiet does so s

  -- ---- all programs

  has_other : (clients : List (ClientStage G K)) (j : ℕ) (client : Client) (q : ℕ) (e : SocketEvent) (earlier : List Noted) →
      suc j ≢ q → ClientHas clients ((q, e) ∷ earlier) j client → ClientHas clients earlier j client
  has_other clients j client q e earlier n has = search rules

  server_other : (sn : Snapshot programs) (k : ℕ) (e : SocketEvent) (earlier : List Noted) →
      ServerFits (events_of 0 ((suc k, e) ∷ earlier)) sn.state sn.run sn.noted →
      ServerFits (events_of 0 earlier) sn.state sn.run sn.noted
  server_other sn k e earlier fits = search rules

  not_suc : (j k : ℕ) → j ≢ k → suc j ≢ suc k
  not_suc j k n = omega (arith, n)

  of_client : (k : ℕ) (e : SocketEvent) (earlier : List Noted) → CanCome programs (suc k) e earlier →
      ((old : Snapshot programs) → Fits old earlier → Joint old) → (sn : Snapshot programs) →
      Fits sn ((suc k, e) ∷ earlier) → (o : Option Client) → slice_get programs.clients k ≡ o → Joint sn
  of_client k e earlier comes ih sn fits None none =
      let apart : (j : ℕ) (client : Client) → slice_get programs.clients j ≡ Some client → j ≢ k =
      λ j client is same. none-some client (sym none ∙ (ap (λ (i : ℕ). slice_get programs.clients i) (sym same) ∙ is))
      in
      ih sn (record {
        server = server_other sn k e earlier fits.server;
        count = fits.count;
        clients = λ j client is. has_other _ j _ _ e _ (not_suc j k (apart j client is)) (fits.clients j client is);
      })
  of_client k e earlier comes ih sn fits (Some client) is_client =
      let has = fits.clients k client is_client in
      let others : OthersFit k sn earlier = record {
        server = server_other sn k e earlier fits.server;
        count = fits.count;
        there = (has.0, has.1);
        clients = λ j c n is. has_other _ j c _ e _ (not_suc j k n) (fits.clients j c is);
      } in
      rw (← set_own sn.clients k has.0 has.1) (client_any k client is_client e earlier comes sn others ih (subst (λ (es
      : List SocketEvent). ClientFits client es has.0) (events_own (suc k) e earlier) has.2))

  of_program : (p : ℕ) (e : SocketEvent) (earlier : List Noted) → CanCome programs p e earlier →
      ((old : Snapshot programs) → Fits old earlier → Joint old) →
      (sn : Snapshot programs) → Fits sn ((p, e) ∷ earlier) → Joint sn
  of_program zero e earlier comes ih sn fits =
      server_any e _ comes _ fits.count (λ j c is. has_other _ j c 0 e _ (let n : suc j ≢ zero = omega arith in n)
      (fits.clients j c is)) ih (rw (← events_own 0 e earlier) fits.server)
  of_program (suc k) e earlier comes ih sn fits = of_client k e _ comes ih sn fits (slice_get programs.clients k) refl

  -- at the beginning of the order no client has sent its request
  client_first : (client : Client) {stage : ClientStage G K} → ClientFits client [] stage → stage ≡ Unasked
  client_first client (Not_yet none) = refl
  client_first client (Conversed_so h (w ∷ waits) quiet none) = no_more w (waits ++ _) (sym none)
  client_first client (Conversed_so {noted = noted} h [] quiet none) =
      let before = client_noted client h.run in
      ends_with before.0 before.1 (sym none ∙ append_cancel_right noted (before.0 ++ before.1 ∷ []) client.before
      (sym h.is ∙ before.2))
  client_first client (Conversing h waits quiet does so (split ahead x rest others own added noted_is none)) =
      no_more x (rest ++ _) none

  all_first : (clients : List (ClientStage G K)) {state : LoopState S F D} {run : ServerRun state}
      {noted : List SocketEvent} → map (λ (client : Client). Unasked) programs.clients ≡ clients →
      ServerFits [] state run noted → Joint (snap run noted clients)
  all_first clients all (After_steps {run = run} {noted = noted} is none) = server_first run noted clients is none all
  all_first clients all (Within_step is does (split ahead x rest others own added noted_is none)) = no_more x _ none

  joint_to : (order : List Noted) → IsHonest programs order → (sn : Snapshot programs) → Fits sn order → Joint sn
  joint_to [] honest sn fits =
      all_first sn.clients (all_are programs.clients sn.clients Unasked fits.count
      (λ k client is. let has = fits.clients k client is in has.1 ∙ ap (λ (stage : ClientStage G K). Some stage)
      (client_first client has.2))) fits.server
  joint_to (x ∷ earlier) honest sn fits =
      of_program x.0 x.1 earlier honest.0 (λ old f. joint_to earlier honest.1 old f) sn fits

  pub all_joint : (order : List Noted) → IsOrder programs order → IsHonest programs order →
      ((k : ℕ) (client : Client) → slice_get programs.clients k ≡ Some client →
      TakesOwn programs.ip programs.others client.runs) → Joint (all_of programs)
  all_joint order is_order honest own =
      let stage_of : Client → ClientStage G K =
      λ client. Has_asked client.last client.files client.noted (moved_in client.runs) in
      joint_to order honest (all_of programs) (record {
        server = After_steps programs.server.is_noted (sym is_order.server);
        count = length-map programs.clients stage_of;
        clients = λ k client is. (
          stage_of client,
          slice_get-map stage_of programs.clients k
              ∙ ap (λ (o : Option Client). option_map stage_of o) is,
          Conversed_so (record { run = client.runs; own = own k client is; is = client.is_noted }) [] tt
              (sym (is_order.clients k client is)),
        );
      })

pub traces_joint : {S F D G K : Type 0} (stores : StoreMeaning S D) (sources : SourceMeaning F)
    (inputs : SourceMeaning G) (outputs : SinkMeaning K) → TracesAreJoint stores sources inputs outputs
traces_joint stores sources inputs outputs programs order joined = search (rules, all_joint)
