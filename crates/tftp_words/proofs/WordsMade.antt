-- What `tftpd` and each `tftp` ran for their words are programs of a network.
use Rattle.tftp_words.proofs.Common.{◌≡◌, ℕ, List, [], ◌∷◌, ◌++◌, Some, None, Result, refl, sym, ap, ◌∙◌, subst, inl}
use Rattle.tftp_words.proofs.Common.{inr, same_Some, string_bytes, SinkMeaning, SourceMeaning, Endpoint, StoreMeaning}
use Rattle.tftp_words.proofs.Common.{LoopState, noted_at_end, LoopFault, FolderStore, DiskEvent, ServesWords}
use Rattle.tftp_words.proofs.Common.{ClientsArePrograms, Noted, Programs, ClientProgram, ServerProgram, endpoint}
use Rattle.tftp_words.proofs.Common.{Several, AllAsk, AreAllRuns, ClientRan, IsServerRan, HoldsOfOne, HoldsOfSeveral}
use Rattle.tftp_words.proofs.Common.{ServerRan}
use Rattle.tftp_negotiate.specs.Ranges.{IsBlockSize}
use Rattle.tftp_server.specs.State.{ServerState}
use Rattle.tftp_server.specs.declared.config.Config.{Config}
use Rattle.tftp_sockets.specs.Bound.{IsBoundTo}
use Rattle.tftp_loop.specs.Steps.{at_start}
use Rattle.tftp_loop.specs.WholeRun.{RunsServer, RunsServerFrom, Unbound, Bound, listening}
use Rattle.tftp_folder.specs.Opened.{IsRootOf}
use Rattle.tftp_daemon.specs.Configured.{IsServerOf, ListensAt, service_at}
use Rattle.tftp_daemon.specs.Words.{WordsConfigure}
use Rattle.tftp_promises.specs.Joined.{AreJoined, ServersAloneAreJoined}
use Rattle.tftp_promises.specs.Programs.{ServersAreRuns}
use Rattle.tftp_words.specs.Ran.{AllServe, AreServersRan, DaemonConfig, bound_by, bound_in, port_of}
use Rattle.tftp_words.proofs.ClientMade.{client_made}

-- ---- the clients
module _ {G K : Type 0} {inputs : SourceMeaning G} {outputs : SinkMeaning K}
    (are_programs : ClientsArePrograms inputs outputs) where
  -- the programs of all that they ran
  pub all_made : (to : Endpoint) (clients : List (ClientRan inputs outputs)) → AllAsk to clients →
      (programs : List (ClientProgram inputs outputs to)) × AreAllRuns clients programs
  all_made to [] asks = ([], refl)
  all_made to (ran ∷ clients) asks =
      let own = client_made are_programs ran to asks.0 in
      let rest = all_made to clients asks.1 in
      (own.0 ++ rest.0, (own.0, rest.0, refl, own.1, rest.1))

-- ---- the server
module _ {R G H W F D : Type 0} {log : R → List DiskEvent} {stores : StoreMeaning (FolderStore R G H W) D}
    {sources : SourceMeaning F} (are_runs : ServersAreRuns stores sources) (ran : ServerRan log stores sources)
    (ip : List ℕ) (there : ran.ip ≡ ip) (port : ℕ) where
  abbrev Made : Type 0
  Made = (server : ServerProgram stores sources (endpoint ip port)) × IsServerRan ran port server

  module _ (config : DaemonConfig) (named : WordsConfigure ran.words config) (at : Endpoint)
      (listens : ListensAt config.listen at) (server : ServerState (FolderStore R G H W) F D)
      (of : IsServerOf log [] config server) where
    from_port : {result : Result (Unit {0}) LoopFault} (bound : ℕ) → bound ≡ port → IsBoundTo at at.ip bound →
        RunsServerFrom stores sources (service_at config at) bound server result (listening at.ip bound ran.before)
        ran.after → Made
    from_port {result} bound same is_bound serves =
        let before = listening at.ip bound ran.before in
        let start : LoopState (FolderStore R G H W) F D = at_start (service_at config at) bound server
        serves.reading before in
        let limits : IsBlockSize server.config.limits.max_block =
        subst (λ (c : Config). IsBlockSize c.limits.max_block) (sym of.limits) of.valid.max_block in
        let r = are_runs (endpoint ip port) start serves.last serves.run same of.empty refl limits in (
          r.server,
          record {
            address = sym there;
            requests = refl;
            config = config;
            named = named;
            limits = ap (λ (s : LoopState (FolderStore R G H W) F D). s.server.config) r.starts ∙ of.limits;
            root =
                subst (λ (s : LoopState (FolderStore R G H W) F D). IsRootOf config.root.now
                (string_bytes s.server.store.folder.root) [] (log s.server.store.disk)) (sym r.starts) of.root;
            at = at;
            listens = listens;
            bound = subst (λ (p : ℕ). IsBoundTo at at.ip p) same is_bound;
            begins =
                ap (λ (s : LoopState (FolderStore R G H W) F D). s.events) r.starts
                ∙ ap (λ (p : ℕ). listening at.ip p ran.before) same;
            result = result;
            noted =
                serves.noted
                ∙ ap (noted_at_end result)
                (ap (λ (s : LoopState (FolderStore R G H W) F D). s.events) (sym r.arrives) ∙ r.server.is_noted);
          },
        )

    by_serving : {result : Result (Unit {0}) LoopFault} →
        (serves : RunsServer stores sources (service_at config at) server result ran.before ran.after) →
        bound_by serves ≡ Some port → Made
    by_serving (Unbound ends) is = absurd (let f : None ≡ Some port = is in cc)
    by_serving (Bound bound is_bound serves) is = from_port bound (same_Some bound port is) is_bound serves

  by_words : (did : ServesWords log [] stores sources ran.words ran.status ran.before ran.after) →
      bound_in ran.words ran.status ran.before ran.after did ≡ Some port → Made
  by_words (inl none) is = absurd (let f : None ≡ Some port = is in cc)
  by_words (inr did) is =
      by_serving did.0 did.1 did.2.at did.2.listens did.2.server did.2.is_server did.2.runs.serves is

  pub server_made : port_of ran ≡ Some port → Made
  server_made is = by_words ran.ran is

-- ---- several servers
module _ {R G H W F D : Type 0} {log : R → List DiskEvent} {stores : StoreMeaning (FolderStore R G H W) D}
    {sources : SourceMeaning F} (are_runs : ServersAreRuns stores sources) (ip : List ℕ) (port : ℕ) where
  pub servers_made : (servers : List (ServerRan log stores sources)) → AllServe ip port servers →
      (programs : List (ServerProgram stores sources (endpoint ip port))) × AreServersRan port servers programs
  servers_made [] serve = ([], refl)
  servers_made (ran ∷ servers) serve =
      let own = server_made are_runs ran ip serve.0.0 port serve.0.1 in
      let rest = servers_made servers serve.1 in
      (own.0 ∷ rest.0, (own.0, rest.0, refl, own.1, rest.1))

-- ---- what holds of all joined programs holds of those that commands ran
module _ {R G H W F D I K : Type 0} {log : R → List DiskEvent} {stores : StoreMeaning (FolderStore R G H W) D}
    {sources : SourceMeaning F} {inputs : SourceMeaning I} {outputs : SinkMeaning K} (are_runs : ServersAreRuns stores sources)
    (are_programs : ClientsArePrograms inputs outputs) where
  pub one_holds : (Holds : Programs stores sources inputs outputs → Type 0) →
      ((programs : Programs stores sources inputs outputs) (order : List Noted) → AreJoined programs order →
      Holds programs) →
      ServersAloneAreJoined stores sources inputs outputs → (server : ServerRan log stores sources) (port : ℕ)
      (clients : List (ClientRan inputs outputs)) → HoldsOfOne server port clients Holds
  one_holds Holds holds join server port clients bound asks =
      let of_server = server_made are_runs server server.ip refl port bound in
      let of_clients = all_made are_programs (endpoint server.ip port) clients asks in
      let programs : Programs stores sources inputs outputs =
      record { ip = server.ip; port = port; server = of_server.0; others = []; clients = of_clients.0 } in (
        programs,
        record { of_server = of_server.1; of_clients = of_clients.1; alone = refl },
        λ order is_order honest fresh. holds programs order (join programs order refl is_order honest fresh),
      )

  pub several_hold : (Holds : Several stores sources inputs outputs → List Noted → Type 0) →
      ((several : Several stores sources inputs outputs) (order : List Noted) → Holds several order) → (ip : List ℕ)
      (port : ℕ) (servers : List (ServerRan log stores sources)) (clients : List (ClientRan inputs outputs)) →
      HoldsOfSeveral ip port servers clients Holds
  several_hold Holds holds ip port servers clients serve asks =
      let of_servers = servers_made are_runs ip port servers serve in
      let of_clients = all_made are_programs (endpoint ip port) clients asks in
      let several : Several stores sources inputs outputs =
      record { ip = ip; port = port; servers = of_servers.0; clients = of_clients.0 } in (
        several,
        record { of_servers = of_servers.1; of_clients = of_clients.1 },
        holds several,
      )
