-- What `tftpd` and `tftp` ran for the words of their command lines, and which programs these are.
use Rattle.tftp_words.specs.Common.{SinkMeaning, SourceMeaning, StoreMeaning, SocketEvent}
use Rattle.tftp_words.specs.Common.{RunsWords, moved_by, FolderStore, DiskEvent, IsServed, alone}
use Rattle.tftp_words.specs.Common.{moved_in, ArePortsFresh, IsHonest, IsOrder, Noted, Programs}
use Rattle.tftp_words.specs.Common.{endpoint, OneClient, OneServer, Several}
use Rattle.std.specs.Prelude.{ℕ, ◌≡◌, false, List, [], ◌∷◌, ◌++◌, Option, Some, None, Result}
use Rattle.std.specs.Prelude.{slice_get}
use Rattle.std.specs.List.{AllByRecursion}
use Rattle.std.proofs.Common.{inl, inr}
use Rattle.std.specs.String.{string_bytes}
use Rattle.tftp_negotiate.specs.declared.known.Kind.{Kind}
use Rattle.tftp_negotiate.specs.declared.known.Kind.TheVariants.{Read, Write}
use Rattle.tftp_ends.specs.declared.endpoint.Endpoint.{Endpoint}
use Rattle.tftp_ends.specs.End.{is_complete}
use Rattle.tftp_ends.specs.Run.{IsOpen}
use Rattle.tftp_ends.specs.declared.side.Side.{Side}
use Rattle.tftp_ends.specs.declared.side.Side.TheVariants.{ClientRead, ClientWrite}
use Rattle.tftp_server.specs.State.{ServerState}
use Rattle.tftp_sockets.specs.Bound.{IsBoundTo}
use Rattle.tftp_sockets.specs.Quiet.{waits}
use Rattle.tftp_loop.specs.LoopStates.{noted_at_end}
use Rattle.tftp_loop.specs.WholeRun.{RunsServer, Unbound, Bound, listening}
use Rattle.tftp_loop.specs.declared.serving.LoopConfig.{LoopConfig}
use Rattle.tftp_loop.specs.declared.serving.LoopFault.{LoopFault}
use Rattle.tftp_client.specs.Converses.{most_waits}
use Rattle.tftp_client.specs.Moved.{Moved}
use Rattle.tftp_client.specs.Words.{WordsName}
use Rattle.tftp_folder.specs.Opened.{IsRootOf}
use Rattle.tftp_daemon.specs.Configured.{ListensAt, ServesWords}
use Rattle.tftp_daemon.specs.Words.{WordsConfigure}
use Rattle.tftp_promises.specs.ClientPrograms.{IsCounted}
use Rattle.tftp_promises.specs.Programs.{ClientProgram, ServerProgram, name_of}

-- ---- the commands
-- what the words of a command line name: of `tftp` a job, and of `tftpd` a configuration
abbrev pub Named : {A : Type 0} → (List (List ℕ) → A → Type 0) → Type 0
Named {A} Names = A

abbrev pub Job : Type 0
Job = Named WordsName

abbrev pub DaemonConfig : Type 0
DaemonConfig = Named WordsConfigure

-- a run of `tftpd`: the address of its host, its arguments, its status, and its trace before and
-- after; it had asked nothing of its disk before
pub record ServerRan {R G H W F D : Type 0} (log : R → List DiskEvent)
    (stores : StoreMeaning (FolderStore R G H W) D) (sources : SourceMeaning F) : Type 0 where
  pub ip : List ℕ
  pub words : List (List ℕ)
  pub status : ℕ
  pub before : List SocketEvent
  pub after : List SocketEvent
  pub ran : ServesWords log [] stores sources words status before after

-- a run of `tftp`: the same of it
pub record ClientRan {G K : Type 0} (inputs : SourceMeaning G) (outputs : SinkMeaning K)
    : Type 0 where
  pub ip : List ℕ
  pub words : List (List ℕ)
  pub status : ℕ
  pub before : List SocketEvent
  pub after : List SocketEvent
  pub ran : RunsWords inputs outputs words status before after

-- the port to which the server's request port was bound, if it was
abbrev pub bound_by : {R G H W F D A : Type 0} {stores : StoreMeaning (FolderStore R G H W) D}
    {sources : SourceMeaning F} {config : LoopConfig}
    {server : ServerState (FolderStore R G H W) F D}
    {result : Result A LoopFault} {before after : List SocketEvent}
    → RunsServer stores sources config server result before after → Option ℕ
bound_by (Unbound ends) = None
bound_by (Bound port is serves) = Some port

abbrev pub bound_in : {R G H W F D : Type 0} {log : R → List DiskEvent}
    {stores : StoreMeaning (FolderStore R G H W) D} {sources : SourceMeaning F}
    (words : List (List ℕ)) (status : ℕ) (before after : List SocketEvent)
    → ServesWords log [] stores sources words status before after → Option ℕ
bound_in words status before after (inl none) = None
bound_in words status before after (inr did) = bound_by did.2.runs.serves

abbrev pub port_of : {R G H W F D : Type 0} {log : R → List DiskEvent}
    {stores : StoreMeaning (FolderStore R G H W) D} {sources : SourceMeaning F}
    → ServerRan log stores sources → Option ℕ
port_of ran = bound_in ran.words ran.status ran.before ran.after ran.ran

-- a job that is complete: N of the line `complete N` that was printed, and what moved in the run
pub record Finished : Type 0 where
  pub job : Job
  pub count : ℕ
  pub moved : Moved

-- the job of a command, if it is complete
abbrev pub finished_in : {G K : Type 0} (inputs : SourceMeaning G) (outputs : SinkMeaning K)
    (words : List (List ℕ)) (status : ℕ) (before after : List SocketEvent)
    → RunsWords inputs outputs words status before after → Option Finished
finished_in inputs outputs words status before after (inl nothing) = None
finished_in inputs outputs words status before after (inr (job, named, inl done)) =
    Some (record {
      job = job;
      count = done.1.count;
      moved = moved_by inputs outputs done.1.transfers;
    })
finished_in inputs outputs words status before after (inr (job, named, inr failed)) = None

-- the end of a job
abbrev pub side_of : Kind → Side
side_of Read = ClientRead
side_of Write = ClientWrite

module _ {G K : Type 0} {inputs : SourceMeaning G} {outputs : SinkMeaning K} where
  -- the arguments of all of them name this server
  abbrev pub AllAsk : Endpoint → List (ClientRan inputs outputs) → Type 0
  AllAsk to clients =
      AllByRecursion (λ (ran : ClientRan inputs outputs).
      (job : Job) → WordsName ran.words job → job.server ≡ to) clients

  -- ---- the programs of a client
  -- a program runs the end of this job, for its name, or of the same job without its options
  pub record IsRunFor (job : Job) {to : Endpoint} (client : ClientProgram inputs outputs to)
      : Type 0 where
    pub name : name_of client.opens ≡ job.name.now
    pub mode : client.first.role.mode ≡ job.mode
    pub side : client.first.role.side ≡ side_of job.kind

  -- a program is a run of the job that the words name
  pub record IsRunOf (ran : ClientRan inputs outputs) {to : Endpoint}
      (client : ClientProgram inputs outputs to) : Type 0 where
    pub address : client.ip ≡ ran.ip
    pub job : Job
    pub named : WordsName ran.words job
    pub runs : IsRunFor job client

  -- the programs noted all that leads from the one trace to the other, one after another
  abbrev pub NotedBy : {to : Endpoint} → List SocketEvent → List (ClientProgram inputs outputs to)
      → List SocketEvent → Type 0
  NotedBy before [] after = after ≡ before
  NotedBy before (client ∷ clients) after =
      (client.before ≡ before) × NotedBy (client.noted ++ before) clients after

  -- the job, if it is complete, was done by the last of them, with this N, and this moved there
  abbrev pub LastDid : {to : Endpoint} → Option Finished → List (ClientProgram inputs outputs to)
      → Type 0
  LastDid None clients = Unit {0}
  LastDid {to} (Some done) clients =
      (earlier : List (ClientProgram inputs outputs to))
      × (client : ClientProgram inputs outputs to)
      × (clients ≡ earlier ++ client ∷ []) × IsRunFor done.job client
      × IsCounted done.count client × (moved_in client.runs ≡ done.moved)

  -- a program of a command that did not complete: its end is not complete, and it has closed,
  -- unless the command has made all its waits
  pub record HasStopped (most : ℕ) {to : Endpoint} (client : ClientProgram inputs outputs to)
      : Type 0 where
    pub incomplete : is_complete client.last.end.position.phase ≡ false
    pub closed : IsOpen client.last.end → waits (client.noted ++ client.before) ≡ most

  abbrev pub HaveStopped : {to : Endpoint} → ℕ → Option Finished
      → List (ClientProgram inputs outputs to) → Type 0
  HaveStopped most (Some done) clients = Unit {0}
  HaveStopped {to} most None clients =
      AllByRecursion (λ (client : ClientProgram inputs outputs to). HasStopped most client) clients

  -- these programs are what a `tftp` ran: none, one, or two where its options were refused; the
  -- last is complete if its line was printed, and else all have stopped
  pub record AreRunsOf (ran : ClientRan inputs outputs) {to : Endpoint}
      (clients : List (ClientProgram inputs outputs to)) : Type 0 where
    pub noted : NotedBy ran.before clients ran.after
    pub each : AllByRecursion (IsRunOf ran) clients
    pub last : LastDid
        (finished_in inputs outputs ran.words ran.status ran.before ran.after ran.ran) clients
    pub stopped : HaveStopped (most_waits ran.before)
        (finished_in inputs outputs ran.words ran.status ran.before ran.after ran.ran) clients

  -- and these what all of them ran
  abbrev pub AreAllRuns : {to : Endpoint} → List (ClientRan inputs outputs)
      → List (ClientProgram inputs outputs to) → Type 0
  AreAllRuns [] clients = clients ≡ []
  AreAllRuns {to} (ran ∷ others) clients =
      (own : List (ClientProgram inputs outputs to))
      × (rest : List (ClientProgram inputs outputs to))
      × (clients ≡ own ++ rest) × AreRunsOf ran own × AreAllRuns others rest

module _ {R G H W F D : Type 0} {log : R → List DiskEvent}
    {stores : StoreMeaning (FolderStore R G H W) D} {sources : SourceMeaning F} where
  -- this program is that run of `tftpd` from its request port on, which is where its arguments say
  pub record IsServerRan (ran : ServerRan log stores sources) (port : ℕ) {to : Endpoint}
      (server : ServerProgram stores sources to) : Type 0 where
    pub address : to.ip ≡ ran.ip
    pub requests : to.port ≡ port
    pub config : DaemonConfig
    pub named : WordsConfigure ran.words config
    pub limits : server.start.server.config ≡ config.config
    -- its folder is the one to which the system resolved the argument ROOT, by the oldest calls on
    -- its disk
    pub root : IsRootOf config.root.now (string_bytes server.start.server.store.folder.root) []
        (log server.start.server.store.disk)
    pub at : Endpoint
    pub listens : ListensAt config.listen at
    pub bound : IsBoundTo at at.ip port
    pub begins : server.start.events ≡ listening at.ip port ran.before
    -- its trace, and last what stopped it, if memory was refused or its output has no reader
    pub result : Result (Unit {0}) LoopFault
    pub noted : ran.after ≡ noted_at_end result (server.noted ++ server.start.events)

  -- and these what each of several ran
  abbrev pub AreServersRan : {to : Endpoint} → ℕ → List (ServerRan log stores sources)
      → List (ServerProgram stores sources to) → Type 0
  AreServersRan port [] servers = servers ≡ []
  AreServersRan {to} port (ran ∷ others) servers =
      (server : ServerProgram stores sources to) × (rest : List (ServerProgram stores sources to))
      × (servers ≡ server ∷ rest) × IsServerRan ran port server × AreServersRan port others rest

  -- all of them ran at this address, and their request ports were bound to this port
  abbrev pub AllServe : List ℕ → ℕ → List (ServerRan log stores sources) → Type 0
  AllServe ip port servers =
      AllByRecursion (λ (ran : ServerRan log stores sources).
      (ran.ip ≡ ip) × (port_of ran ≡ Some port)) servers

-- the path of the server's folder, which the words of `tftpd` name (`IsServerRan`)
abbrev pub root_of : {R G H W F D I K : Type 0} {stores : StoreMeaning (FolderStore R G H W) D}
    {sources : SourceMeaning F} {inputs : SourceMeaning I} {outputs : SinkMeaning K}
    → Programs stores sources inputs outputs → List ℕ
root_of programs = string_bytes programs.server.start.server.store.folder.root

module _ {R G H W F D I K : Type 0} {log : R → List DiskEvent}
    {stores : StoreMeaning (FolderStore R G H W) D} {sources : SourceMeaning F}
    {inputs : SourceMeaning I} {outputs : SinkMeaning K} where
  -- these programs are the runs of all the commands, and there is no other server
  pub record AreRan (server : ServerRan log stores sources) (port : ℕ)
      (clients : List (ClientRan inputs outputs))
      (programs : Programs stores sources inputs outputs) : Type 0 where
    pub of_server : IsServerRan server port programs.server
    pub of_clients : AreAllRuns clients programs.clients
    pub alone : programs.others ≡ []

  -- with several servers
  pub record AreSeveralRan (servers : List (ServerRan log stores sources)) (port : ℕ)
      (clients : List (ClientRan inputs outputs))
      (several : Several stores sources inputs outputs) : Type 0 where
    pub of_servers : AreServersRan port servers several.servers
    pub of_clients : AreAllRuns clients several.clients

  -- of a run of `tftpd` whose request port was bound, and runs of `tftp` whose arguments name that
  -- server: there are programs with just these traces, of which this holds in whatever order an
  -- honest network joined them, if their ports are fresh
  abbrev pub HoldsOfOne : ServerRan log stores sources → ℕ → List (ClientRan inputs outputs)
      → (Programs stores sources inputs outputs → Type 0) → Type 0
  HoldsOfOne server port clients Holds =
      port_of server ≡ Some port → AllAsk (endpoint server.ip port) clients
      → (programs : Programs stores sources inputs outputs) × AreRan server port clients programs
      × ((order : List Noted) → IsOrder programs order → IsHonest programs order
      → ArePortsFresh programs → Holds programs)

  -- of runs of several `tftpd` at one address whose request ports were bound to one port, and runs
  -- of `tftp` whose arguments name it: there are programs with just these traces, of which this
  -- holds with each order of their events
  abbrev pub HoldsOfSeveral : List ℕ → ℕ → List (ServerRan log stores sources)
      → List (ClientRan inputs outputs)
      → (Several stores sources inputs outputs → List Noted → Type 0) → Type 0
  HoldsOfSeveral ip port servers clients Holds =
      AllServe ip port servers → AllAsk (endpoint ip port) clients
      → (several : Several stores sources inputs outputs)
      × AreSeveralRan servers port clients several × ((order : List Noted) → Holds several order)

module _ {S F D G K : Type 0} {stores : StoreMeaning S D} {sources : SourceMeaning F}
    {inputs : SourceMeaning G} {outputs : SinkMeaning K} where
  -- of each of several servers and each client that it serves, if an honest network joined all in
  -- this order, this holds
  abbrev pub HoldsOfEach : (Programs stores sources inputs outputs → Type 0)
      → Several stores sources inputs outputs → List Noted → Type 0
  HoldsOfEach Holds several order =
      (i : ℕ) (server : OneServer several) (k : ℕ) (client : OneClient several)
      → slice_get several.servers i ≡ Some server → slice_get several.clients k ≡ Some client
      → IsServed several order i server k client → Holds (alone several i server client)
