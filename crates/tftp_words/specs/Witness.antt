-- Runs of `tftpd` and `tftp` that meet each premise of the laws from disk to disk: of a get, of a
-- put, and of both at two servers. Their disks are the lists of their calls.
use Rattle.tftp_words.specs.Common.{IsPassedOver, IsServed, ArePortsFresh, IsHonest, IsOrder, Noted}
use Rattle.tftp_words.specs.Common.{Programs, endpoint, OneClient, OneServer, Several}
use Rattle.std.specs.Prelude.{ℕ, ◌≡◌, List, [], ◌∷◌, Some, IsSome, slice_get}
use Rattle.tftp_client.specs.Witness.{local_sink, local_source}
use Rattle.tftp_daemon.specs.Witness.{its_calls, sources, stores}
use Rattle.tftp_words.specs.FromDisk.{ClientStored, ran_of}
use Rattle.tftp_words.specs.PutFromDisk.{ClientSent, run_of}
use Rattle.tftp_words.specs.Ran.{AllAsk, AllServe, AreRan, AreSeveralRan, ClientRan, ServerRan}
use Rattle.tftp_words.specs.Ran.{finished_in, port_of}

abbrev pub A_server : Type 0
A_server = ServerRan its_calls stores sources

abbrev pub A_client : Type 0
A_client = ClientRan local_source local_sink

-- the job of a command is complete
abbrev pub IsDone : A_client → Type 0
IsDone ran =
    IsSome (finished_in local_source local_sink ran.words ran.status ran.before ran.after ran.ran)

-- the arguments of this client name the server, whose request port was bound; these are programs
-- with their traces, which an honest network joined in this order; their ports are fresh
pub record MeetAll (server : A_server) (client : A_client) : Type 0 where
  pub done : IsDone client
  pub port : ℕ
  pub is_port : port_of server ≡ Some port
  pub ask : AllAsk (endpoint server.ip port) (client ∷ [])
  pub programs : Programs stores sources local_source local_sink
  pub are_ran : AreRan server port (client ∷ []) programs
  pub order : List Noted
  pub is_order : IsOrder programs order
  pub honest : IsHonest programs order
  pub fresh : ArePortsFresh programs

-- the same of two servers at one address and port, the first of which serves the first client, and
-- the second the second
pub record SeveralMeetAll (first second : A_server) (get put : A_client) : Type 0 where
  pub ip : List ℕ
  pub port : ℕ
  pub serve : AllServe ip port (first ∷ second ∷ [])
  pub ask : AllAsk (endpoint ip port) (get ∷ put ∷ [])
  pub several : Several stores sources local_source local_sink
  pub are_ran : AreSeveralRan (first ∷ second ∷ []) port (get ∷ put ∷ []) several
  pub order : List Noted
  pub first_server : OneServer several
  pub is_first : slice_get several.servers 0 ≡ Some first_server
  pub second_server : OneServer several
  pub is_second : slice_get several.servers 1 ≡ Some second_server
  pub gets : OneClient several
  pub is_get : slice_get several.clients 0 ≡ Some gets
  pub puts : OneClient several
  pub is_put : slice_get several.clients 1 ≡ Some puts
  pub get_served : IsServed several order 0 first_server 0 gets
  pub put_served : IsServed several order 1 second_server 1 puts
  -- and the second server is passed over by the first client
  pub get_passed_over : IsPassedOver several order 1 second_server 0 gets

-- there are such runs
abbrev pub SomeMeetAll : Type 0
SomeMeetAll =
    (first : A_server) × (second : A_server) × (get : ClientStored local_source local_sink)
    × (put : ClientSent local_source local_sink)
    × MeetAll first (ran_of local_source local_sink get)
    × MeetAll second (run_of local_source local_sink put)
    × SeveralMeetAll first second (ran_of local_source local_sink get)
    (run_of local_source local_sink put)
