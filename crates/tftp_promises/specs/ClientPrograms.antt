-- What a client did, complete or not, is the run of a program.
use Rattle.std.specs.Prelude.{ℕ, ◌≡◌, List, true, ◌++◌, length}
use Rattle.tftp_promises.specs.Common.{SourceMeaning, Endpoint, SinkMeaning, SocketEvent, EndState}
use Rattle.tftp_promises.specs.Common.{is_complete, State, Files, begun, Backoff, printed, Dallies}
pub use Rattle.tftp_wire.specs.declared.mode.Mode.{Mode}
pub use Rattle.tftp_wire.specs.declared.mode.Mode.TheVariants.{Octet, Netascii}
use Rattle.tftp_ends.specs.declared.side.Side.TheVariants.{ClientRead, ClientWrite}
use Rattle.tftp_client.specs.Converses.{Converses}
use Rattle.tftp_client.specs.Moved.{Moved, nothing_moved, run_moves}
use Rattle.tftp_promises.specs.ClientRuns.{moved_in}
use Rattle.tftp_promises.specs.Programs.{ClientOpens, ClientProgram, name_of}

module _ {G K : Type 0} {inputs : SourceMeaning G} {outputs : SinkMeaning K} where
  -- N of a complete program: how many bytes the file that it received was handed; or of one that it
  -- sent in octet, how long that is
  pub record IsCounted (count : ℕ) {to : Endpoint} (client : ClientProgram inputs outputs to)
      : Type 0 where
    pub complete : is_complete client.last.end.position.phase ≡ true
    pub received : client.first.role.side ≡ ClientRead →
        count ≡ length (moved_in client.runs).bytes
    pub sent : client.first.role.side ≡ ClientWrite → client.first.role.mode ≡ Octet →
        count ≡ client.first.role.length

module _ {G K : Type 0} (inputs : SourceMeaning G) (outputs : SinkMeaning K) {to : Endpoint} where
  -- a program at this address whose end opened so, which reached this state and noted what leads to
  -- it from that trace, and in whose run this moved
  pub record IsClientRun (ip : List ℕ) {first : EndState} {file : Files G K}
      (opens : ClientOpens inputs outputs to first file) (before : List SocketEvent) (s : State)
      (moved : Moved) : Type 0 where
    pub client : ClientProgram inputs outputs to
    pub address : client.ip ≡ ip
    pub end : client.first ≡ first
    pub name : name_of client.opens ≡ name_of opens
    pub begins : client.before ≡ before
    pub notes : s.events ≡ client.noted ++ before
    pub ends : client.last.end ≡ s.end
    pub moves : moved_in client.runs ≡ moved

  -- from its request on, and up to its line and from then on
  pub record IsProgramRun (ip : List ℕ) {first : EndState} {file : Files G K}
      (opens : ClientOpens inputs outputs to first file) (before : List SocketEvent)
      (backoff : Backoff) (port reading : ℕ) (s : State) (files : Files G K)
      (run : Converses inputs outputs port (begun backoff port reading first before) file s files)
      : Type 0 where
    pub runs_so : IsClientRun ip opens before s (run_moves run nothing_moved)
    pub stays_so : (line : List ℕ) (after : List SocketEvent)
        (stays : Dallies inputs outputs port (printed line s) files after)
        → IsClientRun ip opens before stays.last
        (run_moves stays.converses (run_moves run nothing_moved))

module _ {G K : Type 0} (inputs : SourceMeaning G) (outputs : SinkMeaning K) where
  abbrev pub ClientsArePrograms : Type 0
  ClientsArePrograms =
      (to : Endpoint) (ip : List ℕ) (first : EndState) (file : Files G K)
      (opens : ClientOpens inputs outputs to first file) (before : List SocketEvent)
      (backoff : Backoff) (port reading : ℕ) (s : State) (files : Files G K)
      (run : Converses inputs outputs port (begun backoff port reading first before) file s files)
      → IsProgramRun inputs outputs ip opens before backoff port reading s files run
