-- A datagram at an open end of a world, and at a client. For `PlayedEnd::on_datagram` and ServedLemmas.
use Rattle.tftp_player.proofs.Common.{◌≡◌, ℕ, Bool, true, false, List, [], Option, None, rules, is_some, Files, Holding}
use Rattle.tftp_player.proofs.Common.{Record, is_client, outcome_of, record_of, AreFilesOf, AreSame, Turn, Endpoint}
use Rattle.tftp_player.proofs.Common.{OpenEnd, files_of, EndTakes, client_end, StoredFile, WorldEnd, standing, file_at}
use Rattle.tftp_player.proofs.Common.{in_the_way, EndStep, Effect, EndHandles, stands}
use Rattle.tftp_player.specs.Clients.{ClientTurns, ClientDatagramStep}
use Rattle.tftp_player.specs.EndSteps.{EndTurns}
use Rattle.tftp_player.specs.Played.{played_end, played_state, IsPlayed}
use Rattle.tftp_player.specs.PlayedClient.{PlayedClient}
use Rattle.tftp_player.specs.declared.played_end.PlayedEnd.{PlayedEnd}
use Rattle.tftp_player.specs.declared.played_end.PlayedEnd.TheVariants.{Client}
use Rattle.tftp_player.proofs.StepLemmas.{client_files as client_commits}

-- ---- an end, by whether it is open
-- what is recorded says whether it is
pub ended_as : (port : ℕ) (p : PlayedEnd) (r : Record) (b : Bool) → r ≡ record_of (played_state p) → is_some r.outcome ≡ b →
    is_some (outcome_of (played_end port p).state.position.phase) ≡ b
ended_as port p r b is e = search rules

-- an open end handles a datagram
pub open_takes : (x : OpenEnd) (y : WorldEnd) (effect : Effect) → is_some (outcome_of x.state.position.phase) ≡ false →
    (overwrite : Bool) (from : Endpoint) (bytes : List ℕ) (files files' : List StoredFile) →
    EndHandles overwrite from bytes x y files files' effect →
    EndTakes overwrite from bytes (standing x) y files files' effect
open_takes x y effect open_now overwrite from bytes files files' h = search rules

-- ---- a client
-- the files of a client's end are the client's
client_files : (port : ℕ) (c : PlayedClient) → AreFilesOf c.end.role.side c.files →
    files_of (client_end port c) ≡ c.files
client_files port c fits = search rules

-- the same kind of file
abbrev SameKind : Files (List ℕ) Holding → Files (List ℕ) Holding → Type 0
SameKind old new = AreSame (λ (a b : List ℕ). Unit {0}) (λ (a b : Holding). Unit {0}) old new

module _ (port : ℕ) (c c' : PlayedClient) (turn : Turn) (files : Files (List ℕ) Holding) (effect : Effect)
    (t : ClientTurns port c c' turn files effect) (kind : SameKind c.files files) where
  -- a turn of a client is one of its end
  client_turns : EndTurns (client_end port c) turn files (stands port (Client c')) effect
  client_turns = search rules

-- the step of a client does not depend on what is in its way
client_step :
    (there : Option (List ℕ)) (client : Bool) (from : Endpoint) (bytes : List ℕ) (x : OpenEnd)
    (files files' : Files (List ℕ) Holding) (turn : Turn) → client ≡ true →
    EndStep true None from bytes x.state files turn files' → EndStep client there from bytes x.state files turn files'
client_step there client from bytes x files files' turn is h = rw (is) h

-- a datagram at a client, which leaves the server's files
pub client_takes :
    (port : ℕ) (c c' : PlayedClient) (effect : Effect) → IsPlayed (Client c) →
    is_some (outcome_of c.end.position.phase) ≡ false → (from : Endpoint) (bytes : List ℕ) →
    ClientDatagramStep port from bytes c c' effect → (overwrite : Bool) (files : List StoredFile) →
    EndTakes overwrite from bytes (stands port (Client c)) (stands port (Client c')) files files effect
client_takes port c c' effect kept open_now from bytes t overwrite files =
    let x = client_end port c in
    let there = in_the_way overwrite (file_at files []) in
    open_takes x (stands port (Client c')) effect open_now overwrite from bytes files files (record {
      turn = t.turn;
      held = c'.files;
      steps =
          rw ((client_files port c kept.1)) (client_step there (is_client c.end.role.side) from bytes x c.files
          c'.files t.turn kept.0 t.steps);
      commits = client_commits overwrite (is_client c.end.role.side) _ [] _ files kept.0;
      turns = client_turns port c c' t.turn c'.files effect t.turns t.kind;
    })
