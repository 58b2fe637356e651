-- The result of a job, from the facts of its calls.
use Rattle.tftp_client.proofs.Common.{Result, Ok, Err, ◌≡◌, ℕ, Bool, List, SinkMeaning, SourceMeaning, Files}
use Rattle.tftp_client.proofs.Common.{SocketEvent, State}
use Rattle.std.proofs.Common.{IfErr, rules}
use Rattle.tftp_client.specs.Runs.{DalliesTo}

-- for a last call whose result is returned as it is
pub if_err : {T E : Type 0} (r : Result T E) (P Q : E → Type 0) → ((e : E) → P e → Q e) → IfErr r P → IfErr r Q
if_err (Ok value) P Q weaker p = p
if_err (Err error) P Q weaker p = weaker error p

module _ {S K : Type 0} (sources : SourceMeaning S) (sinks : SinkMeaning K) where
  -- a client continued from this state, which is that one
  pub goes_on : {dallies : Bool} {most most' port port' : ℕ} {first first' : State} {file files : Files S K}
      {after : List SocketEvent} → most ≡ most' → port ≡ port' → first ≡ first'
      → DalliesTo sources sinks dallies most port first file after files
      → DalliesTo sources sinks dallies most' port' first' file after files
  goes_on {dallies} {most} {most'} {port} {port'} {first} {first'} {file} {files} {after} limit at is run = search
      rules
