-- What a status file says of its server beside what was counted (ours).
use Rattle.std.specs.Prelude.{ℕ, ◌≡◌}
use Rattle.std.specs.String.{string_bytes}
use Rattle.tftp_status.specs.declared.server_facts.ServerFacts.{ServerFacts}
use Rattle.tftp_status.specs.declared.status_text.Facts.{Facts}

-- the facts of a text of this server that is made at this time, in seconds since 1970 began in UTC
pub record AreFactsAt (time : ℕ) (server : ServerFacts) (facts : Facts) : Type 0 where
  pub labels_are : facts.labels ≡ server.labels
  pub version_is : facts.version.now ≡ string_bytes server.version
  pub limit_is : facts.limit ≡ server.limit
  pub start_is : facts.start ≡ server.start
  pub time_is : facts.time ≡ time
