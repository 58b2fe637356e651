-- Steps of a world, from what happened at one index of it. For six other files.
use Rattle.tftp_player.proofs.Common.{◌≡◌, ◌≢◌, ℕ, ◌+◌, ◌<◌, ◌≤◌, Bool, true, List, length, Some, refl, rules, ◌⊎◌}
use Rattle.tftp_player.proofs.Common.{◌&&◌, not, slice_get, slice_get_within, timeout_turn, request_port, Endpoint}
use Rattle.tftp_player.proofs.Common.{OpenEnd, files_of, HasPorts, WorldState, ClosedEnd, WorldEnd, Open_end}
use Rattle.tftp_player.proofs.Common.{Closed_end, end_address, StoredFile, world_after, report_of, no_report}
use Rattle.tftp_player.proofs.Common.{FilesAfter, Delivery, WorldStep, Timeout, IsAtPort}

-- a client leaves the server's files
pub client_files : (overwrite client b : Bool) (path bytes : List ℕ) (files : List StoredFile) → client ≡ true →
    FilesAfter overwrite (not client && b) path bytes files files
client_files overwrite client b path bytes files e = search rules

-- a timeout of an open end, and of a closed one
pub timeout_step : (w : WorldState) (port k : ℕ) (x : OpenEnd) → IsAtPort w port k (Open_end x) →
    WorldStep w (Timeout port) (report_of w x (timeout_turn x.state))
    (world_after w k x (timeout_turn x.state) (files_of x) w.files)
timeout_step w port k x at = search rules

-- a timeout at a closed end changes nothing
pub timeout_stays : (w : WorldState) (port k : ℕ) (x : ClosedEnd) → IsAtPort w port k (Closed_end x) →
    WorldStep w (Timeout port) no_report w
timeout_stays w port k x at = (k, Closed_end x, at, record { reports = refl; is = refl })

-- if no end has the port
pub none_arrives : (w : WorldState) (from to : Endpoint) (bytes : List ℕ) → HasPorts w → to ≢ request_port →
    (to.port < 1024) ⊎ (1024 + length w.ends ≤ to.port) →
    Delivery w from to bytes no_report w
none_arrives w from to bytes ports away none = search (rules, slice_get_within)

-- if the end with the port is at the other host
pub other_arrives : (w : WorldState) (from to : Endpoint) (bytes : List ℕ) (k : ℕ) (x : WorldEnd) → HasPorts w →
    to ≢ request_port → slice_get w.ends k ≡ Some x → to.port ≡ 1024 + k →
    end_address x ≢ to → Delivery w from to bytes no_report w
other_arrives w from to bytes k x ports away there port differs = search rules
