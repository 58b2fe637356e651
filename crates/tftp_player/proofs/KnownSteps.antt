-- The step of an end with a file in memory is one with a file of known content, and an answer from the server's
-- address is from the server. For Blameless and WorldRuns.
use Rattle.tftp_player.proofs.Common.{ℕ, List, sym, rules, memory_source, Holding, StoreFault, Files, Source, EndState}
use Rattle.tftp_player.proofs.Common.{Turn, DatagramStep, request_port, two_hosts, Endpoint, OpenEnd, host_server}
use Rattle.tftp_player.proofs.Common.{world_sink, SourcesModel, SinksModel, step_as, same_ips, Sink}
use Rattle.tftp_rules.specs.EndKept.{IsFromServer}
use Rattle.tftp_rules.specs.KnownFiles.{known_source, known_sink}

-- an answer from the address of the request port is from the server
pub from_server : (x : OpenEnd) (from : Endpoint) (bytes : List ℕ) → IsFromServer two_hosts x from bytes
from_server x from bytes waits near p spells answers = host_server from (sym (same_ips request_port from near))

module _ (may_commit : Holding → StoreFault → Type 0) where
  sources_known : SourcesModel (λ (text : List ℕ). text) memory_source known_source
  sources_known = search rules

  sinks_known : SinksModel (λ (holding : Holding). holding) (λ holding. Unit {0}) (world_sink may_commit) known_sink
  sinks_known = search rules

  -- the step with a file in memory
  pub known_step :
      (from : Endpoint) (bytes : List ℕ) (e : EndState) (files : Files (List ℕ) Holding) (turn : Turn)
      (files' : Files (List ℕ) Holding) →
      DatagramStep memory_source (world_sink may_commit) from bytes e files turn files' →
      DatagramStep known_source known_sink from bytes e files turn files'
  known_step from bytes e (Source s) turn (Source t) h =
      step_as memory_source (world_sink may_commit) known_source known_sink (λ (text : List ℕ). text)
      (λ (holding : Holding). holding) (λ holding. Unit {0}) sources_known sinks_known from bytes e (Source s) turn
      (Source t) tt h
  known_step from bytes e (Source s) turn (Sink l) h =
      step_as memory_source (world_sink may_commit) known_source known_sink (λ (text : List ℕ). text)
      (λ (holding : Holding). holding) (λ holding. Unit {0}) sources_known sinks_known from bytes e (Source s) turn
      (Sink l) tt h
  known_step from bytes e (Sink k) turn (Source t) h =
      step_as memory_source (world_sink may_commit) known_source known_sink (λ (text : List ℕ). text)
      (λ (holding : Holding). holding) (λ holding. Unit {0}) sources_known sinks_known from bytes e (Sink k) turn
      (Source t) tt h
  known_step from bytes e (Sink k) turn (Sink l) h =
      step_as memory_source (world_sink may_commit) known_source known_sink (λ (text : List ℕ). text)
      (λ (holding : Holding). holding) (λ holding. Unit {0}) sources_known sinks_known from bytes e (Sink k) turn
      (Sink l) tt h
