-- A step, as an event reports it.
use Rattle.tftp_c.proofs.Common.{ℕ, Option, Some, None, ap, sym, subst, ◌∙◌, Endpoint, Outgoing, EndState, Lends, Turn}
use Rattle.tftp_c.proofs.Common.{reported, TftpEvent, TftpEndpoint, endpoint_of, ReceiverStep, false, length, take}
use Rattle.std.specs.Prelude.{◌≡◌, List, option_map}
use Rattle.tftp_file.specs.Memory.{memory_sink, memory_source, new_mem_sink}
use Rattle.tftp_ends.specs.OneFile.{SenderStep}
use Rattle.tftp_ends.specs.declared.record.Step.{Step}
use Rattle.tftp_ends.specs.End.{is_progress}
use Rattle.tftp_ends.specs.Step.{Reply, lent, reply_bytes, timeout_turn}
use Rattle.tftp_c.specs.Handled.{Received, Sent, Steps, Stored, Taken, TimedOut}
use Rattle.tftp_c.specs.Reports.{Reports, Sends, SendsReply}

sends_reply : (reply : Option Reply) (to : Option Endpoint) (bytes buffer : List ℕ)
    (event : TftpEvent) →
    to ≡ option_map (λ (r : Reply). r.to) reply →
    bytes ≡ reply_bytes reply →
    Sends to bytes buffer event →
    SendsReply reply buffer event
sends_reply None to bytes buffer event goes is h =
    subst (λ (t : Option Endpoint). Sends t bytes buffer event) goes h
sends_reply (Some reply) to bytes buffer event goes is h =
    subst (λ (b : List ℕ). Sends (Some reply.to) b buffer event) is
    (subst (λ (t : Option Endpoint). Sends t bytes buffer event) goes h)

-- the step that was made, from what was lent and reported
pub steps_of : (before : EndState) (turn : Turn) (e : EndState) (step : Step) (outgoing : Outgoing)
    (buffer : List ℕ) (event : TftpEvent) →
    Lends before turn e step.to outgoing →
    step ≡ reported before turn →
    Sends step.to (lent outgoing e) buffer event →
    event.progress ≡ step.progress →
    Reports e event →
    Steps before turn e buffer event
steps_of before turn e step outgoing buffer event lends is sends progress reports =
    record {
      state = lends.state;
      sends =
          sends_reply turn.reply step.to (lent outgoing e) buffer event lends.goes lends.bytes
          sends;
      progress =
          subst
          (λ (s : EndState). event.progress ≡ is_progress before.position.phase s.position.phase)
          (sym lends.state)
          (progress ∙ ap (λ (s : Step). s.progress) is);
      reports = reports;
    }

-- the step of a receiver over a buffer
pub received : (from : TftpEndpoint) (peer : Endpoint) (datagram : List ℕ) (before e : EndState) (room file : List ℕ)
    (step : Step) (outgoing : Outgoing) (count : ℕ) (reply : List ℕ) (event : TftpEvent) →
    peer ≡ endpoint_of from →
    Stored peer datagram before e room file step outgoing count →
    Sends step.to (lent outgoing e) reply event →
    event.file_len ≡ count →
    event.progress ≡ step.progress →
    Reports e event →
    Received from datagram before e room file reply event
received from peer datagram before e room file step outgoing count reply event is s sends len progress reports =
    record {
      turn = s.turn;
      sink = s.sink;
      makes =
          subst
          (λ (p : Endpoint). ReceiverStep memory_sink p datagram before (new_mem_sink (length room) false) s.turn s.sink)
          is s.makes;
      stored = subst (λ (n : ℕ). take n file ≡ s.sink.holding.bytes) (sym len) s.stored;
      steps = steps_of before s.turn e step outgoing reply event s.lends s.reports sends progress reports;
    }

-- and of a sender over the next bytes of its file
pub sent : (from : TftpEndpoint) (peer : Endpoint) (datagram : List ℕ) (before e : EndState) (next : List ℕ)
    (step : Step) (outgoing : Outgoing) (count : ℕ) (reply : List ℕ) (event : TftpEvent) →
    peer ≡ endpoint_of from →
    Taken peer datagram before e next step outgoing count →
    Sends step.to (lent outgoing e) reply event →
    event.file_len ≡ count →
    event.progress ≡ step.progress →
    Reports e event →
    Sent from datagram before e next reply event
sent from peer datagram before e next step outgoing count reply event is s sends len progress reports =
    record {
      turn = s.turn;
      rest = s.rest;
      makes =
          subst (λ (p : Endpoint). SenderStep memory_source p datagram before next s.turn s.rest) is s.makes;
      taken = len ∙ s.taken;
      steps = steps_of before s.turn e step outgoing reply event s.lends s.reports sends progress reports;
    }

pub timed_out : (before e : EndState) (step : Step) (outgoing : Outgoing) (buffer : List ℕ)
    (event : TftpEvent) →
    Lends before (timeout_turn before) e step.to outgoing →
    step ≡ reported before (timeout_turn before) →
    Sends step.to (lent outgoing e) buffer event →
    event.file_len ≡ 0 →
    event.progress ≡ step.progress →
    Reports e event →
    TimedOut before e buffer event
timed_out before e step outgoing buffer event lends is sends file progress reports =
    record {
      file = file;
      steps =
          steps_of before (timeout_turn before) e step outgoing buffer event lends is sends
          progress reports;
    }
