-- A step over a buffer is a step over an empty sink in memory.
use Rattle.tftp_c.proofs.Common.{ℕ, false, length, take, ap, subst, sym, sink_through, Endpoint, Outgoing, EndState}
use Rattle.tftp_c.proofs.Common.{ReceiverStep, Turn, Lends, reported}
use Rattle.std.specs.Prelude.{◌≡◌, List}
use Rattle.tftp_file.specs.Memory.{MemSinkState, memory_sink, new_mem_sink}
use Rattle.tftp_ends.specs.declared.record.Step.{Step}
use Rattle.tftp_c.specs.declared.slice_sink.SliceSink.{SliceSink}
use Rattle.tftp_c.specs.Handled.{Stored}
use Rattle.tftp_c.specs.Slices.{stored}
use Rattle.tftp_c.proofs.SinkLemmas.{seen_step}

abbrev pub seen : SliceSink → MemSinkState
seen s = stored s.room.now s.used s.is_committed

pub stored_made : (from : Endpoint) (datagram : List ℕ) (before e : EndState) (k k' : SliceSink)
    (room file : List ℕ) (step : Step) (outgoing : Outgoing) (count : ℕ) →
    seen k ≡ new_mem_sink (length room) false →
    file ≡ k'.room.now →
    count ≡ k'.used →
    (turn : Turn) × ReceiverStep (sink_through memory_sink seen) from datagram before k turn k'
    × Lends before turn e step.to outgoing × (step ≡ reported before turn) →
    Stored from datagram before e room file step outgoing count
stored_made from datagram before e k k' room file step outgoing count empty same used h =
    record {
      turn = h.0;
      sink = seen k';
      makes =
          subst (λ (s : MemSinkState). ReceiverStep memory_sink from datagram before s h.0 (seen k'))
          empty
          (seen_step memory_sink seen from datagram before k h.0 k' h.1);
      lends = h.2;
      reports = h.3;
      stored =
          subst (λ (n : ℕ). take n file ≡ (seen k').holding.bytes) (sym used) (ap (take k'.used) same);
    }
