-- The counts of what a server noted (ours).
use Rattle.std.specs.Prelude.{ℕ, ◌+◌, min, Bool, true, false, ◌&&◌, if◌then◌else◌, List, [], ◌∷◌}
use Rattle.std.specs.Prelude.{Option, None, Some}
use Rattle.tftp_ends.specs.declared.outcome.Outcome.{Outcome}
use Rattle.tftp_ends.specs.declared.outcome.Outcome.TheVariants as outcomes
use Rattle.tftp_sockets.specs.declared.entry.Direction.{Direction}
use Rattle.tftp_sockets.specs.declared.entry.Direction.TheVariants.{Read, Write}
use Rattle.tftp_sockets.specs.declared.entry.Entry.{Entry}
use Rattle.tftp_sockets.specs.declared.entry.Entry.TheVariants as entries
use Rattle.tftp_status.specs.declared.counts.Counts.{Counts}
use Rattle.tftp_status.specs.declared.counts.TransferCounts.{TransferCounts}
use Rattle.tftp_status.specs.declared.counts.OutcomeCounts.{OutcomeCounts}

-- ---- what is counted
-- an outcome without what it carries
pub data Ended : Type 0 where
  Complete : Ended
  Timed_out : Ended
  Peer_error : Ended
  Illegal : Ended
  Refused : Ended
  Too_large : Ended
  Store_fault : Ended
  Source_fault : Ended
  Not_netascii : Ended

abbrev pub ended_by : Outcome → Ended
ended_by outcomes.Complete = Complete
ended_by outcomes.TimedOut = Timed_out
ended_by (outcomes.PeerError code) = Peer_error
ended_by outcomes.Illegal = Illegal
ended_by (outcomes.Refused refusal) = Refused
ended_by outcomes.TooLarge = Too_large
ended_by outcomes.StoreFault = Store_fault
ended_by outcomes.SourceFault = Source_fault
ended_by outcomes.NotNetascii = Not_netascii

-- two directions, and two outcomes, are the same
abbrev pub is_way : Direction → Direction → Bool
is_way Read Read = true
is_way Read Write = false
is_way Write Read = false
is_way Write Write = true

abbrev pub is_end : Ended → Ended → Bool
is_end Complete Complete = true
is_end Timed_out Timed_out = true
is_end Peer_error Peer_error = true
is_end Illegal Illegal = true
is_end Refused Refused = true
is_end Too_large Too_large = true
is_end Store_fault Store_fault = true
is_end Source_fault Source_fault = true
is_end Not_netascii Not_netascii = true
is_end one other = false

-- what an entry adds to each count, if it adds something
abbrev pub refused_by : Entry → Option ℕ
refused_by entries.Refused = Some 1
refused_by entry = None

abbrev pub busy_by : Entry → Option ℕ
busy_by entries.Busy = Some 1
busy_by entry = None

abbrev pub ignored_by : Entry → Option ℕ
ignored_by entries.Ignored = Some 1
ignored_by entry = None

abbrev pub lost_by : Entry → Option ℕ
lost_by entries.Lost = Some 1
lost_by entry = None

abbrev pub again_by : Entry → Option ℕ
again_by (entries.Closed direction outcome bytes again) = Some again
again_by entry = None

abbrev pub opened_by : Direction → Entry → Option ℕ
opened_by way (entries.Opened direction) = if is_way way direction then Some 1 else None
opened_by way entry = None

abbrev pub closed_by : Direction → Entry → Option ℕ
closed_by way (entries.Closed direction outcome bytes again) =
    if is_way way direction then Some 1 else None
closed_by way entry = None

abbrev pub bytes_by : Direction → Entry → Option ℕ
bytes_by way (entries.Closed direction outcome bytes again) =
    if is_way way direction then Some bytes else None
bytes_by way entry = None

abbrev pub ends_by : Direction → Ended → Entry → Option ℕ
ends_by way end (entries.Closed direction outcome bytes again) =
    if is_way way direction && is_end end (ended_by outcome) then Some 1 else None
ends_by way end entry = None

-- ---- the counts
-- a count stays at 2^64 - 1 once it is there
abbrev pub saturated : ℕ → ℕ
saturated n = min n 18446744073709551615

-- a sum and what is added to it, if something is
abbrev pub plus : Option ℕ → ℕ → ℕ
plus (Some more) sum = more + sum
plus None sum = sum

-- what these entries add together
abbrev pub total : (Entry → Option ℕ) → List Entry → ℕ
total adds [] = 0
total adds (entry ∷ before) = plus (adds entry) (total adds before)

abbrev pub saturated_count : (Entry → Option ℕ) → List Entry → ℕ
saturated_count adds noted = saturated (total adds noted)

abbrev pub outcomes_of : Direction → List Entry → OutcomeCounts
outcomes_of way noted = record {
  complete = saturated_count (ends_by way Complete) noted;
  timed_out = saturated_count (ends_by way Timed_out) noted;
  peer_error = saturated_count (ends_by way Peer_error) noted;
  illegal = saturated_count (ends_by way Illegal) noted;
  refused = saturated_count (ends_by way Refused) noted;
  too_large = saturated_count (ends_by way Too_large) noted;
  store_fault = saturated_count (ends_by way Store_fault) noted;
  source_fault = saturated_count (ends_by way Source_fault) noted;
  not_netascii = saturated_count (ends_by way Not_netascii) noted;
}

abbrev pub transfers_of : Direction → List Entry → TransferCounts
transfers_of way noted = record {
  opened = saturated_count (opened_by way) noted;
  closed = saturated_count (closed_by way) noted;
  bytes = saturated_count (bytes_by way) noted;
  outcomes = outcomes_of way noted;
}

-- the counts of these entries
abbrev pub counts_of : List Entry → Counts
counts_of noted = record {
  requests = record {
    refused = saturated_count refused_by noted;
    busy = saturated_count busy_by noted;
    ignored = saturated_count ignored_by noted;
    lost = saturated_count lost_by noted;
  };
  reads = transfers_of Read noted;
  writes = transfers_of Write noted;
  again = saturated_count again_by noted;
}

-- ---- one entry more
abbrev pub ended_with : Outcome → OutcomeCounts → OutcomeCounts
ended_with outcomes.Complete old = record old { complete = saturated (1 + old.complete) }
ended_with outcomes.TimedOut old = record old { timed_out = saturated (1 + old.timed_out) }
ended_with (outcomes.PeerError code) old =
    record old { peer_error = saturated (1 + old.peer_error) }
ended_with outcomes.Illegal old = record old { illegal = saturated (1 + old.illegal) }
ended_with (outcomes.Refused refusal) old = record old { refused = saturated (1 + old.refused) }
ended_with outcomes.TooLarge old = record old { too_large = saturated (1 + old.too_large) }
ended_with outcomes.StoreFault old = record old { store_fault = saturated (1 + old.store_fault) }
ended_with outcomes.SourceFault old = record old { source_fault = saturated (1 + old.source_fault) }
ended_with outcomes.NotNetascii old = record old { not_netascii = saturated (1 + old.not_netascii) }

abbrev pub closed_with : Outcome → ℕ → TransferCounts → TransferCounts
closed_with outcome bytes old = record old {
  closed = saturated (1 + old.closed);
  bytes = saturated (bytes + old.bytes);
  outcomes = ended_with outcome old.outcomes;
}

abbrev pub opened_with : TransferCounts → TransferCounts
opened_with old = record old { opened = saturated (1 + old.opened) }

abbrev pub after : Entry → Counts → Counts
after (entries.Opened Read) old = record old { reads = opened_with old.reads }
after (entries.Opened Write) old = record old { writes = opened_with old.writes }
after entries.Refused old =
    record old { requests = record old.requests { refused = saturated (1 + old.requests.refused) } }
after entries.Busy old =
    record old { requests = record old.requests { busy = saturated (1 + old.requests.busy) } }
after entries.Ignored old =
    record old { requests = record old.requests { ignored = saturated (1 + old.requests.ignored) } }
after entries.Lost old =
    record old { requests = record old.requests { lost = saturated (1 + old.requests.lost) } }
after (entries.Closed Read outcome bytes again) old = record old {
  reads = closed_with outcome bytes old.reads;
  again = saturated (again + old.again);
}
after (entries.Closed Write outcome bytes again) old = record old {
  writes = closed_with outcome bytes old.writes;
  again = saturated (again + old.again);
}
