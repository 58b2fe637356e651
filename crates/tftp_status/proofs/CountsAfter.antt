-- The counts of one entry more are those after it.
use Rattle.std.proofs.Common.{◌≡◌, ◌∙◌, ℕ, List, ◌∷◌, ◌+◌, refl, ap, arith}
use Rattle.tftp_ends.specs.declared.outcome.Outcome.{Outcome}
use Rattle.tftp_ends.specs.declared.outcome.Outcome.TheVariants as outcomes
use Rattle.tftp_sockets.specs.declared.entry.Direction.{Direction}
use Rattle.tftp_sockets.specs.declared.entry.Direction.TheVariants.{Read, Write}
use Rattle.tftp_sockets.specs.declared.entry.Entry.{Entry}
use Rattle.tftp_sockets.specs.declared.entry.Entry.TheVariants as entries
use Rattle.tftp_status.specs.declared.counts.TransferCounts.{TransferCounts}
use Rattle.tftp_status.specs.Counts.{after, again_by, bytes_by, closed_by, closed_with, counts_of}
use Rattle.tftp_status.specs.Counts.{ended_with, ends_by, opened_by, outcomes_of, saturated, total}
use Rattle.tftp_status.specs.Counts.{busy_by, ignored_by, lost_by, refused_by, transfers_of}
use Rattle.tftp_status.specs.Counts.Ended.{Complete, Timed_out, Peer_error, Illegal, Refused, Too_large}
use Rattle.tftp_status.specs.Counts.Ended.{Store_fault, Source_fault, Not_netascii}

-- a sum that is cut may be cut before, too
pub cut_twice : (n m : ℕ) → saturated (n + m) ≡ saturated (n + saturated m)
cut_twice n m = omega arith

ended_after : (way : Direction) (outcome : Outcome) (bytes again : ℕ) (noted : List Entry)
    → outcomes_of way (entries.Closed way outcome bytes again ∷ noted)
    ≡ ended_with outcome (outcomes_of way noted)
ended_after Read outcomes.Complete bytes again noted =
    ap (λ (n : ℕ). record (outcomes_of Read noted) { complete = n })
    (cut_twice 1 (total (ends_by Read Complete) noted))
ended_after Read outcomes.TimedOut bytes again noted =
    ap (λ (n : ℕ). record (outcomes_of Read noted) { timed_out = n })
    (cut_twice 1 (total (ends_by Read Timed_out) noted))
ended_after Read (outcomes.PeerError code) bytes again noted =
    ap (λ (n : ℕ). record (outcomes_of Read noted) { peer_error = n })
    (cut_twice 1 (total (ends_by Read Peer_error) noted))
ended_after Read outcomes.Illegal bytes again noted =
    ap (λ (n : ℕ). record (outcomes_of Read noted) { illegal = n })
    (cut_twice 1 (total (ends_by Read Illegal) noted))
ended_after Read (outcomes.Refused refusal) bytes again noted =
    ap (λ (n : ℕ). record (outcomes_of Read noted) { refused = n })
    (cut_twice 1 (total (ends_by Read Refused) noted))
ended_after Read outcomes.TooLarge bytes again noted =
    ap (λ (n : ℕ). record (outcomes_of Read noted) { too_large = n })
    (cut_twice 1 (total (ends_by Read Too_large) noted))
ended_after Read outcomes.StoreFault bytes again noted =
    ap (λ (n : ℕ). record (outcomes_of Read noted) { store_fault = n })
    (cut_twice 1 (total (ends_by Read Store_fault) noted))
ended_after Read outcomes.SourceFault bytes again noted =
    ap (λ (n : ℕ). record (outcomes_of Read noted) { source_fault = n })
    (cut_twice 1 (total (ends_by Read Source_fault) noted))
ended_after Read outcomes.NotNetascii bytes again noted =
    ap (λ (n : ℕ). record (outcomes_of Read noted) { not_netascii = n })
    (cut_twice 1 (total (ends_by Read Not_netascii) noted))
ended_after Write outcomes.Complete bytes again noted =
    ap (λ (n : ℕ). record (outcomes_of Write noted) { complete = n })
    (cut_twice 1 (total (ends_by Write Complete) noted))
ended_after Write outcomes.TimedOut bytes again noted =
    ap (λ (n : ℕ). record (outcomes_of Write noted) { timed_out = n })
    (cut_twice 1 (total (ends_by Write Timed_out) noted))
ended_after Write (outcomes.PeerError code) bytes again noted =
    ap (λ (n : ℕ). record (outcomes_of Write noted) { peer_error = n })
    (cut_twice 1 (total (ends_by Write Peer_error) noted))
ended_after Write outcomes.Illegal bytes again noted =
    ap (λ (n : ℕ). record (outcomes_of Write noted) { illegal = n })
    (cut_twice 1 (total (ends_by Write Illegal) noted))
ended_after Write (outcomes.Refused refusal) bytes again noted =
    ap (λ (n : ℕ). record (outcomes_of Write noted) { refused = n })
    (cut_twice 1 (total (ends_by Write Refused) noted))
ended_after Write outcomes.TooLarge bytes again noted =
    ap (λ (n : ℕ). record (outcomes_of Write noted) { too_large = n })
    (cut_twice 1 (total (ends_by Write Too_large) noted))
ended_after Write outcomes.StoreFault bytes again noted =
    ap (λ (n : ℕ). record (outcomes_of Write noted) { store_fault = n })
    (cut_twice 1 (total (ends_by Write Store_fault) noted))
ended_after Write outcomes.SourceFault bytes again noted =
    ap (λ (n : ℕ). record (outcomes_of Write noted) { source_fault = n })
    (cut_twice 1 (total (ends_by Write Source_fault) noted))
ended_after Write outcomes.NotNetascii bytes again noted =
    ap (λ (n : ℕ). record (outcomes_of Write noted) { not_netascii = n })
    (cut_twice 1 (total (ends_by Write Not_netascii) noted))

closed_after : (way : Direction) (outcome : Outcome) (bytes again : ℕ) (noted : List Entry)
    → transfers_of way (entries.Closed way outcome bytes again ∷ noted)
    ≡ closed_with outcome bytes (transfers_of way noted)
closed_after Read outcome bytes again noted =
    rw (ended_after Read outcome bytes again noted)
    (rw (cut_twice bytes (total (bytes_by Read) noted))
    (rw (cut_twice 1 (total (closed_by Read) noted)) refl))
closed_after Write outcome bytes again noted =
    rw (ended_after Write outcome bytes again noted)
    (rw (cut_twice bytes (total (bytes_by Write) noted))
    (rw (cut_twice 1 (total (closed_by Write) noted)) refl))

pub counts_after : (entry : Entry) (noted : List Entry)
    → counts_of (entry ∷ noted) ≡ after entry (counts_of noted)
counts_after (entries.Opened Read) noted =
    ap (λ (n : ℕ). record (counts_of noted) {
      reads = record (transfers_of Read noted) { opened = n };
    })
    (cut_twice 1 (total (opened_by Read) noted))
counts_after (entries.Opened Write) noted =
    ap (λ (n : ℕ). record (counts_of noted) {
      writes = record (transfers_of Write noted) { opened = n };
    })
    (cut_twice 1 (total (opened_by Write) noted))
counts_after entries.Refused noted =
    ap (λ (n : ℕ). record (counts_of noted) {
      requests = record (counts_of noted).requests { refused = n };
    })
    (cut_twice 1 (total refused_by noted))
counts_after entries.Busy noted =
    ap (λ (n : ℕ). record (counts_of noted) {
      requests = record (counts_of noted).requests { busy = n };
    })
    (cut_twice 1 (total busy_by noted))
counts_after entries.Ignored noted =
    ap (λ (n : ℕ). record (counts_of noted) {
      requests = record (counts_of noted).requests { ignored = n };
    })
    (cut_twice 1 (total ignored_by noted))
counts_after entries.Lost noted =
    ap (λ (n : ℕ). record (counts_of noted) {
      requests = record (counts_of noted).requests { lost = n };
    })
    (cut_twice 1 (total lost_by noted))
counts_after (entries.Closed Read outcome bytes again) noted =
    ap (λ (n : ℕ). record (counts_of noted) {
      reads = transfers_of Read (entries.Closed Read outcome bytes again ∷ noted);
      again = n;
    })
    (cut_twice again (total again_by noted))
    ∙ ap (λ (t : TransferCounts). record (counts_of noted) {
      reads = t;
      again = saturated (again + (counts_of noted).again);
    })
    (closed_after Read outcome bytes again noted)
counts_after (entries.Closed Write outcome bytes again) noted =
    ap (λ (n : ℕ). record (counts_of noted) {
      writes = transfers_of Write (entries.Closed Write outcome bytes again ∷ noted);
      again = n;
    })
    (cut_twice again (total again_by noted))
    ∙ ap (λ (t : TransferCounts). record (counts_of noted) {
      writes = t;
      again = saturated (again + (counts_of noted).again);
    })
    (closed_after Write outcome bytes again noted)
