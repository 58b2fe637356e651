-- The transfer that was aborted is the one whose record was read.
use Rattle.tftp_c.proofs.Common.{ℕ, Option, Some, None, refl, subst, at, TftpEvent, Table}
use Rattle.std.specs.Prelude.{◌≡◌, List, option_map}
use Rattle.tftp_ends.specs.declared.record.Record.{Record}
use Rattle.tftp_ends.specs.End.{record_of}
use Rattle.tftp_server.specs.State.{without}
use Rattle.tftp_c.specs.Aborted.{AbortsAt, AbortsOpen}
use Rattle.tftp_c.specs.HeldServer.{CallersTransfer}

-- the record that was read is the transfer's
record_there : (found : Option CallersTransfer) (state : Record) →
    Some state ≡ option_map (λ (t : CallersTransfer). record_of t.end) found →
    (transfer : CallersTransfer) × (found ≡ Some transfer) × (state ≡ record_of transfer.end)
record_there None state is = absurd (cc)
record_there (Some transfer) state is = (transfer, refl, cc)

pub aborts_at : (tid code : ℕ) (text reply : List ℕ) (event : TftpEvent) (old new : Table) (state : Record) →
    Some state ≡ option_map (λ (t : CallersTransfer). record_of t.end) (at tid old.held) →
    AbortsOpen state code text reply event →
    new ≡ record old { held = without tid old.held } →
    AbortsAt tid code text reply event old new
aborts_at tid code text reply event old new state is aborts removed =
    let there : (transfer : CallersTransfer) × (at tid old.held ≡ Some transfer) × (state ≡ record_of transfer.end) =
    record_there (at tid old.held) state is in
    record {
      transfer = there.0;
      found = there.1;
      aborts = subst (λ (r : Record). AbortsOpen r code text reply event) there.2 aborts;
      removed = removed;
    }
