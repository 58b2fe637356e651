-- How long a caller of C waits, as an event reports it.
use Rattle.std.specs.Prelude.{ℕ, ◌≡◌, if◌then◌else◌, Some}
use Rattle.tftp_ends.specs.Backoff.{timeouts_of, wait_of}
use Rattle.tftp_ends.specs.declared.backoff.Backoff.{Backoff}
use Rattle.tftp_ends.specs.declared.backoff.Backoff.TheVariants.{Constant, Doubling}
use Rattle.tftp_ends.specs.End.{EndState, record_of, seconds_of}
use Rattle.tftp_server.specs.State.{at}
use Rattle.tftp_c.specs.declared.event.TftpEvent.{TftpEvent}
use Rattle.tftp_c.specs.declared.event.TftpOptions.{TftpOptions}
use Rattle.tftp_c.specs.HeldServer.{CallersTransfer, Table}

-- whether the waits of an end grow
abbrev pub backoff_of : TftpOptions → Backoff
backoff_of options = if options.backoff then Doubling else Constant

-- the wait of an end in seconds: its interval, or longer after timeouts
abbrev pub Waits : Backoff → EndState → TftpEvent → Type 0
Waits backoff e event =
    event.interval ≡ wait_of backoff (seconds_of (record_of e).timeout) (timeouts_of e)

-- that of the transfer with the identifier, if there is one
abbrev pub WaitsAt : ℕ → Backoff → Table → TftpEvent → Type 0
WaitsAt tid backoff table event =
    (it : CallersTransfer) → at tid table.held ≡ Some it → Waits backoff it.end event
