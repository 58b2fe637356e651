-- How a handle opens for C.
use Rattle.std.specs.Prelude.{ℕ, zero, suc, if◌then◌else◌, ◌≡◌, ◌≤◌, false, List, length, Option}
use Rattle.std.specs.Prelude.{Some, None}
use Rattle.tftp_wire.specs.declared.mode.Mode.{Mode}
use Rattle.tftp_wire.specs.declared.mode.Mode.TheVariants.{Octet, Netascii}
use Rattle.tftp_negotiate.specs.declared.asked.Asked.{Asked}
use Rattle.tftp_ends.specs.declared.endpoint.Endpoint.{Endpoint}
use Rattle.tftp_ends.specs.End.{EndState, record_of, seconds_of}
use Rattle.tftp_ends.specs.Opening.{getting, putting}
use Rattle.tftp_c.specs.declared.client.Client.{Client}
use Rattle.tftp_c.specs.declared.event.TftpEndpoint.{TftpEndpoint}
use Rattle.tftp_c.specs.declared.event.TftpEvent.{TftpEvent}
use Rattle.tftp_c.specs.declared.event.TftpOptions.{TftpOptions}
use Rattle.tftp_c.specs.Reports.{endpoint_of, Sends, Reports}

-- a number that C gives, where 0 is none
abbrev pub nonzero : ℕ → Option ℕ
nonzero zero = None
nonzero (suc n) = Some (suc n)

-- the options that are asked; the length of the file if it is stated
abbrev pub asked_of : TftpOptions → ℕ → Asked
asked_of options length =
    record {
      blksize = nonzero options.blksize;
      timeout = nonzero options.timeout;
      tsize = if options.asks_tsize then Some length else None;
    }

abbrev pub mode_of : TftpOptions → Mode
mode_of options = if options.is_netascii then Netascii else Octet

-- a client that gets a file
abbrev pub gets : TftpEndpoint → List ℕ → TftpOptions → EndState
gets server name options =
    getting (endpoint_of server) name (mode_of options) (asked_of options 0) options.max_file
    options.retries

-- a client that puts a file of this length
abbrev pub puts : TftpEndpoint → List ℕ → ℕ → TftpOptions → EndState
puts server name length options =
    putting (endpoint_of server) name (mode_of options) (asked_of options length) length
    options.max_file options.retries

-- an end that opened sends its first datagram, which fits the buffer
pub record FirstSent (e : EndState) (peer : Endpoint) (reply : List ℕ) (event : TftpEvent) : Type 0
  where
    pub sends : Sends (Some peer) e.position.last_sent reply event
    pub fits : length e.position.last_sent ≤ length reply
    pub progress : event.progress ≡ false
    pub interval : event.interval ≡ seconds_of (record_of e).timeout
    pub reports : Reports e event

-- the end is at its opening as `expected`, and sends its first datagram
pub record Opened (e expected : EndState) (to : TftpEndpoint) (request : List ℕ)
    (event : TftpEvent) : Type 0 where
  pub state : e ≡ expected
  pub file : event.file_len ≡ 0
  pub sent : FirstSent e (endpoint_of to) request event

-- a handle holds such an end
abbrev pub Opens : Option Client → EndState → TftpEndpoint → List ℕ → TftpEvent → Type 0
Opens None expected to request event = ⊥
Opens (Some c) expected to request event = Opened c.end expected to request event
