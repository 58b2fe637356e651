-- A server's answer to a request (RFC 2347, "Negotiation Protocol"; RFC 2348; RFC 2349).
use Rattle.std.specs.Prelude.{ℕ, List, Option, Some, None, Result, Ok, Err, ◌==◌, min, nat_le}
use Rattle.std.specs.Prelude.{if◌then◌else◌}
use Rattle.tftp_wire.specs.declared.options.RawOption.{RawOption}
use Rattle.tftp_wire.specs.declared.mode.Mode.{Mode}
use Rattle.tftp_wire.specs.declared.mode.Mode.TheVariants.{Octet, Netascii}
use Rattle.tftp_negotiate.specs.declared.known.Kind.{Kind}
use Rattle.tftp_negotiate.specs.declared.known.Kind.TheVariants.{Read, Write}
use Rattle.tftp_negotiate.specs.declared.known.Known.{Known}
use Rattle.tftp_negotiate.specs.declared.known.Known.TheVariants.{Blksize, Timeout, Tsize}
use Rattle.tftp_negotiate.specs.declared.limits.Limits.{Limits}
use Rattle.tftp_negotiate.specs.declared.name.Name.{Name}
use Rattle.tftp_negotiate.specs.declared.name.Name.TheVariants as name
use Rattle.tftp_negotiate.specs.declared.refusal.Refusal.{Refusal}
use Rattle.tftp_negotiate.specs.declared.refusal.Refusal.TheVariants.{TooLarge}
use Rattle.tftp_negotiate.specs.Options.{name_of, number_of}
use Rattle.tftp_negotiate.specs.Ranges.{is_in, block_sizes, timeouts}
use Rattle.tftp_negotiate.specs.Negotiation.{negotiated}

-- the requested block size, but at most the server's maximum
abbrev pub answered_blksize : ℕ → ℕ → Option Known
answered_blksize n max_block =
    if is_in block_sizes n then Some (Blksize (min n max_block)) else None

-- the requested seconds
abbrev pub answered_timeout : ℕ → Option Known
answered_timeout n = if is_in timeouts n then Some (Timeout n) else None

-- a read requests 0, and the answer is the length of the wire text; a write requests its own
-- length, which the server may refuse
abbrev pub answered_tsize : Mode → Kind → ℕ → ℕ → ℕ → Result (Option Known) Refusal
answered_tsize Netascii kind length max_file n = Ok None
answered_tsize Octet Read length max_file n = Ok (if n == 0 then Some (Tsize length) else None)
answered_tsize Octet Write length max_file n =
    if nat_le n max_file then Ok (Some (Tsize n)) else Err TooLarge

-- the answer to a name and a number: an unknown name, and a value that is not a number, are ignored
abbrev pub answered : Kind → Mode → ℕ → Limits → Option Name → Option ℕ
    → Result (Option Known) Refusal
answered kind mode length limits None value = Ok None
answered kind mode length limits (Some name) None = Ok None
answered kind mode length limits (Some name.Blksize) (Some n) =
    Ok (answered_blksize n limits.max_block)
answered kind mode length limits (Some name.Timeout) (Some n) = Ok (answered_timeout n)
answered kind mode length limits (Some name.Tsize) (Some n) =
    answered_tsize mode kind length limits.max_file n

-- the answer to an option
unfoldable pub answered_option : Kind → Mode → ℕ → Limits → RawOption
    → Result (Option Known) Refusal
answered_option kind mode length limits o =
    answered kind mode length limits (name_of o.name) (number_of o.value)

-- a server's answer to the options of a request: an OACK of the list, no OACK if the list is empty,
-- or a refusal
abbrev pub answer : List RawOption → Kind → Mode → ℕ → Limits → Result (List Known) Refusal
answer options kind mode length limits =
    negotiated (answered_option kind mode length limits) options
