-- A client's agreement on an OACK (RFC 2347, "Negotiation Protocol"; RFC 2348; RFC 2349).
use Rattle.std.specs.Prelude.{ℕ, List, [], ◌∷◌, Option, Some, None, Result, Ok, Err, ◌==◌, nat_le}
use Rattle.std.specs.Prelude.{if◌then◌else◌}
use Rattle.tftp_wire.specs.declared.options.RawOption.{RawOption}
use Rattle.tftp_wire.specs.declared.mode.Mode.{Mode}
use Rattle.tftp_negotiate.specs.declared.known.Kind.{Kind}
use Rattle.tftp_negotiate.specs.declared.known.Kind.TheVariants.{Read, Write}
use Rattle.tftp_negotiate.specs.declared.known.Known.{Known}
use Rattle.tftp_negotiate.specs.declared.known.Known.TheVariants.{Blksize, Timeout, Tsize}
use Rattle.tftp_negotiate.specs.declared.asked.Asked.{Asked}
use Rattle.tftp_negotiate.specs.declared.name.Name.{Name}
use Rattle.tftp_negotiate.specs.declared.name.Name.TheVariants as name
use Rattle.tftp_negotiate.specs.declared.refusal.Refusal.{Refusal}
use Rattle.tftp_negotiate.specs.declared.refusal.Refusal.TheVariants.{TooLarge, NotAsked, BadValue}
use Rattle.tftp_negotiate.specs.Options.{name_of, number_of}
use Rattle.tftp_negotiate.specs.Ranges.{is_in, block_sizes_to}
use Rattle.tftp_negotiate.specs.Asked.{asked_tsize}
use Rattle.tftp_negotiate.specs.Negotiation.{is_name, negotiated}

-- a block size from 8 to the requested one
abbrev pub taken_blksize : Option ℕ → Option ℕ → Result (Option Known) Refusal
taken_blksize None value = Err NotAsked
taken_blksize (Some most) None = Err BadValue
taken_blksize (Some most) (Some n) =
    if is_in (block_sizes_to most) n then Ok (Some (Blksize n)) else Err BadValue

-- the requested seconds
abbrev pub taken_timeout : Option ℕ → Option ℕ → Result (Option Known) Refusal
taken_timeout None value = Err NotAsked
taken_timeout (Some seconds) None = Err BadValue
taken_timeout (Some seconds) (Some n) = if n == seconds then Ok (Some (Timeout n)) else Err BadValue

-- a read accepts any length up to its limit, a write the length that it requested
abbrev pub taken_tsize : Option ℕ → Kind → ℕ → Option ℕ → Result (Option Known) Refusal
taken_tsize None kind limit value = Err NotAsked
taken_tsize (Some length) kind limit None = Err BadValue
taken_tsize (Some length) Read limit (Some n) =
    if nat_le n limit then Ok (Some (Tsize n)) else Err TooLarge
taken_tsize (Some length) Write limit (Some n) =
    if n == length then Ok (Some (Tsize n)) else Err BadValue

-- the agreement on a name and a value: an unknown name was not requested
abbrev pub taken : Asked → Kind → Mode → ℕ → Option Name → Option ℕ → Result (Option Known) Refusal
taken asked kind mode limit None value = Err NotAsked
taken asked kind mode limit (Some name.Blksize) value = taken_blksize asked.blksize value
taken asked kind mode limit (Some name.Timeout) value = taken_timeout asked.timeout value
taken asked kind mode limit (Some name.Tsize) value =
    taken_tsize (asked_tsize mode asked) kind limit value

-- the agreement on an option
unfoldable pub taken_option : Asked → Kind → Mode → ℕ → RawOption → Result (Option Known) Refusal
taken_option asked kind mode limit o =
    taken asked kind mode limit (name_of o.name) (number_of o.value)

-- a client's agreement on the options of an OACK: all of them, or the refusal
abbrev pub agreement : Asked → Kind → Mode → List RawOption → ℕ → Result (List Known) Refusal
agreement asked kind mode options limit = negotiated (taken_option asked kind mode limit) options

-- the length of the file that options state, in bytes of wire text: that of the first `tsize`
abbrev pub stated_tsize : List RawOption → Option ℕ
stated_tsize [] = None
stated_tsize (o ∷ os) =
    if is_name name.Tsize (name_of o.name) then number_of o.value else stated_tsize os
