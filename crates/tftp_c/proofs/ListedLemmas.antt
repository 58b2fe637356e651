-- An option that was written is one of the packet that the datagram spells.
use Rattle.tftp_c.proofs.Common.{◌≡◌, List, refl, sym, length, take}
use Rattle.std.proofs.Common.{ℕ, Option, Some}
use Rattle.tftp_wire.specs.Options.{option_bytes}
use Rattle.tftp_wire.specs.declared.options.RawOption.{RawOption}
use Rattle.tftp_c.specs.Listed.{Lists, WritesOption}

pub writes_option : (find : List RawOption → Option RawOption) (datagram text : List ℕ) (count : ℕ)
    (options : List RawOption) (o : RawOption) →
    Lists datagram (Some options) →
    Some o ≡ find options →
    count ≡ length (option_bytes o) →
    take count text ≡ option_bytes o →
    WritesOption find datagram text count
writes_option find datagram text count options o lists found len written =
    let it = lists.spelled refl in
    record {
      option = o;
      has = record {
        packet = it.0;
        spelled = it.1;
        options = options;
        listed = lists.only it.0 it.1;
        found = sym found;
      };
      len = len;
      written = written;
    }
