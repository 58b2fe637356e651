-- What the options of a datagram state.
use Rattle.tftp_c.proofs.Common.{ℕ, Option, Some, None, List, ap, refl, sym, ◌∙◌}
use Rattle.std.specs.Prelude.{◌≡◌}
use Rattle.tftp_wire.specs.declared.options.RawOption.{RawOption}
use Rattle.tftp_negotiate.specs.Agreement.{stated_tsize}
use Rattle.tftp_c.specs.Listed.{Lists, options_of}
use Rattle.tftp_c.specs.Stated.{StatedBy, stated_in}

pub stated_by : (datagram : List ℕ) (options : List RawOption) (stated : Option ℕ) →
    Lists datagram (Some options) → stated ≡ stated_tsize options → StatedBy datagram stated
stated_by datagram options None lists is = λ packet spells. ap stated_in (lists.only packet spells) ∙ sym is
stated_by datagram options (Some whole) lists is =
    let it = lists.spelled refl in
    record { packet = it.0; spelled = it.1; stated = ap stated_in (lists.only it.0 it.1) ∙ sym is }

pub states_none : (datagram : List ℕ) → Lists datagram None → StatedBy datagram None
states_none datagram lists = λ packet spells. ap stated_in (lists.only packet spells)
