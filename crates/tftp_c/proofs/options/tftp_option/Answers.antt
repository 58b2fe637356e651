-- The option that was found is written.
use Rattle.tftp_wire.specs.Borrowed.{owned_option}
use Rattle.tftp_c.specs.Listed.{option_at}
use Rattle.tftp_c.proofs.ListedLemmas.{writes_option}
use Rattle.tftp_c.proofs.options.tftp_option.Goals as goal

pub returns-in-Some-option_at : goal.returns-in-Some-option_at
returns-in-Some-option_at c = λ some.
    writes_option (option_at c.args.index) c.args.datagram.now c.write.new.text c.write.result
    c.iter.result
    (owned_option c.in-Some-option_at.option)
    (search (c.in-Some.ensures, c.iter.ensures))
    c.in-Some-option_at.ensures
    (c.write.ensures.len some)
    (c.write.ensures.written some)
