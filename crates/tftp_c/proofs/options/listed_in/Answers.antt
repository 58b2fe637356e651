-- A datagram spells one packet, or none.
use Rattle.tftp_c.proofs.Common.{ap, sym, ◌∙◌, owned}
use Rattle.tftp_c.specs.Listed.{options_of}
use Rattle.tftp_c.proofs.options.listed_in.Goals as goal

pub returns-in-Ok : goal.returns-in-Ok
returns-in-Ok c =
    record {
      spelled = λ _. (owned c.in-Ok.packet, c.in-Ok.ensures.found);
      only = λ packet spells.
          ap options_of (sym (c.in-Ok.ensures.only packet spells)) ∙ sym c.options_of.ensures;
    }

pub returns-in-Err : goal.returns-in-Err
returns-in-Err c =
    record {
      spelled = λ some. absurd (cc);
      only = λ packet spells. absurd (c.in-Err.ensures.only packet spells);
    }
