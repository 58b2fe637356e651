-- The first option of the rest is next, and the bytes after it are options.
use Rattle.std.proofs.Common.{sym, ◌∙◌, rules}
use Rattle.tftp_wire.proofs.OptionsLemmas.{options_name, options_first, options_rest}
use Rattle.tftp_wire.proofs.options.OptionsIterIterator.next.Goals as goal

pub returns-in_err-value-clause-steps : goal.returns-in_err-value-clause-steps
returns-in_err-value-clause-steps c = search (rules, options_name)

pub invariant_of-self : goal.invariant_of-self
invariant_of-self c = options_rest _ _ _ _ _ c.in_ok-name.ensures c.in_ok-value.ensures c.self.invariant

pub returns-clause-steps : goal.returns-clause-steps
returns-clause-steps c = sym c.self.view_is ∙ options_first _ _ _ _ _ c.in_ok-name.ensures c.in_ok-value.ensures

pub returns-clause-goes : goal.returns-clause-goes
returns-clause-goes c = search (rules, options_first)
