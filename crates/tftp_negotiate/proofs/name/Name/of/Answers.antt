-- A text is the name whose letters it has, or else no name.
use Rattle.std.proofs.Common.{sym, ◌∙◌, rules}
use Rattle.tftp_negotiate.proofs.OptionsLemmas.{name_of-blksize, name_of-timeout, name_of-tsize, name_of-none}
use Rattle.tftp_negotiate.proofs.name.Name.of.Goals as goal

pub returns-then-means : goal.returns-then-means
returns-then-means c = sym (name_of-blksize c.args.text.now (sym c.means.ensures ∙ c.if-means.true))

pub returns-then-means-2 : goal.returns-then-means-2
returns-then-means-2 c = search (rules, name_of-timeout)

pub returns-then-means-3 : goal.returns-then-means-3
returns-then-means-3 c = search (rules, name_of-tsize)

pub returns-else-means-3 : goal.returns-else-means-3
returns-else-means-3 c = search (rules, name_of-none)
