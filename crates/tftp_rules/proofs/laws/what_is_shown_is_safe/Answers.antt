-- The lemmas that are the law.
use Rattle.tftp_rules.proofs.ViewSafe.{shown_safe, shown_at_home}
use Rattle.tftp_rules.proofs.laws.what_is_shown_is_safe.Goals as goal

pub returns-clause-safe : goal.returns-clause-safe
returns-clause-safe g = shown_safe

pub returns-clause-home : goal.returns-clause-home
returns-clause-home g = shown_at_home
