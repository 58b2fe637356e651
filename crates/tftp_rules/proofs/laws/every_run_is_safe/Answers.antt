-- The lemmas that are the law.
use Rattle.tftp_rules.proofs.Common.{std_rules}
use Rattle.tftp_rules.specs.Rules.{start}
use Rattle.tftp_rules.proofs.RecordedKept.{recorded_run, recorded_start}
use Rattle.tftp_rules.proofs.Runs.{Holds-start, Holds-run, IsSafeMachine-holds}
use Rattle.tftp_rules.proofs.laws.every_run_is_safe.Goals as goal

pub returns-clause-safe : goal.returns-clause-safe
returns-clause-safe c = λ network rules legal. IsSafeMachine-holds _ _ (Holds-run _ _ _ (Holds-start network) legal)

pub returns-clause-facts : goal.returns-clause-facts
returns-clause-facts c = λ network rules legal. Holds-run network rules start (Holds-start network) legal

pub returns-clause-recorded : goal.returns-clause-recorded
returns-clause-recorded c = search (std_rules, recorded_run, recorded_start)
