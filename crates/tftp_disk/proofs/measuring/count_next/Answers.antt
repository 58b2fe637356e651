-- What is counted is the length of the bytes that were read, and of their text.
use Rattle.std.proofs.Common.{rules}
use Rattle.std.proofs.lemmas.List.{length-take}
use Rattle.tftp_disk.proofs.MeasuringLemmas.{counts_chunk, few_bytes}
use Rattle.tftp_disk.proofs.measuring.count_next.Goals as goal

pub returns-in-Ok-clause-counts : goal.returns-in-Ok-clause-counts
returns-in-Ok-clause-counts g c = search (rules, length-take, counts_chunk)

pub returns-in-Ok-clause-few : goal.returns-in-Ok-clause-few
returns-in-Ok-clause-few g c = few_bytes _ _ _ (returns-in-Ok-clause-counts g c)
