-- The addresses of the words before the index.
use Rattle.std.proofs.Common.{take}
use Rattle.tftp_daemon.specs.CommandLine.{NameEndpoints}
use Rattle.tftp_daemon.proofs.Addresses.{texts_of}
use Rattle.tftp_daemon.proofs.command_line.endpoints_in.Given as goal

abbrev pub invariant-loop-word : goal.invariant-loop-word
invariant-loop-word l = NameEndpoints (texts_of (take l.word-index l.words)) l.endpoints.items
