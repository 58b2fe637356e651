-- Each end has its own file.
use Rattle.tftp_ends.specs.Files.{AreFilesOf}
use Rattle.tests_memory.proofs.speed.converse.Given as goal

abbrev pub invariant-loop : goal.invariant-loop
invariant-loop g l = AreFilesOf l.server.role.side l.file × AreFilesOf l.client.role.side l.copy
