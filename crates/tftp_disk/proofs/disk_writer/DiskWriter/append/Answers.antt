-- Memory lacks only if the buffer was made with less space.
use Rattle.std.proofs.Common.{rules}
use Rattle.tftp_disk.proofs.disk_writer.DiskWriter.append.Goals as goal

pub returns-in-Err-clause-refused : goal.returns-in-Err-clause-refused
returns-in-Err-clause-refused g c = search rules
