-- The path is inside the root.
use Rattle.std.specs.String.{string_bytes}
use Rattle.tftp_folder.proofs.served_folder.ServedFolder.check_place.Goals as goal

pub returns-in-Err-System-clause-inside : goal.returns-in-Err-System-clause-inside
returns-in-Err-System-clause-inside g c = c.check_replaced.ensures.inside (string_bytes c.args.self.now.root)

pub returns-in-Err-Rule-clause-inside : goal.returns-in-Err-Rule-clause-inside
returns-in-Err-Rule-clause-inside g c = c.check_replaced.ensures.inside (string_bytes c.args.self.now.root)
