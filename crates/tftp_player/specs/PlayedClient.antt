-- What the struct that plays a world holds of a client.
use Rattle.std.specs.Prelude.{List, ℕ}
use Rattle.tftp_file.specs.declared.files.Files.{Files}
use Rattle.tftp_file.specs.Sink.{Holding}
use Rattle.tftp_ends.specs.End.{EndState}

-- a client: its end, the text left or the bytes received, and the file that it sends
pub record PlayedClient : Type 0 where
  pub end : EndState
  pub files : Files (List ℕ) Holding
  pub file : List ℕ
