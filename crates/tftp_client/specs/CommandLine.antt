-- The job that the words of a command line name, as they were read (own).
use Rattle.std.specs.Prelude.{ℕ, ◌≡◌, ◌≢◌, true, false, if◌then◌else◌, List, codes, Some, None}
use Rattle.std.specs.Str.{bytes_eq}
use Rattle.tftp_wire.specs.declared.mode.Mode.TheVariants.{Octet, Netascii}
use Rattle.tftp_negotiate.specs.declared.asked.Asked.{Asked}
use Rattle.tftp_negotiate.specs.declared.known.Kind.{Kind}
use Rattle.tftp_negotiate.specs.declared.known.Kind.TheVariants.{Read, Write}
use Rattle.tftp_ends.specs.declared.backoff.Backoff.TheVariants.{Constant, Doubling}
use Rattle.tftp_disk.specs.declared.existing.Existing.TheVariants.{Refused, Replaced}
use Rattle.tftp_arguments.specs.Read.{IsChosen, IsFlag, IsNumber, ReadWords}
use Rattle.tftp_sockets.specs.Address.{Names}
use Rattle.tftp_client.specs.declared.command_line.CommandLine.{CommandLine}
use Rattle.tftp_client.specs.declared.command_line.CommandLine.TheVariants.{Run, Exit}
use Rattle.tftp_client.specs.declared.transfer.Job.{Job}

-- the direction of a subcommand
abbrev pub kind_named : List ℕ → Kind
kind_named word = if bytes_eq word (codes "put") then Write else Read

-- the options that were requested; the length of a file by 0
-- (RFC 2349, "Transfer Size Option Specification")
pub record AsksAs (read : ReadWords) (asked : Asked) : Type 0 where
  pub blksize : IsNumber 16 (read.text (codes "blksize")) asked.blksize
  pub timeout : IsNumber 8 (read.text (codes "timeout")) asked.timeout
  pub tsize : IsChosen (read.text (codes "tsize")) (Some 0) None asked.tsize

-- the job has this direction, and the names, the endpoint, the mode and the options that were read
pub record NamesJob (kind : Kind) (read : ReadWords) (job : Job) : Type 0 where
  pub kind_is : job.kind ≡ kind
  pub name : read.word (codes "NAME") ≡ Some job.name.now
  pub local : read.word (codes "LOCAL") ≡ Some job.local.now
  pub server : (word : List ℕ) × (read.word (codes "ADDR:PORT") ≡ Some word)
      × Names word (Some job.server) × (job.server.port ≢ 0)
  pub existing : IsChosen (read.text (codes "replace")) Replaced Refused job.existing
  pub mode : IsChosen (read.text (codes "netascii")) Netascii Octet job.mode
  pub dallies : IsChosen (read.text (codes "no-dally")) false true job.dallies
  pub asked : AsksAs read job.asked
  pub retries : IsNumber 8 (read.text (codes "retries")) (Some job.retries)
  pub backoff : IsChosen (read.text (codes "backoff")) Doubling Constant job.backoff
  pub falls_back : IsFlag (read.text (codes "fallback")) job.falls_back

-- what holds of the job that a command line has the program run
abbrev pub IfRun : CommandLine → (Job → Type 0) → Type 0
IfRun (Run job) P = P job
IfRun (Exit status) P = Unit {0}

-- what holds of the status that a command line has the program end with
abbrev pub IfExit : CommandLine → (ℕ → Type 0) → Type 0
IfExit (Run job) P = Unit {0}
IfExit (Exit status) P = P status
