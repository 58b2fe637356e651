-- What an end and its peer have agreed, for C.
use Rattle.std.specs.Prelude.{ℕ, ◌≡◌, ◌<◌, ◌⊎◌, true, false, Option, Some, None}
use Rattle.tftp_ends.specs.End.{record_of}
use Rattle.tftp_ends.specs.declared.record.Record.{Record}
use Rattle.tftp_server.specs.State.{at}
use Rattle.tftp_c.specs.Elsewhere.{stated_in_files}
use Rattle.tftp_c.specs.HeldServer.{CallersTransfer, Table}
use Rattle.tftp_c.specs.declared.client.Client.{Client}
use Rattle.tftp_c.specs.declared.event.TftpInfo.{TftpInfo}

-- the caller has set the size that the struct has (0), or a larger one (14), or a smaller one or none (11)
pub record InfoSize (info : TftpInfo) (fault : ℕ) : Type 0 where
  pub one : (fault ≡ 0) ⊎ (fault ≡ 14) ⊎ (fault ≡ 11)
  pub same : fault ≡ 0 → info.size ≡ 24
  pub larger : fault ≡ 14 → 24 < info.size
  pub smaller : fault ≡ 11 → info.size < 24

-- the length that was stated, if one was
abbrev pub SaysLength : Option ℕ → TftpInfo → Type 0
SaysLength None info = (info.has_length ≡ false) × (info.length ≡ 0)
SaysLength (Some whole) info = (info.has_length ≡ true) × (info.length ≡ whole)

-- the agreed timeout in seconds, or 0
abbrev pub agreed_seconds : Option ℕ → ℕ
agreed_seconds None = 0
agreed_seconds (Some seconds) = seconds

-- what an end with this record has agreed, whose peer, or itself, has stated this length
pub record InformsOf (r : Record) (stated : Option ℕ) (info : TftpInfo) : Type 0 where
  pub size : info.size ≡ 24
  pub length : SaysLength stated info
  pub timeout : info.timeout ≡ agreed_seconds r.timeout
  pub block_size : info.block_size ≡ r.size

abbrev pub Informs : Client → TftpInfo → Type 0
Informs c info = InformsOf (record_of c.end) c.stated info

-- nothing is said: the struct is that of a later version (14), or has no such size (11)
abbrev pub InfoRefused : TftpInfo → ℕ → Type 0
InfoRefused info returned =
    ((returned ≡ 14) × (24 < info.size)) ⊎ ((returned ≡ 11) × (info.size < 24))

-- or the handle is closed
abbrev pub InfoFault : Option Client → TftpInfo → ℕ → Type 0
InfoFault held info returned =
    InfoRefused info returned ⊎ ((returned ≡ 1) × (info.size ≡ 24) × (held ≡ None))

-- the transfer of this number is told of, by what its request or its answer has stated
pub record InformsAt (tid : ℕ) (table : Table) (info : TftpInfo) : Type 0 where
  pub transfer : CallersTransfer
  pub found : at tid table.held ≡ Some transfer
  pub informs : InformsOf (record_of transfer.end) (stated_in_files transfer.files) info

-- or no transfer has the number (9)
abbrev pub InfoFaultAt : ℕ → Table → TftpInfo → ℕ → Type 0
InfoFaultAt tid table info returned =
    InfoRefused info returned ⊎ ((returned ≡ 9) × (info.size ≡ 24) × (at tid table.held ≡ None))
