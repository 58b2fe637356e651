-- Why a call on a file or a socket was refused (ours).
use Rattle.std.specs.Prelude.{ℕ, ℤ, unsigned_abs, List, ◌++◌, codes, Option, Some, None}
use Rattle.std.specs.Prelude.{if◌then◌else◌, ◌==◌}
use Rattle.std.specs.Fmt.{decimal}
use Rattle.tftp_lines.specs.declared.reason.Reason.{Reason}
use Rattle.tftp_lines.specs.declared.reason.Reason.TheVariants as reasons

-- the reason of an error number of Linux
abbrev pub reason_of_number : ℕ → Reason
reason_of_number number =
    if number == 1 then reasons.PermissionDenied else
    if number == 2 then reasons.NotFound else
    if number == 4 then reasons.Interrupted else
    if number == 5 then reasons.InputOutput else
    if number == 6 then reasons.NoDevice else
    if number == 11 then reasons.TryAgain else
    if number == 12 then reasons.OutOfMemory else
    if number == 13 then reasons.PermissionDenied else
    if number == 16 then reasons.Busy else
    if number == 17 then reasons.FileExists else
    if number == 18 then reasons.AnotherDevice else
    if number == 19 then reasons.NoDevice else
    if number == 20 then reasons.NotAFolder else
    if number == 21 then reasons.IsAFolder else
    if number == 22 then reasons.InvalidArgument else
    if number == 23 then reasons.TooManyOpenFiles else
    if number == 24 then reasons.TooManyOpenFiles else
    if number == 26 then reasons.ProgramRuns else
    if number == 27 then reasons.FileTooLarge else
    if number == 28 then reasons.NoSpace else
    if number == 30 then reasons.ReadOnlyFileSystem else
    if number == 32 then reasons.BrokenPipe else
    if number == 36 then reasons.NameTooLong else
    if number == 38 then reasons.NotSupported else
    if number == 39 then reasons.FolderNotEmpty else
    if number == 40 then reasons.TooManyLinks else
    if number == 75 then reasons.ValueTooLarge else
    if number == 90 then reasons.MessageTooLong else
    if number == 95 then reasons.NotSupported else
    if number == 97 then reasons.NoAddressFamily else
    if number == 98 then reasons.AddressInUse else
    if number == 99 then reasons.AddressNotAvailable else
    if number == 100 then reasons.NetworkDown else
    if number == 101 then reasons.NetworkUnreachable else
    if number == 105 then reasons.NoBufferSpace else
    if number == 110 then reasons.TimedOut else
    if number == 111 then reasons.ConnectionRefused else
    if number == 112 then reasons.HostDown else
    if number == 113 then reasons.HostUnreachable else
    if number == 116 then reasons.StaleFile else
    if number == 117 then reasons.DamagedFileSystem else
    if number == 122 then reasons.QuotaExceeded else
    reasons.System number

-- the reason of an error with this number, if it has one
abbrev pub reason_of : Option ℤ → Reason
reason_of (Some code) = reason_of_number (unsigned_abs code)
reason_of None = reasons.Other

-- the words for a reason
abbrev pub reason_words : Reason → List ℕ
reason_words reasons.NoSpace = codes "no space"
reason_words reasons.QuotaExceeded = codes "quota exceeded"
reason_words reasons.FileTooLarge = codes "file too large"
reason_words reasons.TooManyOpenFiles = codes "too many open files"
reason_words reasons.PermissionDenied = codes "permission denied"
reason_words reasons.ReadOnlyFileSystem = codes "read-only file system"
reason_words reasons.AnotherDevice = codes "another device"
reason_words reasons.OutOfMemory = codes "out of memory"
reason_words reasons.InputOutput = codes "input or output error"
reason_words reasons.NotFound = codes "not found"
reason_words reasons.NotAFolder = codes "not a folder"
reason_words reasons.InvalidArgument = codes "invalid argument"
reason_words reasons.BrokenPipe = codes "broken pipe"
reason_words reasons.NameTooLong = codes "name too long"
reason_words reasons.TooManyLinks = codes "too many links"
reason_words reasons.MessageTooLong = codes "message too long"
reason_words reasons.AddressInUse = codes "address in use"
reason_words reasons.AddressNotAvailable = codes "address not available"
reason_words reasons.NetworkDown = codes "network down"
reason_words reasons.NetworkUnreachable = codes "network unreachable"
reason_words reasons.NoBufferSpace = codes "no buffer space"
reason_words reasons.ConnectionRefused = codes "connection refused"
reason_words reasons.HostUnreachable = codes "host unreachable"
reason_words reasons.Interrupted = codes "interrupted"
reason_words reasons.NoDevice = codes "no such device"
reason_words reasons.TryAgain = codes "temporarily unavailable"
reason_words reasons.Busy = codes "busy"
reason_words reasons.FileExists = codes "file exists"
reason_words reasons.IsAFolder = codes "is a folder"
reason_words reasons.ProgramRuns = codes "program runs"
reason_words reasons.NotSupported = codes "not supported"
reason_words reasons.FolderNotEmpty = codes "folder not empty"
reason_words reasons.ValueTooLarge = codes "value too large"
reason_words reasons.NoAddressFamily = codes "address family not supported"
reason_words reasons.TimedOut = codes "timed out"
reason_words reasons.HostDown = codes "host down"
reason_words reasons.StaleFile = codes "stale file"
reason_words reasons.DamagedFileSystem = codes "damaged file system"
reason_words reasons.DraftReplaced = codes "draft replaced"
reason_words reasons.FileReplaced = codes "file replaced"
reason_words reasons.NameLocked = codes "name locked"
reason_words reasons.FolderReplaced = codes "folder replaced"
reason_words reasons.LeadsOut = codes "leads out of the folder"
reason_words reasons.ThroughLink = codes "through a link"
reason_words reasons.FileCut = codes "file cut short"
reason_words reasons.NoFolder = codes "no such folder"
reason_words reasons.NotAFile = codes "not a file"
reason_words reasons.ReadOnlyServer = codes "read-only server"
reason_words reasons.NotInUploads = codes "not in uploads"
reason_words reasons.LengthUnknown = codes "length unknown"
reason_words reasons.NameNotAllowed = codes "name not allowed"
reason_words reasons.LongerThanMaxFile = codes "longer than --max-file"
reason_words (reasons.System number) = codes "system error"
reason_words reasons.Other = codes "another error"

-- a reason, as the log has it
abbrev pub reason_text : Reason → List ℕ
reason_text (reasons.System number) = codes "system error " ++ decimal number
reason_text reason = reason_words reason
