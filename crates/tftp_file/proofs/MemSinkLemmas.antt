-- The content of a full sink in memory. For `MemSinkSink::append`.
use Rattle.std.proofs.Common.{ℕ, Bool, false, List, ◌++◌, take, drop, Some, refl}
use Rattle.std.proofs.lemmas.List.{take-append-drop}
use Rattle.tftp_file.specs.Sink.{KeptPrefix}

-- the first n bytes of the piece are a prefix of it
pub kept_first : (bytes piece : List ℕ) (n : ℕ) (committed refuses : Bool)
    → KeptPrefix (record { bytes = bytes; committed = committed; refuses = refuses })
    (Some (record { bytes = bytes ++ take n piece; committed = false; refuses = refuses })) piece
kept_first bytes piece n committed refuses = record {
  holding = record { bytes = bytes ++ take n piece; committed = false; refuses = refuses };
  leaves = refl;
  kept = take n piece;
  prefix = (drop n piece, take-append-drop n piece);
  bytes = refl;
  uncommitted = λ e. cc;
  refuses = refl;
}
