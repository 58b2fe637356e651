-- What a source of a file gives of what reads of the file returned (ours).
use Rattle.std.specs.Prelude.{ℕ, ◌≡◌, List, [], ◌∷◌, ◌++◌, length, Option, None, IsSome}
use Rattle.std.specs.declared.io.Error.{Error}
use Rattle.tftp_wire.specs.declared.mode.Mode.{Mode}
use Rattle.tftp_file.specs.Block.{IsPrefixOf}
use Rattle.tftp_file.specs.Netascii.{wire_text}
use Rattle.tftp_disk.specs.DiskTrace.{DiskEvent}
use Rattle.tftp_disk.specs.DiskTrace.DiskEvent.{Given}
use Rattle.tftp_disk.specs.Given.{given, GaveBytes, IsAtEnd}
use Rattle.tftp_disk.specs.declared.disk_source.DiskSource.{DiskSource}

-- these calls read bytes: a piece was appended to a buffer, and what is left of what was left
-- before and of the wire text of the bytes is left
pub record Passes (mode : Mode) (left left_after : List ℕ) (before after : List DiskEvent)
    (old new : List ℕ) (count : ℕ) : Type 0 where
  pub bytes : List ℕ
  pub reads : GaveBytes before after bytes
  pub piece : List ℕ
  pub appended : new ≡ old ++ piece
  pub long : length piece ≡ count
  pub text : left ++ wire_text mode bytes ≡ piece ++ left_after

-- a read returned bytes, which were appended to a buffer
pub record AppendsRead (before after : List DiskEvent) (old new : List ℕ) (count : ℕ)
    : Type 0 where
  pub bytes : List ℕ
  pub noted : after ≡ Given bytes ∷ before
  pub appended : new ≡ old ++ bytes
  pub long : length bytes ≡ count

-- these calls read bytes: the text that was left, and then theirs, is that which is ahead, and then
-- that which is left
pub record HoldsAhead (mode : Mode) (left ahead left_after : List ℕ) (before after : List DiskEvent)
    : Type 0 where
  pub bytes : List ℕ
  pub reads : GaveBytes before after bytes
  pub text : left ++ wire_text mode bytes ≡ ahead ++ left_after

module _ {F : Type 0} where
  -- the calls on the open file of a source
  abbrev pub source_calls : DiskSource F → List DiskEvent
  source_calls source = source.file.trace.events

  -- the error of a failed read: after it the source gives nothing
  abbrev pub source_error : DiskSource F → Option Error
  source_error source = source.error

  -- the mode of a source
  abbrev pub source_mode : DiskSource F → Mode
  source_mode source = source.mode

  -- the wire text that a source has left of what was read: what was read ahead, and then its buffer
  abbrev pub pending : DiskSource F → List ℕ
  pending source = source.ahead ++ source.buffer

  -- the wire text of what reads of the file returned, since its opening or its newest rewind
  abbrev pub wire_read : DiskSource F → List ℕ
  wire_read source = wire_text (source_mode source) (given (source_calls source))

  -- a source of a file in this mode, which has read nothing of it
  pub record IsUnread (mode : Mode) (source : DiskSource F) : Type 0 where
    pub has_mode : source_mode source ≡ mode
    pub sound : source_error source ≡ None
    pub empty : pending source ≡ []

  -- a call of a source that gave this piece: what was left before, and then the wire text of what
  -- the call read, is the piece and what is left; after a failed read it gives nothing
  pub record GivesPiece (before : DiskSource F) (piece : List ℕ) (after : DiskSource F)
      : Type 0 where
    pub mode : source_mode after ≡ source_mode before
    pub bytes : List ℕ
    pub reads : GaveBytes (source_calls before) (source_calls after) bytes
    pub text : source_error after ≡ None → (source_error before ≡ None)
        × (pending before ++ wire_text (source_mode before) bytes ≡ piece ++ pending after)
    pub none : IsSome (source_error after) → piece ≡ []

  -- the text has ended, by the newest read, and nothing of it is left
  pub record HasEnded (source : DiskSource F) : Type 0 where
    pub sound : source_error source ≡ None
    pub none : pending source ≡ []
    pub end : IsAtEnd (source_calls source)

  -- what a source has given is a beginning of the wire text of what reads of its file returned, in
  -- order and each byte once: all but what it has left, unless a read failed
  pub record HasGiven (source : DiskSource F) (text : List ℕ) : Type 0 where
    pub begins : IsPrefixOf text (wire_read source)
    pub whole : source_error source ≡ None → wire_read source ≡ text ++ pending source
