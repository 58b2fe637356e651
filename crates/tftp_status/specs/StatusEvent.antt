-- What was noted for a status file, and what was written to it, the newest first (ours).
use Rattle.std.specs.Prelude.{ℕ, List, [], ◌∷◌}
use Rattle.tftp_sockets.specs.declared.entry.Entry.{Entry}
use Rattle.tftp_status.specs.declared.datagrams.Way.{Way}

pub data StatusEvent : Type 0 where
  -- the server noted this entry
  Told : (entry : Entry) → StatusEvent
  -- a datagram went this way
  Moved : (way : Way) → StatusEvent
  -- this text was written to the file
  Handed : (text : List ℕ) → StatusEvent

-- what the server noted
abbrev pub told_in : List StatusEvent → List Entry
told_in [] = []
told_in (Told entry ∷ before) = entry ∷ told_in before
told_in (Moved way ∷ before) = told_in before
told_in (Handed text ∷ before) = told_in before

-- the texts that were written to the file
abbrev pub texts_in : List StatusEvent → List (List ℕ)
texts_in [] = []
texts_in (Told entry ∷ before) = texts_in before
texts_in (Moved way ∷ before) = texts_in before
texts_in (Handed text ∷ before) = text ∷ texts_in before
