-- A buffer of the caller, as a sink in memory.
use Rattle.std.specs.Prelude.{ℕ, Bool, false, List, take, length}
use Rattle.tftp_file.specs.Memory.{MemSinkState}

-- the first bytes of a buffer are stored; its length is the capacity
abbrev pub stored : List ℕ → ℕ → Bool → MemSinkState
stored room used is_committed =
    record {
      holding = record { bytes = take used room; committed = is_committed; refuses = false };
      room = length room;
      refuses_commit = false;
    }
