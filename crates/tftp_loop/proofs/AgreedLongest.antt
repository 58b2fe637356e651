-- A store that was set for a read is so when it is asked for the file, and stays so. For open_at.
use Rattle.tftp_loop.proofs.Common.{ℕ, List, Limits, SourceMeaning, Endpoint, StoreMeaning, ServerState, Ask, Reads}
use Rattle.tftp_loop.proofs.Common.{CarriesOut, Left}
use Rattle.std.proofs.Common.{rules}
use Rattle.tftp_server.specs.Port.{granted_size}
use Rattle.tftp_loop.specs.Longest.{IsBoundedFor, longest_in}

-- what holds of a store that is bounded so
pub bounded_now : {S : Type 0} (is_bounded : S → ℕ → Type 0) (limits : Limits) (ask : Ask) (store : S)
    → is_bounded store (longest_in (granted_size limits ask)) → IsBoundedFor is_bounded limits ask store
bounded_now is_bounded limits (Reads path mode options) store set = set
bounded_now is_bounded limits ask store set = tt

module _ {S F D : Type 0} (meaning : StoreMeaning S D) (sources : SourceMeaning F) (old : ServerState S F D)
    (from : Endpoint) (bytes : List ℕ) (tid : ℕ) where
  -- so a store that was bounded before a read is bounded after it
  pub bounded_after : (is_bounded : S → ℕ → Type 0) (limits : Limits) (ask : Ask) (left : Left S F D)
      → CarriesOut meaning sources old from bytes ask tid left
      → is_bounded old.store (longest_in (granted_size limits ask))
      → IsBoundedFor is_bounded limits ask left.new.store
  bounded_after is_bounded limits ask left carries set = search rules
