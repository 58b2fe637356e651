-- Texts in memory, for runs that show that the premises of a law can be met.
use Rattle.std.proofs.Common.{◌<◌, ℕ, List, arith, length, refl}
use Rattle.std.specs.Prelude.{IsUtf8}
use Rattle.std.specs.declared.alloc.Global.{Global}
use Rattle.std.specs.declared.string.String.{String}
use Rattle.std.specs.declared.vec.Vec.{Vec}
use denote.RawPtr.{null_ptr}

abbrev pub vec : (bytes : List ℕ) → length bytes < 1000 → Vec ℕ Global
vec bytes short = record {
  ptr = null_ptr;
  len = length bytes;
  cap = length bytes;
  alloc = record { memory = record { seal = tt } };
  items = bytes;
  ok = (refl, omega arith);
  small = omega (arith, short);
}

abbrev pub text : (bytes : List ℕ) → length bytes < 1000 → IsUtf8 bytes → String Global
text bytes short valid = record { bytes = vec bytes short; ok = ∣ valid ∣₁ }
