-- Examples of the standards, computed from the definitions; no proof cites them.
use Rattle.tftp_rules.proofs.Common.{◌≡◌, refl, [], ◌∷◌, oack_size, name_of, number_of}
use Rattle.std.specs.Prelude.{codes}
use Rattle.std.specs.Fmt.{digits}

-- the block size of the standard's example, granted (RFC 2348, "Blocksize Option Specification")
example_size : oack_size (record { name = codes "blksize"; value = codes "1428" } ∷ []) ≡ 1428
unfolding name_of number_of digits
example_size = refl

-- the case of a name and the order of options have no meaning (RFC 2347, "Packet Formats")
any_case :
    oack_size
    (record { name = codes "timeout"; value = codes "1" }
    ∷ record { name = codes "BLKSIZE"; value = codes "1428" } ∷ [])
    ≡ 1428
unfolding name_of number_of digits
any_case = refl

-- without a block size it is 512 (RFC 1350, section 2)
default_size : oack_size (record { name = codes "timeout"; value = codes "1" } ∷ []) ≡ 512
unfolding name_of number_of digits
default_size = refl
