-- The bits of numbers and the numbers of bits, bit 0 first; and the numbers of bits whose highest comes first.
use Rattle.std.specs.Prelude.{ℕ, zero, suc, ◌+◌, ◌*◌, ◌/◌, ◌%◌, ◌==◌, Bool, List, [], ◌∷◌, reverse}
use Rattle.lk_base.specs.Checksum.{digit}

-- the lowest `count` bits of x, bit 0 first
unfoldable pub low_bits : ℕ → ℕ → List Bool
low_bits zero x = []
low_bits (suc count) x = (x % 2 == 1) ∷ low_bits count (x / 2)

-- the number whose bit 0 is the first of these bits, and so on
unfoldable pub low_number : List Bool → ℕ
low_number [] = 0
low_number (b ∷ rest) = digit b + 2 * low_number rest

-- the number whose bit 0 is the last of these bits
abbrev pub high_number : List Bool → ℕ
high_number bits = low_number (reverse bits)
