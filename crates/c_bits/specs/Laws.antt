-- The law on pieces of bits.
use Rattle.std.specs.Prelude.{ℕ, ◌≡◌, ◌≤◌, ◌<◌, ◌++◌, Bool, List, [], ◌∷◌, length, take}
use Rattle.std.specs.List.{flat_map}
use Rattle.lk_base.specs.Checksum.{bits_of_bytes}
use Rattle.c_bits.specs.Bits.{IsPiece, Piece}

-- pieces of one lane, one after another
abbrev pub ArePieces : List Bool → List Piece → List Bool → Type 0
ArePieces old [] new = old ≡ new
ArePieces old (p ∷ pieces) new = (part : List Bool) × IsPiece old part p × ArePieces part pieces new

-- the bytes of a piece that the lane took, and the bits of it that were taken
abbrev pub bytes_taken : Piece → List ℕ
bytes_taken p = take p.count p.bytes

abbrev pub bits_taken : Piece → List Bool
bits_taken p = take p.taken p.given

-- In whatever pieces bits come: the bits of the bytes that a lane took, and the part that it has, are the bits that were taken.
abbrev pub BitsAreKept : Type 0
BitsAreKept = (pieces : List Piece) (new : List Bool) → ArePieces [] pieces new →
    (bits_of_bytes (flat_map bytes_taken pieces) ++ new ≡ flat_map bits_taken pieces) × (length new < 8)
