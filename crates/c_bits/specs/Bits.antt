-- The bits of lanes that are fed, or taken, by bits: whole bytes, and a part of one.
use Rattle.std.specs.Prelude.{ℕ, ◌≡◌, ◌⊎◌, ◌<◌, ◌≤◌, ◌+◌, ◌-◌, ◌*◌, ◌/◌, ◌^◌, ◌==◌, ◌++◌, Bool, List, [], length, get_or, min, take, set, replicate, Result, Ok, Err, if◌then◌else◌}
use Rattle.lk_base.specs.Checksum.{bits_of, bits_of_bytes}

-- these bits are those of whole bytes, and then a part of a byte: fewer than eight
pub record IsCut (all : List Bool) (bytes : List ℕ) (part : List Bool) : Type 0 where
  pub bits : bits_of_bytes bytes ++ part ≡ all
  pub few : length part < 8

-- bits that are cut so
pub record CutBits : Type 0 where
  pub bytes : List ℕ
  pub part : List Bool

-- ---- the parts of all lanes

-- the part of a byte that a lane has
abbrev pub part_of : ℕ → List (List Bool) → List Bool
part_of lane parts = get_or parts lane []

-- no lane has one
abbrev pub no_parts : List (List Bool)
no_parts = replicate 64 []

-- a call on whole bytes of a lane: it is refused while the lane has a part of one, and only then
abbrev pub OfWhole : ℕ → List (List Bool) → Type 0 → Type 0 → Type 0
OfWhole lane parts refused done = ((part_of lane parts ≡ [] → ⊥) × refused) ⊎ ((part_of lane parts ≡ []) × done)

-- a call on so many bits: more than 64 are refused, and only then
abbrev pub OfBits : ℕ → Type 0 → Type 0 → Type 0
OfBits count refused done = ((64 < count) × refused) ⊎ ((count ≤ 64) × done)

-- ---- a lane is fed with bits

-- one piece of bits of a lane, what it completed, and what was taken of it
pub record Piece : Type 0 where
  pub given : List Bool
  -- the whole bytes that the part before and the piece complete, and how many of them the lane took
  pub bytes : List ℕ
  pub count : ℕ
  -- how many bits of the piece were taken
  pub taken : ℕ

-- A piece after this part leads to that part. If the lane takes all bytes, all bits are taken. If it takes some, those bits are taken that
-- complete them, and no part is left. If it takes none, no bit is taken, and the part stays
pub record IsPiece (old new : List Bool) (p : Piece) : Type 0 where
  pub rest : List Bool
  pub cut : IsCut (old ++ p.given) p.bytes rest
  pub within : p.count ≤ length p.bytes
  pub taken : p.taken ≡ (if p.count == length p.bytes then length p.given else 8 * p.count - length old)
  pub left : new ≡ (if p.count == length p.bytes then rest else if p.count == 0 then old else [])

-- a lane is fed with bits: it is fed with the bytes that they complete, by this call, which may refuse them
abbrev pub AreFed : {E : Type 0} → (List ℕ → Result ℕ E → Type 0) → List (List Bool) → List (List Bool) → ℕ → List Bool → Result ℕ E → Type 0
AreFed feeds old new lane given (Ok taken) =
    (p : Piece) × (part : List Bool) × feeds p.bytes (Ok p.count) × (p.given ≡ given) × (p.taken ≡ taken) × IsPiece (part_of lane old) part p × (new ≡ set old lane part)
AreFed feeds old new lane given (Err why) = (bytes : List ℕ) × (rest : List Bool) × IsCut (part_of lane old ++ given) bytes rest × feeds bytes (Err why) × (new ≡ old)

-- ---- bits of a lane are taken

-- how many bytes complete so many bits after this part
abbrev pub bytes_for : List Bool → ℕ → ℕ
bytes_for part count = (count - length part + 7) / 8

-- So many bits of a lane are asked for, and these bytes of it come. The part that was left, and then the bits of the bytes, are the number's
-- bits and the part that is left now. Fewer bits are given if and only if the bytes have no more
pub record IsGiven (old new : List Bool) (bytes : List ℕ) (count number taken : ℕ) : Type 0 where
  pub bits : bits_of taken number ++ new ≡ old ++ bits_of_bytes bytes
  pub few : length new < 8
  pub no_more : number < 2 ^ taken
  pub most : taken ≡ min count (length (old ++ bits_of_bytes bytes))
