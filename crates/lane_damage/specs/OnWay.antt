-- A lane on its way, and what the calls on it do.
use Rattle.std.specs.Prelude.{ℕ, ◌≡◌, ◌+◌, ◌-◌, ◌*◌, ◌^◌, ◌⊎◌, ◌&&◌, ◌++◌, [], ◌∷◌, List, length, filter, max, nat_le, nat_lt, Option, Some, None, Result, Ok, Err, if◌then◌else◌}
use Rattle.lk_base.specs.Checksum.{bits_of_bytes}
use Rattle.lane_model.specs.Damage.{DarkBits, LaneDamage}
use Rattle.lane_damage.specs.Bits.{damaged_from}
use Rattle.lane_damage.specs.declared.refused.Refused.{Refused}
use Rattle.lane_damage.specs.declared.refused.Refused.TheVariants as refusals

-- a lane of which this many bytes have passed, and what happens to its other bits
pub record OnWay : Type 0 where
  pub passed : ℕ
  pub damage : LaneDamage

-- nothing happens to any bit
abbrev pub unharmed : LaneDamage
unharmed = record { skew = 0; flips = []; darks = [] }

-- no byte has passed, and nothing happens to any
abbrev pub untouched : OnWay
untouched = record { passed = 0; damage = unharmed }

-- one flip more
abbrev pub with_flip : ℕ → LaneDamage → LaneDamage
with_flip bit damage = record damage { flips = damage.flips ++ bit ∷ [] }

-- the bits of a stretch from bit n on
abbrev pub dark_from : ℕ → ℕ → ℕ → DarkBits
dark_from n first count = record { first = max first n; count = first + count - max first n }

-- one dark stretch more
abbrev pub with_dark : DarkBits → LaneDamage → LaneDamage
with_dark dark damage = record damage { darks = damage.darks ++ dark ∷ [] }

-- the rows that name bits from bit n on
abbrev pub from_bit : ℕ → LaneDamage → LaneDamage
from_bit n damage = record damage { flips = filter (λ bit. nat_le n bit) damage.flips; darks = filter (λ (d : DarkBits). nat_lt n (d.first + d.count)) damage.darks }

-- ---- why a call is refused

-- a flip of a bit that no lane has, or that has passed
abbrev pub flip_refusal : OnWay → ℕ → Option Refused
flip_refusal v bit = if nat_lt bit (2 ^ 44) then (if nat_lt bit (8 * v.passed) then Some refusals.Passed else None) else Some refusals.OutOfRange

-- a stretch that goes on past the last bit that a lane can have, or of which all bits have passed
abbrev pub dark_refusal : OnWay → ℕ → ℕ → Option Refused
dark_refusal v first count = if nat_le (first + count) (2 ^ 44) then (if nat_le (first + count) (8 * v.passed) then Some refusals.Passed else None) else Some refusals.OutOfRange

-- a lane of 2^40 bytes or more has no further byte, and no piece is as long
abbrev pub piece_refusal : OnWay → ℕ → Option Refused
piece_refusal v count = if nat_lt v.passed (2 ^ 40) && nat_lt count (2 ^ 40) then None else Some refusals.TooMany

-- ---- the calls on a lane. One that is refused leaves the lane as it was

-- from now on the bit is named by one flip more
abbrev pub IsFlip : OnWay → OnWay → ℕ → Result (Unit {0}) Refused → Type 0
IsFlip v w bit (Ok u) = (flip_refusal v bit ≡ None) × (w ≡ record v { damage = with_flip bit v.damage })
IsFlip v w bit (Err why) = ((flip_refusal v bit ≡ Some why) ⊎ ((flip_refusal v bit ≡ None) × (why ≡ refusals.OutOfMemory))) × (w ≡ v)

-- the bits of the stretch that have not passed are dark
abbrev pub IsDark : OnWay → OnWay → ℕ → ℕ → Result (Unit {0}) Refused → Type 0
IsDark v w first count (Ok u) = (dark_refusal v first count ≡ None) × (w ≡ record v { damage = with_dark (dark_from (8 * v.passed) first count) v.damage })
IsDark v w first count (Err why) = ((dark_refusal v first count ≡ Some why) ⊎ ((dark_refusal v first count ≡ None) × (why ≡ refusals.OutOfMemory))) × (w ≡ v)

-- the next bytes of the lane become those that are received; of the rows those are kept that name later bits
abbrev pub IsApply : OnWay → OnWay → List ℕ → List ℕ → Result (Unit {0}) Refused → Type 0
IsApply v w old new (Ok u) =
    (piece_refusal v (length old) ≡ None) × (bits_of_bytes new ≡ damaged_from v.damage (8 * v.passed) (bits_of_bytes old)) ×
    (w ≡ record { passed = v.passed + length old; damage = from_bit (8 * (v.passed + length old)) v.damage })
IsApply v w old new (Err why) = (piece_refusal v (length old) ≡ Some why) × (new ≡ old) × (w ≡ v)
