-- The bits of a lane that are received, for what happens to this lane.
use Rattle.std.specs.Prelude.{ℕ, ◌≡◌, ◌≤◌, ◌+◌, ◌*◌, ◌%◌, ◌==◌, nat_le, nat_lt, Bool, true, false, not, ◌&&◌, if◌then◌else◌, List, ◌++◌, map, replicate, count_by, Contains}
use Rattle.std.specs.List.{enumerate_from, list_any}
use Rattle.lk_base.specs.Link.{Settings}

-- the sent bits that are dark: this many from `first` on
pub record DarkBits : Type 0 where
  pub first : ℕ
  pub count : ℕ

-- what happens to a lane: this many ones in front, sent bits that are inverted, and stretches that are dark. Sent bits
-- are counted from 0
pub record LaneDamage : Type 0 where
  pub skew : ℕ
  pub flips : List ℕ
  pub darks : List DarkBits

-- a dark stretch covers sent bit number n
abbrev pub is_dark : LaneDamage → ℕ → Bool
is_dark damage n = list_any (λ dark. nat_le dark.first n && nat_lt n (dark.first + dark.count)) damage.darks

-- an odd number of flips names it
abbrev pub is_flipped : LaneDamage → ℕ → Bool
is_flipped damage n = count_by (λ b. b == n) damage.flips % 2 == 1

-- sent bit number n as it is received: 0 where it is dark, else inverted where it is flipped
abbrev pub received_bit : LaneDamage → ℕ × Bool → Bool
received_bit damage (n, b) = if is_dark damage n then false else if is_flipped damage n then not b else b

-- the sent bits as they are received
abbrev pub damaged_bits : LaneDamage → List Bool → List Bool
damaged_bits damage sent = map (received_bit damage) (enumerate_from 0 sent)

-- the received bits of a lane: the ones in front, and then each sent bit, inverted, dark or as it was
abbrev pub received_bits : LaneDamage → List Bool → List Bool
received_bits damage sent = replicate damage.skew true ++ damaged_bits damage sent

-- no received bit differs from the sent one
abbrev pub IsUndamaged : LaneDamage → List Bool → Type 0
IsUndamaged damage sent = damaged_bits damage sent ≡ sent

-- no two of these skews differ by more than the bits of `deskew` words
abbrev pub IsWithinDepth : Settings → List ℕ → Type 0
IsWithinDepth s skews = (a b : ℕ) → Contains skews a → Contains skews b → a ≤ b + 67 * s.deskew
