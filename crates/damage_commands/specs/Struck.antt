-- Which rows of a schedule struck a lane.
use Rattle.std.specs.Prelude.{ℕ, ◌+◌, nat_le, Bool, List, [], ◌∷◌, count_by}
use lib.Chars.{codes}
use Rattle.lk_base.specs.Checksum.{differ, digit}
use Rattle.lane_model.specs.Damage.{DarkBits, LaneDamage, damaged_bits}
use Rattle.link_reports.specs.Lines.{line_end, told}

-- how many of these bits differ from those at their place
unfoldable pub differing : List Bool → List Bool → ℕ
differing [] others = 0
differing (b ∷ bits) [] = 0
differing (b ∷ bits) (c ∷ others) = digit (differ b c) + differing bits others

-- how many of the sent bits of a lane are received otherwise
abbrev pub struck : LaneDamage → List Bool → ℕ
struck damage sent = differing (damaged_bits damage sent) sent

-- how many of the flips and dark stretches of a lane of this many bits begin at its end or past it, so that they name none of them
abbrev pub unused : LaneDamage → ℕ → ℕ
unused damage bits = count_by (λ bit. nat_le bits bit) damage.flips + count_by (λ (dark : DarkBits). nat_le bits dark.first) damage.darks

-- how a lane was damaged: its number, its skew, how many bits after the skew differ from the sent ones, and how many rows name no
-- bit of it
abbrev pub damaged_line : ℕ → ℕ → ℕ → ℕ → List ℕ
damaged_line lane skew bits unused =
    told (codes "damaged lane=") lane
    (told (codes " skew=") skew
    (told (codes " bits=") bits
    (told (codes " unused=") unused line_end)))
