-- What rows mean.
use Rattle.std.specs.Prelude.{ℕ, ◌-◌, List, map}
use Rattle.lane_model.specs.Damage.{DarkBits, LaneDamage}
use Rattle.lane_damage.specs.declared.rows.Stretch.{Stretch}

abbrev pub dark_bits : Stretch → DarkBits
dark_bits s = record { first = s.first; count = s.end - s.first }

-- what happens to a lane by these rows
abbrev pub damage_of : List ℕ → List Stretch → LaneDamage
damage_of flips darks = record { skew = 0; flips = flips; darks = map dark_bits darks }
