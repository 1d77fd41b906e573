-- What a call does by a handle of damage.
use Rattle.std.specs.Prelude.{ℕ, ◌≡◌, ◌<◌, ◌≤◌, ◌⊎◌, List, Option, Some, None, Result, Ok, Err}
use Rattle.lane_damage.specs.OnWay.{OnWay}
use Rattle.lane_damage.specs.Calls.{AreUntouched, IsApplyOf, IsDarkOf, IsFlipOf}
use Rattle.lane_damage.specs.declared.refused.Refused.{Refused}
use Rattle.c_damage.specs.Codes.{damage_code}
use Rattle.c_parts.specs.Codes.{done, in_use, no_damage, out_of_memory, out_of_range}
use Rattle.c_parts.specs.OnHeld.{OnHeld}

abbrev pub GivesResult : Result (Unit {0}) Refused → ℕ → Type 0
GivesResult (Ok u) code = code ≡ done
GivesResult (Err why) code = code ≡ damage_code why

-- it is made for so many lanes, of which no byte has passed and to which nothing happens; or there are none or more than 64 of them, or
-- memory ran out
abbrev pub OpensDamage : ℕ → Option (List OnWay) → ℕ → Type 0
OpensDamage lanes (Some vs) code = (1 ≤ lanes) × (lanes ≤ 64) × AreUntouched lanes vs × (code ≡ done)
OpensDamage lanes None code = (((lanes < 1) ⊎ (64 < lanes)) × (code ≡ out_of_range)) ⊎ ((1 ≤ lanes) × (lanes ≤ 64) × (code ≡ out_of_memory))

-- a handle that has damage keeps it
abbrev pub MakesDamage : Option (List OnWay) → Option (List OnWay) → ℕ → ℕ → Type 0
MakesDamage None new lanes code = OpensDamage lanes new code
MakesDamage (Some vs) new lanes code = (new ≡ Some vs) × (code ≡ in_use)

-- afterwards there is no damage
abbrev pub FreesDamage : Option (List OnWay) → Option (List OnWay) → ℕ → Type 0
FreesDamage None new code = (new ≡ None) × (code ≡ no_damage)
FreesDamage (Some vs) new code = (new ≡ None) × (code ≡ done)

abbrev pub Flips : Option (List OnWay) → Option (List OnWay) → ℕ → ℕ → ℕ → Type 0
Flips old new lane bit code = OnHeld (code ≡ no_damage) (λ (vs ws : List OnWay). (result : Result (Unit {0}) Refused) × IsFlipOf vs ws lane bit result × GivesResult result code) old new

abbrev pub Darkens : Option (List OnWay) → Option (List OnWay) → ℕ → ℕ → ℕ → ℕ → Type 0
Darkens old new lane first count code = OnHeld (code ≡ no_damage) (λ (vs ws : List OnWay). (result : Result (Unit {0}) Refused) × IsDarkOf vs ws lane first count result × GivesResult result code) old new

-- the bytes stay where there is no damage
abbrev pub Damages : Option (List OnWay) → Option (List OnWay) → ℕ → List ℕ → List ℕ → ℕ → Type 0
Damages old new lane before after code =
    OnHeld ((code ≡ no_damage) × (after ≡ before)) (λ (vs ws : List OnWay). (result : Result (Unit {0}) Refused) × IsApplyOf vs ws lane before after result × GivesResult result code) old new
