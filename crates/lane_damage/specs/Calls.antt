-- What the calls on the lanes of a link do.
use Rattle.std.specs.Prelude.{ℕ, ◌≡◌, ◌≤◌, ◌<◌, ◌⊎◌, List, length, get_or, set, replicate, Result, Err}
use Rattle.lane_damage.specs.OnWay.{OnWay, IsApply, IsDark, IsFlip, untouched}
use Rattle.lane_damage.specs.declared.refused.Refused.{Refused}
use Rattle.lane_damage.specs.declared.refused.Refused.TheVariants as refusals

-- what a call on a lane that is there does to this lane, and no other changes; a lane that is not there is refused
abbrev pub OnLane : (OnWay → OnWay → Result (Unit {0}) Refused → Type 0) → List OnWay → List OnWay → ℕ → Result (Unit {0}) Refused → Type 0
OnLane call vs ws lane result =
    ((length vs ≤ lane) × (result ≡ Err refusals.NoLane) × (ws ≡ vs)) ⊎
    ((lane < length vs) × ((w : OnWay) × call (get_or vs lane untouched) w result × (ws ≡ set vs lane w)))

abbrev pub IsFlipOf : List OnWay → List OnWay → ℕ → ℕ → Result (Unit {0}) Refused → Type 0
IsFlipOf vs ws lane bit result = OnLane (λ v w r. IsFlip v w bit r) vs ws lane result

abbrev pub IsDarkOf : List OnWay → List OnWay → ℕ → ℕ → ℕ → Result (Unit {0}) Refused → Type 0
IsDarkOf vs ws lane first count result = OnLane (λ v w r. IsDark v w first count r) vs ws lane result

-- the bytes stay where there is no such lane
abbrev pub IsApplyOf : List OnWay → List OnWay → ℕ → List ℕ → List ℕ → Result (Unit {0}) Refused → Type 0
IsApplyOf vs ws lane old new result =
    ((length vs ≤ lane) × (result ≡ Err refusals.NoLane) × (new ≡ old) × (ws ≡ vs)) ⊎
    ((lane < length vs) × ((w : OnWay) × IsApply (get_or vs lane untouched) w old new result × (ws ≡ set vs lane w)))

-- lanes of which no byte has passed, and to which nothing happens
abbrev pub AreUntouched : ℕ → List OnWay → Type 0
AreUntouched lanes vs = vs ≡ replicate lanes untouched
