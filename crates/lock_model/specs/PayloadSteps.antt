-- The steps of payload words that stand one after another on a lane.
use Rattle.std.specs.Prelude.{ℕ, ◌+◌, List, [], ◌∷◌}
use Rattle.lk_base.specs.declared.word.RxWord.{RxWord}
use Rattle.lane_model.specs.declared.role.Role.TheVariants as roles
use Rattle.lock_model.specs.declared.types.LaneStep.{LaneStep}
use Rattle.lock_model.specs.declared.types.LaneStep.TheVariants as steps

-- the first of them is payload word `number` of its metaframe, and begins at this bit position
abbrev pub payload_steps : ℕ → ℕ → List RxWord → List LaneStep
payload_steps number at [] = []
payload_steps number at (w ∷ ws) = steps.Word w (roles.Payload number) at ∷ payload_steps (number + 1) (at + 67) ws
