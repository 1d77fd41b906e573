-- What the makers of samples and of rows gave so far.
use Rattle.std.specs.Prelude.{◌≡◌, ℕ, ◌*◌, ◌<◌, ◌≤◌, List, [], ◌∷◌, length, take, All, IsTrue}
use Rattle.std.specs.List.Sorted.{IsNonDecreasingBy}
use Rattle.stream_model.specs.declared.rows.LocalRow.{LocalRow}
use Rattle.oob_flow.specs.Samples.{is_sample}
use Rattle.oob_flow.specs.Written.{frame_begin, BeginsAfterRows}
use Rattle.oob_flow.specs.WritingFrames.{StandsAt}
use Rattle.oob_flow.specs.Reading.{rows_of_samples}
use Rattle.oob_flow.specs.Receiving.{StandsIn}
use Rattle.oob_commands.specs.FlowFile.{flow_file}
use Rattle.oob_commands.specs.Frames.{frames_before}
use Rattle.oob_commands.specs.declared.reading.PlanLocal.{PlanLocal}
use Rattle.oob_commands.specs.declared.reading.PlanSamples.{PlanSamples}
use Rattle.oob_flow.specs.declared.frame_writer.FrameWriter.{FrameWriter}
use Rattle.oob_flow.specs.declared.incoming.OobIn.{OobIn}

-- the frames before frame k, each of which begins before the slot of some row
pub record GaveFrames (r : PlanLocal) (frames : FrameWriter) (given : List (List ℕ)) : Type 0 where
  pub order : IsNonDecreasingBy (λ (row : LocalRow). row.slot) r.local.items
  pub slots : All (λ (row : LocalRow). row.slot ≤ 16777215) r.local.items
  pub k : ℕ
  pub stands : StandsAt frames r.plan.entries.items r.local.items k
  pub early : (n : ℕ) → n < k → BeginsAfterRows r.plan.entries.items r.local.items n → ⊥
  pub begins : frame_begin r.plan.entries.items k ≤ 16779391
  pub is : given ≡ frames_before r.plan.entries.items r.local.items k ∷ []

-- the rows of the samples before this one, which are counted
pub record GaveRows (r : PlanSamples) (taker : OobIn) (slot count : ℕ) (given : List (List ℕ)) : Type 0 where
  pub samples : All (λ byte. IsTrue (is_sample byte)) r.samples.items
  pub short : length r.samples.items ≤ 4194304
  pub within : slot ≤ length r.samples.items
  pub stands : StandsIn taker (length r.plan.entries.items) (take slot r.samples.items)
  pub counted : count ≡ length (rows_of_samples (length r.plan.entries.items) (take slot r.samples.items))
  pub few : count ≤ 4 * slot
  pub is : given ≡ flow_file (rows_of_samples (length r.plan.entries.items) (take slot r.samples.items)) ∷ []
