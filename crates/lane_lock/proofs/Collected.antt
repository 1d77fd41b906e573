-- Payload words of a run, appended to the steps that are found.
use Rattle.std.proofs.Common.{ℕ, ◌≡◌, sym, ap, subst, ◌∙◌, ◌+◌, ◌*◌, Bool, List, ◌++◌, length, append_assoc, arith}
use Rattle.std.proofs.lemmas.List.{length-append}
use Rattle.lk_base.specs.declared.word.RxWord.{RxWord}
use Rattle.lock_model.specs.declared.types.LaneStep.{LaneStep}
use Rattle.lock_model.specs.PayloadSteps.{payload_steps}
use Rattle.lane_lock.specs.Found.{FoundSteps, found_steps}
use Rattle.lane_lock.specs.Lane.{LaneView}
use Rattle.lane_lock.specs.Run.{RunState, lane_ran}
use Rattle.lane_lock.proofs.Batches.{Ran}
use Rattle.lane_lock.proofs.FoundSteps.{length-payloads, payloads_on}
use Rattle.lane_lock.proofs.RunsReached.{Reached}

-- so many words were taken, and their steps stand after those that were there
pub record Collected (v : LaneView) (given : List Bool) (found : List LaneStep) (number start total done last : ℕ) (run : RunState) (room : ℕ) (now : FoundSteps) : Type 0 where
  pub plain : List RxWord
  pub reached : Reached v given found number start total done last run plain
  pub is : found_steps now ≡ found ++ payload_steps number start plain
  pub same_room : now.room ≡ room
  pub ran : Ran v (lane_ran v done last run) given done found (found_steps now)
  pub long : length (found_steps now) ≡ length found + done

module _ (v : LaneView) (given : List Bool) (found : List LaneStep) (number start total : ℕ) (room : ℕ) where
  pub collected : (done last : ℕ) (run : RunState) (now : FoundSteps) (plain : List RxWord) → Reached v given found number start total done last run plain → found_steps now ≡ found ++ payload_steps number start plain → now.room ≡ room →
      Collected v given found number start total done last run room now
  collected done last run now plain reached is same = record {
    plain = plain;
    reached = reached;
    is = is;
    same_room = same;
    ran = subst (λ (after : List LaneStep). Ran v (lane_ran v done last run) given done found after) (sym is) reached.ran;
    long = (
        let l : length (found_steps now) ≡ length found + length (payload_steps number start plain) = ap length is ∙ length-append found (payload_steps number start plain) in
        let p = length-payloads number start plain in
        let n = reached.long in
        omega (arith, l, p, n));
  }

  -- words more
  pub collected_more : (done last : ℕ) (run : RunState) (now : FoundSteps) (k : Collected v given found number start total done last run room now) (next code : ℕ) (new : RunState) (after : FoundSteps) (words : List RxWord) →
      Reached v given found number start total next code new (k.plain ++ words) → found_steps after ≡ found_steps now ++ payload_steps (number + done) (start + 67 * done) words → after.room ≡ now.room →
      Collected v given found number start total next code new room after
  collected_more done last run now k next code new after words reached more same =
      let all : payload_steps number start (k.plain ++ words) ≡ payload_steps number start k.plain ++ payload_steps (number + done) (start + 67 * done) words =
      payloads_on number start k.plain words ∙ ap (λ (n : ℕ). payload_steps number start k.plain ++ payload_steps (number + n) (start + 67 * n) words) k.reached.long in
      collected next code new after (k.plain ++ words) reached
      (more ∙ ap (λ (g : List LaneStep). g ++ payload_steps (number + done) (start + 67 * done) words) k.is
      ∙ append_assoc found (payload_steps number start k.plain) (payload_steps (number + done) (start + 67 * done) words)
      ∙ ap (λ (g : List LaneStep). found ++ g) (sym all))
      (same ∙ k.same_room)
