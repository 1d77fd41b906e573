use Rattle.std.proofs.Common.{ℕ, ◌≡◌, ◌+◌, ◌*◌, ◌++◌, List, length, take}
use Rattle.lk_base.specs.declared.word.Word.{Word}
use Rattle.lk_base.specs.Link.{Settings}
use Rattle.tx_end.specs.Lanes.{Carries}
use Rattle.tx_end.proofs.LaneSteps.{after_first}
use Rattle.tx_end.proofs.lane_writer.LaneWriter.put_eight.Given as goal

-- the first words are coded, and three bits of each wait
abbrev pub invariant-loop-place : goal.invariant-loop-place
invariant-loop-place l = record {
  carries : (s : Settings) (lane : ℕ) (given : List Word) (made : ℕ) (before : List ℕ) → Carries l.self s lane given made (before ++ take l.at l.initial.bytes) →
      Carries (after_first l.self l.key l.encoder l.bits l.words l.place) s lane (given ++ take l.place l.words) (made + l.place) (before ++ take (l.at + 8 * l.place) l.bytes);
  count : length l.bits ≡ 3 * l.place;
}
