use Rattle.std.proofs.Common.{ℕ, ◌≡◌, List, length, map}
use Rattle.lk_base.specs.declared.word.Word.{Word}
use Rattle.tx_end.specs.Lanes.{AreFilled}
use Rattle.tx_end.specs.Rounds.{InLastRound}
use Rattle.tx_end.proofs.lanes.finish.Given as goal

abbrev pub invariant-loop-number : goal.invariant-loop-number
invariant-loop-number l = record {
  settings : l.filler.settings ≡ l.fn.filler.settings;
  files_count : length l.files ≡ length l.fn.files;
  round : (words : List Word) (made : ℕ) → AreFilled l.fn.filler.settings words made l.fn.filler.lanes (map (λ file. file.items) l.fn.files) → InLastRound l.fn.filler.settings words made l.number l.filler.lanes (map (λ file. file.items) l.files);
}
