use Rattle.std.proofs.Common.{ℕ, ◌≡◌, ◌*◌, List, length, map}
use Rattle.lk_base.specs.declared.word.Word.{Word}
use Rattle.lk_base.specs.Link.{group_of}
use Rattle.tx_end.specs.Lanes.{AreFilled}
use Rattle.tx_end.specs.Rounds.{InRound}
use Rattle.tx_end.proofs.lanes.fill_group.Given as goal

abbrev pub invariant-loop-number : goal.invariant-loop-number
invariant-loop-number l = record {
  settings : l.filler.settings ≡ l.fn.filler.settings;
  files_count : length l.files ≡ l.fn.filler.settings.lanes;
  round : (words : List Word) (made : ℕ) → length words ≡ made * group_of l.fn.filler.settings → AreFilled l.fn.filler.settings words made l.fn.filler.lanes (map (λ file. file.items) l.fn.files) →
      InRound l.fn.filler.settings words l.group made l.number l.filler.lanes (map (λ file. file.items) l.files);
}
