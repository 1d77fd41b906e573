use Rattle.std.proofs.Common.{ℕ, ◌≡◌, ◌*◌, List, length}
use Rattle.lk_base.specs.declared.word.Word.{Word}
use Rattle.lk_base.specs.Link.{group_of}
use Rattle.run_shell.specs.Outputs.{open_names}
use Rattle.run_shell.specs.Rests.{join, rests_of}
use Rattle.tx_end.specs.Lanes.{AreFilled}
use Rattle.tx_end.specs.Rounds.{InRound}
use Rattle.lane_commands.proofs.lane_maker.give_group.Given as goal

abbrev pub invariant-loop-number : goal.invariant-loop-number
invariant-loop-number l = record {
  settings : l.lanes.settings ≡ l.fn.lanes.settings;
  names : open_names l.outputs ≡ open_names l.fn.outputs;
  round : (words : List Word) (made : ℕ) (done : List (List ℕ)) → length words ≡ made * group_of l.fn.lanes.settings → AreFilled l.fn.lanes.settings words made l.fn.lanes.lanes (join done (rests_of l.fn.outputs)) →
      InRound l.fn.lanes.settings words l.group made l.number l.lanes.lanes (join done (rests_of l.outputs));
}
