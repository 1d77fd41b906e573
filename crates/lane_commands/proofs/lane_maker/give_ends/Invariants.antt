use Rattle.std.proofs.Common.{ℕ, ◌≡◌, List}
use Rattle.lk_base.specs.declared.word.Word.{Word}
use Rattle.run_shell.specs.Outputs.{open_names}
use Rattle.run_shell.specs.Rests.{join, rests_of}
use Rattle.tx_end.specs.Lanes.{AreFilled}
use Rattle.tx_end.specs.Rounds.{InLastRound}
use Rattle.lane_commands.proofs.lane_maker.give_ends.Given as goal

abbrev pub invariant-loop-number : goal.invariant-loop-number
invariant-loop-number l = record {
  settings : l.lanes.settings ≡ l.fn.lanes.settings;
  names : open_names l.outputs ≡ open_names l.fn.outputs;
  round : (words : List Word) (made : ℕ) (done : List (List ℕ)) → AreFilled l.fn.lanes.settings words made l.fn.lanes.lanes (join done (rests_of l.fn.outputs)) → InLastRound l.fn.lanes.settings words made l.number l.lanes.lanes (join done (rests_of l.outputs));
}
