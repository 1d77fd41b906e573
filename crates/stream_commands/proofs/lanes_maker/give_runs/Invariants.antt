use Rattle.std.proofs.Common.{◌≡◌, ◌+◌, ◌-◌, ℕ, List, length}
use Rattle.lk_base.specs.Link.{Settings}
use Rattle.stream_model.specs.BurstStream.{Source}
use Rattle.run_shell.specs.Outputs.{open_names}
use Rattle.stream_commands.specs.Making.{HasLanes}
use Rattle.stream_commands.specs.declared.lanes_maker.TheConstants.{BLOCK, STEP}
use Rattle.stream_commands.proofs.lanes_maker.give_runs.Given as goal

-- each output was given what the transmitter gave of its lane
abbrev pub invariant-loop-count : goal.invariant-loop-count
invariant-loop-count l = record {
  names : open_names l.outputs ≡ open_names l.fn.outputs;
  places : length l.block ≡ BLOCK;
  has : (s : Settings) (source : Source) (n : ℕ) (done : List (List ℕ)) → HasLanes l.fn.transmitter n s source done l.fn.outputs → HasLanes l.transmitter (n + l.count) s source done l.outputs;
}

abbrev pub decreases-loop-count : goal.decreases-loop-count
decreases-loop-count l = STEP - l.count
