use Rattle.std.proofs.Common.{◌≡◌, All, length}
use Rattle.receive_commands.specs.ReadLanes.{IsFresh}
use Rattle.receive_commands.proofs.lanes.fresh_buffers.Given as goal

-- this many are there, and nothing is held in any
abbrev pub invariant-loop-lane : goal.invariant-loop-lane
invariant-loop-lane l = record {
  many : length l.buffers.items ≡ l._lane;
  fresh : All IsFresh l.buffers.items;
}
