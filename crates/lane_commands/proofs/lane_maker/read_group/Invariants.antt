use Rattle.std.proofs.Common.{◌≡◌, ◌++◌, drop, length, replicate, take}
use Rattle.lane_commands.specs.Stripe.{filler}
use Rattle.lane_commands.proofs.lane_maker.read_group.Given as goal

-- the first words are read
abbrev pub invariant-loop-place : goal.invariant-loop-place
invariant-loop-place l = (length l.group ≡ length l.fn.group) × (take l.place l.group ≡ take l.place (drop l.first l.words ++ replicate (length l.fn.group) filler))
