use Rattle.std.proofs.Common.{length, ◌-◌, ◌^◌}
use Rattle.stream_model.specs.BurstStream.{Source}
use Rattle.tx_end.specs.SentLanes.{IsListed}
use Rattle.stream_commands.proofs.sent_stream.make_all.Given as goal

-- the packets that start in the words so far are listed
abbrev pub invariant-loop-maker : goal.invariant-loop-maker
invariant-loop-maker l = (source : Source) → IsListed l.fn.maker l.fn.list source l.fn.words → IsListed l.maker l.list source l.words

abbrev pub decreases-loop-maker : goal.decreases-loop-maker
decreases-loop-maker l = 2 ^ 60 - length l.words
