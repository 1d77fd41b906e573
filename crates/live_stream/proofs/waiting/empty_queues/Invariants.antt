use Rattle.std.proofs.Common.{◌≡◌, take, All}
use Rattle.live_stream.specs.Waiting.{channels_of}
use Rattle.live_stream.specs.Waiting.{IsEmpty}
use Rattle.live_stream.proofs.waiting.empty_queues.Given as goal

abbrev pub invariant-loop-i : goal.invariant-loop-i
invariant-loop-i l = record { channels : channels_of l.queues.items ≡ take l.i l.order.items; empty : All IsEmpty l.queues.items }
