use Rattle.std.proofs.Common.{◌≡◌, ◌++◌, map, take}
use Rattle.lane_events.specs.Steps.{event_of}
use Rattle.lane_events.proofs.word_events.append_kinds.Given as goal

-- the events of the kinds so far were appended
abbrev pub invariant-loop-kind : goal.invariant-loop-kind
invariant-loop-kind l = l.found.items ≡ l.fn.found.items ++ map (event_of l.bit) (take l.kind-index l.kinds)
