use Rattle.std.proofs.Common.{◌≡◌, ℕ, ◌<◌, get_or}
use Rattle.live_stream.specs.declared.waiting.Waiting.{Waiting}
use Rattle.live_stream.proofs.turns.place.Given as goal

abbrev pub invariant-loop-at : goal.invariant-loop-at
invariant-loop-at l = (k : ℕ) (q : Waiting) → k < l.at → q ≡ get_or l.turns k q → q.channel ≡ l.channel → ⊥
