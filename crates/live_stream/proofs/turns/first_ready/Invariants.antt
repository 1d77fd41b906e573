use Rattle.std.proofs.Common.{◌≡◌, ℕ, List, take, All, false}
use Rattle.stream_model.specs.declared.rows.FlowRow.{FlowRow}
use Rattle.calendar.specs.Changes.{told_back}
use Rattle.calendar.specs.Incoming.{Stands}
use Rattle.live_stream.specs.Turns.{may_burst}
use Rattle.live_stream.specs.declared.waiting.Waiting.{Waiting}
use Rattle.live_stream.proofs.turns.first_ready.Given as goal

abbrev pub invariant-loop-at : goal.invariant-loop-at
invariant-loop-at l = (entries : List ℕ) (rows : List FlowRow) → Stands l.incoming entries rows → All (λ (q : Waiting). may_burst (told_back entries rows) q ≡ false) (take l.at l.turns)
