use Rattle.std.proofs.Common.{ℕ, List, ◌-◌, ◌^◌, ◌∙◌, ap, sum_by}
use Rattle.std.specs.Prelude.{min}
use Rattle.live_stream.specs.Waiting.{left_of}
use Rattle.live_stream.specs.declared.waiting.Waiting.{Waiting}
use Rattle.live_stream.proofs.LeftInAll.{left_is}
use Rattle.live_stream.proofs.scheduler.LiveScheduler.left.Goals as goal

abbrev most : ℕ → ℕ
most n = min n (2 ^ 64 - 1)

pub returns : goal.returns
returns c g w h = c.packets_left.ensures ∙ ap (λ (ts : List Waiting). most (sum_by (λ (q : Waiting). left_of q.counts) ts)) c.deref.ensures.value ∙ ap most (left_is c.args.self.now g w h)
