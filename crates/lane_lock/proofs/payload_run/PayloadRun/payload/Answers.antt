-- A payload word of a declared lock.
use Rattle.std.proofs.Common.{◌≡◌, ◌+◌, ◌*◌, refl, sym, ap, subst, ◌∙◌}
use Rattle.lane_lock.specs.Headers.{HeaderCount}
use Rattle.lane_lock.specs.Inside.{InsideState}
use Rattle.lane_lock.specs.Run.{RunState}
use Rattle.lane_lock.specs.Behind.{Follows}
use Rattle.lane_lock.specs.Watching.{illegal_at}
use Rattle.lane_lock.proofs.WatchSteps.{illegal_is, inside_answer, loses_is_said}
use Rattle.lane_lock.specs.Headers.{CountsHeaders}
use Rattle.lane_lock.proofs.payload_run.PayloadRun.payload.Goals as goal

pub returns-clause-answer : goal.returns-clause-answer
returns-clause-answer c v going is s bits p t declared k there word =
    let same : v.inside ≡ c.self.inside.inside = ap (λ (x : RunState). x.inside) (is ∙ sym c.self.view_is) in
    let count : CountsHeaders c.self.inside.headers (illegal_at bits p) t = subst (λ (x : HeaderCount). CountsHeaders x (illegal_at bits p) t) (ap (λ (x : RunState). x.headers) (is ∙ sym c.self.view_is)) k.header_count in
    let legal = illegal_is bits (p + 67 * t) c.args.word there word ∙ c.requires.legal in
    let h = c.word-kept.ensures.count (illegal_at bits p) t count legal in
    inside_answer s bits p t c.args.word there word v _ declared c.payload.result k going (loses_is_said bits p t ∙ rw legal refl) refl refl h.1 going
    (λ at r follows. c.payload.ensures.passes s bits at r (subst (λ (x : InsideState). Follows x s bits at r) same follows))

pub returns-clause-counts : goal.returns-clause-counts
returns-clause-counts c = c.payload.ensures.counts c.requires.legal
