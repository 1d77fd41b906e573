-- So many legal headers, within a block or past its end.
use Rattle.std.proofs.Common.{sym, ap, ◌∙◌, arith}
use Rattle.lane_lock.specs.Headers.{HeaderCount}
use Rattle.lane_lock.specs.Run.{headers_ran}
use Rattle.lane_lock.proofs.WordsRan.{headers_past, headers_within}
use Rattle.lane_lock.proofs.headers.Headers.legal.Goals as goal

pub returns-then-self-ge-BLOCK : goal.returns-then-self-ge-BLOCK
returns-then-self-ge-BLOCK c =
    let past = c.if-self-ge-BLOCK.true in
    let low = c.self.invariant.0 in
    let v : HeaderCount = record { place = c.self.inside.place; illegal = c.self.inside.illegal } in
    sym (headers_past v c.args.count low (omega (arith, past)) c.requires) ∙ ap (λ (x : HeaderCount). headers_ran x c.args.count) c.self.view_is

pub returns-else-self-ge-BLOCK : goal.returns-else-self-ge-BLOCK
returns-else-self-ge-BLOCK c =
    let within = c.if-self-ge-BLOCK.false in
    let v : HeaderCount = record { place = c.self.inside.place; illegal = c.self.inside.illegal } in
    sym (headers_within v c.args.count (omega (arith, within))) ∙ ap (λ (x : HeaderCount). headers_ran x c.args.count) c.self.view_is
