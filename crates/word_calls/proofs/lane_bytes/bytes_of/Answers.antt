use Rattle.word_calls.proofs.lane_bytes.bytes_of.Goals as goal

pub loop-step-preserved : goal.loop-step-preserved
loop-step-preserved c =
    let (a, k) = c.loop-step.invariant in
    let r = c.next.ensures.some a c.in-Some.out k c.in-Some.is in
    (_, r.1)
