use Rattle.word_calls.proofs.samples.tell_rows.Goals as goal

pub loop-number-preserved : goal.loop-number-preserved
loop-number-preserved c = let (entries, taken, stands) = c.loop-number.invariant in (entries, _, c.sample.ensures.stands entries taken stands)
