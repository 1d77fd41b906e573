use Rattle.oob_flow.specs.Sending.{showing, one_given}
use Rattle.word_calls.proofs.samples.append_samples.Goals as goal

pub loop-sample-preserved : goal.loop-sample-preserved
loop-sample-preserved c =
    let (entries, states, shown, given, stands) = c.loop-sample.invariant in
    (entries, states, showing entries states shown given, one_given entries given, c.sample.ensures.stands entries states shown given stands)

pub returns-in_err-push : goal.returns-in_err-push
returns-in_err-push c =
    let (entries, states, shown, given, stands) = c.loop-sample.invariant in
    (entries, states, showing entries states shown given, one_given entries given, c.sample.ensures.stands entries states shown given stands)
