-- A state was set after some samples.
use Rattle.word_calls.proofs.samples.turned_off_within.Goals as goal

pub append_samples-requires-2 : goal.append_samples-requires-2
append_samples-requires-2 c =
    let (entries, states, shown, given, stands) = c.append_samples.ensures in
    (entries, _, shown, given, c.set.ensures entries states shown given stands)
