use Rattle.word_calls.proofs.both_ends.tell.Goals as goal

pub peak-peak_a-requires : goal.peak-peak_a-requires
peak-peak_a-requires c = let r = c.run.ensures in (r.settings, r.ends, c.args.slots, r.a, r.b, r.runs, r.listed)

pub peak-peak_b-requires : goal.peak-peak_b-requires
peak-peak_b-requires c = let r = c.run.ensures in (r.settings, r.ends, c.args.slots, r.a, r.b, r.runs, r.listed)

pub queue-queue_a-requires : goal.queue-queue_a-requires
queue-queue_a-requires c = let r = c.run.ensures in (r.settings, r.ends, c.args.slots, r.a, r.b, r.runs, r.listed)

pub queue-queue_b-requires : goal.queue-queue_b-requires
queue-queue_b-requires c = let r = c.run.ensures in (r.settings, r.ends, c.args.slots, r.a, r.b, r.runs, r.listed)
