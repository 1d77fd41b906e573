use Rattle.word_calls.proofs.Running.{one_given, none_given}
use Rattle.word_calls.proofs.both_ends.take.Goals as goal

pub loop-got-preserved : goal.loop-got-preserved
loop-got-preserved c n running =
    let r = c.loop-got.invariant n running in
    one_given c.loop-got.duplex c.next.new.self n c.in-Some.got.end c.in-Some.got.channel c.in-Some.got.length r c.next.ensures.rest (c.in-Some.ensures.some r.setting r.settings n r.a r.b r.got_a r.got_b r.got)

pub loop-got-preserved-in-A : goal.loop-got-preserved-in-A
loop-got-preserved-in-A c n running =
    let r = c.loop-got.invariant n running in
    one_given c.loop-got.duplex c.next.new.self n c.in-Some.got.end c.in-Some.got.channel c.in-Some.got.length r c.next.ensures.rest (c.in-Some.ensures.some r.setting r.settings n r.a r.b r.got_a r.got_b r.got)

pub returns : goal.returns
returns c n running =
    let r = c.loop-got.invariant n running in
    (none_given c.loop-got.duplex c.next.new.self n r c.next.ensures.rest (c.in_default.ensures.none r.setting r.settings n r.a r.b r.got_a r.got_b r.got).0, c.in_default.ensures.given)
