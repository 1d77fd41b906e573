-- One more lane takes this many bytes.
use Rattle.std.proofs.Common.{bit_or, arith}
use Rattle.rx_front.specs.Lanes.{IsTaken}
use Rattle.rx_front.proofs.Covering.{TookShown, with_left, with_right}
use Rattle.rx_front.proofs.FirstDid.{did_as, did_more, did_none}
use Rattle.rx_front.proofs.Taking.{all_did, next_there}
use Rattle.rx_front.proofs.lanes.take_rounds.Goals as goal

pub loop-i-init : goal.loop-i-init
loop-i-init c = did_none (TookShown c.args.count 0) c.args.lanes.now

pub take_bytes-shows-requires-clause-there : goal.take_bytes-shows-requires-clause-there
take_bytes-shows-requires-clause-there c =
    next_there (TookShown c.args.count c.loop-i.shows) c.args.count c.loop-i.i c.args.lanes.now c.loop-i.lanes c.index-lanes-i.result c.loop-i-test.true c.loop-i.invariant c.requires.there

pub loop-i-preserved : goal.loop-i-preserved
loop-i-preserved c =
    let n = c.args.count in
    let a = c.loop-i.shows in
    let b = c.take_bytes-shows.result in
    let before = did_as (TookShown n a) (TookShown n (bit_or a b)) c.loop-i.i c.args.lanes.now c.loop-i.lanes (λ j v w lt h. (h.0, with_left a b w h.1)) c.loop-i.invariant in
    did_more (TookShown n (bit_or a b)) c.loop-i.i c.args.lanes.now c.loop-i.lanes c.index-lanes-i.result c.take_bytes-shows.new.self c.loop-i-test.true before
    (c.take_bytes-shows.ensures.taken, with_right a b c.take_bytes-shows.new.self c.take_bytes-shows.ensures.shown)

pub returns-clause-taken : goal.returns-clause-taken
returns-clause-taken c = all_did (λ j. IsTaken c.args.count) c.loop-i.i c.args.lanes.now c.loop-i.lanes c.loop-i-test.false
    (did_as (TookShown c.args.count c.loop-i.shows) (λ j. IsTaken c.args.count) c.loop-i.i c.args.lanes.now c.loop-i.lanes (λ j v w lt h. h.0) c.loop-i.invariant)

pub returns-clause-shown : goal.returns-clause-shown
returns-clause-shown c = λ k d lt.
    let n = c.loop-i.invariant.same in
    let all = c.loop-i-test.false in
    (c.loop-i.invariant.did k d d (omega (arith, n, all, lt)) (omega (arith, n, lt))).1
