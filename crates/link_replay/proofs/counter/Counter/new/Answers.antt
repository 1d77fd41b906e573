-- Nothing came.
use Rattle.std.proofs.Common.{refl, [], map}
use Rattle.lk_base.specs.Checksum.{bits_of_bytes}
use Rattle.link_laws.proofs.OfBits.{bits_have_lanes}
use Rattle.link_laws.specs.Received.{whole_lane}
use Rattle.link_replay.proofs.counter.Counter.new.Goals as goal

pub returns-clause-counts : goal.returns-clause-counts
returns-clause-counts c =
    let e = c.in_ok-watch.ensures in
    record { settings = e.same.0; held = (e.watches c.args.sent.now [] (λ i. []) c.requires.whole (λ i. refl)).held }

pub returns-clause-counted : goal.returns-clause-counted
returns-clause-counted c = λ lanes. (
    let s = c.args.link.now in
    let all = bits_have_lanes s.metaframe (map bits_of_bytes lanes) in
    record { all = all.0; bits = all.1; watches = c.in_ok-watch.ensures.watches c.args.sent.now (map (whole_lane s) all.0) (λ i. []) c.requires.whole (λ i. refl) })
