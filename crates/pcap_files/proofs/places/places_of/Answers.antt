use Rattle.std.proofs.Common.{Ok, ap, arith}
use Rattle.pcap_files.proofs.Placed.{next_inside, one_more, all_placed}
use Rattle.pcap_files.proofs.Sizes.{records-whole}
use Rattle.pcap_files.proofs.places.places_of.Goals as goal

pub place_at-place-requires : goal.place_at-place-requires
place_at-place-requires c = let fits = next_inside _ _ _ _ _ _ _ c.loop-places.invariant (rw c.in-Some.is at (c.in_ok-packet.ensures {u = tt}).some) in
    let few = c.requires in
    omega arith

pub after-offset-requires : goal.after-offset-requires
after-offset-requires c =
    let fits = next_inside _ _ _ _ _ _ _ c.loop-places.invariant (rw c.in-Some.is at (c.in_ok-packet.ensures {u = tt}).some) in
    let few = c.requires in
    let start = c.place_at-place.ensures.start in
    let size = c.place_at-place.ensures.size in
    omega arith

pub loop-places-preserved : goal.loop-places-preserved
loop-places-preserved c =
    rw ((c.in_ok-push.ensures {u = tt}).items, c.after-offset.ensures)
    (one_more _ _ _ _ _ _ _ c.loop-places.invariant (rw c.in-Some.is at (c.in_ok-packet.ensures {u = tt}).some) c.place_at-place.result c.place_at-place.ensures.start c.place_at-place.ensures.size)

pub returns-clause-whole : goal.returns-clause-whole
returns-clause-whole c =
    records-whole c.args.bytes.now c.args.most _ (all_placed _ _ _ _ _ c.loop-places.invariant ((c.in_ok-packet.ensures {u = tt}).end (ap Ok c.in_default.is)).0)
