use Rattle.std.proofs.Common.{ℕ, ◌≡◌, ◌+◌, ◌*◌, ◌++◌, take, subst, arith}
use Rattle.lane_model.specs.Striping.{lane_payload}
use Rattle.tx_end.specs.Lanes.{Carries, HasFilled}
use Rattle.tx_end.proofs.LanePlaces.{begins, eight_inside, eight_made, ends, given_long, group_lane, word_inside}
use Rattle.tx_end.proofs.fill.fill_block.Goals as goal

pub loop-place-init : goal.loop-place-init
loop-place-init c = record {
  making = λ given made before k. begins c.args.lane.now c.args.link.now c.args.number made given _ before k;
  within = omega arith;
  room = omega arith;
}

pub next_eight-eight-requires-clause-there : goal.next_eight-eight-requires-clause-there
next_eight-eight-requires-clause-there c =
    let (given, made, before, h) = c.requires.filled in
    (eight_inside c.args.link.now c.lanes-lanes.result c.args.number made c.loop-place.place c.loop-place.taken c.args.group.now given c.args.lane.now c.loop-place.lane before (before ++ take c.loop-place.at c.loop-place.block) c.lanes-lanes.ensures c.requires.group c.requires.lane
    (omega (arith, c.loop-place-test.true, c.metaframe-metaframe.ensures)) h (c.loop-place.invariant.making given made before h) (c.takes_eight.ensures.0 c.if-takes_eight.true).0).0

pub next_eight-eight-requires-clause-few : goal.next_eight-eight-requires-clause-few
next_eight-eight-requires-clause-few c =
    let (given, made, before, h) = c.requires.filled in
    let k = c.loop-place.invariant.making given made before h in
    let each = group_lane c.args.link.now c.args.group.now c.lanes-lanes.result c.args.number c.lanes-lanes.ensures c.requires.group c.requires.lane in
    omega (arith, k.within, each, c.requires.limits.metaframe.1)

pub overflow_add-taken : goal.overflow_add-taken
overflow_add-taken c =
    let (given, made, before, h) = c.requires.filled in
    let k = c.loop-place.invariant.making given made before h in
    let each = group_lane c.args.link.now c.args.group.now c.lanes-lanes.result c.args.number c.lanes-lanes.ensures c.requires.group c.requires.lane in
    omega (arith, k.within, each, c.requires.limits.metaframe.1)

pub put_eight-requires-clause-room : goal.put_eight-requires-clause-room
put_eight-requires-clause-room c =
    let (given, made, before, h) = c.requires.filled in
    let t = eight_inside c.args.link.now c.lanes-lanes.result c.args.number made c.loop-place.place c.loop-place.taken c.args.group.now given c.args.lane.now c.loop-place.lane before (before ++ take c.loop-place.at c.loop-place.block) c.lanes-lanes.ensures c.requires.group c.requires.lane
    (omega (arith, c.loop-place-test.true, c.metaframe-metaframe.ensures)) h (c.loop-place.invariant.making given made before h) (c.takes_eight.ensures.0 c.if-takes_eight.true).0 in
    omega (arith, t.1, c.loop-place.invariant.room, c.requires.room)

pub loop-place-preserved-then-takes_eight : goal.loop-place-preserved-then-takes_eight
loop-place-preserved-then-takes_eight c =
    let s = c.args.link.now in
    let (given, made, before, h) = c.requires.filled in
    let sent = lane_payload c.lanes-lanes.result c.args.group.now c.args.number in
    let t = eight_inside c.args.link.now c.lanes-lanes.result c.args.number made c.loop-place.place c.loop-place.taken c.args.group.now given c.args.lane.now c.loop-place.lane before (before ++ take c.loop-place.at c.loop-place.block) c.lanes-lanes.ensures c.requires.group c.requires.lane
    (omega (arith, c.loop-place-test.true, c.metaframe-metaframe.ensures)) h (c.loop-place.invariant.making given made before h) (c.takes_eight.ensures.0 c.if-takes_eight.true).0 in
    record {
      making = λ g m b is.
          eight_made c.put_eight.new.self s c.args.number g sent c.next_eight-eight.result c.loop-place.taken m c.loop-place.place (b ++ take (c.loop-place.at + 67) c.put_eight.new.bytes)
          (c.put_eight.ensures.carries s c.args.number (g ++ take c.loop-place.taken sent) (m * s.metaframe + c.loop-place.place) b (c.loop-place.invariant.making g m b is).carries)
          c.next_eight-eight.ensures t.0 c.put_eight.ensures.empty;
      within = omega (arith, t.1);
      room = omega (arith, c.loop-place.invariant.room);
    }

pub next_word-taken-requires-clause-waiting : goal.next_word-taken-requires-clause-waiting
next_word-taken-requires-clause-waiting c = (let (given, made, before, h) = c.requires.filled in (c.loop-place.invariant.making given made before h).waiting)

pub next_word-taken-requires-clause-there : goal.next_word-taken-requires-clause-there
next_word-taken-requires-clause-there c wants =
    let (given, made, before, h) = c.requires.filled in
    let k = c.loop-place.invariant.making given made before h in
    word_inside c.args.link.now c.lanes-lanes.result c.args.number made c.loop-place.place c.loop-place.taken c.args.group.now given c.args.lane.now c.loop-place.lane before (before ++ take c.loop-place.at c.loop-place.block) c.lanes-lanes.ensures c.requires.group c.requires.lane
    (omega (arith, c.loop-place-test.true, c.metaframe-metaframe.ensures)) h k wants

pub next_word-taken-requires-clause-within : goal.next_word-taken-requires-clause-within
next_word-taken-requires-clause-within c = (let (given, made, before, h) = c.requires.filled in (c.loop-place.invariant.making given made before h).within)

pub next_word-taken-requires-clause-few : goal.next_word-taken-requires-clause-few
next_word-taken-requires-clause-few c =
    let (given, made, before, h) = c.requires.filled in
    let k = c.loop-place.invariant.making given made before h in
    let each = group_lane c.args.link.now c.args.group.now c.lanes-lanes.result c.args.number c.lanes-lanes.ensures c.requires.group c.requires.lane in
    omega (arith, k.within, each, c.requires.limits.metaframe.1)

pub give_bytes-at-requires-clause-few : goal.give_bytes-at-requires-clause-few
give_bytes-at-requires-clause-few c =
    let (given, made, before, h) = c.requires.filled in
    let w = (c.loop-place.invariant.making given made before h).waiting in
    omega (arith, w, c.next_word-taken.ensures.more)

pub give_bytes-at-requires-clause-room : goal.give_bytes-at-requires-clause-room
give_bytes-at-requires-clause-room c = omega (arith, c.loop-place.invariant.room, c.requires.room, c.loop-place-test.true, c.metaframe-metaframe.ensures)

one_more : (m l place : ℕ) → m * l + place + 1 ≡ m * l + (place + 1)
one_more m l place = omega arith

pub loop-place-preserved : goal.loop-place-preserved
loop-place-preserved c =
    let s = c.args.link.now in
    let sent = lane_payload c.lanes-lanes.result c.args.group.now c.args.number in
    record {
      making = λ g m b is.
          let k = c.loop-place.invariant.making g m b is in
          record {
            carries = subst (λ n. Carries c.give_bytes-at.new.lane s c.args.number (g ++ take c.next_word-taken.result sent) n (b ++ take c.give_bytes-at.result c.give_bytes-at.new.bytes)) (one_more m s.metaframe c.loop-place.place)
                (c.give_bytes-at.ensures.carries s c.args.number (g ++ take c.next_word-taken.result sent) (m * s.metaframe + c.loop-place.place + 1) b
                (c.next_word-taken.ensures.carries s g (m * s.metaframe + c.loop-place.place) (b ++ take c.loop-place.at c.loop-place.block) k.carries));
            within = c.next_word-taken.ensures.within;
            waiting = c.give_bytes-at.ensures.waiting;
          };
      within = omega (arith, c.loop-place-test.true, c.metaframe-metaframe.ensures);
      room = omega (arith, c.loop-place.invariant.room, c.give_bytes-at.ensures.most);
    }

pub returns : goal.returns
returns c given made before h =
    let s = c.args.link.now in
    let each = group_lane s c.args.group.now c.lanes-lanes.result c.args.number c.lanes-lanes.ensures c.requires.group c.requires.lane in
    subst (λ n. HasFilled c.loop-place.lane s c.args.number (given ++ lane_payload n c.args.group.now c.args.number) (made + 1) (before ++ take c.loop-place.at c.loop-place.block)) c.lanes-lanes.ensures
    (ends c.loop-place.lane s c.args.number made c.loop-place.place c.loop-place.taken given _ (before ++ take c.loop-place.at c.loop-place.block) (c.loop-place.invariant.making given made before h)
    (omega (arith, c.loop-place-test.false, c.loop-place.invariant.within, c.metaframe-metaframe.ensures)) (given_long c.args.lane.now s c.args.number made given before h) each)
