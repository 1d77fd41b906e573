use Rattle.std.proofs.Common.{rules, ◌≡◌, ◌<◌, ◌≤◌, ◌+◌, ◌*◌, ◌/◌, ◌%◌, ◌^◌, ℕ, arith}
use Rattle.word_text.proofs.Kept.{kept-by, kept-put}
use Rattle.word_text.proofs.Taking.{takes-none, takes-byte}
use Rattle.word_text.proofs.LaneEnds.{spread-below, last-bytes}
use Rattle.word_text.proofs.lane_of_text.put_last.Goals as goal

pub push-requires-clause-code : goal.push-requires-clause-code
push-requires-clause-code c = let low = spread-below c.args.rest.now.count c.args.rest.now.bits c.requires.count c.requires.below in omega (arith, low)

pub loop-byte-init : goal.loop-byte-init
loop-byte-init c = record { taken = takes-none c.push.new.self c.args.bytes.now.items; left = omega (arith, c.push.ensures.count, c.requires.waiting) }

pub returns-in_err-put_byte-in-Some-clause-kept : goal.returns-in_err-put_byte-in-Some-clause-kept
returns-in_err-put_byte-in-Some-clause-kept c =
    kept-by c.args.bytes.now.items c.loop-byte.invariant.taken.more c.loop-byte.bytes.items c.put_byte.new.line.items c.loop-byte.invariant.taken.put (c.in_err-put_byte-in-Some.ensures {u = tt}).err

never : (left waiting count byte : ℕ) → waiting < 8 → count < 67 → left + 8 * byte ≡ waiting + 67 → byte < (waiting + count) / 8 → left < 8 → ⊥
never left waiting count byte h k e f g = omega arith

pub unreachable-requires : goal.unreachable-requires
unreachable-requires c =
    let few = (c.in-None.ensures {u = tt}).none.0 cc in
    absurd (never _ c.args.waiting c.args.rest.now.count c.loop-byte._byte c.requires.few c.requires.count c.loop-byte.invariant.left c.loop-byte-test.true few)

pub loop-byte-preserved : goal.loop-byte-preserved
loop-byte-preserved c =
    let small : c.in-Some.byte < 2 ^ 8 = search rules in
    record {
      taken = takes-byte c.push.new.self c.loop-byte.writer c.take.new.self c.args.bytes.now.items c.loop-byte.bytes.items c.put_byte.new.line.items c.in-Some.byte small (c.in-Some.ensures {u = tt}).some (c.in_ok-put_byte-in-Some.ensures {u = tt}).ok c.loop-byte.invariant.taken;
      left = omega (arith, (c.in-Some.ensures {u = tt}).count, c.loop-byte.invariant.left);
    }

all-taken : (left waiting writer count byte : ℕ) → (waiting + count) % 8 ≡ 0 → waiting ≡ writer → left + 8 * byte ≡ waiting + 67 → (waiting + count) / 8 ≤ byte → byte ≤ (waiting + count) / 8 → left + (writer + count) ≡ writer + 67
all-taken left waiting writer count byte h e f g k = omega arith

pub returns-clause-bits : goal.returns-clause-bits
returns-clause-bits c =
    last-bytes c.args.writer.now c.push.new.self c.loop-byte.writer c.args.rest.now.count c.args.rest.now.bits c.args.bytes.now.items c.loop-byte.bytes.items c.requires.count c.requires.below c.push.ensures.bits c.loop-byte.invariant.taken
    (all-taken _ c.args.waiting _ c.args.rest.now.count c.loop-byte._byte c.requires.whole c.requires.waiting c.loop-byte.invariant.left c.loop-byte-test.false c.loop-byte.auto._byte-end)

pub returns-clause-kept : goal.returns-clause-kept
returns-clause-kept c = kept-put c.args.bytes.now.items c.loop-byte.invariant.taken.more c.loop-byte.bytes.items c.loop-byte.invariant.taken.put
