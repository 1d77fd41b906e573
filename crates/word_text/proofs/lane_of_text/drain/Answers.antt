use Rattle.std.proofs.Common.{rules, ◌<◌, ◌^◌, Bool, List, sym, subst, arith}
use Rattle.word_text.specs.Bytes.{TakesBytes}
use Rattle.word_text.proofs.Kept.{kept-by}
use Rattle.word_text.proofs.Taking.{takes-none, takes-byte, takes-kept}
use Rattle.word_text.proofs.lane_of_text.drain.Goals as goal

pub loop-byte-init : goal.loop-byte-init
loop-byte-init c = takes-none c.args.writer.now c.args.bytes.now.items

pub loop-byte-smaller : goal.loop-byte-smaller
loop-byte-smaller c = omega (arith, (c.in-Some.ensures {u = tt}).count)

pub loop-byte-preserved : goal.loop-byte-preserved
loop-byte-preserved c =
    let small : c.in-Some.byte < 2 ^ 8 = search rules in
    takes-byte c.args.writer.now c.loop-byte.writer c.take.new.self c.args.bytes.now.items c.loop-byte.bytes.items c.put_byte.new.line.items c.in-Some.byte small (c.in-Some.ensures {u = tt}).some (c.in_ok-put_byte.ensures {u = tt}).ok c.loop-byte.invariant

pub returns-in_err-put_byte-clause-kept : goal.returns-in_err-put_byte-clause-kept
returns-in_err-put_byte-clause-kept c =
    kept-by c.args.bytes.now.items c.loop-byte.invariant.more c.loop-byte.bytes.items c.put_byte.new.line.items c.loop-byte.invariant.put (c.in_err-put_byte.ensures {u = tt}).err

pub returns-clause-bits : goal.returns-clause-bits
returns-clause-bits c =
    subst (λ (w : List Bool). TakesBytes c.args.writer.now w c.args.bytes.now.items c.loop-byte.bytes.items) (sym (c.in_default.ensures {u = tt}).unchanged) c.loop-byte.invariant

pub returns-clause-kept : goal.returns-clause-kept
returns-clause-kept c = takes-kept c.args.writer.now c.loop-byte.writer c.args.bytes.now.items c.loop-byte.bytes.items c.loop-byte.invariant
