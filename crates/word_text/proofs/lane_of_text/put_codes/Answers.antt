use Rattle.std.proofs.Common.{◌≡◌, ◌<◌, ◌+◌, ◌%◌, ◌^◌, ◌++◌, [], ◌∷◌, ℕ, List, Bool, length, Option, Some, None, MatchOption, sym, ap, ◌∙◌, arith, subst, length-append}
use Rattle.lk_base.specs.Checksum.{bits_of}
use Rattle.lane_model.proofs.Numbers.{length-bits_of}
use Rattle.word_text.specs.Lines.{ended}
use Rattle.word_text.specs.Listings.{lane_head}
use Rattle.word_text.specs.CodeLines.{IsCodeLine}
use Rattle.word_text.specs.Bytes.{TakesBytes}
use Rattle.word_text.proofs.Kept.{kept-put, kept-then}
use Rattle.word_text.proofs.Taking.{takes-count}
use Rattle.word_text.proofs.Lanes.{none-read, one-read, all-read, no-end-there, no-code}
use Rattle.word_text.proofs.lane_of_text.put_codes.Goals as goal

abbrev Told : Option ℕ → List ℕ → Type 0
Told o line = MatchOption o ((code : ℕ) → code < 2 ^ 67 → IsCodeLine code line → ⊥) (λ code. (code < 2 ^ 67) × IsCodeLine code line)

no-one : (o : Option ℕ) (line : List ℕ) → o ≡ None → Told o line → (code : ℕ) → code < 2 ^ 67 → IsCodeLine code line → ⊥
no-one None line e h = h
no-one (Some w) line e h = absurd cc

one : (o : Option ℕ) (w : ℕ) (line : List ℕ) → o ≡ Some w → Told o line → (w < 2 ^ 67) × IsCodeLine w line
one None w line e h = absurd cc
one (Some v) w line e h = let same : v ≡ w = cc in subst (λ (x : ℕ). (x < 2 ^ 67) × IsCodeLine x line) same h

-- the bits that wait then
waits : (waiting code : ℕ) (writer pushed next : List Bool) (mid new : List ℕ) → waiting ≡ length writer → pushed ≡ writer ++ bits_of 67 code → length next < 8 → TakesBytes pushed next mid new → (waiting + 67) % 8 ≡ length next
waits waiting code writer pushed next mid new e f few t =
    let size = ap length f ∙ length-append writer (bits_of 67 code) in
    let all = length-bits_of 67 code in
    let count = takes-count pushed next mid new t in
    omega (arith, size, all, count)

shorter : (left line more : List ℕ) → left ≡ ended line ++ more → length left ≡ length line + 1 + length more
shorter left line more e = let size = ap length e ∙ length-append (ended line) more in let one = length-append line (10 ∷ []) in omega (arith, size, one)

pub loop-line-init : goal.loop-line-init
loop-line-init c = record {
  read = none-read c.args.lines.now c.args.out.now.items c.args.writer.now c.requires;
  waits = sym (ap length c.requires);
  short = omega arith;
  few = omega arith;
}

pub returns-in_err-code-clause-kept : goal.returns-in_err-code-clause-kept
returns-in_err-code-clause-kept c = kept-put c.args.out.now.items c.loop-line.invariant.read.taken.more c.loop-line.out.items c.loop-line.invariant.read.taken.put

pub returns-in_default-2-clause-codes : goal.returns-in_default-2-clause-codes
returns-in_default-2-clause-codes c =
    all-read (ended lane_head ++ c.args.lines.now) c.loop-line.left.now c.loop-line.number c.loop-line.writer c.args.out.now.items c.loop-line.out.items
    (no-code c.loop-line.left.now c.in-Some.line.now c.in-Some.more.now (c.in-Some.ensures {u = tt}).cut (c.in-Some.ensures {u = tt}).one (no-one c.in_ok-code.field-0 c.in-Some.line.now c.in_default-2.is (c.in_ok-code.ensures {u = tt})))
    c.loop-line.invariant.read

pub returns-in_default-2-clause-waiting : goal.returns-in_default-2-clause-waiting
returns-in_default-2-clause-waiting c = (c.loop-line.invariant.waits, c.loop-line.invariant.short)

pub returns-in_default-2-clause-few : goal.returns-in_default-2-clause-few
returns-in_default-2-clause-few c = c.loop-line.invariant.few

pub returns-in_default-2-clause-kept : goal.returns-in_default-2-clause-kept
returns-in_default-2-clause-kept c = kept-put c.args.out.now.items c.loop-line.invariant.read.taken.more c.loop-line.out.items c.loop-line.invariant.read.taken.put

pub push-requires-clause-waiting : goal.push-requires-clause-waiting
push-requires-clause-waiting c = omega (arith, c.loop-line.invariant.waits, c.loop-line.invariant.short)

pub returns-in_err-drain-clause-kept : goal.returns-in_err-drain-clause-kept
returns-in_err-drain-clause-kept c = kept-then c.args.out.now.items c.loop-line.invariant.read.taken.more c.loop-line.out.items c.drain.new.bytes.items c.loop-line.invariant.read.taken.put c.drain.ensures.kept

pub loop-line-smaller : goal.loop-line-smaller
loop-line-smaller c = let size = shorter c.loop-line.left.now c.in-Some.line.now c.in-Some.more.now (c.in-Some.ensures {u = tt}).cut in omega (arith, size)

pub loop-line-preserved : goal.loop-line-preserved
loop-line-preserved c =
    let (sized, line) = one c.in_ok-code.field-0 c.in-Some-2.code c.in-Some.line.now c.in-Some-2.is (c.in_ok-code.ensures {u = tt}) in
    let cut = (c.in-Some.ensures {u = tt}).cut in
    let size = shorter c.loop-line.left.now c.in-Some.line.now c.in-Some.more.now cut in
    let drained = c.in_ok-drain.ensures {u = tt} in
    let before = c.loop-line.invariant in
    record {
      read = one-read (ended lane_head ++ c.args.lines.now) c.loop-line.left.now c.in-Some.more.now c.in-Some.line.now c.loop-line.number c.in-Some-2.code c.loop-line.writer c.push.new.self c.drain.new.writer c.args.out.now.items c.loop-line.out.items c.drain.new.bytes.items sized line cut c.push.ensures.bits drained.bits before.read;
      waits = waits c.loop-line.waiting c.in-Some-2.code c.loop-line.writer c.push.new.self c.drain.new.writer c.loop-line.out.items c.drain.new.bytes.items before.waits c.push.ensures.bits drained.few drained.bits;
      short = omega arith;
      few = omega (arith, before.few, size);
    }

pub returns-clause-codes : goal.returns-clause-codes
returns-clause-codes c =
    all-read (ended lane_head ++ c.args.lines.now) c.loop-line.left.now c.loop-line.number c.loop-line.writer c.args.out.now.items c.loop-line.out.items
    (λ line more e any. no-end-there c.loop-line.left.now (c.in_default.ensures {u = tt}).none line more e)
    c.loop-line.invariant.read

pub returns-clause-waiting : goal.returns-clause-waiting
returns-clause-waiting c = (c.loop-line.invariant.waits, c.loop-line.invariant.short)

pub returns-clause-few : goal.returns-clause-few
returns-clause-few c = c.loop-line.invariant.few

pub returns-clause-kept : goal.returns-clause-kept
returns-clause-kept c = kept-put c.args.out.now.items c.loop-line.invariant.read.taken.more c.loop-line.out.items c.loop-line.invariant.read.taken.put
