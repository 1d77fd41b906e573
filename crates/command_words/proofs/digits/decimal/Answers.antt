use Rattle.std.proofs.Common.{◌∙◌, ◌-◌, sym, arith, get_or}
use Rattle.csv_rows.proofs.Digits.{decimal_from-drop, digits-rest, digit-byte, small-step, decimal_from-end}
use Rattle.command_words.proofs.TwentyDigits.{within}
use Rattle.command_words.proofs.digits.decimal.Goals as goal

pub overflow_mul-number : goal.overflow_mul-number
overflow_mul-number c =
    let small = within c.loop-b.number c.loop-b.b-index c.loop-b.invariant.small (omega arith) in
    omega arith

pub overflow_add-number : goal.overflow_add-number
overflow_add-number c =
    let small = within c.loop-b.number c.loop-b.b-index c.loop-b.invariant.small (omega arith) in
    let byte = digit-byte c.loop-b.b-index c.args.bytes.now c.loop-b-test.true c.loop-b.invariant.digits in
    omega arith

pub loop-b-preserved : goal.loop-b-preserved
loop-b-preserved c =
    let byte = digit-byte c.loop-b.b-index c.args.bytes.now c.loop-b-test.true c.loop-b.invariant.digits in
    record {
      value = sym (decimal_from-drop c.loop-b.number c.loop-b.b-index c.args.bytes.now c.loop-b-test.true) ∙ c.loop-b.invariant.value;
      digits = digits-rest c.loop-b.b-index c.args.bytes.now c.loop-b-test.true c.loop-b.invariant.digits;
      small = small-step c.loop-b.number c.loop-b.b-index (get_or c.args.bytes.now c.loop-b.b-index 0 - 48) c.loop-b.invariant.small (omega arith);
    }

pub returns : goal.returns
returns c = sym (decimal_from-end c.loop-b.number c.loop-b.b-index c.args.bytes.now c.loop-b-test.false) ∙ c.loop-b.invariant.value
