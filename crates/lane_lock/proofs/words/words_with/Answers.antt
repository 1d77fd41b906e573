-- One word more.
use Rattle.std.proofs.Common.{◌∙◌, length-set, arith}
use Rattle.lane_lock.proofs.EightWords.{code_low, with_set}
use Rattle.lane_lock.proofs.words.words_with.Goals as goal

pub word_with-requires : goal.word_with-requires
word_with-requires c =
    let here = c.loop-place-test.true in
    let many = c.told-codes in
    code_low c.args.codes.now c.loop-place.place (omega (arith, here, many)) c.requires

pub loop-place-preserved : goal.loop-place-preserved
loop-place-preserved c =
    let here = c.loop-place-test.true in
    let codes = c.told-codes in
    let numbers = c.told-numbers in
    let long = c.loop-place.invariant.1 in (
      with_set c.args.codes.now c.args.numbers.now c.loop-place.words c.loop-place.place c.word_with.result c.loop-place.invariant.0 (omega (arith, here, long)) (omega (arith, here, codes)) (omega (arith, here, numbers)) c.word_with.ensures,
      length-set c.loop-place.words c.loop-place.place c.word_with.result ∙ long,
    )
