-- One number more.
use Rattle.std.proofs.Common.{ap, arith, get_or, length-set, ◌∙◌}
use Rattle.lk_base.specs.Words.{number_of}
use Rattle.lane_model.specs.Coding.{word_of_code}
use Rattle.lane_lock.specs.Inside.{InsideState, with_key}
use Rattle.lane_lock.specs.Run.{keyed_word, next_state}
use Rattle.lane_lock.proofs.EightWords.{code_legal, code_low, key_next, numbers_set}
use Rattle.lane_lock.proofs.inside.Inside.unscrambled_codes.Goals as goal

pub unscrambled_code-requires-clause-legal : goal.unscrambled_code-requires-clause-legal
unscrambled_code-requires-clause-legal c =
    let here = c.loop-place-test.true in
    let many = c.told-codes in
    code_legal c.args.codes.now c.loop-place.place (omega (arith, here, many)) c.requires.legal

pub unscrambled_code-requires-clause-code : goal.unscrambled_code-requires-clause-code
unscrambled_code-requires-clause-code c =
    let here = c.loop-place-test.true in
    let many = c.told-codes in
    code_low c.args.codes.now c.loop-place.place (omega (arith, here, many)) c.requires.codes

pub loop-place-preserved : goal.loop-place-preserved
loop-place-preserved c =
    let v : InsideState = c.args.self.now in
    let here = c.loop-place-test.true in
    let many = c.told-codes in
    let i = c.loop-place.invariant in
    let long = i.2 in (
      numbers_set v.state c.args.codes.now c.loop-place.numbers c.loop-place.place c.unscrambled_code.result i.0 (omega (arith, here, long)) (omega (arith, here, many))
          (c.unscrambled_code.ensures.number ∙ ap (λ (x : InsideState). number_of (keyed_word x.state (word_of_code (get_or c.args.codes.now c.loop-place.place 0)))) i.1),
      c.unscrambled_code.ensures.value ∙ ap (λ (x : InsideState). with_key x (next_state x.state)) i.1
          ∙ ap (with_key v) (key_next v.state c.args.codes.now c.loop-place.place (omega (arith, here, many))),
      length-set c.loop-place.numbers c.loop-place.place c.unscrambled_code.result ∙ long,
    )
