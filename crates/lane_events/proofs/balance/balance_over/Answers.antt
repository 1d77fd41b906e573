-- One code more.
use Rattle.std.proofs.Common.{◌∙◌, sym, ap, take, get_or, arith}
use Rattle.std.proofs.lemmas.List.{take_all, take_more}
use Rattle.lane_lock.proofs.EightWords.{code_low}
use Rattle.lane_events.specs.Balance.{balance_over}
use Rattle.lane_events.proofs.PassedCodes.{balance_next, over_more}
use Rattle.lane_events.proofs.balance.balance_over.Goals as goal

pub loop-place-preserved : goal.loop-place-preserved
loop-place-preserved c =
    let codes = c.args.codes.now in
    let place = c.loop-place.place in
    let here = c.loop-place-test.true in
    let many = c.told-codes in
    record {
      value = c.balance_with-balance.ensures.value ∙ ap (λ b. balance_next b (get_or codes place 0)) c.loop-place.invariant.value
          ∙ sym (over_more c.args.before (take place codes) (get_or codes place 0)) ∙ ap (balance_over c.args.before) (sym (take_more codes place 0 (omega (arith, here, many))));
      low = c.balance_with-balance.ensures.low;
      high = c.balance_with-balance.ensures.high;
    }

pub balance_with-balance-requires-clause-code : goal.balance_with-balance-requires-clause-code
balance_with-balance-requires-clause-code c =
    let here = c.loop-place-test.true in
    let many = c.told-codes in
    code_low c.args.codes.now c.loop-place.place (omega (arith, here, many)) c.requires.codes

pub returns-clause-value : goal.returns-clause-value
returns-clause-value c =
    let over = c.loop-place-test.false in
    let many = c.told-codes in
    c.loop-place.invariant.value ∙ ap (balance_over c.args.before) (take_all c.loop-place.place c.args.codes.now (omega (arith, over, many)))
