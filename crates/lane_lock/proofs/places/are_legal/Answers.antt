-- One header more.
use Rattle.std.proofs.Common.{arith}
use Rattle.lane_lock.proofs.CodesTaken.{legal_next}
use Rattle.lane_lock.proofs.EightWords.{code_low}
use Rattle.lane_lock.proofs.places.are_legal.Goals as goal

pub is_legal-legal-requires : goal.is_legal-legal-requires
is_legal-legal-requires c =
    let here = c.loop-place-test.true in
    let many = c.told-codes in
    code_low c.args.codes.now c.loop-place.place (omega (arith, here, many)) c.requires

pub loop-place-preserved : goal.loop-place-preserved
loop-place-preserved c =
    let here = c.loop-place-test.true in
    let many = c.told-codes in
    legal_next c.args.codes.now c.loop-place.place c.loop-place.legal c.is_legal-legal.result (omega (arith, here, many)) c.is_legal-legal.ensures c.loop-place.invariant
