use Rattle.std.proofs.Common.{◌≡◌, ℕ, ◌+◌, ◌*◌, ◌++◌, ◌^◌, ◌<◌, true, List, Bool, length, take, replicate, get_or, sym, ap, ◌∙◌, arith}
use Rattle.std.proofs.lemmas.List.{take_more, length-append}
use Rattle.std.proofs.lemmas.Nat.{pow-add}
use Rattle.lk_base.specs.Checksum.{digit}
use Rattle.lk_base.proofs.Bits.{digit_small}
use Rattle.oob_flow.specs.Words.{spelled, spelled_from, flow_bits}
use Rattle.oob_flow.proofs.Idle.{padded, spelled_push}
use Rattle.oob_flow.proofs.block.flow_bits.Goals as goal

pub loop-place-preserved : goal.loop-place-preserved
loop-place-preserved c =
    let states : List Bool = c.args.states.now ++ replicate 16 true in
    let double : 2 ^ (c.loop-place.place + 1) ≡ 2 ^ c.loop-place.place * 2 = pow-add 2 c.loop-place.place 1 in
    let b : c.bit.result < 2 = (let e = c.bit.ensures in let s = digit_small c.state_or_on.result in omega arith) in
    let len = length-append c.args.states.now (replicate 16 true) in
    let within : c.loop-place.place < length (c.args.states.now ++ replicate 16 true) = omega arith in
    record {
      small = omega arith;
      first = omega (
        arith,
        c.loop-place.invariant.first,
        c.bit.ensures,
        ap digit (c.state_or_on.ensures ∙ sym (padded c.args.states.now c.loop-place.place c.loop-place-test.true)),
        ap (spelled_from 0) (take_more (c.args.states.now ++ replicate 16 true) c.loop-place.place true within),
        spelled_push 0 (take c.loop-place.place (c.args.states.now ++ replicate 16 true)) (get_or (c.args.states.now ++ replicate 16 true) c.loop-place.place true),
      );
    }

pub returns : goal.returns
unfolding flow_bits spelled
returns c =
    let all : c.loop-place.place ≡ 16 = omega arith in
    c.loop-place.invariant.first ∙ ap (λ (n : ℕ). spelled_from 0 (take n (c.args.states.now ++ replicate 16 true))) all
