use Rattle.std.proofs.Common.{◌≡◌, ◌∙◌, ◌/◌, ◌*◌, ◌++◌, true, replicate, take, arith, subst, List, Bool, ap}
use Rattle.lk_base.specs.Checksum.{bits_of, bits_of_bytes}
use Rattle.lane_model.specs.LaneBits.{IsFileOf}
use Rattle.link_replay.proofs.Cuts.{ones-first, all-sent}
use Rattle.link_replay.proofs.skewed.put_skewed.Goals as goal

pub loop-i-init : goal.loop-i-init
loop-i-init c =
    let ones = ones-first c.args.ones_before _ (c.in_ok-set_ones.ensures {u = tt}) in
    let e : 8 * (c.args.bits / 8 / 8) ≡ c.args.bits / 8 / 8 * 8 = omega arith in
    c.in_ok-held.ensures ∙ ap (λ (bs : List Bool). bs ++ bits_of_bytes (take (8 * (c.args.bits / 8 / 8)) c.args.sent.now)) ones
    ∙ ap (λ n. replicate c.args.ones_before true ++ bits_of_bytes (take n c.args.sent.now)) e

pub returns : goal.returns
returns c =
    let end : c.loop-i.i ≡ c.args.bits / 8 = omega (arith, c.loop-i-test.false, c.loop-i.auto.i-end) in
    let front = replicate c.args.ones_before true in
    let e = c.loop-i.invariant ∙ ap (λ n. front ++ bits_of_bytes (take n c.args.sent.now)) end in
    subst (λ (bs : List Bool). IsFileOf c.put_last.new.out.items bs)
    (all-sent front (bits_of_bytes c.loop-i.out.items) (bits_of _ c.loop-i.held) (bits_of _ c.first_bits-last.result) c.args.sent.now c.args.bits c.requires e c.first_bits-last.ensures.bits)
    (c.in_ok-put_last.ensures {u = tt})
