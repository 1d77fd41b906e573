-- No bit is left.
use Rattle.std.proofs.Common.{ℕ, ◌≡◌, ◌+◌, ◌∙◌, ap, take, arith}
use Rattle.lk_base.specs.Checksum.{bits_of_bytes}
use Rattle.coding_67b.proofs.Runs.{all_given}
use Rattle.coding_67b.proofs.eight.put_rest.Goals as goal

pub returns : goal.returns
returns c =
    let over = c.loop-place-test.false in
    let i = c.loop-place.invariant in
    let end = c.loop-place.auto.place-end (omega arith) in
    let e : c.args.at + 3 ≡ c.loop-place.place = omega (arith, over, end) in
    ap (λ (n : ℕ). bits_of_bytes (take n c.loop-place.bytes)) e ∙ all_given (bits_of_bytes (take c.loop-place.place c.loop-place.bytes)) c.loop-place.bits _ i.0 (omega (arith, over, i.1))
