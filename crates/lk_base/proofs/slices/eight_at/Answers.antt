-- Eight bytes as a number.
use Rattle.std.proofs.Common.{ℕ, ◌<◌, get_or, arith}
use Rattle.lk_base.proofs.Eights.{eight_there}
use Rattle.lk_base.proofs.slices.eight_at.Goals as goal

pub returns : goal.returns
returns c =
    let low : (k : ℕ) → get_or c.args.bytes.now k 0 < 256 = λ k. (let b = c.type_inv.bytes k in omega (arith, b)) in
    eight_there c.args.bytes.now c.args.place c.from_be_bytes.result c.requires low c.from_be_bytes.ensures
