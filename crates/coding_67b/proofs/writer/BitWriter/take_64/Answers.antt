-- The highest 64 of the waiting bits.
use Rattle.std.proofs.Common.{◌≡◌, ◌-◌, ◌≤◌, ℕ, List, Bool, length, sym, ap, ◌∙◌, arith}
use Rattle.lk_base.specs.Checksum.{bits_of}
use Rattle.lane_model.proofs.Numbers.{length-bits_of}
use Rattle.coding_67b.proofs.Cut.{taken_64}
use Rattle.coding_67b.proofs.writer.BitWriter.take_64.Goals as goal

many : (count bits : ℕ) (waiting : List Bool) → bits_of count bits ≡ waiting → 64 ≤ length waiting → 64 ≤ count
many count bits waiting e h = let l : count ≡ length waiting = sym (length-bits_of count bits) ∙ ap length e in omega arith

pub overflow_sub-self : goal.overflow_sub-self
overflow_sub-self c = many c.self.inside.count c.self.inside.bits c.args.self.now c.self.view_is c.requires

pub returns-clause-bits : goal.returns-clause-bits
returns-clause-bits c = rw (← c.self.view_is) (taken_64 c.self.inside.count c.self.inside.bits (many c.self.inside.count c.self.inside.bits c.args.self.now c.self.view_is c.requires))

pub returns-clause-count : goal.returns-clause-count
returns-clause-count c =
    let a = length-bits_of c.self.inside.count c.self.inside.bits in
    let b = length-bits_of (c.self.inside.count - 64) c.self.inside.bits in
    let h = many c.self.inside.count c.self.inside.bits c.args.self.now c.self.view_is c.requires in
    rw (← c.self.view_is) (omega (arith, a, b, h))
