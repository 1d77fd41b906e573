-- The code's bits stand below the waiting ones.
use Rattle.std.proofs.Common.{◌≡◌, ◌+◌, ℕ, List, Bool, length, sym, ap, ◌∙◌, ◌<◌, arith}
use Rattle.lk_base.specs.Checksum.{bits_of}
use Rattle.lane_model.proofs.Numbers.{length-bits_of}
use Rattle.coding_67b.proofs.Cut.{pushed}
use Rattle.coding_67b.proofs.writer.BitWriter.push.Goals as goal

few : (count bits : ℕ) (waiting : List Bool) → bits_of count bits ≡ waiting → length waiting < 61 → count < 61
few count bits waiting e h = let l : count ≡ length waiting = sym (length-bits_of count bits) ∙ ap length e in omega arith

pub invariant_of-self : goal.invariant_of-self
invariant_of-self c = let h = few c.self.inside.count c.self.inside.bits c.args.self.now c.self.view_is c.requires.waiting in omega (arith, h)

pub returns-clause-bits : goal.returns-clause-bits
returns-clause-bits c =
    let h = few c.self.inside.count c.self.inside.bits c.args.self.now c.self.view_is c.requires.waiting in
    rw (← c.self.view_is) (pushed c.self.inside.count c.self.inside.bits c.args.code h c.requires.code)

pub returns-clause-count : goal.returns-clause-count
returns-clause-count c = rw (← c.self.view_is) (length-bits_of (c.self.inside.count + 67) _ ∙ ap (λ n. n + 67) (sym (length-bits_of c.self.inside.count c.self.inside.bits)))
