-- The waiting bits stand above zeros.
use Rattle.std.proofs.Common.{◌≡◌, ℕ, List, Bool, [], refl, length, sym, ap, ◌∙◌, ◌<◌, arith}
use Rattle.lk_base.specs.Checksum.{bits_of}
use Rattle.lane_model.proofs.Numbers.{length-bits_of}
use Rattle.coding_67b.proofs.Cut.{padded, empty_is}
use Rattle.lk_base.proofs.Bits.{no_bits}
use Rattle.coding_67b.proofs.writer.BitWriter.pad.Goals as goal

few : (count bits : ℕ) (waiting : List Bool) → bits_of count bits ≡ waiting → length waiting < 8 → count < 8
few count bits waiting e h = let l : count ≡ length waiting = sym (length-bits_of count bits) ∙ ap length e in omega arith

none : (count bits : ℕ) (waiting : List Bool) → bits_of count bits ≡ waiting → count ≡ 0 → waiting ≡ []
none count bits waiting e h = sym e ∙ ap (λ n. bits_of n bits) h ∙ no_bits bits

some : (count bits : ℕ) (waiting : List Bool) → bits_of count bits ≡ waiting → waiting ≡ [] → count ≡ 0
some count bits waiting e h = empty_is count bits (e ∙ h)

pub returns-then-self-eq0-clause-none : goal.returns-then-self-eq0-clause-none
returns-then-self-eq0-clause-none c = (λ _. none c.self.inside.count c.self.inside.bits c.args.self.now c.self.view_is c.if-self-eq0.true, λ _. refl)

pub returns-then-self-eq0-clause-empty : goal.returns-then-self-eq0-clause-empty
returns-then-self-eq0-clause-empty c = none c.self.inside.count c.self.inside.bits c.args.self.now c.self.view_is c.if-self-eq0.true

pub overflow_sub-byte : goal.overflow_sub-byte
overflow_sub-byte c = let h = few c.self.inside.count c.self.inside.bits c.args.self.now c.self.view_is c.requires in omega (arith, h)

pub returns-clause-none : goal.returns-clause-none
returns-clause-none c =
    (λ e. absurd (cc e), λ k. absurd (c.if-self-eq0.false (some c.self.inside.count c.self.inside.bits c.args.self.now c.self.view_is k)))

pub returns-clause-some : goal.returns-clause-some
returns-clause-some c =
    let h = few c.self.inside.count c.self.inside.bits c.args.self.now c.self.view_is c.requires in
    rw (← c.self.view_is) (padded c.self.inside.count c.self.inside.bits h)

pub returns-clause-empty : goal.returns-clause-empty
returns-clause-empty c = no_bits c.self.inside.bits
