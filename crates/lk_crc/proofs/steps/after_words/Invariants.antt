use Rattle.std.proofs.Common.{◌≡◌, ℕ, length}
use Rattle.lk_base.specs.Checksum.{bits_of_words, register_after}
use Rattle.lk_crc.specs.Slices.{AreSlices}
use Rattle.lk_crc.proofs.steps.after_words.Given as goal

-- the bits that are left lead from the register to the end
abbrev pub invariant-loop-rest : goal.invariant-loop-rest
invariant-loop-rest g l = (p : ℕ) → AreSlices g.row.WIDTH p 0 l.near → AreSlices g.row.WIDTH p 64 l.far → register_after g.row.WIDTH p l.stepped (bits_of_words l.rest) ≡ register_after g.row.WIDTH p l.fn.register (bits_of_words l.words)

abbrev pub decreases-loop-rest : goal.decreases-loop-rest
decreases-loop-rest g l = length l.rest
