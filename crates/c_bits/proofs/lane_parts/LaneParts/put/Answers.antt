-- A lane that is not there gets no part.
use Rattle.std.proofs.Common.{◌≡◌, Bool, List, arith, set, subst, sym}
use Rattle.c_bits.specs.PartBits.{bits_in}
use Rattle.c_bits.proofs.PartsHold.{none_set}
use Rattle.c_bits.proofs.lane_parts.LaneParts.put.Goals as goal

pub returns-else-at-lt64 : goal.returns-else-at-lt64
returns-else-at-lt64 c =
    let many = c.self.invariant in
    let past = c.if-at-lt64.false in
    subst (λ (v : List (List Bool)). v ≡ set v c.args.lane (bits_in c.args.part)) c.self.view_is (sym (none_set c.self.inside.parts c.args.lane (bits_in c.args.part) (omega (arith, many, past))))
