use Rattle.std.proofs.Common.{ℕ, ◌≡◌, ◌+◌, ◌-◌, ◌*◌, ◌==◌, ◌&&◌, not, nat_le, subst, arith}
use Rattle.std.specs.List.{list_any, range_with_len}
use Rattle.std.specs.Int.{bit_at}
use Rattle.word_rules.proofs.due.has_zero_past_last.Goals as goal

pub returns : goal.returns
returns c =
    let e : c.loop-i.i ≡ 16 = omega arith in
    subst (λ (n : ℕ). c.loop-i.found ≡ list_any (λ i. nat_le c.args.entries (16 * c.args.number + i) && not (bit_at c.args.word.0 (55 - i) == 1)) (range_with_len 0 n)) e c.loop-i.invariant
