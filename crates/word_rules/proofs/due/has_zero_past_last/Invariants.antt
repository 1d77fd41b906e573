use Rattle.std.proofs.Common.{◌≡◌, ◌+◌, ◌-◌, ◌*◌, ◌==◌, ◌&&◌, not, nat_le}
use Rattle.std.specs.List.{list_any, range_with_len}
use Rattle.std.specs.Int.{bit_at}
use Rattle.word_rules.proofs.due.has_zero_past_last.Given as goal

-- whether one of the bits so far is one
abbrev pub invariant-loop-i : goal.invariant-loop-i
invariant-loop-i l = l.found ≡ list_any (λ i. nat_le l.entries (16 * l.number + i) && not (bit_at l.word.0 (55 - i) == 1)) (range_with_len 0 l.i)
