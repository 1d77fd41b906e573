use Rattle.std.proofs.Common.{◌≡◌, ℕ, ◌-◌, ◌^◌, ◌<◌, ◌≤◌, ◌==◌, List, All}
use Rattle.std.specs.Int.{bit_at}
use Rattle.stream_model.specs.Calendar.{calendar_bit}
use Rattle.stream_model.specs.declared.rows.LocalRow.{LocalRow}
use Rattle.calendar.specs.Outgoing.{StandsOut}
use Rattle.calendar.proofs.outgoing.CalendarOut.each_bit.Given as goal

-- the first i bits are there, the first of them highest
abbrev pub invariant-loop-i : goal.invariant-loop-i
invariant-loop-i l = record {
  small : l.flow < 2 ^ l.i;
  bits : (entries : List ℕ) (local : List LocalRow) (j t k : ℕ) → StandsOut l.self entries local j → All (λ (row : LocalRow). row.slot ≤ t) local → k < l.i → (bit_at l.flow (l.i - 1 - k) == 1) ≡ calendar_bit entries local j t k;
}
