-- The balance after the first codes.
use Rattle.std.specs.Prelude.{◌≡◌, ◌≤ℤ◌, pos, negsuc, IfSome, take}
use Rattle.lane_events.specs.Balance.{balance_over}
use Rattle.lane_events.proofs.balance.balance_over.Given as goal

abbrev pub invariant-loop-place : goal.invariant-loop-place
invariant-loop-place l = record {
  value : l.balance ≡ balance_over l.fn.before (take l.place l.codes);
  low : IfSome l.balance (λ n. negsuc 128 ≤ℤ n);
  high : IfSome l.balance (λ n. n ≤ℤ pos 129);
}
