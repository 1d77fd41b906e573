use Rattle.std.proofs.Common.{ℕ, ◌≡◌, ◌-◌, ◌≤◌, false, length}
use Rattle.std.specs.Prelude.{◌&&◌, nat_le, nat_lt, if◌then◌else◌}
use Rattle.lane_damage.specs.Bits.{bit_in}
use Rattle.lane_damage.proofs.marks.clear.Given as goal

-- the bits up to a place are 0, and no other is changed
abbrev pub invariant-loop-place : goal.invariant-loop-place
invariant-loop-place l = record {
  long : length l.bytes ≡ length l.fn.bytes;
  from : l.from ≤ l.place;
  to : l.place ≤ l.to;
  bits : (p : ℕ) → bit_in l.bytes p ≡ (if nat_le l.from p && nat_lt p l.place then false else bit_in l.fn.bytes p);
}

-- the bits that are left
abbrev pub decreases-loop-place : goal.decreases-loop-place
decreases-loop-place l = l.to - l.place
