use Rattle.std.proofs.Common.{◌≡◌, ℕ, ◌≤◌, List, ◌++◌, length, map, reverse}
use Rattle.std.specs.List.{range_with_len}
use Rattle.stream_model.specs.Calendar.{Told}
use Rattle.arrayvec.specs.ArrayVec.{array_vec_len}
use Rattle.calendar.specs.Changes.{changes, told_by_bits}
use Rattle.calendar.specs.Incoming.{HasStates}
use Rattle.calendar.proofs.incoming.tell.Given as goal

-- the first i entries are told
abbrev pub invariant-loop-i : goal.invariant-loop-i
invariant-loop-i l = record {
  wide : length l.on ≡ 65536;
  room : array_vec_len l.changed ≤ l.i;
  states : (slot row : ℕ) (told : List Told) → HasStates l.fn.on told → HasStates l.on (reverse (map (told_by_bits slot row l.entries l.word.flow) (range_with_len 0 l.i)) ++ told);
  changed : (slot row : ℕ) (told : List Told) → HasStates l.fn.on told → l.changed.items ≡ changes told (map (told_by_bits slot row l.entries l.word.flow) (range_with_len 0 l.i));
}
