use Rattle.std.proofs.Common.{◌≡◌, ℕ, length, map, take, drop, Some}
use Rattle.lk_base.specs.declared.word.RxWord.TheVariants.{Data}
use Rattle.c_checker.specs.Many.{asked}
use Rattle.c_checker.proofs.many.copy_data.Given as goal

-- the first numbers are those of the words
abbrev pub invariant-loop-count : goal.invariant-loop-count
invariant-loop-count l = record {
  same : length l.room ≡ length l.fn.room;
  words : map (λ (n : ℕ). Some (Data n)) (take l.count l.room) ≡ take l.count (drop l.at (asked l.words));
}
