use Rattle.std.proofs.Common.{◌≡◌, ◌+◌, ◌++◌, map, take, vec_capacity, vec_len}
use Rattle.lk_base.specs.Words.{is_control, payload}
use Rattle.word_list.proofs.list.push_all.Given as goal

-- the numbers and kinds of the first words are there
abbrev pub invariant-loop-word : goal.invariant-loop-word
invariant-loop-word l = record {
  numbers : l.numbers.items ≡ l.fn.numbers.items ++ map payload (take l.word-index l.words);
  controls : l.controls.items ≡ l.fn.controls.items ++ map is_control (take l.word-index l.words);
  many : vec_len l.numbers ≡ vec_len l.fn.numbers + l.word-index;
  as_many : vec_len l.controls ≡ vec_len l.fn.controls + l.word-index;
  room : vec_capacity l.numbers ≡ vec_capacity l.fn.numbers;
  as_much : vec_capacity l.controls ≡ vec_capacity l.fn.controls;
}
