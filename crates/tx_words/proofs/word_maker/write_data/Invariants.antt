use Rattle.std.proofs.Common.{◌≡◌, length, map, take, drop}
use Rattle.lk_base.specs.declared.word.Word.TheVariants.{Data}
use Rattle.tx_words.proofs.word_maker.write_data.Given as goal

-- the first data words are there, and the places after all of them are untouched
abbrev pub invariant-loop-place : goal.invariant-loop-place
invariant-loop-place l = record {
  words : take l.place l.out ≡ map Data (take l.place l.numbers);
  rest : drop (length l.numbers) l.out ≡ drop (length l.numbers) l.initial.out;
}
