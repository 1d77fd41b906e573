use Rattle.std.proofs.Common.{◌≡◌, drop, length, take}
use Rattle.word_list.specs.Parts.{words_of}
use Rattle.word_list.proofs.list.read_parts.Given as goal

-- the first words are copied
abbrev pub invariant-loop-place : goal.invariant-loop-place
invariant-loop-place l = (length l.block ≡ length l.fn.block) × (take l.place l.block ≡ take l.place (drop l.first (words_of l.numbers l.controls)))
