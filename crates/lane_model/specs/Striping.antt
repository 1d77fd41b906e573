-- Which words of a stream go to which lane.
use Rattle.std.specs.Prelude.{ℕ, ◌+◌, ◌-◌, ◌*◌, ◌/◌, List, length, get_or, map}
use Rattle.std.specs.List.{range_with_len}
use Rattle.lk_base.specs.declared.word.Word.{Word}
use Rattle.lk_base.specs.declared.word.Word.TheVariants.{Data}

-- how many of this many words lane number i of these lanes gets: as many as there are n with n*lanes + i below `total`
abbrev pub share : ℕ → ℕ → ℕ → ℕ
share lanes total i = (total + (lanes - 1 - i)) / lanes

-- the payload words of lane number i: its payload number n is word n*lanes + i of the stream
abbrev pub lane_payload : ℕ → List Word → ℕ → List Word
lane_payload lanes words i = map (λ n. get_or words (n * lanes + i) (Data 0)) (range_with_len 0 (share lanes (length words) i))
