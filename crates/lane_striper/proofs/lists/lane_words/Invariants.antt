-- The first words of the lane.
use Rattle.std.proofs.Common.{◌≡◌, ◌+◌, ◌*◌, map, get_or}
use Rattle.std.specs.List.{range_with_len}
use Rattle.lk_base.specs.declared.word.Word.TheVariants.{Data}
use Rattle.lane_striper.proofs.lists.lane_words.Given as goal

abbrev pub invariant-loop-place : goal.invariant-loop-place
invariant-loop-place l = l.list.items ≡ map (λ n. get_or l.words (n * l.lanes + l.lane) (Data 0)) (range_with_len 0 l.place)
