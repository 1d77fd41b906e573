-- The first numbers are there, and the key is after them.
use Rattle.std.proofs.Common.{◌≡◌, length, map, take}
use Rattle.lk_base.specs.Words.{number_of}
use Rattle.lane_model.specs.Coding.{word_of_code}
use Rattle.lane_lock.specs.Inside.{with_key}
use Rattle.lane_lock.specs.Run.{key_ran, keyed_words}
use Rattle.lane_lock.proofs.inside.Inside.unscrambled_codes.Given as goal

abbrev pub invariant-loop-place : goal.invariant-loop-place
invariant-loop-place l =
    (take l.place l.numbers ≡ map number_of (keyed_words l.initial.self.state (take l.place (map word_of_code l.codes))))
    × (l.self ≡ with_key l.initial.self (key_ran l.initial.self.state (take l.place (map word_of_code l.codes)))) × (length l.numbers ≡ 8)
