-- What the values of the pass stand for: the words before a place, the latest first.
use Rattle.std.specs.Prelude.{◌≡◌, ◌-◌, ◌^◌, List, length, get_or}
use Rattle.std.specs.List.{list_any}
use Rattle.lk_base.specs.declared.word.RxWord.{RxWord}
use Rattle.lk_base.specs.Words.{is_bad}
use Rattle.lk_base.specs.Checksum.{bits_of_words, register_after}
use Rattle.word_rules.specs.declared.before.Before.{Before}
use Rattle.word_rules.specs.Places.{known, data_before, burst_before, follows_bad, words_since_burst}
use Rattle.word_rules.specs.Rules.{covered}

-- what the rules read of the words before a place
pub record IsBefore (b : Before) (earlier : List RxWord) : Type 0 where
  pub number : b.number ≡ length earlier
  pub register : b.register ≡ register_after 24 0x328B63 (2 ^ 24 - 1) (bits_of_words (covered earlier))
  pub burst : b.burst ≡ burst_before earlier
  pub after_bad : b.after_bad ≡ follows_bad earlier
  pub size : b.size ≡ length (data_before earlier)
  pub last : b.last ≡ get_or (data_before earlier) 0 0
  pub since_burst : b.since_burst ≡ words_since_burst (known earlier)
  pub any_bad : b.any_bad ≡ list_any is_bad earlier
