-- The numbers of misuses and of kinds of words.
use Rattle.std.specs.Prelude.{ℕ}
use Rattle.lk_base.specs.declared.word.RxWord.{RxWord}
use Rattle.lk_base.specs.declared.word.RxWord.TheVariants as received
use Rattle.live_gatherer.specs.declared.misuse.Misuse.{Misuse}
use Rattle.live_gatherer.specs.declared.misuse.Misuse.TheVariants as misuses
use Rattle.c_parts.specs.Codes.{finished, no_lane, too_many}

abbrev pub misuse_code : Misuse → ℕ
misuse_code misuses.NoLane = no_lane
misuse_code misuses.Finished = finished
misuse_code misuses.TooMany = too_many

-- the tags of a words file
abbrev pub kind_of : RxWord → ℕ
kind_of (received.Data x) = 1
kind_of (received.Control x) = 2
kind_of received.Bad = 3
