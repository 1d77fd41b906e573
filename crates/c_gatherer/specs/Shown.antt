-- What is given of lanes as C sees it.
use Rattle.std.specs.Prelude.{ℕ, Option, Some, None}
use Rattle.live_gatherer.specs.declared.types.Gathered.{Gathered}
use Rattle.live_gatherer.specs.declared.types.Gathered.TheVariants as gathereds
use Rattle.live_gatherer.specs.declared.types.GatheredBreak.{GatheredBreak}
use Rattle.live_gatherer.specs.declared.types.GatheredWord.{GatheredWord}
use Rattle.c_parts.specs.Places.{place_of}
use Rattle.lk_base.specs.Words.{number_of}
use Rattle.c_parts.specs.Codes.{fault_number}
use Rattle.c_gatherer.specs.Codes.{kind_of}
use Rattle.c_gatherer.specs.declared.gathered.CGathered.{CGathered}

-- one of this kind with no field
abbrev pub of_kind : ℕ → CGathered
of_kind kind = record { kind = kind; word_kind = 0; lane = 0; why = 0; at = place_of None; bit = 0; number = 0; word = 0 }

abbrev pub of_word : GatheredWord → CGathered
of_word w = record { kind = 1; word_kind = kind_of w.word; lane = w.lane; why = 0; at = place_of (Some w.at); bit = w.bit; number = w.number; word = number_of w.word }

abbrev pub of_break : GatheredBreak → CGathered
of_break b = record { kind = 2; word_kind = 0; lane = 0; why = fault_number b.why; at = place_of (Some b.at); bit = 0; number = b.number; word = 0 }

abbrev pub shown : Option Gathered → CGathered
shown None = of_kind 0
shown (Some (gathereds.Word w)) = of_word w
shown (Some (gathereds.Break b)) = of_break b
shown (Some gathereds.Ended) = of_kind 3
