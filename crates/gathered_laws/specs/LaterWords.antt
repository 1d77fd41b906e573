-- The laws on words without their first ones.
use Rattle.std.specs.Prelude.{ℕ, ◌≡◌, ◌*◌, ◌≤◌, Bool, true, false, not, List, [], length, map, take, drop}
use Rattle.std.specs.List.{list_all}
use Rattle.lk_base.specs.Words.{as_sent}
use Rattle.lk_base.specs.declared.word.Word.{Word}
use Rattle.lk_base.specs.declared.word.RxWord.{RxWord}
use Rattle.lk_base.specs.declared.word.RxWord.TheVariants.{Data, Control, Bad}
use Rattle.stream_model.specs.BurstStream.{Source, IsSource, IsBurstStream, warmup_slots}
use Rattle.word_rules.specs.Places.{is_burst_word}
use Rattle.word_rules.specs.Faults.{Plan, faults}
use Rattle.rule_laws.specs.Law.{IsPlanOf}

-- a Control word that is no burst word
abbrev pub is_idle : RxWord → Bool
is_idle (Data x) = false
is_idle (Control x) = not (is_burst_word x)
is_idle Bad = false

-- words without a fault have none without their first n, where these are idles, the calendar has an entry and no flow row is given
abbrev pub LawOnLaterWords : Type 0
LawOnLaterWords = (p : Plan) (words : List RxWord) (n : ℕ) → 1 ≤ length p.entries → p.flow ≡ [] →
    list_all is_idle (take n words) ≡ true → faults p words ≡ [] → faults p (drop n words) ≡ []

-- the stream of a source without flow rows has no fault from a place of its warm-up on, or from the end of the warm-up
abbrev pub LawOnWarmup : Type 0
LawOnWarmup = (source : Source) (p : Plan) (w : List Word) (n : ℕ) →
    IsSource source → IsPlanOf p source → IsBurstStream source w → source.flow ≡ [] → n ≤ warmup_slots source →
    faults p (map as_sent (drop n w)) ≡ []

-- so from the fourth group on, where the warm-up has three groups or more
abbrev pub LawOnFourthGroup : Type 0
LawOnFourthGroup = (source : Source) (p : Plan) (w : List Word) →
    IsSource source → IsPlanOf p source → IsBurstStream source w → source.flow ≡ [] → 3 ≤ source.shape.warmup →
    faults p (map as_sent (drop (3 * source.shape.group) w)) ≡ []
