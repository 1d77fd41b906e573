-- The premises of the laws are met: by a stream of a warm-up of four groups, of a word each, and then one packet.
use Rattle.std.specs.Prelude.{◌≡◌, ◌*◌, ◌≤◌, true, false, List, [], ◌∷◌, length, map, take, drop}
use Rattle.std.specs.List.{list_all}
use Rattle.std.proofs.Common.{lit≤}
use Rattle.lk_base.specs.Words.{as_sent}
use Rattle.lk_base.specs.declared.word.Word.{Word}
use Rattle.lk_base.specs.declared.word.Word.TheVariants.{Data, Control}
use Rattle.stream_model.specs.BurstStream.{Source, IsSource, IsBurstStream}
use Rattle.stream_model.specs.StreamExamples.{small_shape, idle, one_packet}
use Rattle.word_rules.specs.Faults.{faults}
use Rattle.rule_laws.specs.Law.{IsPlanOf}
use Rattle.rule_laws.specs.PremisesMet.{plan_for}
use Rattle.gathered_laws.specs.LaterWords.{is_idle}

-- the source of one packet of eight bytes, after a warm-up of four words
abbrev pub four_groups : Source
four_groups = record one_packet { shape = record small_shape { warmup = 4; warmup_low = lit≤ tt; warmup_high = lit≤ tt } }

abbrev pub four_groups_words : List Word
four_groups_words = idle ∷ idle ∷ idle ∷ idle ∷ Control 0xe1ffff01004eac73 ∷ Data 0x0102030405060708 ∷ Control 0x91ffff000038535e ∷ idle ∷ []

-- what the laws ask for of it and of the plan that says its numbers, and what they say
pub record LaterPremisesMet : Type 0 where
  pub keeps : IsSource four_groups
  pub plan : IsPlanOf (plan_for false four_groups) four_groups
  pub stream : IsBurstStream four_groups four_groups_words
  pub no_flow : four_groups.flow ≡ []
  pub warm : 3 ≤ four_groups.shape.warmup
  pub some_entry : 1 ≤ length (plan_for false four_groups).entries
  pub idles : list_all is_idle (take 3 (map as_sent four_groups_words)) ≡ true
  pub no_fault : faults (plan_for false four_groups) (map as_sent (drop (3 * four_groups.shape.group) four_groups_words)) ≡ []
