-- The premises of the laws hold of the worked stream.
use Rattle.std.proofs.Common.{ℕ, ◌≤◌, false, List, length, get_or, nat_le, All, Contains, leb-true, refl, lit≤}
use Rattle.std.proofs.lemmas.List.{get_or_default}
use Rattle.lk_base.specs.Checksum.{bits_of, register_after}
use Rattle.stream_model.specs.Calendar.{word_number}
use Rattle.stream_model.specs.BurstStream.{IsSource, data_since}
use Rattle.stream_model.proofs.Checker.{IsChecked, checked}
use Rattle.stream_model.proofs.SourceTest.{all_below, all_by, is_source}
use Rattle.delivery_laws.specs.LawOnWords.{EachIsPacket}
use Rattle.rule_laws.specs.Law.{IsPlanOf}
use Rattle.rule_laws.specs.PremisesMet.{plan_for}
use Rattle.gathered_laws.specs.PremisesMet.{four_groups, four_groups_words, LaterPremisesMet}
use Rattle.gathered_laws.proofs.Warmup.{the_law_on_the_fourth_group}

own_listed : (xs : List ℕ) → All (Contains xs) xs
own_listed xs k d below = (k, below, get_or_default xs k (get_or xs k d) d below)

is_stream : IsChecked four_groups four_groups_words 6
unfolding bits_of register_after data_since
is_stream = checked four_groups four_groups_words 6 refl

is_kept : IsSource four_groups
unfolding bits_of register_after word_number
is_kept = is_source four_groups refl

each_fits : EachIsPacket 65 four_groups
each_fits k d below = record {
  some = (is_kept.packets_fit k d below).some;
  fits = all_by (λ (p : ℕ × List ℕ). nat_le (length p.1) 65) four_groups.packets (λ (p : ℕ × List ℕ). length p.1 ≤ 65) (λ p h. leb-true (length p.1) 65 h) refl k d below;
  bytes = (is_kept.packets_fit k d below).bytes;
}

is_plan : IsPlanOf (plan_for false four_groups) four_groups
is_plan = record {
  burst_max = refl;
  burst_short = refl;
  burst_min = refl;
  packets = each_fits;
  numbers = all_below 256 four_groups.channels refl;
  listed = own_listed four_groups.channels;
  entries = refl;
  flow = refl;
}

pub later_premises_met : LaterPremisesMet
later_premises_met = record {
  keeps = is_kept;
  plan = is_plan;
  stream = is_stream.has_words;
  no_flow = refl;
  warm = lit≤ tt;
  some_entry = lit≤ tt;
  idles = refl;
  no_fault = the_law_on_the_fourth_group four_groups (plan_for false four_groups) four_groups_words is_kept is_plan is_stream.has_words refl (lit≤ tt);
}
