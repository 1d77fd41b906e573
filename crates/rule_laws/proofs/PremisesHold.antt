-- The premises of the law hold of the worked streams.
use Rattle.std.proofs.Common.{ℕ, ◌≡◌, ◌≤◌, Bool, true, false, List, length, nat_le, get_or, All, Contains, leb-true, refl, ◌∙◌, map, find, is_some, [], ◌∷◌, ◌==◌, IsTrue}
use Rattle.std.specs.List.{list_all, list_any}
use Rattle.std.proofs.lemmas.List.{get_or_default}
use Rattle.lk_base.specs.declared.word.Word.{Word}
use Rattle.stream_model.specs.BurstStream.{Source, IsSource, IsBurstStream}
use Rattle.stream_model.specs.StreamExamples.{in_turn, in_turn_words, wide_pair, wide_pair_words, least_cut, least_cut_words}
use Rattle.stream_model.proofs.SourceTest.{all_by, all_below}
use Rattle.stream_model.proofs.StreamsHold.{stream_examples_hold}
use Rattle.delivery_laws.specs.LawOnWords.{EachIsPacket, NumbersFit}
use Rattle.rule_laws.specs.Law.{IsPlanOf}
use Rattle.rule_laws.specs.WordsWithoutFault.{IsSettingOf, own_bursts, told_at}
use Rattle.rule_laws.specs.PremisesMet.{plan_for, RulesPremises, RulesPremisesMet, receiver_of, four_packets, WholePremises, WholePremisesMet}
use Rattle.rule_laws.proofs.PacketsTold.{the_law_on_packets}
use Rattle.receive_model.specs.Shown.{PiecesAreShown}
use Rattle.receive_model.specs.Pieces.{bytes_of}
use Rattle.receive_model.specs.Events.{Event, is_rising}
use Rattle.lk_base.specs.declared.word.RxWord.{RxWord}
use Rattle.lk_base.specs.Checksum.{bits_of, register_after}
use Rattle.stream_model.specs.Calendar.{word_number}
use Rattle.word_rules.specs.Faults.{Plan, faults}
use Rattle.word_rules.specs.Examples.{plain_plan}
use Rattle.receive_model.proofs.Cuts.{split}
use Rattle.lk_base.specs.Words.{as_sent}
use Rattle.rule_laws.proofs.AllKept.{the_law_on_rules}

own_listed : (xs : List ℕ) → All (Contains xs) xs
own_listed xs k d below = (k, below, get_or_default xs k (get_or xs k d) d below)

each_fits : (m : ℕ) (source : Source) → IsSource source → list_all (λ (p : ℕ × List ℕ). nat_le (length p.1) m) source.packets ≡ true → EachIsPacket m source
each_fits m source keeps test k d below = record {
  some = (keeps.packets_fit k d below).some;
  fits = all_by (λ (p : ℕ × List ℕ). nat_le (length p.1) m) source.packets (λ (p : ℕ × List ℕ). length p.1 ≤ m) (λ p h. leb-true (length p.1) m h) test k d below;
  bytes = (keeps.packets_fit k d below).bytes;
}

plan_is : (wide : Bool) (source : Source) → IsSource source → NumbersFit wide source → list_all (λ (p : ℕ × List ℕ). nat_le (length p.1) 65) source.packets ≡ true → IsPlanOf (plan_for wide source) source
plan_is wide source keeps numbers test = record {
  burst_max = refl;
  burst_short = refl;
  burst_min = refl;
  packets = each_fits 65 source keeps test;
  numbers = numbers;
  listed = own_listed source.channels;
  entries = refl;
  flow = refl;
}

premises : (wide : Bool) (source : Source) (w : List Word) → IsSource source → NumbersFit wide source → list_all (λ (p : ℕ × List ℕ). nat_le (length p.1) 65) source.packets ≡ true → IsBurstStream source w
    → RulesPremises (plan_for wide source) source w
premises wide source w keeps numbers test stream =
    let plan = plan_is wide source keeps numbers test in
    record { keeps = keeps; plan = plan; stream = stream; no_fault = the_law_on_rules source (plan_for wide source) w keeps plan stream }

pub rules_premises_met : RulesPremisesMet
rules_premises_met = record {
  in_turn_meets = premises false in_turn in_turn_words stream_examples_hold.in_turn_is_source (all_below 256 in_turn.channels refl) refl stream_examples_hold.in_turn_has_words;
  wide_meets = premises true wide_pair wide_pair_words stream_examples_hold.wide_pair_is_source tt refl stream_examples_hold.wide_pair_has_words;
  least_meets = premises false least_cut least_cut_words stream_examples_hold.least_cut_is_source (all_below 256 least_cut.channels refl) refl stream_examples_hold.least_cut_has_words;
}

-- ---- words without a fault

-- two words for one test of a list
found_is : (test : ℕ → Bool) (xs : List ℕ) → is_some (find test xs) ≡ list_any test xs
found_is test [] = refl
found_is test (x ∷ xs) = split (test x) (λ t. rw t refl) (λ t. rw t (found_is test xs))

says_it : (p : Plan) (rising : IsTrue (is_rising p.channels)) → IsSettingOf (receiver_of p rising) p
says_it p rising = record { max_packet = refl; wide = refl; channels = λ channel. found_is (λ c. c == channel) p.channels }

no_fault_of_four : faults plain_plan four_packets ≡ []
unfolding bits_of register_after word_number
no_fault_of_four = refl

met : PiecesAreShown → (p : Plan) (rising : IsTrue (is_rising p.channels)) (words : List RxWord) (channel : ℕ) (told : List Event) → faults p words ≡ []
    → told_at channel (own_bursts p.limits.wide channel words) ≡ told → WholePremises (receiver_of p rising) p words channel told
met shown p rising words channel told none is = record {
  says = says_it p rising;
  no_fault = none;
  packets = the_law_on_packets shown (receiver_of p rising) p words channel (says_it p rising) none ∙ is;
}

pub whole_premises_met : PiecesAreShown → WholePremisesMet
unfolding bytes_of
whole_premises_met shown = record {
  in_turn_meets = met shown (plan_for false in_turn) refl (map as_sent in_turn_words) 3 _ rules_premises_met.in_turn_meets.no_fault refl;
  four_packets_meet = met shown plain_plan refl four_packets 0 _ no_fault_of_four refl;
}
