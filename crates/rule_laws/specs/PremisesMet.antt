-- The premises of the laws are met: by two channels in turn where numbers are narrow, by two wide channels of one remainder, and by a
-- packet in two bursts, of which the first is shortened; and by the words of another sender.
use Rattle.std.specs.Prelude.{ℕ, ◌≡◌, Bool, true, false, IsTrue, List, [], ◌∷◌, map, refl}
use Rattle.lk_base.specs.Words.{as_sent}
use Rattle.lk_base.specs.declared.word.Word.{Word}
use Rattle.lk_base.specs.declared.word.RxWord.{RxWord}
use Rattle.lk_base.specs.declared.word.RxWord.TheVariants.{Data, Control}
use Rattle.lk_base.specs.declared.fault.DropWhy.TheVariants as drops
use Rattle.receive_model.specs.Events.{Event, Dropped, Setting, is_rising, word_events}
use Rattle.receive_model.specs.Outcomes.{outputs_on}
use Rattle.receive_model.specs.PieceCases.{delivered_as}
use Rattle.stream_model.specs.BurstStream.{Source, IsSource, IsBurstStream}
use Rattle.stream_model.specs.StreamExamples.{in_turn, in_turn_words, wide_pair, wide_pair_words, least_cut, least_cut_words}
use Rattle.word_rules.specs.Faults.{Plan, faults}
use Rattle.word_rules.specs.Examples.{plain_plan}
use Rattle.rule_laws.specs.Law.{IsPlanOf}
use Rattle.rule_laws.specs.WordsWithoutFault.{IsSettingOf}

-- the plan that says a source's own numbers, with packets of at most 65 bytes
abbrev pub plan_for : Bool → Source → Plan
plan_for wide source = record {
  limits = record {
    burst_max = source.shape.burst_max;
    burst_short = source.shape.burst_short;
    burst_min = source.shape.burst_min;
    max_packet = 65;
    wide = wide;
  };
  channels = source.channels;
  entries = source.entries;
  flow = source.flow;
}

-- what the law asks for, and what it says
pub record RulesPremises (p : Plan) (source : Source) (w : List Word) : Type 0 where
  pub keeps : IsSource source
  pub plan : IsPlanOf p source
  pub stream : IsBurstStream source w
  pub no_fault : faults p (map as_sent w) ≡ []

pub record RulesPremisesMet : Type 0 where
  pub in_turn_meets : RulesPremises (plan_for false in_turn) in_turn in_turn_words
  -- two channels of one remainder by 256
  pub wide_meets : RulesPremises (plan_for true wide_pair) wide_pair wide_pair_words
  -- bursts of 32 and 33 bytes where BurstMin is 32
  pub least_meets : RulesPremises (plan_for false least_cut) least_cut least_cut_words

-- ---- words without a fault

-- the receiver whose settings a plan says, where its channels rise
abbrev pub receiver_of : (p : Plan) → IsTrue (is_rising p.channels) → Setting
receiver_of p rising = record { channels = p.channels; in_order = rising; max_packet = p.limits.max_packet; wide = p.limits.wide }

-- Four packets of four words on one channel: of the first, which begins at the first Control word, nothing is told; the second ends
-- with an error, the third rightly, and the fourth is open where the words end.
abbrev pub four_packets : List RxWord
four_packets =
    Control 0xe1ffff00001e8142 ∷ Data 0x1 ∷ Data 0x2 ∷ Data 0x3 ∷ Data 0x4 ∷
    Control 0xf1ffff00007f112c ∷ Data 0x1 ∷ Data 0x2 ∷ Data 0x3 ∷ Data 0x4 ∷
    Control 0xe3ffff0000f45c23 ∷ Data 0x1 ∷ Data 0x2 ∷ Data 0x3 ∷ Data 0x4 ∷
    Control 0xf1ffff00007f112c ∷ Data 0x1 ∷ Data 0x2 ∷ Data 0x3 ∷ Data 0x4 ∷
    Control 0x81ffff00000f2d80 ∷ []

abbrev pub four_words : List ℕ
four_words = 0 ∷ 0 ∷ 0 ∷ 0 ∷ 0 ∷ 0 ∷ 0 ∷ 1 ∷ 0 ∷ 0 ∷ 0 ∷ 0 ∷ 0 ∷ 0 ∷ 0 ∷ 2 ∷ 0 ∷ 0 ∷ 0 ∷ 0 ∷ 0 ∷ 0 ∷ 0 ∷ 3 ∷ 0 ∷ 0 ∷ 0 ∷ 0 ∷ 0 ∷ 0 ∷ 0 ∷ 4 ∷ []

-- what the laws on words without a fault ask for, and what becomes of the packets of a channel
pub record WholePremises (setting : Setting) (p : Plan) (words : List RxWord) (channel : ℕ) (told : List Event) : Type 0 where
  pub says : IsSettingOf setting p
  pub no_fault : faults p words ≡ []
  pub packets : outputs_on channel (word_events setting words) ≡ told

pub record WholePremisesMet : Type 0 where
  -- the stream of a source: two packets of a byte each are delivered
  pub in_turn_meets : WholePremises (receiver_of (plan_for false in_turn) refl) (plan_for false in_turn) (map as_sent in_turn_words) 3
      (delivered_as 3 (7 ∷ []) 1 3 ∷ delivered_as 3 (8 ∷ []) 15 17 ∷ [])
  -- the words of another sender
  pub four_packets_meet : WholePremises (receiver_of plain_plan refl) plain_plan four_packets 0
      (Dropped 0 drops.SenderError ∷ delivered_as 0 four_words 10 15 ∷ Dropped 0 drops.End ∷ [])
