-- Words without a fault: what becomes of each packet, and that a drop is for the end of the words or as the sender told.
use Rattle.std.proofs.Common.{ℕ, ◌≡◌, ◌==◌, Bool, true, List, [], ◌∷◌, ◌++◌, MatchOption, append-nil, map, flat_map, Option, Some, None, refl, sym, ap, subst, subst₂, ◌∙◌, eq-eqb}
use Rattle.std.specs.List.{list_all, cons_option}
use Rattle.std.proofs.lemmas.Bool.{and_from, and_parts}
use Rattle.lk_base.specs.declared.word.RxWord.{RxWord}
use Rattle.lk_base.specs.declared.fault.Why.TheVariants as whys
use Rattle.lk_base.specs.declared.position.Pos.{Pos}
use Rattle.receive_model.specs.Lists.{neighbours, last_of}
use Rattle.receive_model.specs.Positions.{placed_from}
use Rattle.receive_model.specs.Stretches.{Headed, headed, between, stretches, Verified, last_word}
use Rattle.receive_model.specs.Pieces.{Burst, begins, ends, next_data, clean_runs, pieces}
use Rattle.control_words.specs.declared.fields.Eop.{Eop}
use Rattle.control_words.specs.declared.fields.Eop.TheVariants as eops
use Rattle.control_words.specs.ControlWord.{end_of}
use Rattle.receive_model.specs.Events.{Event, Delivered, Dropped, FaultSpan, Flow, Setting, is_listed, delivered, words_epoch, word_events}
use Rattle.receive_model.specs.Outcomes.{outcomes_from, run_outcomes, run_ends_for, tells_of, outputs_on}
use Rattle.receive_model.specs.Shown.{PiecesAreShown}
use Rattle.receive_model.proofs.Cuts.{split}
use Rattle.receive_model.proofs.Order.{same-from}
use Rattle.receive_model.proofs.AllEvents.{run_list}
use Rattle.receive_model.proofs.AllSpans.{word_places_rise}
use Rattle.delivery_laws.specs.Law.{word_items}
use Rattle.word_rules.specs.Faults.{Plan, faults}
use Rattle.rule_laws.specs.WordsWithoutFault.{IsSettingOf, drops_as_told, own_bursts, told_by, told_with, told_from, told_at, LawOnDelivered, LawOnDrops, LawOnPackets}
use Rattle.rule_laws.proofs.OuterSpans.{all_verified, all_end}
use Rattle.rule_laws.proofs.ToldPieces.{GoRight, all_told}
use Rattle.rule_laws.proofs.KeptStates.{run_right}

-- ---- one run

-- the words after stretches that follow one another are one run, if there is one
one_run : (a b : Headed) (heads : List Headed) →
    clean_runs (map last_word (map between (neighbours (a ∷ b ∷ heads)))) ≡ map last_word (map between (neighbours (a ∷ b ∷ heads))) ∷ []
one_run a b [] = refl
one_run a b (c ∷ heads) = rw (same-from b.at b.at refl, one_run b c heads) refl

run_is : (heads : List Headed) → clean_runs (map last_word (map between (neighbours heads))) ≡ run_list (map last_word (map between (neighbours heads)))
run_is [] = refl
run_is (a ∷ []) = refl
run_is (a ∷ b ∷ heads) = one_run a b heads

-- ---- the outcomes of a channel

module _ (setting : Setting) (p : Plan) (words : List RxWord) (of : IsSettingOf setting p) (none : faults p words ≡ []) where
  ends_in_end : (o : Option Verified) → run_ends_for (word_items words) o ≡ whys.End
  ends_in_end None = refl
  ends_in_end (Some u) = all_end p words none u.at

  -- its bursts among the verified words go on as the rules ask
  bursts_right : (channel : ℕ) → (going : Bool) × (known_bytes : Option ℕ) × GoRight (is_listed setting channel) setting.max_packet going known_bytes (own_bursts setting.wide channel words)
  bursts_right channel =
      let right = run_right p channel words none in
      let in_plan : GoRight (is_listed setting channel) setting.max_packet right.0 right.1 (own_bursts p.limits.wide channel words) =
      subst₂ (λ listed m. GoRight listed m right.0 right.1 (own_bursts p.limits.wide channel words)) (sym (of.channels channel)) (sym of.max_packet) right.2 in
      (right.0, right.1, subst (λ wide. GoRight (is_listed setting channel) setting.max_packet right.0 right.1 (own_bursts wide channel words)) (sym of.wide) in_plan)

  run_is_told : (channel : ℕ) → run_outcomes setting channel (word_items words) (map last_word (stretches (placed_from 0 words))) ≡ told_at channel (own_bursts setting.wide channel words)
  run_is_told channel =
      let vs = map last_word (stretches (placed_from 0 words)) in
      let right = bursts_right channel in
      ap (λ why. outcomes_from setting channel why true (pieces setting.wide channel vs None)) (ends_in_end (last_of vs))
      ∙ all_told setting channel right.0 right.1 (own_bursts setting.wide channel words) right.2

  of_run : (channel : ℕ) (vs : List Verified) → flat_map (run_outcomes setting channel (word_items words)) (run_list vs) ≡ run_outcomes setting channel (word_items words) vs
  of_run channel [] = refl
  of_run channel (v ∷ rest) = append-nil (run_outcomes setting channel (word_items words) (v ∷ rest))

  outputs_told : PiecesAreShown → (channel : ℕ) → outputs_on channel (word_events setting words) ≡ told_at channel (own_bursts setting.wide channel words)
  outputs_told shown channel =
      shown setting channel (words_epoch words ∷ []) (word_places_rise words)
      ∙ ap (λ vs. flat_map (run_outcomes setting channel (word_items words)) (clean_runs vs)) (all_verified p words none)
      ∙ ap (flat_map (run_outcomes setting channel (word_items words))) (run_is (headed (placed_from 0 words)))
      ∙ of_run channel (map last_word (stretches (placed_from 0 words)))
      ∙ run_is_told channel

pub the_law_on_packets : PiecesAreShown → LawOnPackets
the_law_on_packets shown setting p words channel of none = outputs_told setting p words of none shown channel

-- ---- the delivered packets

-- they are among the outputs on the channel
delivered_among : (channel : ℕ) (es : List Event) → delivered channel es ≡ delivered channel (outputs_on channel es)
delivered_among channel [] = refl
delivered_among channel (Delivered other packet ∷ es) = split (other == channel)
    (λ t. rw (t, t) (ap (λ ps. packet ∷ ps) (delivered_among channel es)))
    (λ t. rw t (delivered_among channel es))
delivered_among channel (Dropped other why ∷ es) = split (other == channel)
    (λ t. rw t (delivered_among channel es))
    (λ t. rw t (delivered_among channel es))
delivered_among channel (FaultSpan span ∷ es) = delivered_among channel es
delivered_among channel (Flow at word ∷ es) = delivered_among channel es

pub the_law_on_delivered : PiecesAreShown → LawOnDelivered
the_law_on_delivered shown setting p words channel of none =
    delivered_among channel (word_events setting words) ∙ ap (delivered channel) (the_law_on_packets shown setting p words channel of none)

-- ---- the drops

-- what there is of an output is no drop, or one as the sender told
abbrev IsTold : Option Event → Type 0
IsTold o = MatchOption o (Unit {0}) (λ e. drops_as_told e ≡ true)

by_told : (channel : ℕ) (ds : List ℕ) (first : Pos) (v : Verified) (e : Eop) → IsTold (told_by channel ds first v e)
by_told channel ds first v eops.Going = tt
by_told channel ds first v eops.Error = refl
by_told channel ds first v (eops.End valid) = refl

with_told : (channel : ℕ) (ds : List ℕ) (first : Pos) (next : Option Verified) → IsTold (told_with channel ds first next)
with_told channel ds first None = tt
with_told channel ds first (Some v) = by_told channel ds first v (end_of v.number)

from_told : (channel : ℕ) (first : Pos) (so_far : List ℕ) (bs : List Burst) → IsTold (told_from channel first so_far bs)
from_told channel first so_far [] = refl
from_told channel first so_far (b ∷ rest) = split (ends b)
    (λ t. rw t (with_told channel (so_far ++ next_data b.next) first b.next))
    (λ t. rw t (from_told channel first (so_far ++ next_data b.next) rest))

put : (o : Option Event) (es : List Event) → IsTold o → list_all drops_as_told es ≡ true → list_all drops_as_told (cons_option o es) ≡ true
put None es h k = k
put (Some e) es h k = and_from (drops_as_told e) (list_all drops_as_told es) h k

at_told : (channel : ℕ) (bs : List Burst) → list_all drops_as_told (told_at channel bs) ≡ true
at_told channel [] = refl
at_told channel (b ∷ rest) = split (begins b)
    (λ t. rw t (put (told_from channel b.at [] (b ∷ rest)) (told_at channel rest) (from_told channel b.at [] (b ∷ rest)) (at_told channel rest)))
    (λ t. rw t (at_told channel rest))

-- ---- all outputs

-- what holds of those of each channel holds of all
later_ones : (e : Event) (es : List Event) → ((channel : ℕ) → list_all drops_as_told (outputs_on channel (e ∷ es)) ≡ true) → (channel : ℕ) → list_all drops_as_told (outputs_on channel es) ≡ true
later_ones e es h channel = split (tells_of channel e)
    (λ t. (and_parts (drops_as_told e) (list_all drops_as_told (outputs_on channel es)) (rw t at (h channel))).1)
    (λ t. rw t at (h channel))

first_one : (e : Event) (es : List Event) → ((channel : ℕ) → list_all drops_as_told (outputs_on channel (e ∷ es)) ≡ true) → drops_as_told e ≡ true
first_one (Delivered channel packet) es h = refl
first_one (FaultSpan span) es h = refl
first_one (Flow at word) es h = refl
first_one (Dropped channel why) es h =
    (and_parts (drops_as_told (Dropped channel why)) (list_all drops_as_told (outputs_on channel es)) (rw (eq-eqb channel channel refl) at (h channel))).0

all_of : (es : List Event) → ((channel : ℕ) → list_all drops_as_told (outputs_on channel es) ≡ true) → list_all drops_as_told es ≡ true
all_of [] h = refl
all_of (e ∷ es) h = and_from (drops_as_told e) (list_all drops_as_told es) (first_one e es h) (all_of es (later_ones e es h))

pub the_law_on_drops : PiecesAreShown → LawOnDrops
the_law_on_drops shown setting p words of none =
    all_of (word_events setting words) (λ channel. ap (list_all drops_as_told) (the_law_on_packets shown setting p words channel of none) ∙ at_told channel (own_bursts setting.wide channel words))
